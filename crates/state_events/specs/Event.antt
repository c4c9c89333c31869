-- An event on a state's bytes. (rules 8.1 and 10.5)
use Rattle.std.specs.Prelude.{cond, List, ℕ, eqb, ltb, length}
use Rattle.events.specs.declared.answer.Answer.TheVariants.{Quiet}
use Rattle.sd2068.specs.declared.clock.Clock.{Clock}
use Rattle.sd2068.specs.declared.answers.Answered.{Answered}
use Rattle.sd2068.specs.Pin.{pin_of}
use Rattle.sd2068.specs.Step as step
use Rattle.sd2068.specs.Step.{quiet_of, event_of, refusal_of}
use Rattle.state_bytes.specs.Decoded.{clock_of}
use Rattle.state_bytes.specs.Encoded.{bytes_of}
use Rattle.state_events.specs.Put.{put_state}
use Rattle.state_events.specs.Traffic.{Done, done, started_in, stopped_in, heard_in, read_in}
use Rattle.state_events.specs.Said.{told_of}

-- by way of the whole state
abbrev pub stepped_in : List ℕ → ℕ → ℕ → ℕ → List ℕ
stepped_in s kind byte count = put_state s (bytes_of (step.step_of (clock_of s) kind byte count).state)

-- by the kind, 0 to 6
unfoldable pub event_in : List ℕ → ℕ → ℕ → ℕ → Done
event_in s kind byte count =
    cond (eqb kind 0) (done Quiet (started_in s))
    (cond (eqb kind 1) (done Quiet (stopped_in s))
    (cond (eqb kind 2) (heard_in s byte)
    (cond (ltb kind 5) (read_in s (eqb kind 3))
    (done Quiet (stepped_in s kind byte count)))))

-- the event, or nothing where its fields are refused
abbrev pub answered_in : List ℕ → ℕ → ℕ → ℕ → ℕ → Done
answered_in s refusal kind byte count = cond (eqb refusal 0) (event_in s kind byte count) (done Quiet s)

-- a number that is told, and the bytes that are left
pub record Lent : Type 0 where
  pub told : ℕ
  pub state : List ℕ

abbrev pub lent : ℕ → List ℕ → Lent
lent told state = record { told = told; state = state }

-- the event, or nothing, told with the pin that it leaves; bytes of another length stay, and are told 1
unfoldable pub tell_in : List ℕ → ℕ → ℕ → ℕ → ℕ → Lent
tell_in s refusal kind byte count =
    let d = answered_in s refusal kind byte count in
    cond (eqb (length s) 61) (lent (told_of refusal (pin_of (clock_of d.state)) d.answer) d.state) (lent 1 s)

-- the same of a state: the event, or nothing where it is refused
abbrev pub answered_of : Clock → ℕ → ℕ → ℕ → Answered
answered_of c kind byte count = cond (eqb (refusal_of c kind byte count) 0) (event_of c kind byte count) (quiet_of c)

-- what that tells, and the bytes of the state that it leaves
unfoldable pub done_of : Clock → ℕ → ℕ → ℕ → Lent
done_of c kind byte count =
    let a = answered_of c kind byte count in
    lent (told_of (refusal_of c kind byte count) (pin_of a.clock) a.answer) (bytes_of a.clock)
