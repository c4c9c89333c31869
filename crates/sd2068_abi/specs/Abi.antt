-- What each function of the boundary tells, and what it leaves in the bytes that it is lent. (rules 10.1 and 10.3 to 10.8)
use Rattle.std.specs.Prelude.{Bool, cond, ◌&&◌, List, [], ◌∷◌, ℕ, ◌+◌, ◌*◌, ◌%◌, eqb, length}
use Rattle.events.specs.declared.answer.Answer.{Answer}
use Rattle.events.specs.declared.answer.Answer.TheVariants.{Quiet, Byte}
use Rattle.events.specs.declared.event.Event.{Event}
use Rattle.sd2068.specs.declared.clock.Clock.{Clock}
use Rattle.sd2068.specs.Power.{power_on_of}
use Rattle.sd2068.specs.Pin as pin
use Rattle.sd2068.specs.Reading as reading
use Rattle.sd2068.specs.WellFormed.{well_formed_of}
use Rattle.script.specs.File as script
use Rattle.state_bytes.specs.Decoded.{clock_of, plain_of, is_state}
use Rattle.state_bytes.specs.Encoded.{bytes_of}
use Rattle.state_events.specs.Said.{told_of}
use Rattle.state_events.specs.Event.{Lent, lent, done_of}

-- bytes of the length of a state
abbrev pub full_of : List ℕ → Bool
full_of s = eqb (length s) 61

-- bytes that are exactly those of a well-formed state
unfoldable pub accepted_of : List ℕ → Bool
accepted_of s = full_of s && is_state s

-- what is told where the lent state has no place for 61 bytes; no refusal has this number
abbrev pub no_place : ℕ
no_place = 255

-- power-on: a state of another length is left as it is
unfoldable pub power_of : List ℕ → List ℕ → Lent
power_of start s =
    let on = power_on_of start in
    cond (full_of s) (lent on.refusal (bytes_of on.state)) (lent no_place s)

-- one event on bytes: refusal 1 for those that are no state's, which stay
unfoldable pub step_of : List ℕ → ℕ → ℕ → ℕ → Lent
step_of s kind byte count = cond (accepted_of s) (done_of (clock_of s) kind byte count) (lent 1 s)

-- the bytes after events, one after the other
unfoldable pub after_in : List ℕ → List Event → List ℕ
after_in s [] = s
after_in s (e ∷ es) = after_in (step_of s e.kind e.byte e.count).state es

-- the numbers that they tell
unfoldable pub told_in : List ℕ → List Event → List ℕ
told_in s [] = []
told_in s (e ∷ es) = (step_of s e.kind e.byte e.count).told ∷ told_in (step_of s e.kind e.byte e.count).state es

-- what a look at 61 bytes and the state that they stand for tells: its pin and an answer, or 1 where they are no state's
unfoldable pub seen_of : List ℕ → Clock → Answer → ℕ
seen_of s c answer = cond (well_formed_of c && plain_of s) (told_of 0 (pin.pin_of c) answer) 1

-- the pin
unfoldable pub pin_of : List ℕ → ℕ
pin_of s = cond (full_of s) (seen_of s (clock_of s) Quiet) 1

-- a register as it stands
unfoldable pub register_of : List ℕ → ℕ → ℕ
register_of s a = cond (full_of s) (seen_of s (clock_of s) (Byte (reading.register_of (clock_of s) a))) 1

-- refusal, index and count of a run, two bytes each from the low ones
abbrev pub ran_of : ℕ → ℕ → ℕ → ℕ
ran_of refusal index count = refusal + 65536 * (index % 65536) + 4294967296 * (count % 65536)

-- a run: what is told, the output, the state
pub record LentRun : Type 0 where
  pub told : ℕ
  pub output : List ℕ
  pub state : List ℕ

abbrev pub lent_run : ℕ → List ℕ → List ℕ → LentRun
lent_run told output state = record { told = told; output = output; state = state }

unfoldable pub run_of : List ℕ → List ℕ → List ℕ → LentRun
run_of file out s =
    let r = script.run_of file out in
    cond (full_of s) (lent_run (ran_of r.refusal r.index r.count) r.output (bytes_of r.state))
    (lent_run (ran_of no_place 0 0) out s)
