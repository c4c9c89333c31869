-- The single step: refusals 1, 2, 3 in this order, then the event. (rules 8.1 and 8.3)
use Rattle.std.specs.Prelude.{true, false, cond, List, ℕ, eqb}
use Rattle.control.specs.Pin.{letter_of}
use Rattle.events.specs.declared.answer.Answer.TheVariants.{Quiet}
use Rattle.events.specs.Answer.{text_of}
use Rattle.events.specs.Refusal.{option_number, fault_of}
use Rattle.sd2068.specs.declared.clock.Clock.{Clock}
use Rattle.sd2068.specs.declared.answers.Answered.{Answered}
use Rattle.sd2068.specs.declared.answers.Stepped.{Stepped}
use Rattle.sd2068.specs.declared.answers.Started.{Started}
use Rattle.sd2068.specs.Power.{Power, lost_of}
use Rattle.sd2068.specs.Pulse.{pulses_of}
use Rattle.sd2068.specs.Pin.{pin_of}
use Rattle.sd2068.specs.Transfer.{started_of, stopped_of, byte_of, read_of}
use Rattle.sd2068.specs.WellFormed.{well_formed_of}

-- an event that is not answered
abbrev pub quiet_of : Clock → Answered
quiet_of c = record { clock = c; answer = Quiet }

-- by the kind, 0 to 6: START, STOP, a byte, a read that is acknowledged or not, pulses, power loss
unfoldable pub event_of : Clock → ℕ → ℕ → ℕ → Answered
event_of c kind byte count =
    cond (eqb kind 0) (quiet_of (started_of c))
    (cond (eqb kind 1) (quiet_of (stopped_of c))
    (cond (eqb kind 2) (byte_of c byte)
    (cond (eqb kind 3) (read_of c true)
    (cond (eqb kind 4) (read_of c false)
    (cond (eqb kind 5) (quiet_of (pulses_of c count))
    (quiet_of (lost_of c)))))))

-- the number of the refusal; 0 is none
unfoldable pub refusal_of : Clock → ℕ → ℕ → ℕ → ℕ
refusal_of c kind byte count =
    cond (well_formed_of c) (fault_of kind byte count) 1

-- what a step says: refusal, state, answer, pin
pub record Told : Type 0 where
  pub refusal : ℕ
  pub state : Clock
  pub answer : List ℕ
  pub pin : ℕ

abbrev pub told_of : ℕ → Answered → Told
told_of n e = record { refusal = n; state = e.clock; answer = text_of e.answer; pin = pin_of e.clock }

-- refused, the same state comes back
unfoldable pub step_of : Clock → ℕ → ℕ → ℕ → Told
step_of c kind byte count =
    told_of (refusal_of c kind byte count) (cond (eqb (refusal_of c kind byte count) 0) (event_of c kind byte count) (quiet_of c))

-- what the answers of the two entries say
abbrev pub stepped : Stepped → Told
stepped r = record { refusal = option_number r.refusal; state = r.clock; answer = text_of r.answer; pin = letter_of r.pin }

abbrev pub started : Started → Power
started r = record { refusal = option_number r.refusal; state = r.clock }
