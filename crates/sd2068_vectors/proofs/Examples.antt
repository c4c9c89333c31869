-- The worked example and a step of each refusal, as the definitions of `sd2068` compute them. Assumes nothing.
use Rattle.std.proofs.Common.{◌≡◌, refl, List, [], ◌∷◌, ◌++◌, ℕ, replicate}
use Rattle.registers.specs.Fixed.{kept_of, kept_time, kept_alarm, kept_control, clear_of, clear_time_of}
use Rattle.hand.specs.Hand as hand
use Rattle.alarm.specs.Alarm as alarm
use Rattle.countdown.specs.Countdown as countdown
use Rattle.control.specs.Lock as lock
use Rattle.control.specs.Control as control
use Rattle.bus.specs.Bytes.{heard_of}
use Rattle.bus.specs.Reads as reads
use Rattle.events.specs.declared.event.Event.{Event}
use Rattle.sd2068.specs.declared.clock.Clock.{Clock}
use Rattle.sd2068.specs.Clock.{with_divider}
use Rattle.sd2068.specs.Power.{powered_of, power_on_of}
use Rattle.sd2068.specs.Reading.{shown_of}
use Rattle.sd2068.specs.Pin.{pin_of}
use Rattle.sd2068.specs.Transfer.{stopped_of, byte_of, renewed_of, read_of}
use Rattle.sd2068.specs.WellFormed.{well_formed_of}
use Rattle.sd2068.specs.Step.{event_of, refusal_of, step_of}
use Rattle.sd2068.specs.Run.{start, stop, byte, ack, nak, told_by}

-- the answers on the way, each with the pin
lines : List Event → Clock → List ℕ
lines [] c = []
lines (e ∷ es) c =
    let r = told_by c e in
    (r.answer ++ (r.pin ∷ [])) ++ lines es r.state

-- 98h:19:20, weekday 3, 20-12-06, and an empty RAM
sample : Clock
sample = (power_on_of ((0x20 ∷ 0x19 ∷ 0x98 ∷ 0x03 ∷ 0x20 ∷ 0x12 ∷ 0x06 ∷ []) ++ replicate 12 0)).state

record Cases : Type 0 where
  -- the worked example's answers and pins
  worked : List ℕ
  -- the refusals of a state that is not well formed, of an unknown kind, of an unused field, of no pulses, of none
  refusals : List ℕ

computed : Cases
computed =
    record {
      worked = lines (start ∷ byte 0x65 ∷ ack ∷ nak ∷ stop ∷ []) sample;
      refusals =
          (step_of (with_divider sample 524288) 9 1 1).refusal
          ∷ (step_of sample 9 1 1).refusal
          ∷ (step_of sample 0 1 0).refusal
          ∷ (step_of sample 5 0 0).refusal
          ∷ (step_of sample 5 0 1).refusal
          ∷ [];
    }

expected : Cases
expected =
    record {
      worked = 45 ∷ 45 ∷ 72 ∷ 65 ∷ 75 ∷ 72 ∷ 50 ∷ 48 ∷ 72 ∷ 49 ∷ 57 ∷ 72 ∷ 45 ∷ 45 ∷ 72 ∷ [];
      refusals = 1 ∷ 2 ∷ 3 ∷ 3 ∷ 0 ∷ [];
    }

cases : computed ≡ expected
unfolding computed expected lines sample step_of event_of refusal_of well_formed_of hand.well_of alarm.well_of countdown.well_of lock.well_of control.well_of kept_of kept_time kept_alarm kept_control clear_of clear_time_of power_on_of powered_of stopped_of byte_of heard_of read_of reads.read_of renewed_of shown_of pin_of
cases = refl
