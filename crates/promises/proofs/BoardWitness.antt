-- A board can meet the hypotheses of promise 3: the run of the witness, on the bytes of its state. Assumes nothing.
use Rattle.std.proofs.Common.{◌≡◌, refl, Bool, true, ◌&&◌, List, [], ◌∷◌, ◌++◌, ℕ, ◌<◌, arith, ltb, get_or, ltb-true}
use Rattle.fields.proofs.FieldLaws.{and_left, and_right}
use Rattle.calendar.specs.declared.time.Time.{Time}
use Rattle.calendar.specs.Repeat.{times}
use Rattle.registers.specs.Fixed.{kept_of, kept_time, kept_alarm, kept_control, clear_of, clear_time_of}
use Rattle.registers.specs.Seven.{with_byte_of}
use Rattle.hand.specs.Trim.{length_of, change_of}
use Rattle.hand.specs.Hand as hand
use Rattle.alarm.specs.Alarm as alarm
use Rattle.countdown.specs.Countdown as countdown
use Rattle.control.specs.Lock as lock
use Rattle.control.specs.Control as control
use Rattle.bus.specs.Bytes.{heard_of}
use Rattle.events.specs.declared.event.Event.{Event}
use Rattle.sd2068.specs.declared.clock.Clock.{Clock}
use Rattle.sd2068.specs.Power.{powered_of, power_on_of}
use Rattle.sd2068.specs.Writing.{ram_stored_of, write_of}
use Rattle.sd2068.specs.Pulse.{pulse_of}
use Rattle.sd2068.specs.Transfer.{stopped_of, byte_of}
use Rattle.sd2068.specs.WellFormed.{well_formed_of}
use Rattle.sd2068.specs.Step.{event_of, refusal_of, step_of}
use Rattle.sd2068.specs.Run.{byte, step, after}
use Rattle.sd2068.specs.Kept.{Kept, until_address, reading_of}
use Rattle.sd2068.proofs.KeptLaws.{by_steps}
use Rattle.state_bytes.specs.Encoded.{bytes_of}
use Rattle.state_bytes.specs.Shapes.{Arrays}
use Rattle.state_events.proofs.ArrayLaws.{power_on_arrays, steps_arrays}
use Rattle.sd2068_abi.specs.Said.{EventBytes}
use Rattle.state_events.proofs.ByteLaws.{at, below, tested}
use Rattle.sd2068_abi.proofs.BoundaryLaws.{encoded_accepted, encoded_decoded}
use Rattle.promises.specs.Board.{OnBoard}
use Rattle.promises.proofs.Witness.{started, powered, unlocking, pointing, ready, set, witness, ready_well, stepped}

-- a run by steps from a well-formed state is one by calls on its bytes
pub lent_run_lem :
    (c : Clock) → Arrays c → well_formed_of c ≡ true → ((i : ℕ) → get_or (bytes_of c) i 0 < 256) → {t : Time} (r : Kept step c t)
    → EventBytes (until_address r ++ (byte 0x65 ∷ reading_of r)) → OnBoard t
unfolding after
lent_run_lem c a w each r bytes =
    record {
      begun = c;
      well = w;
      run = r;
      made = [];
      calls = until_address r;
      events = refl;
      state = bytes_of c;
      each = each;
      accepted = encoded_accepted c a w;
      stands = encoded_decoded c a w;
      bytes = bytes;
    }

-- events whose bytes are, by a test that antt computes
unfoldable events_small : List Event → Bool
events_small [] = true
events_small (e ∷ es) = ltb e.byte 256 && events_small es

event_bytes : (es : List Event) → events_small es ≡ true → EventBytes es
unfolding events_small
event_bytes [] t = EventBytes.none
event_bytes (e ∷ es) t =
    let first = ltb e.byte 256 in
    EventBytes.more (ltb-true e.byte 256 (and_left first (events_small es) t)) (event_bytes es (and_right first (events_small es) t))

-- the witness on a board
ready_arrays : Arrays ready
ready_arrays = steps_arrays powered (power_on_arrays started) (unlocking ++ pointing)

ready_small : (i : ℕ) → get_or (bytes_of ready) i 0 < 256
unfolding bytes_of below after step_of event_of refusal_of well_formed_of hand.well_of alarm.well_of countdown.well_of lock.well_of control.well_of kept_of kept_time kept_alarm kept_control clear_of clear_time_of power_on_of powered_of stopped_of byte_of heard_of write_of lock.written_of hand.stored_of alarm.stored_of countdown.stored_of control.stored_of ram_stored_of with_byte_of times pulse_of hand.ticked_of alarm.rung_of countdown.counted_of length_of change_of lock.ctr1_of lock.ctr2_of
ready_small i = at (tested (bytes_of ready) refl) i 0 (omega arith)

stepped_bytes : EventBytes (until_address stepped ++ (byte 0x65 ∷ reading_of stepped))
unfolding stepped by_steps witness events_small
stepped_bytes = event_bytes (until_address stepped ++ (byte 0x65 ∷ reading_of stepped)) refl

pub boarded : OnBoard set
boarded = lent_run_lem ready ready_arrays ready_well ready_small stepped stepped_bytes

pub boarded_bytes : boarded.state ≡ bytes_of ready
unfolding boarded lent_run_lem
boarded_bytes = refl
