-- The hypotheses of promise 3 can be met: a run from power-on that has everything in it, computed. Assumes nothing.
use Rattle.std.proofs.Common.{◌≡◌, refl, sym, ap, ◌∙◌, Bool, true, false, ◌&&◌, ◌||◌, not, true≢false, List, [], ◌∷◌, ◌++◌, ◌⊎◌, inl, inr, ℕ, ◌<◌, arith, T, eqb, ltb, ltb→lt, eq-eqb, lt-ltb, le-ltb, replicate}
use Rattle.fields.proofs.Below.{both_left, both_right}
use Rattle.calendar.specs.declared.time.Time.{Time}
use Rattle.calendar.specs.Advance.{advance_of}
use Rattle.calendar.specs.Numbers.{since_of, number_of}
use Rattle.calendar.specs.Repeat.{times}
use Rattle.fields.specs.Digits as digits
use Rattle.fields.specs.Hours.{codes, place_of, hour_number_of, hour_byte_of, next_hour_of}
use Rattle.fields.specs.Times.{legal_time_of, second_of, next_time_of, midnight_of}
use Rattle.dates.specs.Months.{leap_of, last_day_of, days_of, first_day_of}
use Rattle.dates.specs.Dates.{legal_date_of, day_of, next_date_of}
use Rattle.registers.specs.Fixed.{kept_of, kept_time, kept_alarm, kept_control, clear_of, clear_time_of}
use Rattle.registers.specs.Seven.{byte_at_of, with_byte_of}
use Rattle.hand.specs.Trim.{length_of, change_of}
use Rattle.hand.specs.Hand as hand
use Rattle.hand.specs.Span.{Legal}
use Rattle.alarm.specs.Alarm as alarm
use Rattle.countdown.specs.Countdown as countdown
use Rattle.control.specs.Lock as lock
use Rattle.control.specs.Lock.{open_of}
use Rattle.control.specs.Control as control
use Rattle.bus.specs.declared.phase.Mode.TheVariants.{Address, Pointer, Writing, Reading, Deaf}
use Rattle.bus.specs.declared.phase.Phase.{Phase}
use Rattle.bus.specs.declared.phase.Phase.TheVariants.{Closed, Open}
use Rattle.bus.specs.Bytes.{heard_of}
use Rattle.bus.specs.Reads as reads
use Rattle.events.specs.declared.event.Event.{Event}
use Rattle.events.specs.declared.answer.Answer.TheVariants.{Byte}
use Rattle.events.specs.Answer.{text_of}
use Rattle.sd2068.specs.declared.clock.Clock.{Clock}
use Rattle.sd2068.specs.Power.{powered_of, power_on_of}
use Rattle.sd2068.specs.Reading.{control_at_of, register_of, shown_of}
use Rattle.sd2068.specs.Writing.{ram_stored_of, write_of}
use Rattle.sd2068.specs.Pulse.{pulse_of}
use Rattle.sd2068.specs.Pin.{pin_of}
use Rattle.sd2068.specs.Transfer.{stopped_of, byte_of, renewed_of, read_of}
use Rattle.sd2068.specs.WellFormed.{well_formed_of}
use Rattle.sd2068.specs.Step.{event_of, refusal_of, step_of}
use Rattle.sd2068.specs.Run.{start, stop, byte, ack, nak, pulses, Machine, step, event, after, pulses_in, spoken, reads_of}
use Rattle.sd2068.specs.Kept.{Stores, Spares, Spares.none as none, Spares.more as more, set_by, pulses_since, Kept, read_back, shown_by, KeepsTime}
use Rattle.sd2068.proofs.WellLaws.{whole, power_on_well, steps_well}
use Rattle.sd2068.proofs.ReadBackLaws.{read_shown}
use Rattle.sd2068.proofs.KeptLaws.{event_kept, step_kept, by_steps, one_reading}

-- 12h:00:00 on 01-01-00, and an empty RAM
abbrev pub started : List ℕ
started = (0x00 ∷ 0x00 ∷ 0x12 ∷ 0x06 ∷ 0x01 ∷ 0x01 ∷ 0x00 ∷ []) ++ replicate 12 0x00

abbrev pub powered : Clock
powered = (power_on_of started).state

-- a kind that there is not
abbrev pub unknown : Event
unknown = record { kind = 9; byte = 1; count = 1 }

-- WRTC1, then the others, and the trim 42h
abbrev pub unlocking : List Event
unlocking =
    start ∷ byte 0x64 ∷ byte 0x10 ∷ byte 0x80 ∷ stop ∷ start ∷ byte 0x64 ∷ byte 0x0F ∷ byte 0x84 ∷ stop ∷ start ∷ byte 0x64 ∷ byte 0x12
    ∷ byte 0x42 ∷ stop ∷ []

-- START, 64h and 1Fh: a byte stored there leads on to 00h
abbrev pub pointing : List Event
pointing = start ∷ pulses 7 ∷ byte 0x64 ∷ unknown ∷ byte 0x1F ∷ byte 0x77 ∷ pulses 2 ∷ []

-- the seven bytes of the time with every fixed bit set, and reads among those that follow the seconds
abbrev sent : Time
sent = record { seconds = 0xC0; minutes = 0xD9; hours = 0x71; weekday = 0xFE; day = 0xE8; month = 0xE2; year = 0x00 }

abbrev pub sending : List Event
sending =
    ack ∷ byte 0xD9 ∷ pulses 100 ∷ byte 0x71 ∷ byte 0xFE ∷ byte 0xE8 ∷ unknown ∷ nak ∷ byte 0xE2 ∷ pulses 44 ∷ byte 0x00 ∷ []

-- a byte stored in the RAM and one at 07h, the lock closed, a byte lost at 00h
abbrev pub chatter : List Event
chatter =
    stop ∷ start ∷ byte 0x64 ∷ byte 0x14 ∷ byte 0x5A ∷ start ∷ byte 0x64 ∷ byte 0x07 ∷ byte 0x33 ∷ stop ∷ start ∷ byte 0x64 ∷ byte 0x10 ∷ byte 0x00
    ∷ start ∷ byte 0x64 ∷ byte 0x00 ∷ byte 0x30 ∷ unknown ∷ []

-- the transfer times out, a read of a closed bus, and a new START
abbrev pub traffic : List Event
traffic = chatter ++ (pulses 32500 ∷ ack ∷ start ∷ [])

-- the state that is set, and the time: 31h:59:40, weekday 6, 28-02-00; and the time one second later
abbrev pub ready : Clock
ready = after step powered (unlocking ++ pointing)

abbrev pub set : Time
set = record { seconds = 0x40; minutes = 0x59; hours = 0x31; weekday = 0x06; day = 0x28; month = 0x02; year = 0x00 }

abbrev pub later : Time
later = record { seconds = 0x41; minutes = 0x59; hours = 0x31; weekday = 0x06; day = 0x28; month = 0x02; year = 0x00 }

-- six reads with ACK, and a master's byte among them
abbrev pub reading : List Event
reading = ack ∷ ack ∷ pulses 9 ∷ ack ∷ unknown ∷ ack ∷ byte 0x64 ∷ ack ∷ ack ∷ pulses 3 ∷ []

-- what promise 3 leaves out, as tests
abbrev writing : Phase → Bool
writing Closed = false
writing (Open Address t) = false
writing (Open Pointer t) = false
writing (Open Writing t) = true
writing (Open Reading t) = false
writing (Open Deaf t) = false

abbrev stores : Clock → Event → Bool
stores c e = eqb e.kind 2 && (writing c.bus.phase && (open_of c.lock && (ltb c.bus.pointer 0x07 || eqb c.bus.pointer 0x12)))

stores_told : (c : Clock) (e : Event) → Stores c e → stores c e ≡ true
stores_told c e s = simp (eq-eqb e.kind 2 s.kind, s.writes, s.unlocked.wrtc1, s.unlocked.wrtc2, s.unlocked.wrtc3, there s.place)
  where
    there : (c.bus.pointer < 0x07) ⊎ (c.bus.pointer ≡ 0x12) → ltb c.bus.pointer 0x07 || eqb c.bus.pointer 0x12 ≡ true
    there (inl h) = simp (lt-ltb c.bus.pointer 0x07 h)
    there (inr h) = simp (le-ltb c.bus.pointer 0x07 (omega arith), eq-eqb c.bus.pointer 0x12 h)

unfoldable pub spared : Machine → Clock → List Event → Bool
spared m c [] = true
spared m c (e ∷ es) = not (eqb e.kind 6) && (not (stores c e) && spared m (m c e).state es)

not_both : (b : Bool) → T (not b) → b ≡ true → ⊥
not_both true t e = t
not_both false t e = true≢false (sym e)

pub spares : (m : Machine) (c : Clock) (es : List Event) → T (spared m c es) → Spares m c es
unfolding spared
spares m c [] t = none
spares m c (e ∷ es) t =
    let l = not (eqb e.kind 6) in
    let s = not (stores c e) in
    let r = spared m (m c e).state es in
    let u = both_right l (s && r) t in
    more (λ loss. not_both (eqb e.kind 6) (both_left l (s && r) t) (eq-eqb e.kind 6 loss.kind)) (λ x. not_both (stores c e) (both_left s r u) (stores_told c e x))
    (spares m (m c e).state es (both_right s r u))

-- everything that promise 3 asks for
unfoldable pub witness : Kept event ready set
unfolding spared after pulses_in spoken step_of event_of refusal_of well_formed_of hand.well_of alarm.well_of countdown.well_of lock.well_of control.well_of kept_of kept_time kept_alarm kept_control clear_of clear_time_of power_on_of powered_of stopped_of byte_of heard_of write_of lock.written_of hand.stored_of alarm.stored_of countdown.stored_of control.stored_of ram_stored_of with_byte_of read_of reads.read_of renewed_of shown_of register_of pin_of times pulse_of hand.ticked_of alarm.rung_of countdown.counted_of advance_of length_of change_of
witness =
    record {
      setting =
          record {
            pointed =
                record {
                  transfer = record { age = 9; marked = false };
                  writes = refl;
                  pointer = refl;
                  unlocked = record { wrtc1 = refl; wrtc2 = refl; wrtc3 = refl };
                };
            sent = sent;
            kept = refl;
            rest = sending;
            six = refl;
            timely = ltb→lt _ _ tt;
          };
      traffic = traffic;
      spares = spares event _ traffic tt;
      reading =
          record {
            transfer = record { age = 0; marked = false };
            awaits = refl;
            pointer = refl;
            reads = reading;
            six = refl;
            last = nak;
            seventh = inr refl;
            timely = ltb→lt _ _ tt;
          };
    }

-- before the long wait, and when the traffic is over
abbrev said : Clock
said = after event (after event ready (set_by witness.setting)) chatter

abbrev asked : Clock
asked = after event (after event ready (set_by witness.setting)) traffic

-- what the run comes to
pub record Computed : Type 0 where
  -- a trim of 42h, and just the pulses of a second of 32,644
  pub trim : register_of ready 0x12 ≡ 0x42
  pub between : pulses_since witness.setting witness.traffic ≡ 32644
  -- 1Fh, 07h and 14h have what was stored, 00h does not have the byte that was lost, and the lock is closed
  pub wrapped : register_of ready 0x1F ≡ 0x77
  pub alarm : register_of said 0x07 ≡ 0x33
  pub ram : register_of said 0x14 ≡ 0x5A
  pub seconds : register_of said 0x00 ≡ 0x40
  pub lock : register_of said 0x10 ≡ 0x00
  -- the transfer times out, so the read after it gives FFh
  pub late : reads_of event (after event said (pulses 32500 ∷ [])) (ack ∷ []) ≡ text_of (Byte 0xFF) ∷ []
  -- and one second has passed
  pub time : asked.hand.time ≡ later

pub witness_computed : Computed
unfolding witness after pulses_in spoken step_of event_of refusal_of well_formed_of hand.well_of alarm.well_of countdown.well_of lock.well_of control.well_of kept_of kept_time kept_alarm kept_control clear_of clear_time_of power_on_of powered_of stopped_of byte_of heard_of write_of lock.written_of hand.stored_of alarm.stored_of countdown.stored_of control.stored_of ram_stored_of with_byte_of read_of reads.read_of renewed_of shown_of register_of pin_of times pulse_of hand.ticked_of alarm.rung_of countdown.counted_of advance_of length_of change_of lock.ctr2_of control_at_of byte_at_of reads_of digits.step_of codes place_of hour_number_of hour_byte_of next_hour_of next_time_of midnight_of next_date_of leap_of last_day_of
witness_computed = record { trim = refl; between = refl; wrapped = refl; alarm = refl; ram = refl; seconds = refl; lock = refl; late = refl; time = refl }

-- so the seven bytes are those of one second later
pub witness_read : read_back witness ≡ shown_by later
unfolding witness
witness_read = read_shown asked witness.reading ∙ ap shown_by witness_computed.time

-- 28-02-00 23:59:40 is this second of the century
legal : Legal set 5097580
unfolding number_of since_of legal_date_of legal_time_of day_of second_of first_day_of days_of last_day_of leap_of hour_number_of codes place_of
legal = record { number = refl; weekday = omega arith }

-- the same run by steps, which read the same bytes
pub ready_well : well_formed_of ready ≡ true
ready_well = whole ready (steps_well powered (power_on_well started) (unlocking ++ pointing))

unfoldable pub stepped : Kept step ready set
stepped = by_steps ready ready_well witness

pub stepped_kept : KeepsTime 5097580 stepped
stepped_kept = step_kept ready ready_well set 5097580 legal stepped

pub stepped_read : read_back stepped ≡ read_back witness
unfolding stepped by_steps
stepped_read = one_reading stepped_kept (event_kept ready set 5097580 legal witness)
