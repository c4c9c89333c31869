-- Pulses that do not end the second only count, so a row over a whole second is computed at its last pulse; the other rows are computed as they stand. Assumes nothing.
use Rattle.std.proofs.Common.{◌≡◌, refl, ap, ◌∙◌, true, List, [], ◌∷◌, ℕ, suc, ◌+◌, ◌-◌, T, ltb, ltb→lt}
use Rattle.fields.specs.Digits as digits
use Rattle.fields.specs.Hours.{codes, place_of, hour_number_of, hour_byte_of, next_hour_of}
use Rattle.fields.specs.Times.{next_time_of, midnight_of}
use Rattle.dates.specs.Months.{leap_of, last_day_of}
use Rattle.dates.specs.Dates.{next_date_of}
use Rattle.calendar.specs.Advance.{advance_of}
use Rattle.calendar.specs.Repeat.{times}
use Rattle.registers.specs.Fixed.{kept_of, kept_time, kept_alarm, kept_control, clear_of, clear_time_of}
use Rattle.registers.specs.Seven.{byte_at_of, with_byte_of, bytes_of}
use Rattle.hand.specs.Trim.{length_of, change_of}
use Rattle.hand.specs.declared.hand.Hand.{Hand}
use Rattle.hand.specs.Hand as hand
use Rattle.hand.specs.Hand.{ticked_of}
use Rattle.alarm.specs.Alarm as alarm
use Rattle.countdown.specs.Countdown as countdown
use Rattle.control.specs.Lock as lock
use Rattle.control.specs.Control as control
use Rattle.bus.specs.Bytes.{heard_of}
use Rattle.bus.specs.Reads as reads
use Rattle.sd2068.specs.declared.clock.Clock.{Clock}
use Rattle.sd2068.specs.Power.{powered_of, power_on_of}
use Rattle.sd2068.specs.Reading.{control_at_of, register_of, registers_to, shown_of}
use Rattle.sd2068.specs.Writing.{ram_stored_of, write_of}
use Rattle.sd2068.specs.Pulse.{pulse_of}
use Rattle.sd2068.specs.Pin.{pin_of}
use Rattle.sd2068.specs.Transfer.{stopped_of, byte_of, renewed_of, read_of}
use Rattle.sd2068.specs.WellFormed.{well_formed_of}
use Rattle.sd2068.specs.Step.{event_of, refusal_of, step_of}
use Rattle.sd2068.specs.Run.{after}
use Rattle.hand.proofs.SpanLaws.{ticks_within}
use Rattle.sd2068.proofs.GroupLaws.{pulses_hand}
use Rattle.sd2068.proofs.WellLaws.{Well, parts, step_well}
use Rattle.sd2068.proofs.StepLaws.{step_pulses}
use Rattle.promises.specs.Marked.{writes, unlocks, fresh, sample, next_second, trimmed_fresh, soon, around, tried, answers, opened, counting, cleared, intdf, Becomes, Lasts, Marked}

-- the hand after an event of n pulses
step_hand : (c : Clock) → Well c → (n : ℕ) → (step_of c 5 0 n).state.hand ≡ times ticked_of n c.hand
step_hand c w n = ap (λ (d : Clock). d.hand) (step_pulses c w n) ∙ pulses_hand n c

-- n pulses do not end the present second
abbrev Short : Clock → ℕ → Type 0
Short c n = T (ltb (c.hand.counter + n) (length_of c.hand.time.seconds c.hand.trim))

-- the hand after them
abbrev waiting : Clock → ℕ → Hand
waiting c n = record { time = c.hand.time; counter = c.hand.counter + n; trim = c.hand.trim }

-- what is read after one more
abbrev seven_later : Clock → ℕ → List ℕ
seven_later c n = bytes_of (ticked_of (waiting c n)).time

abbrev soon_later : Clock → ℕ → List ℕ
soon_later c n = c.hand.trim ∷ c.hand.time.seconds ∷ (ticked_of (waiting c n)).time.seconds ∷ []

module _ (c : Clock) (n : ℕ) (well : well_formed_of c ≡ true) (short : Short c n) where
  waits : times ticked_of n c.hand ≡ waiting c n
  waits = ticks_within c.hand n (ltb→lt (c.hand.counter + n) (length_of c.hand.time.seconds c.hand.trim) short)

  seven_row : registers_to (step_of c 5 0 (suc n)).state 7 ≡ seven_later c n
  unfolding registers_to register_of byte_at_of times
  seven_row = ap (λ (h : Hand). bytes_of h.time) (step_hand c (parts c well) (suc n) ∙ ap ticked_of waits)

  soon_row : soon (step_of c 5 0 n).state ≡ soon_later c n
  unfolding soon register_of control_at_of byte_at_of times
  soon_row =
      let d = (step_of c 5 0 n).state in
      ap (λ (h : Hand). d.hand.trim ∷ d.hand.time.seconds ∷ h.time.seconds ∷ []) (step_hand d (step_well c (parts c well) 5 0 n) 1)
      ∙ ap (λ (h : Hand). h.trim ∷ h.time.seconds ∷ (ticked_of h).time.seconds ∷ []) (step_hand c (parts c well) n ∙ waits)

becomes : {time later : List ℕ} → well_formed_of (fresh time) ≡ true → Short (fresh time) 32767 → seven_later (fresh time) 32767 ≡ later → Becomes time later
unfolding next_second
becomes {time} well short e = record { reads = seven_row (fresh time) 32767 well short ∙ e }

lasts :
    (s f n : ℕ) → well_formed_of (trimmed_fresh s f) ≡ true → Short (trimmed_fresh s f) (n - 1)
    → soon_later (trimmed_fresh s f) (n - 1) ≡ f ∷ s ∷ (s + 1) ∷ [] → Lasts s f n
unfolding around
lasts s f n well short e = record { reads = soon_row (trimmed_fresh s f) (n - 1) well short ∙ e }

eight : answers opened ≡ (50 ∷ 48 ∷ []) ∷ (70 ∷ 70 ∷ []) ∷ []
unfolding fresh sample opened answers after step_of event_of refusal_of well_formed_of hand.well_of alarm.well_of countdown.well_of lock.well_of control.well_of kept_of kept_time kept_alarm kept_control clear_of clear_time_of power_on_of powered_of byte_of heard_of read_of reads.read_of renewed_of shown_of pin_of times pulse_of hand.ticked_of alarm.rung_of countdown.counted_of length_of change_of
eight = refl

nine : intdf 23 counting ∷ intdf 24 counting ∷ intdf 31 cleared ∷ intdf 32 cleared ∷ [] ≡ 0 ∷ 1 ∷ 0 ∷ 1 ∷ []
unfolding writes unlocks fresh sample counting cleared intdf after step_of event_of refusal_of well_formed_of hand.well_of alarm.well_of countdown.well_of lock.well_of control.well_of kept_of kept_time kept_alarm kept_control clear_of clear_time_of power_on_of powered_of byte_of heard_of stopped_of write_of lock.written_of lock.ctr1_of hand.stored_of alarm.stored_of countdown.stored_of control.stored_of register_of control_at_of pin_of times pulse_of hand.ticked_of alarm.rung_of countdown.counted_of length_of change_of
nine = refl

pub marked : Marked
unfolding writes unlocks fresh sample trimmed_fresh tried after step_of event_of refusal_of well_formed_of hand.well_of alarm.well_of countdown.well_of lock.well_of control.well_of kept_of kept_time kept_alarm kept_control clear_of clear_time_of power_on_of powered_of stopped_of byte_of heard_of write_of lock.written_of lock.ctr1_of lock.ctr2_of hand.stored_of alarm.stored_of countdown.stored_of control.stored_of ram_stored_of with_byte_of byte_at_of register_of control_at_of pin_of hand.ticked_of advance_of next_time_of midnight_of next_date_of digits.step_of next_hour_of hour_byte_of hour_number_of place_of codes last_day_of leap_of length_of change_of
marked =
    record {
      case1 = becomes refl tt refl;
      case2 = (becomes refl tt refl, becomes refl tt refl);
      case3 = (becomes refl tt refl, becomes refl tt refl, becomes refl tt refl);
      case4 = (
        lasts 0x00 0x02 32770 refl tt refl,
        lasts 0x00 0x3F 32892 refl tt refl,
        lasts 0x00 0x42 32644 refl tt refl,
        lasts 0x00 0x7E 32764 refl tt refl,
        lasts 0x00 0x7F 32766 refl tt refl,
        lasts 0x01 0x02 32768 refl tt refl,
        lasts 0x01 0x3F 32768 refl tt refl,
        lasts 0x01 0x42 32768 refl tt refl,
        lasts 0x01 0x7E 32768 refl tt refl,
        lasts 0x01 0x7F 32768 refl tt refl,
      );
      case5 = (
        lasts 0x00 0x15 32808 refl tt refl,
        lasts 0x00 0x44 32648 refl tt refl,
        lasts 0x00 0x40 32768 refl tt refl,
        lasts 0x00 0x41 32768 refl tt refl,
      );
      case6 = becomes refl tt refl;
      case7 = (refl, refl);
      case8 = eight;
      case9 = nine;
    }
