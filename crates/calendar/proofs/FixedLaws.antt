-- The bits that always read 0 stay 0 as time goes on, and no legal time has one set. Assumes nothing.
use mathlib.Core.Path.{◌≡◌}
use mathlib.Core.Bool.{◌&&◌}
use Prim.Native.Nat.{ℕ, ◌/◌, ◌%◌, ◌<◌}
use native.Mathlib.Omega.{arith}
use lib.Dec.{eqb}
use Rattle.fields.specs.Digits.{step_of}
use Rattle.fields.specs.Times.{next_time_of, midnight_of}
use Rattle.fields.proofs.FieldLaws.{sixty, twelve}
use Rattle.fields.proofs.HouseLaws.{step_held}
use Rattle.fields.proofs.Picked.{picked}
use Rattle.fields.proofs.HourLaws.{next_hour_bit, legal_hour_bit}
use Rattle.dates.specs.Months.{last_day_of}
use Rattle.dates.specs.Dates.{next_date_of}
use Rattle.dates.proofs.MonthLaws.{day_field, last_small}
use Rattle.calendar.specs.Advance.{clock_of, advance_of}
use Rattle.calendar.specs.Fixed.{Clear}
use Rattle.calendar.specs.declared.time.Time.{Time}
use Rattle.calendar.proofs.WeekdayLaws.{next_small}
use Rattle.calendar.proofs.MomentLaws.{Moment}

abbrev Below : ℕ → ℕ → Type 0
Below n x = x < n

module _ (t : Time) where
  pub stays_clear : Clear t → Clear (advance_of t)
  unfolding advance_of next_time_of next_date_of
  stays_clear c =
      let last = last_day_of t.month t.year in
      let s = step_of 0x00 0x59 t.seconds in
      let m = step_of 0x00 0x59 t.minutes in
      let a = step_of 0x01 last t.day in
      let turns = midnight_of (next_time_of (clock_of t)) in
      record {
        seconds = omega (arith, (step_held 0x00 0x59 t.seconds sixty).high);
        minutes = picked (Below 0x80) (eqb s 0x00) (omega (arith, (step_held 0x00 0x59 t.minutes sixty).high)) c.minutes;
        hours = picked (λ (h : ℕ). h / 64 % 2 ≡ 0) (eqb s 0x00 && eqb m 0x00) (next_hour_bit t.hours) c.hours;
        weekday = picked (Below 0x08) turns (omega (arith, next_small t.weekday)) c.weekday;
        day =
            picked (Below 0x40) turns
            (omega (arith, (step_held 0x01 last t.day (day_field t.month t.year)).high, last_small t.month t.year)) c.day;
        month =
            picked (Below 0x20) turns
            (picked (Below 0x20) (eqb a 0x01) (omega (arith, (step_held 0x01 0x12 t.month twelve).high)) c.month) c.month;
      }

  pub legal_clear : Moment t → t.weekday < 7 → Clear t
  legal_clear l w =
      record {
        seconds = omega (arith, l.clock.seconds.high);
        minutes = omega (arith, l.clock.minutes.high);
        hours = legal_hour_bit t.hours l.clock.hours;
        weekday = omega arith;
        day = omega (arith, l.date.day.high, last_small t.month t.year);
        month = omega (arith, l.date.month.high);
      }
