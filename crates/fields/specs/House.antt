-- The house rule as a reading: an illegal field counts as its last value. (rules 3.3 and 3.5)
use Rattle.std.specs.Prelude.{cond, ℕ}
use Rattle.fields.specs.Digits.{legal_of}
use Rattle.fields.specs.Hours.{mode_of, legal_hour_of}
use Rattle.fields.specs.declared.hours.HourMode.{HourMode}
use Rattle.fields.specs.declared.hours.HourMode.TheVariants.{Twelve, TwentyFour}
use Rattle.fields.specs.declared.times.TimeOfDay.{TimeOfDay}

unfoldable pub as_field : ℕ → ℕ → ℕ → ℕ
as_field first last x = cond (legal_of first last x) x last

abbrev pub last_hour : HourMode → ℕ
last_hour Twelve = 0x31
last_hour TwentyFour = 0xa3

unfoldable pub as_hour : ℕ → ℕ
as_hour h = cond (legal_hour_of h) h (last_hour (mode_of h))

unfoldable pub as_time_of_day : TimeOfDay → TimeOfDay
as_time_of_day c =
    record { seconds = as_field 0x00 0x59 c.seconds; minutes = as_field 0x00 0x59 c.minutes; hours = as_hour c.hours }
