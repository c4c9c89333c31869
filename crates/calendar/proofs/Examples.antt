-- Times at which the rules turn, each with the time one second on: computed from the definitions. Assumes nothing.
use mathlib.Core.Path.{◌≡◌, refl}
use Rattle.std.specs.Prelude.{Some}
use mathlib.Core.List.{List, [], ◌∷◌, map}
use Prim.Native.Nat.{ℕ}
use Rattle.fields.specs.Digits.{step_of}
use Rattle.fields.specs.Hours.{codes, place_of, hour_number_of, hour_byte_of, next_hour_of}
use Rattle.fields.specs.Times.{legal_time_of, second_of, next_time_of, midnight_of, time_of_day_of}
use Rattle.dates.specs.Months.{leap_of, last_day_of, days_of, first_day_of}
use Rattle.dates.specs.Dates.{legal_date_of, next_date_of, day_of, month_from}
use Rattle.calendar.specs.Weekdays.{weekday_on_of}
use Rattle.calendar.specs.Advance.{advance_of}
use Rattle.calendar.specs.Numbers.{since_of, number_of, time_in, later_of}
use Rattle.calendar.specs.declared.time.Time.{Time}

-- hours, minutes, seconds; weekday; day, month, year
abbrev at : ℕ → ℕ → ℕ → ℕ → ℕ → ℕ → ℕ → Time
at h m s w d k y = record { seconds = s; minutes = m; hours = h; weekday = w; day = d; month = k; year = y }

-- the last second before 9 in the evening, on 28 February 2000
abbrev evening : Time
evening = at 0x28 0x59 0x59 6 0x28 0x02 0x00

before : List Time
before =
    at 0xa3 0x59 0x59 6 0x31 0x12 0x99
    ∷ at 0xa3 0x59 0x59 0 0x28 0x02 0x00
    ∷ at 0xa3 0x59 0x59 0 0x28 0x02 0x01
    ∷ at 0x11 0x59 0x59 0 0x15 0x06 0x10
    ∷ at 0x31 0x59 0x59 0 0x15 0x06 0x10
    ∷ at 0x12 0x59 0x59 0 0x15 0x06 0x10
    ∷ at 0x92 0x30 0x5a 0 0x15 0x06 0x10
    ∷ evening
    ∷ []

after : List Time
after =
    at 0x80 0x00 0x00 0 0x01 0x01 0x00
    ∷ at 0x80 0x00 0x00 1 0x29 0x02 0x00
    ∷ at 0x80 0x00 0x00 1 0x01 0x03 0x01
    ∷ at 0x32 0x00 0x00 0 0x15 0x06 0x10
    ∷ at 0x12 0x00 0x00 1 0x16 0x06 0x10
    ∷ at 0x01 0x00 0x00 0 0x15 0x06 0x10
    ∷ at 0x92 0x31 0x00 0 0x15 0x06 0x10
    ∷ at 0x29 0x00 0x00 6 0x28 0x02 0x00
    ∷ []

-- the century's end, both Februaries, noon, midnight, the hour after it, an illegal second, and an evening
examples : map advance_of before ≡ after
unfolding before after advance_of next_time_of midnight_of next_date_of step_of next_hour_of hour_number_of hour_byte_of codes place_of leap_of last_day_of
examples = refl

-- three hours and a second later it is midnight, and a leap day
evening_later : later_of evening 10801 ≡ Some (at 0x12 0x00 0x00 0 0x29 0x02 0x00)
unfolding later_of number_of since_of time_in weekday_on_of legal_date_of legal_time_of day_of first_day_of days_of last_day_of leap_of month_from second_of time_of_day_of hour_number_of hour_byte_of codes place_of
evening_later = refl
