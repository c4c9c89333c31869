-- Dates and their day numbers. (rules 3.10 to 3.13)
use Rattle.std.specs.Prelude.{Bool, cond, ◌&&◌, ℕ, zero, suc, ◌+◌, ◌-◌, ◌*◌, ltb, eqb, Option, Some, None}
use Rattle.fields.specs.Digits.{value_of, byte_of, legal_of, step_of}
use Rattle.dates.specs.Months.{last_day_of, month_byte_of, year_byte_of, days_of, first_day_of}
use Rattle.dates.specs.declared.date.Date.{Date}

-- all three fields are legal, the day in its month (rule 3.11)
unfoldable pub legal_date_of : Date → Bool
legal_date_of d =
    legal_of 0x01 (last_day_of d.month d.year) d.day && legal_of 0x01 0x12 d.month && legal_of 0x00 0x99 d.year

-- the date d with its day come to a; a field at its first value carries, into the month m and the year y (rule 3.3)
abbrev pub carried_date : Date → ℕ → ℕ → ℕ → Date
carried_date d a m y =
    record {
      day = a;
      month = cond (eqb a 0x01) m d.month;
      year = cond (eqb a 0x01 && eqb m 0x01) y d.year;
    }

-- one day on: the day is judged by the month and the year before the step (rule 3.10)
unfoldable pub next_date_of : Date → Date
next_date_of d =
    carried_date d (step_of 0x01 (last_day_of d.month d.year) d.day) (step_of 0x01 0x12 d.month) (step_of 0x00 0x99 d.year)

-- the number of a date's month, 0 to 1,199 (rule 3.13)
abbrev pub month_number_of : Date → ℕ
month_number_of d = value_of d.year * 12 + (value_of d.month - 1)

-- the days since 2000-01-01 (rules 3.12 and 3.13)
unfoldable pub day_of : Date → ℕ
day_of d = first_day_of (month_number_of d) + (value_of d.day - 1)

-- the day number, or none
unfoldable pub day_number_of : Date → Option ℕ
day_number_of d = cond (legal_date_of d) (Some (day_of d)) None

-- the month in which the day n days after the first of month k falls, at most f months on: lengths are taken off in turn
unfoldable pub month_from : ℕ → ℕ → ℕ → ℕ
month_from zero k n = k
month_from (suc f) k n = cond (ltb n (days_of k)) k (month_from f (suc k) (n - days_of k))

-- the month in which day n of the century falls
abbrev pub month_of : ℕ → ℕ
month_of n = month_from 1200 0 n

-- the date in month k that is n days into the century
abbrev pub date_in : ℕ → ℕ → Date
date_in k n = record { day = byte_of (n - first_day_of k + 1); month = month_byte_of k; year = year_byte_of k }

-- the date of a day number, or none
unfoldable pub date_at_of : ℕ → Option Date
date_at_of n = cond (ltb n 36525) (Some (date_in (month_of n) n)) None
