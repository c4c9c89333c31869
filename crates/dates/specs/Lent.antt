-- Conversions by a list of first days that is lent; they say something of any list. (rules 3.12 and 3.13)
use Rattle.std.specs.Prelude.{cond, List, ℕ, min, ◌+◌, ◌-◌, ◌*◌, ◌/◌, leb, ltb, get_or, Option, Some, None}
use Rattle.fields.specs.Digits.{value_of, byte_of}
use Rattle.dates.specs.Months.{month_byte_of, year_byte_of}
use Rattle.dates.specs.Dates.{legal_date_of, month_number_of}
use Rattle.dates.specs.declared.date.Date.{Date}

-- the day number of a day in the month that begins on day a
abbrev pub day_from : ℕ → ℕ → ℕ
day_from a day = a + (value_of day - 1)

-- the days since 2000-01-01 by a list of first days
abbrev pub day_by : List ℕ → Date → ℕ
day_by l d = day_from (get_or l (month_number_of d) 0) d.day

-- the day number by a list of first days, or none
unfoldable pub day_number_in_of : List ℕ → Date → Option ℕ
day_number_in_of l d = cond (legal_date_of d) (Some (day_by l d)) None

-- 487 days to 16 months: the month of day n or the one after it
abbrev pub guess_of : ℕ → ℕ
guess_of n = min ((n * 16 + 40) / 487) 1199

-- month e, or the one before it where e begins on a day a past day n
abbrev pub month_by : ℕ → ℕ → ℕ → ℕ
month_by n e a = cond (leb a n) e (e - 1)

-- the month in which day n of the century falls by a list of first days
abbrev pub month_in_of : List ℕ → ℕ → ℕ
month_in_of l n = month_by n (guess_of n) (get_or l (guess_of n) 0)

-- day n in month k, which begins on day a: at least the first, at most the 31st
abbrev pub date_from : ℕ → ℕ → ℕ → Date
date_from n k a = record { day = byte_of (min (n - a) 30 + 1); month = month_byte_of k; year = year_byte_of k }

-- the date of day n of the century by a list of first days
abbrev pub date_by : List ℕ → ℕ → Date
date_by l n = date_from n (month_in_of l n) (get_or l (month_in_of l n) 0)

-- the date of a day number by a list of first days, or none
unfoldable pub date_in_of : List ℕ → ℕ → Option Date
date_in_of l n = cond (ltb n 36525) (Some (date_by l n)) None
