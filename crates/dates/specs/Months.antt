-- The lengths of the months, and the first day numbers of all 1,200. (rules 3.8, 3.9 and 3.13)
use Rattle.std.specs.Prelude.{Bool, cond, ◌&&◌, List, [], ◌∷◌, ℕ, zero, suc, ◌+◌, ◌/◌, ◌%◌, eqb}
use Rattle.fields.specs.Digits.{value_of, byte_of, legal_of}

-- the number of the year is divisible by 4 (rule 3.8)
unfoldable pub leap_of : ℕ → Bool
leap_of year = legal_of 0x00 0x99 year && eqb (value_of year % 4) 0

-- the last day of a month, as the field holds it (rule 3.9)
unfoldable pub last_day_of : ℕ → ℕ → ℕ
last_day_of month year =
    cond (eqb month 0x02) (cond (leap_of year) 0x29 0x28)
    (cond (eqb month 0x04) 0x30
    (cond (eqb month 0x06) 0x30
    (cond (eqb month 0x09) 0x30
    (cond (eqb month 0x11) 0x30 0x31))))

-- the fields of month k, counted from January 2000
abbrev pub month_byte_of : ℕ → ℕ
month_byte_of k = byte_of (k % 12 + 1)

abbrev pub year_byte_of : ℕ → ℕ
year_byte_of k = byte_of (k / 12)

-- the days of month k
unfoldable pub days_of : ℕ → ℕ
days_of k = value_of (last_day_of (month_byte_of k) (year_byte_of k))

-- the day number on which month k begins: 0, and for the next month when the days of this one are over (rule 3.13)
unfoldable pub first_day_of : ℕ → ℕ
first_day_of zero = 0
first_day_of (suc k) = first_day_of k + days_of k

-- the first days of n months in order, from month k on
unfoldable pub first_days_from : ℕ → ℕ → List ℕ
first_days_from zero k = []
first_days_from (suc n) k = first_day_of k ∷ first_days_from n (suc k)

-- the first days of all 1,200 months (rule 3.13)
unfoldable pub first_days : List ℕ
first_days = first_days_from 1200 0
