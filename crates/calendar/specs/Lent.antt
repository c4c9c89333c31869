-- Second numbers by a list of first days that is lent; they say something of any list. (rules 3.14 and 3.15)
use Rattle.std.specs.Prelude.{Bool, cond, ◌&&◌, List, ℕ, ◌+◌, ◌*◌, ◌/◌, ◌%◌, ltb, Option, Some, None}
use Rattle.fields.specs.declared.hours.HourMode.{HourMode}
use Rattle.fields.specs.Times.{legal_time_of, second_of, time_of_day_of}
use Rattle.dates.specs.declared.date.Date.{Date}
use Rattle.dates.specs.Lent.{day_number_in_of, date_in_of}
use Rattle.calendar.specs.Advance.{clock_of, date_of}
use Rattle.calendar.specs.Numbers.{joined}
use Rattle.calendar.specs.declared.time.Time.{Time}

-- the second number from a day number, whether the time of day is legal, and its second; past the century there is none
abbrev pub second_from : Option ℕ → Bool → ℕ → Option ℕ
second_from None legal s = None
second_from (Some d) legal s = cond (ltb d 36525 && legal) (Some (d * 86400 + s)) None

-- the second number by a list of first days, or none
unfoldable pub number_in_of : List ℕ → Time → Option ℕ
number_in_of l t = second_from (day_number_in_of l (date_of t)) (legal_time_of (clock_of t)) (second_of (clock_of t))

-- the time on a date, if there is one, n seconds after a midnight
abbrev pub time_on : Option Date → ℕ → HourMode → ℕ → Option Time
time_on None n m w = None
time_on (Some d) n m w = Some (joined (time_of_day_of m (n % 86400)) w d)

-- the time of a second number by a list of first days, or none
unfoldable pub time_in_of : List ℕ → ℕ → HourMode → ℕ → Option Time
time_in_of l n m w = time_on (date_in_of l (n / 86400)) n m w
