-- Second numbers, and a time any number of seconds on. (rules 3.14 to 3.16)
use Rattle.std.specs.Prelude.{cond, ◌&&◌, ℕ, ◌+◌, ◌*◌, ◌/◌, ◌%◌, ltb, Option, Some, None}
use Rattle.fields.specs.declared.hours.HourMode.{HourMode}
use Rattle.fields.specs.declared.times.TimeOfDay.{TimeOfDay}
use Rattle.fields.specs.Hours.{mode_of}
use Rattle.fields.specs.Times.{legal_time_of, second_of, time_of_day_of}
use Rattle.dates.specs.declared.date.Date.{Date}
use Rattle.dates.specs.Dates.{legal_date_of, day_of, month_of, date_in}
use Rattle.calendar.specs.Weekdays.{weekday_on_of}
use Rattle.calendar.specs.Advance.{clock_of, date_of}
use Rattle.calendar.specs.declared.time.Time.{Time}

-- the seconds since 2000-01-01 00:00:00
unfoldable pub since_of : Time → ℕ
since_of t = day_of (date_of t) * 86400 + second_of (clock_of t)

-- the second number, or none (rule 3.14)
unfoldable pub number_of : Time → Option ℕ
number_of t = cond (legal_date_of (date_of t) && legal_time_of (clock_of t)) (Some (since_of t)) None

-- a time put together from its parts
abbrev pub joined : TimeOfDay → ℕ → Date → Time
joined c w d =
    record {
      seconds = c.seconds;
      minutes = c.minutes;
      hours = c.hours;
      weekday = w;
      day = d.day;
      month = d.month;
      year = d.year;
    }

-- the time n seconds into the century
unfoldable pub time_in : ℕ → HourMode → ℕ → Time
time_in n m w = joined (time_of_day_of m (n % 86400)) w (date_in (month_of (n / 86400)) (n / 86400))

-- the time of a second number, or none (rule 3.15)
unfoldable pub time_at_of : ℕ → HourMode → ℕ → Option Time
time_at_of n m w = cond (ltb n 3155760000) (Some (time_in n m w)) None

-- the same time with its weekday d days on
abbrev pub days_on_of : Time → ℕ → Time
days_on_of t d = joined (clock_of t) (weekday_on_of t.weekday d) (date_of t)

-- n seconds after a time with second number k, or none (rule 3.16)
abbrev pub later_from : Time → ℕ → Option ℕ → Option Time
later_from t n None = None
later_from t n (Some k) =
    Some (days_on_of (time_in ((k + n) % 3155760000) (mode_of t.hours) t.weekday) ((k % 86400 + n) / 86400))

unfoldable pub later_of : Time → ℕ → Option Time
later_of t n = later_from t n (number_of t)
