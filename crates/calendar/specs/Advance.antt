-- One second on. (rules 3.7 and 3.17)
use Rattle.std.specs.Prelude.{Bool, cond}
use Rattle.fields.specs.declared.times.TimeOfDay.{TimeOfDay}
use Rattle.fields.specs.Times.{next_time_of, midnight_of}
use Rattle.dates.specs.declared.date.Date.{Date}
use Rattle.dates.specs.Dates.{next_date_of}
use Rattle.calendar.specs.Weekdays.{next_weekday_of}
use Rattle.calendar.specs.declared.time.Time.{Time}

-- a time's two parts, beside the weekday
abbrev pub clock_of : Time → TimeOfDay
clock_of t = record { seconds = t.seconds; minutes = t.minutes; hours = t.hours }

abbrev pub date_of : Time → Date
date_of t = record { day = t.day; month = t.month; year = t.year }

-- the time of day c, and if the day turns the next weekday and the date d
abbrev pub turned_to : Time → TimeOfDay → Date → Bool → Time
turned_to t c d turns =
    record {
      seconds = c.seconds;
      minutes = c.minutes;
      hours = c.hours;
      weekday = cond turns (next_weekday_of t.weekday) t.weekday;
      day = cond turns d.day t.day;
      month = cond turns d.month t.month;
      year = cond turns d.year t.year;
    }

-- the day turns where the time of day has come to midnight
unfoldable pub advance_of : Time → Time
advance_of t = turned_to t (next_time_of (clock_of t)) (next_date_of (date_of t)) (midnight_of (next_time_of (clock_of t)))
