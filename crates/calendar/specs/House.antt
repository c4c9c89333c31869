-- The house rule as a reading: every illegal field of a time counts as its last value. (rules 3.3, 3.5, 3.7 and 3.10)
use Rattle.fields.specs.House.{as_time_of_day}
use Rattle.dates.specs.House.{as_date}
use Rattle.calendar.specs.Weekdays.{as_weekday}
use Rattle.calendar.specs.Advance.{clock_of, date_of}
use Rattle.calendar.specs.Numbers.{joined}
use Rattle.calendar.specs.declared.time.Time.{Time}

unfoldable pub as_time : Time → Time
as_time t = joined (as_time_of_day (clock_of t)) (as_weekday t.weekday) (as_date (date_of t))
