-- The house rule as a reading: an illegal field of a date counts as its last value. (rules 3.3 and 3.10)
use Rattle.fields.specs.House.{as_field}
use Rattle.dates.specs.Months.{last_day_of}
use Rattle.dates.specs.declared.date.Date.{Date}

unfoldable pub as_date : Date → Date
as_date d =
    record {
      day = as_field 0x01 (last_day_of d.month d.year) d.day;
      month = as_field 0x01 0x12 d.month;
      year = as_field 0x00 0x99 d.year;
    }
