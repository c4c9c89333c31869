-- The time of day. (rules 3.3, 3.5 and 3.6)
use Rattle.std.specs.Prelude.{Bool, cond, ◌&&◌, ℕ, ◌+◌, ◌*◌, ◌/◌, ◌%◌, eqb}
use Rattle.fields.specs.Digits.{value_of, byte_of, legal_of, step_of}
use Rattle.fields.specs.Hours.{mode_of, first_hour, legal_hour_of, hour_number_of, hour_byte_of, next_hour_of}
use Rattle.fields.specs.declared.hours.HourMode.{HourMode}
use Rattle.fields.specs.declared.times.TimeOfDay.{TimeOfDay}

-- all three fields are legal (rule 3.6)
unfoldable pub legal_time_of : TimeOfDay → Bool
legal_time_of c = legal_of 0x00 0x59 c.seconds && legal_of 0x00 0x59 c.minutes && legal_hour_of c.hours

-- the whole seconds since midnight (rule 3.6)
unfoldable pub second_of : TimeOfDay → ℕ
second_of c = hour_number_of c.hours * 3600 + value_of c.minutes * 60 + value_of c.seconds

-- the time of day c with its seconds come to s; a field at its first value carries, into the minutes m and the hours h (rule 3.3)
abbrev pub carried_time : TimeOfDay → ℕ → ℕ → ℕ → TimeOfDay
carried_time c s m h =
    record {
      seconds = s;
      minutes = cond (eqb s 0x00) m c.minutes;
      hours = cond (eqb s 0x00 && eqb m 0x00) h c.hours;
    }

-- one second on
unfoldable pub next_time_of : TimeOfDay → TimeOfDay
next_time_of c =
    carried_time c (step_of 0x00 0x59 c.seconds) (step_of 0x00 0x59 c.minutes) (next_hour_of c.hours)

-- the first second of a day: where it is reached the day carries (rule 3.5)
unfoldable pub midnight_of : TimeOfDay → Bool
midnight_of c = eqb c.seconds 0x00 && eqb c.minutes 0x00 && eqb c.hours (first_hour (mode_of c.hours))

-- the time of day n seconds after a midnight, whole days left out
unfoldable pub time_of_day_of : HourMode → ℕ → TimeOfDay
time_of_day_of m n =
    record {
      seconds = byte_of (n % 60);
      minutes = byte_of (n / 60 % 60);
      hours = hour_byte_of m (n / 3600 % 24);
    }
