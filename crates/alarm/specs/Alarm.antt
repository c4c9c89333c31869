-- The alarm as a part of the state. (rules 5.1, 5.5, 5.6, 2.7, 2.8 and 8.2)
use Rattle.std.specs.Prelude.{Bool, false, cond, ◌&&◌, ◌||◌, not, ℕ, ◌-◌, ◌/◌, ◌%◌, eqb, ltb, leb}
use Rattle.calendar.specs.declared.time.Time.{Time}
use Rattle.registers.specs.Counters.{less_of}
use Rattle.registers.specs.Fixed.{kept_of, clear_of}
use Rattle.registers.specs.Seven.{with_byte_of}
use Rattle.alarm.specs.Matching.{matches_of}
use Rattle.alarm.specs.declared.alarm.Alarm.{Alarm}

-- each enabled field matches
abbrev pub meets_of : Alarm → Time → Bool
meets_of a t = matches_of a.at a.enable t

-- a second's end from s to t at which a match begins
abbrev pub rings_of : Alarm → Time → Time → Bool
rings_of a s t = meets_of a t && not (meets_of a s)

-- an alarm that rings sets its flag and begins a pin pulse
abbrev pub rung_by : Bool → Alarm → Alarm
rung_by rings a = record { at = a.at; enable = a.enable; flag = rings || a.flag; pulse = cond rings 8192 a.pulse }

unfoldable pub rung_of : Alarm → Time → Time → Bool → Alarm
rung_of a s t asked = rung_by (asked && rings_of a s t) a

-- its pin pulse n pulses on
abbrev pub lessened_of : Alarm → ℕ → Alarm
lessened_of a n = record { at = a.at; enable = a.enable; flag = a.flag; pulse = less_of a.pulse n }

-- the flag after a byte stored at register r: 0Eh clears it, and so does a 0 in bit 5 of 0Fh
abbrev pub flag_stored : Bool → ℕ → ℕ → Bool
flag_stored flag r b = cond (eqb r 0x0E) false (cond (eqb r 0x0F) (flag && eqb (b / 0x20 % 2) 1) flag)

-- a byte stored at register r: 07h to 0Dh the fields, 0Eh their enabling
unfoldable pub stored_of : Alarm → ℕ → ℕ → Alarm
stored_of a r b =
    record {
      at = cond (ltb r 0x07) a.at (cond (ltb r 0x0E) (with_byte_of a.at (r - 7) (kept_of r b)) a.at);
      enable = cond (eqb r 0x0E) (kept_of r b) a.enable;
      flag = flag_stored a.flag r b;
      pulse = a.pulse;
    }

-- no fixed bit set, and the pin pulse at most 8,192
unfoldable pub well_of : Alarm → Bool
well_of a =
    clear_of 0x07 a.at.seconds
    && clear_of 0x08 a.at.minutes
    && clear_of 0x09 a.at.hours
    && clear_of 0x0A a.at.weekday
    && clear_of 0x0B a.at.day
    && clear_of 0x0C a.at.month
    && clear_of 0x0D a.at.year
    && clear_of 0x0E a.enable
    && leb a.pulse 8192
