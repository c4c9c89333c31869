-- Which fields of the alarm match a time. (rules 2.3 and 5.2 to 5.4)
use Rattle.std.specs.Prelude.{Bool, false, cond, ◌&&◌, ◌||◌, not, ℕ, ◌/◌, ◌%◌, ◌^◌, eqb, ltb}
use Rattle.calendar.specs.declared.time.Time.{Time}

-- bit w of the alarm's weekdays; there is none for 7
unfoldable pub weekday_in : ℕ → ℕ → Bool
weekday_in days w = cond (ltb w 7) (eqb (days / 2 ^ w % 2) 1) false

-- the bit of weight w of 0Eh is 0
abbrev pub off : ℕ → ℕ → Bool
off w enable = eqb (enable / w % 2) 0

-- every field that counts matches; a day that counts leaves the weekday out
unfoldable pub matches_of : Time → ℕ → Time → Bool
matches_of at enable t =
    (off 0x01 enable || eqb t.seconds at.seconds)
    && (off 0x02 enable || eqb t.minutes at.minutes)
    && (off 0x04 enable || eqb (t.hours % 64) (at.hours % 64))
    && (off 0x08 enable || not (off 0x10 enable) || weekday_in at.weekday t.weekday)
    && (off 0x10 enable || eqb t.day at.day)
    && (off 0x20 enable || eqb t.month at.month)
    && (off 0x40 enable || eqb t.year at.year)
