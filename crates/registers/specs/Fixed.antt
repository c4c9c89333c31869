-- The bits that always read 0. (rule 2.2)
use Rattle.std.specs.Prelude.{Bool, cond, ◌&&◌, ℕ, ◌+◌, ◌-◌, ◌*◌, ◌/◌, ◌%◌, eqb, ltb}
use Rattle.calendar.specs.declared.time.Time.{Time}

-- a byte with the bit of weight w made 0
abbrev pub without : ℕ → ℕ → ℕ
without w b = b - b / w % 2 * w

-- the time: hours lose bit 6, the weekday all but three bits, day and month two and three, the year none, the others bit 7
unfoldable pub kept_time : ℕ → ℕ → ℕ
kept_time a b =
    cond (eqb a 0x02) (without 0x40 b)
    (cond (eqb a 0x03) (b % 0x08)
    (cond (eqb a 0x04) (b % 0x40)
    (cond (eqb a 0x05) (b % 0x20)
    (cond (eqb a 0x06) b
    (b % 0x80)))))

-- the alarm: hours and day lose two bits, the month three, the year none, the others and 0Eh bit 7
unfoldable pub kept_alarm : ℕ → ℕ → ℕ
kept_alarm a b =
    cond (eqb a 0x09) (b % 0x40)
    (cond (eqb a 0x0B) (b % 0x40)
    (cond (eqb a 0x0C) (b % 0x20)
    (cond (eqb a 0x0D) b
    (b % 0x80))))

-- 0Fh keeps the bits 7, 5, 4, 2, 0
abbrev pub kept_ctr1 : ℕ → ℕ
kept_ctr1 b = b / 0x80 * 0x80 + b / 0x10 % 4 * 0x10 + b / 0x04 % 2 * 0x04 + b % 2

-- the rest: 0Fh has five bits, 11h loses bit 6, the trim bit 7
unfoldable pub kept_control : ℕ → ℕ → ℕ
kept_control a b =
    cond (eqb a 0x0F) (kept_ctr1 b)
    (cond (eqb a 0x11) (without 0x40 b)
    (cond (eqb a 0x12) (b % 0x80)
    b))

-- what register a keeps of a byte
unfoldable pub kept_of : ℕ → ℕ → ℕ
kept_of a b = cond (ltb a 0x07) (kept_time a b) (cond (ltb a 0x0F) (kept_alarm a b) (kept_control a b))

-- no fixed bit of register a is set in b
unfoldable pub clear_of : ℕ → ℕ → Bool
clear_of a b = eqb (kept_of a b) b

-- the same of all seven bytes of a time
unfoldable pub clear_time_of : Time → Bool
clear_time_of t =
    clear_of 0x00 t.seconds
    && clear_of 0x01 t.minutes
    && clear_of 0x02 t.hours
    && clear_of 0x03 t.weekday
    && clear_of 0x04 t.day
    && clear_of 0x05 t.month
    && clear_of 0x06 t.year
