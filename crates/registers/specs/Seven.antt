-- Seven bytes in the order of the time's registers. (rules 2.1 and 2.3)
use Rattle.std.specs.Prelude.{cond, ℕ, eqb}
pub use Rattle.calendar.specs.Bytes.{bytes_of}
use Rattle.calendar.specs.declared.time.Time.{Time}

-- the byte at place i; past the last it is the last
unfoldable pub byte_at_of : Time → ℕ → ℕ
byte_at_of t i =
    cond (eqb i 0) t.seconds
    (cond (eqb i 1) t.minutes
    (cond (eqb i 2) t.hours
    (cond (eqb i 3) t.weekday
    (cond (eqb i 4) t.day
    (cond (eqb i 5) t.month
    t.year)))))

-- the same bytes but for b at place i; past the last nothing changes
unfoldable pub with_byte_of : Time → ℕ → ℕ → Time
with_byte_of t i b =
    record {
      seconds = cond (eqb i 0) b t.seconds;
      minutes = cond (eqb i 1) b t.minutes;
      hours = cond (eqb i 2) b t.hours;
      weekday = cond (eqb i 3) b t.weekday;
      day = cond (eqb i 4) b t.day;
      month = cond (eqb i 5) b t.month;
      year = cond (eqb i 6) b t.year;
    }
