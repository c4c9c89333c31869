-- The hand: the time, the second counter, the trim. (rules 4.1, 4.4, 2.2, 2.7 and 8.2)
use Rattle.std.specs.Prelude.{Bool, cond, ◌&&◌, ℕ, ◌+◌, eqb, ltb, leb}
use Rattle.calendar.specs.declared.time.Time.{Time}
use Rattle.calendar.specs.Advance.{advance_of}
use Rattle.registers.specs.Counters as counters
use Rattle.registers.specs.Counters.{reached_of, more_of}
use Rattle.registers.specs.Fixed.{kept_of, clear_of, clear_time_of}
use Rattle.registers.specs.Seven.{with_byte_of}
use Rattle.hand.specs.Trim.{length_of}
use Rattle.hand.specs.declared.hand.Hand.{Hand}

-- the next pulse ends the present second
abbrev pub ends_of : Hand → Bool
ends_of h = reached_of h.counter (length_of h.time.seconds h.trim)

-- the time after a pulse that ends the second, or does not
abbrev pub time_by : Bool → Hand → Time
time_by ends h = cond ends (advance_of h.time) h.time

-- a pulse, by whether it ends the second
abbrev pub ticked_by : Bool → Hand → Hand
ticked_by ends h = record { time = time_by ends h; counter = cond ends 0 (h.counter + 1); trim = h.trim }

unfoldable pub ticked_of : Hand → Hand
ticked_of h = ticked_by (ends_of h) h

-- of the next n pulses, as many as come before the end of the second
abbrev pub within_of : Hand → ℕ → ℕ
within_of h n = counters.within_of h.counter (length_of h.time.seconds h.trim) n

-- n pulses that do not end the second
abbrev pub drifted_of : Hand → ℕ → Hand
drifted_of h n = record { time = h.time; counter = more_of h.counter n; trim = h.trim }

-- the counter after a byte stored at register a of the time: 00h begins the second anew
abbrev pub restarted_of : ℕ → ℕ → ℕ
restarted_of counter a = cond (eqb a 0x00) 0 counter

-- a byte stored at register a: 00h to 06h the time, 12h the trim
unfoldable pub stored_of : Hand → ℕ → ℕ → Hand
stored_of h a b =
    record {
      time = cond (ltb a 0x07) (with_byte_of h.time a (kept_of a b)) h.time;
      counter = cond (ltb a 0x07) (restarted_of h.counter a) h.counter;
      trim = cond (eqb a 0x12) (kept_of a b) h.trim;
    }

-- no fixed bit set, and the counter at most 32,891
unfoldable pub well_of : Hand → Bool
well_of h = clear_time_of h.time && clear_of 0x12 h.trim && leb h.counter 32891
