-- The countdown. (rules 5.6 to 5.9, 2.7, 2.8 and 8.2)
use Rattle.std.specs.Prelude.{Bool, cond, ◌&&◌, ◌||◌, ℕ, ◌-◌, ◌/◌, ◌%◌, eqb, leb}
use Rattle.registers.specs.Counters as counters
use Rattle.registers.specs.Counters.{reached_of, turned_of, less_of, more_of}
use Rattle.countdown.specs.declared.Countdown.{Countdown}

-- the pulses of a tick, by TDS
abbrev pub limit_of : ℕ → ℕ
limit_of tds = cond (eqb tds 0) 8 (cond (eqb tds 1) 512 (cond (eqb tds 2) 32768 1966080))

-- the count after a tick: one less, or at 0 the reload
abbrev pub down_of : ℕ → ℕ → ℕ
down_of count reload = cond (eqb count 0) reload (count - 1)

-- while INTDE is 1 the prescaler ticks on reaching its limit
abbrev pub ticks_of : Countdown → Bool → ℕ → Bool
ticks_of c on tds = on && reached_of c.prescaler (limit_of tds)

-- a pulse, by whether it ticks: reaching 0 by subtraction sets the flag and begins a pin pulse
abbrev pub counted_by : Bool → Countdown → Bool → ℕ → Countdown
counted_by ticks c on tds =
    record {
      count = cond ticks (down_of c.count c.reload) c.count;
      reload = c.reload;
      prescaler = cond on (turned_of c.prescaler (limit_of tds)) c.prescaler;
      flag = (ticks && eqb c.count 1) || c.flag;
      pulse = cond (ticks && eqb c.count 1) 8192 c.pulse;
    }

unfoldable pub counted_of : Countdown → Bool → ℕ → Countdown
counted_of c on tds = counted_by (ticks_of c on tds) c on tds

-- its pin pulse n pulses on
abbrev pub lessened_of : Countdown → ℕ → Countdown
lessened_of c n =
    record {
      count = c.count;
      reload = c.reload;
      prescaler = c.prescaler;
      flag = c.flag;
      pulse = less_of c.pulse n;
    }

-- of the next n pulses, as many as come before a tick
abbrev pub within_of : Countdown → Bool → ℕ → ℕ → ℕ
within_of c on tds n = cond on (counters.within_of c.prescaler (limit_of tds) n) n

-- n pulses that make no tick
abbrev pub drifted_of : Countdown → Bool → ℕ → Countdown
drifted_of c on n =
    record {
      count = c.count;
      reload = c.reload;
      prescaler = cond on (more_of c.prescaler n) c.prescaler;
      flag = c.flag;
      pulse = less_of c.pulse n;
    }

-- a byte stored at register a: 13h sets count and reload; 13h and 11h clear the prescaler; a 0 in bit 4 of 0Fh clears the flag
unfoldable pub stored_of : Countdown → ℕ → ℕ → Countdown
stored_of c a b =
    record {
      count = cond (eqb a 0x13) b c.count;
      reload = cond (eqb a 0x13) b c.reload;
      prescaler = cond (eqb a 0x13) 0 (cond (eqb a 0x11) 0 c.prescaler);
      flag = cond (eqb a 0x0F) (c.flag && eqb (b / 0x10 % 2) 1) c.flag;
      pulse = c.pulse;
    }

-- the count is at most the reload, the prescaler 1,966,079, the pin pulse 8,192
unfoldable pub well_of : Countdown → Bool
well_of c = leb c.count c.reload && leb c.prescaler 1966079 && leb c.pulse 8192
