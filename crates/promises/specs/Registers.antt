-- The clock as its registers show it: register numbers, bits, and the numbers that no register holds. (rules 1.3, 2.1 to 2.6, 7.1 and 8.2)
use Rattle.std.specs.Prelude.{◌≡◌, Bool, true, cond, ◌&&◌, List, [], ◌∷◌, ℕ, ◌+◌, ◌-◌, ◌*◌, ◌/◌, ◌%◌, ◌^◌, eqb, length}
use Rattle.calendar.specs.declared.time.Time.{Time}
use Rattle.bus.specs.declared.phase.Phase.{Phase}
use Rattle.sd2068.specs.declared.clock.Clock.{Clock}
use Rattle.sd2068.specs.Reading.{register_of}
use Rattle.sd2068.specs.WellFormed.{well_formed_of}

-- bit n of x is 1
abbrev pub bit : ℕ → ℕ → Bool
bit n x = eqb (x / 2 ^ n % 2) 1

-- x with bit n made 1 or 0
abbrev pub put : ℕ → Bool → ℕ → ℕ
put n on x = x - x / 2 ^ n % 2 * 2 ^ n + cond on (2 ^ n) 0

-- the numbers that no register holds: second counter, reload, prescaler, the pin pulses of alarm and countdown, divider
pub record Inner : Type 0 where
  pub counter : ℕ
  pub reload : ℕ
  pub prescaler : ℕ
  pub alarm_pulse : ℕ
  pub countdown_pulse : ℕ
  pub divider : ℕ

-- a clock: its registers by their numbers, the numbers inside, the seven latched bytes, the pointer and the phase of the bus
pub record View : Type 0 where
  pub register : ℕ → ℕ
  pub inner : Inner
  pub latch : List ℕ
  pub pointer : ℕ
  pub phase : Phase

-- those of a state
abbrev pub inner_of : Clock → Inner
inner_of c =
    record {
      counter = c.hand.counter;
      reload = c.countdown.reload;
      prescaler = c.countdown.prescaler;
      alarm_pulse = c.alarm.pulse;
      countdown_pulse = c.countdown.pulse;
      divider = c.divider;
    }

-- a state, so seen
abbrev pub view_of : Clock → View
view_of c = record { register = register_of c; inner = inner_of c; latch = c.latched; pointer = c.bus.pointer; phase = c.bus.phase }

-- a state looks so: every register, the numbers inside, the latch, the pointer and the phase
pub record Looks (c : Clock) (v : View) : Type 0 where
  pub registers : (a : ℕ) → register_of c a ≡ v.register a
  pub inner : inner_of c ≡ v.inner
  pub latch : c.latched ≡ v.latch
  pub pointer : c.bus.pointer ≡ v.pointer
  pub phase : c.bus.phase ≡ v.phase

-- a state that may be handed in, with the 12 bytes of RAM and the 7 latched ones that the code's type gives every state (rule 8.2)
pub record State (c : Clock) : Type 0 where
  pub well : well_formed_of c ≡ true
  pub ram : length c.ram ≡ 12
  pub latch : length c.latched ≡ 7

-- seven registers from a on, in the order of the time: 00h the time, 07h the alarm's fields (rules 2.1 and 2.3)
abbrev pub seven_from : ℕ → (ℕ → ℕ) → Time
seven_from a r =
    record {
      seconds = r a;
      minutes = r (a + 1);
      hours = r (a + 2);
      weekday = r (a + 3);
      day = r (a + 4);
      month = r (a + 5);
      year = r (a + 6);
    }

-- the bytes of the time, 00h to 06h
abbrev pub time_bytes : (ℕ → ℕ) → List ℕ
time_bytes r = r 0x00 ∷ r 0x01 ∷ r 0x02 ∷ r 0x03 ∷ r 0x04 ∷ r 0x05 ∷ r 0x06 ∷ []

-- the lock is open: WRTC1, WRTC2 and WRTC3 (rule 7.1)
abbrev pub lock_open : (ℕ → ℕ) → Bool
lock_open r = bit 7 (r 0x10) && bit 2 (r 0x0F) && bit 7 (r 0x0F)
