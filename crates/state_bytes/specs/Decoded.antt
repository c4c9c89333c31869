-- The state that 61 bytes stand for, and which bytes stand for one. (rules 10.2 and 10.3)
use Rattle.std.specs.Prelude.{Bool, ◌&&◌, List, [], ◌∷◌, ℕ, eqb, get_or}
use Rattle.hand.specs.declared.hand.Hand.{Hand}
use Rattle.alarm.specs.declared.alarm.Alarm.{Alarm}
use Rattle.countdown.specs.declared.Countdown.{Countdown}
use Rattle.control.specs.declared.lock.Lock.{Lock}
use Rattle.control.specs.declared.control.Control.{Control}
use Rattle.control.specs.Control.{bit_of}
use Rattle.bus.specs.declared.phase.Bus.{Bus}
use Rattle.registers.specs.Fixed.{clear_of}
use Rattle.sd2068.specs.declared.clock.Clock.{Clock}
use Rattle.sd2068.specs.WellFormed.{well_formed_of}
use Rattle.state_bytes.specs.Places.{time_at, word_at, long_at}
use Rattle.state_bytes.specs.Phases.{phase_of, phase_well}

abbrev pub hand_of : List ℕ → Hand
hand_of s =
    record {
      time = time_at s 0;
      counter = long_at s 49;
      trim = get_or s 0x12 0;
    }

abbrev pub alarm_of : List ℕ → Alarm
alarm_of s =
    record {
      at = time_at s 7;
      enable = get_or s 0x0E 0;
      flag = bit_of 0x20 (get_or s 0x0F 0);
      pulse = word_at s 45;
    }

abbrev pub countdown_of : List ℕ → Countdown
countdown_of s =
    record {
      count = get_or s 0x13 0;
      reload = get_or s 39 0;
      prescaler = long_at s 57;
      flag = bit_of 0x10 (get_or s 0x0F 0);
      pulse = word_at s 47;
    }

abbrev pub lock_of : List ℕ → Lock
lock_of s =
    record { wrtc1 = bit_of 0x80 (get_or s 0x10 0); wrtc2 = bit_of 0x04 (get_or s 0x0F 0); wrtc3 = bit_of 0x80 (get_or s 0x0F 0) }

abbrev pub control_of : List ℕ → Control
control_of s =
    record {
      im = bit_of 0x40 (get_or s 0x10 0);
      ints1 = bit_of 0x20 (get_or s 0x10 0);
      ints0 = bit_of 0x10 (get_or s 0x10 0);
      fobat = bit_of 0x08 (get_or s 0x10 0);
      intde = bit_of 0x04 (get_or s 0x10 0);
      intae = bit_of 0x02 (get_or s 0x10 0);
      intfe = bit_of 0x01 (get_or s 0x10 0);
      ctr3 = get_or s 0x11 0;
    }

abbrev pub rtcf_of : List ℕ → Bool
rtcf_of s = bit_of 0x01 (get_or s 0x0F 0)

abbrev pub ram_of : List ℕ → List ℕ
ram_of s =
    get_or s 20 0 ∷ get_or s 21 0 ∷ get_or s 22 0 ∷ get_or s 23 0 ∷ get_or s 24 0 ∷ get_or s 25 0
    ∷ get_or s 26 0 ∷ get_or s 27 0 ∷ get_or s 28 0 ∷ get_or s 29 0 ∷ get_or s 30 0 ∷ get_or s 31 0 ∷ []

abbrev pub latched_of : List ℕ → List ℕ
latched_of s =
    get_or s 32 0 ∷ get_or s 33 0 ∷ get_or s 34 0 ∷ get_or s 35 0 ∷ get_or s 36 0 ∷ get_or s 37 0 ∷ get_or s 38 0 ∷ []

abbrev pub divider_of : List ℕ → ℕ
divider_of s = long_at s 53

abbrev pub bus_of : List ℕ → Bus
bus_of s =
    record {
      pointer = get_or s 40 0;
      phase = phase_of (get_or s 41 0) (record { age = word_at s 43; marked = eqb (get_or s 42 0) 1 });
    }

-- the state, well formed or not
unfoldable pub clock_of : List ℕ → Clock
clock_of s =
    record {
      hand = hand_of s;
      alarm = alarm_of s;
      countdown = countdown_of s;
      lock = lock_of s;
      control = control_of s;
      rtcf = rtcf_of s;
      ram = ram_of s;
      latched = latched_of s;
      divider = divider_of s;
      bus = bus_of s;
    }

-- what the state has no place for is as it is written: the fixed bits of 0Fh, and the phase
unfoldable pub plain_of : List ℕ → Bool
plain_of s = clear_of 0x0F (get_or s 0x0F 0) && phase_well (get_or s 41 0) (get_or s 42 0) (word_at s 43)

-- the bytes are those of a well-formed state
unfoldable pub is_state : List ℕ → Bool
is_state s = well_formed_of (clock_of s) && plain_of s
