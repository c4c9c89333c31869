-- Power-on and power loss. (rules 2.9 to 2.11 and 8.4)
use Rattle.std.specs.Prelude.{true, false, cond, List, [], ◌∷◌, ℕ, eqb, length, get_or, replicate}
use Rattle.calendar.specs.declared.time.Time.{Time}
use Rattle.calendar.specs.Bytes.{time_of}
use Rattle.alarm.specs.declared.alarm.Alarm.{Alarm}
use Rattle.countdown.specs.declared.Countdown.{Countdown}
use Rattle.control.specs.declared.control.Control.{Control}
use Rattle.registers.specs.Fixed.{clear_time_of}
use Rattle.bus.specs.Phase.{closed_bus}
use Rattle.sd2068.specs.declared.clock.Clock.{Clock}

abbrev pub zero_time : Time
zero_time = record { seconds = 0; minutes = 0; hours = 0; weekday = 0; day = 0; month = 0; year = 0 }

abbrev pub no_alarm : Alarm
no_alarm = record { at = zero_time; enable = 0; flag = false; pulse = 0 }

abbrev pub no_countdown : Countdown
no_countdown = record { count = 0; reload = 0; prescaler = 0; flag = false; pulse = 0 }

abbrev pub no_control : Control
no_control =
    record { im = false; ints1 = false; ints0 = false; fobat = false; intde = false; intae = false; intfe = false; ctr3 = 0 }

-- what power leaves beside the time and the RAM: 07h to 13h are 0 but for RTCF, and so is all that is inside
unfoldable pub powered_of : Time → List ℕ → Clock
powered_of time ram =
    record {
      hand = record { time = time; counter = 0; trim = 0 };
      alarm = no_alarm;
      countdown = no_countdown;
      lock = record { wrtc1 = false; wrtc2 = false; wrtc3 = false };
      control = no_control;
      rtcf = true;
      ram = ram;
      latched = 0 ∷ 0 ∷ 0 ∷ 0 ∷ 0 ∷ 0 ∷ 0 ∷ [];
      divider = 0;
      bus = closed_bus;
    }

-- a power loss keeps time and RAM
abbrev pub lost_of : Clock → Clock
lost_of c = powered_of c.hand.time c.ram

-- the 19 start bytes: the time, then the RAM
abbrev pub start_time : List ℕ → Time
start_time s = time_of s

abbrev pub start_ram : List ℕ → List ℕ
start_ram s =
    get_or s 7 0 ∷ get_or s 8 0 ∷ get_or s 9 0 ∷ get_or s 10 0 ∷ get_or s 11 0 ∷ get_or s 12 0
    ∷ get_or s 13 0 ∷ get_or s 14 0 ∷ get_or s 15 0 ∷ get_or s 16 0 ∷ get_or s 17 0 ∷ get_or s 18 0 ∷ []

abbrev pub start_of : List ℕ → Clock
start_of s = powered_of (start_time s) (start_ram s)

-- what 19 zero bytes give
abbrev pub zero_start : Clock
zero_start = start_of (replicate 19 0)

-- a power-on: refusal 5 for a count that is not 19, then 6 for a fixed bit in the time; 0 is no refusal
pub record Power : Type 0 where
  pub refusal : ℕ
  pub state : Clock

unfoldable pub power_on_of : List ℕ → Power
power_on_of s =
    cond (eqb (length s) 19)
    (cond (clear_time_of (start_time s)) (record { refusal = 0; state = start_of s }) (record { refusal = 6; state = zero_start }))
    (record { refusal = 5; state = zero_start })
