-- A byte written to a register. (rules 2.7, 2.8 and 7.2 to 7.5)
use Rattle.std.specs.Prelude.{Bool, cond, ◌&&◌, List, ℕ, ◌-◌, ltb, set}
use Rattle.hand.specs.Hand as hand
use Rattle.alarm.specs.Alarm as alarm
use Rattle.countdown.specs.Countdown as countdown
use Rattle.control.specs.Control as control
use Rattle.control.specs.Lock.{open_of, written_of}
use Rattle.sd2068.specs.declared.clock.Clock.{Clock}

-- the RAM after a byte stored at register a
unfoldable pub ram_stored_of : List ℕ → ℕ → ℕ → List ℕ
ram_stored_of ram a b = cond (ltb a 0x14) ram (cond (ltb a 0x20) (set ram (a - 0x14) b) ram)

-- a byte is stored if the lock is open on both sides of it
abbrev pub stores_of : Clock → ℕ → ℕ → Bool
stores_of c a b = open_of c.lock && open_of (written_of c.lock a b)

-- the lock bits go by the byte alone; each other group takes it if it is stored
abbrev pub written_by : Bool → Clock → ℕ → ℕ → Clock
written_by stores c a b =
    record c {
      hand = cond stores (hand.stored_of c.hand a b) c.hand;
      alarm = cond stores (alarm.stored_of c.alarm a b) c.alarm;
      countdown = cond stores (countdown.stored_of c.countdown a b) c.countdown;
      lock = written_of c.lock a b;
      control = cond stores (control.stored_of c.control a b) c.control;
      ram = cond stores (ram_stored_of c.ram a b) c.ram;
    }

unfoldable pub write_of : Clock → ℕ → ℕ → Clock
write_of c a b = written_by (stores_of c a b) c a b
