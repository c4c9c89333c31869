-- Which states may be handed in. (rule 8.2)
use Rattle.std.specs.Prelude.{◌≡◌, Bool, false, ◌&&◌, List, ℕ, ◌≤◌, ◌<◌, leb, get_or}
use Rattle.registers.specs.Fixed.{kept_of, clear_time_of}
use Rattle.hand.specs.Hand as hand
use Rattle.alarm.specs.Alarm as alarm
use Rattle.countdown.specs.Countdown as countdown
use Rattle.control.specs.Lock as lock
use Rattle.control.specs.Control as control
use Rattle.bus.specs.declared.phase.Mode.{Mode}
use Rattle.bus.specs.declared.phase.Transfer.{Transfer}
use Rattle.bus.specs.declared.phase.Phase.TheVariants.{Open}
use Rattle.bus.specs.Phase as bus
use Rattle.sd2068.specs.declared.clock.Clock.{Clock}
use Rattle.sd2068.specs.Power.{start_time}
use Rattle.sd2068.specs.Reading.{register_of}

-- no latched byte has a fixed bit set
abbrev pub latch_well : List ℕ → Bool
latch_well latched = clear_time_of (start_time latched)

-- the divider is at most 524,287
abbrev pub divider_well : ℕ → Bool
divider_well divider = leb divider 524287

-- every group within its bounds
unfoldable pub well_formed_of : Clock → Bool
well_formed_of c =
    hand.well_of c.hand
    && alarm.well_of c.alarm
    && countdown.well_of c.countdown
    && lock.well_of c.lock
    && control.well_of c.control
    && latch_well c.latched
    && divider_well c.divider
    && bus.well_of c.bus

-- the same as the row of refusal 1 lists it
pub record Listed (c : Clock) : Type 0 where
  pub fixed : (a : ℕ) → a < 32 → kept_of a (register_of c a) ≡ register_of c a
  pub lock : c.lock.wrtc1 ≡ false → (c.lock.wrtc2 ≡ false) × (c.lock.wrtc3 ≡ false)
  pub pointer : c.bus.pointer ≤ 31
  pub latched : (i : ℕ) → i < 7 → kept_of i (get_or c.latched i 0) ≡ get_or c.latched i 0
  pub age : (m : Mode) (t : Transfer) → c.bus.phase ≡ Open m t → t.age ≤ 16383
  pub counter : c.hand.counter ≤ 32891
  pub count : c.countdown.count ≤ c.countdown.reload
  pub divider : c.divider ≤ 524287
  pub prescaler : c.countdown.prescaler ≤ 1966079
  pub alarm : c.alarm.pulse ≤ 8192
  pub countdown : c.countdown.pulse ≤ 8192
