-- When a step and a power-on are refused, each row written from the table. (rules 8.2 to 8.4)
use Rattle.std.specs.Prelude.{◌≡◌, true, false, List, ℕ, ◌<◌, length, get_or}
use Rattle.registers.specs.Fixed.{clear_of}
use Rattle.events.specs.Rows.{Row2, Row3, Sound}
use Rattle.sd2068.specs.declared.clock.Clock.{Clock}
use Rattle.sd2068.specs.WellFormed.{Listed}

-- row 1: a state that is not as the row lists it
abbrev pub Row1 : Clock → Type 0
Row1 c = Listed c → ⊥

-- refusal n of a step is due: its row holds and none that comes before it; 0 is due where no row holds
pub data StepDue (c : Clock) (kind byte count : ℕ) : ℕ → Type 0 where
  due1 : Row1 c → StepDue c kind byte count 1
  due2 : (Row1 c → ⊥) → Row2 kind → StepDue c kind byte count 2
  due3 : (Row1 c → ⊥) → (Row2 kind → ⊥) → Row3 kind byte count → StepDue c kind byte count 3
  due0 : (Row1 c → ⊥) → Sound kind byte count → StepDue c kind byte count 0

-- row 6: the start byte of register r, 00h to 06h, has a fixed bit set
pub record Row6 (s : List ℕ) : Type 0 where
  pub r : ℕ
  pub time : r < 7
  pub fixed : clear_of r (get_or s r 0) ≡ false

-- no start byte of the time has a fixed bit set
abbrev pub ClearTime : List ℕ → Type 0
ClearTime s = (r : ℕ) → r < 7 → clear_of r (get_or s r 0) ≡ true

-- refusal n of a power-on is due: 5 for start bytes that are not 19, then 6, and 0 where neither is
pub data PowerDue (s : List ℕ) : ℕ → Type 0 where
  due5 : (length s ≡ 19 → ⊥) → PowerDue s 5
  due6 : length s ≡ 19 → Row6 s → PowerDue s 6
  due0 : length s ≡ 19 → ClearTime s → PowerDue s 0
