-- What the types of the code say and a list does not: how long the arrays of a state are, and that a byte is one.
use Rattle.std.specs.Prelude.{◌≡◌, List, ℕ, ◌<◌, length, get_or}
use Rattle.sd2068.specs.declared.clock.Clock.{Clock}

pub record Arrays (c : Clock) : Type 0 where
  pub ram : length c.ram ≡ 12
  pub latched : length c.latched ≡ 7

pub record Bytes (s : List ℕ) : Type 0 where
  pub long : length s ≡ 61
  pub each : (i : ℕ) → get_or s i 0 < 256
