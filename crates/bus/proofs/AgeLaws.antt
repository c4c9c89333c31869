-- An open transfer ages by the pulses and closes at 16,384. Assumes nothing.
use Rattle.std.proofs.Common.{◌≡◌, refl, ℕ, ◌+◌, ◌≤◌, ◌<◌, arith}
use Rattle.std.proofs.lemmas.Bool.Decides.{nat_tests}
use Rattle.bus.specs.declared.phase.Mode.{Mode}
use Rattle.bus.specs.declared.phase.Transfer.{Transfer}
use Rattle.bus.specs.declared.phase.Phase.{Phase}
use Rattle.bus.specs.declared.phase.Phase.TheVariants.{Closed, Open}
use Rattle.bus.specs.declared.phase.Bus.{Bus}
use Rattle.bus.specs.Phase.{closed_bus, older_in, older_of}

module _ (p : ℕ) (m : Mode) (t : Transfer) (n : ℕ) where
  pub stays_open : t.age + n < 16384 → older_of (record { pointer = p; phase = Open m t }) n ≡ record { pointer = p; phase = Open m (record { age = t.age + n; marked = t.marked }) }
  stays_open h = grind (arith, nat_tests)

  pub times_out : 16384 ≤ t.age + n → older_of (record { pointer = p; phase = Open m t }) n ≡ closed_bus
  times_out h = grind (arith, nat_tests)

-- pulses and then more of them, also where the transfer closes on the way
older_in_lem : (f : Phase) (p k n : ℕ) → older_of (older_in f p k) n ≡ older_in f p (k + n)
older_in_lem Closed p k n = refl
older_in_lem (Open m t) p k n = grind (arith, nat_tests)

pub older_add : (b : Bus) (k n : ℕ) → older_of (older_of b k) n ≡ older_of b (k + n)
older_add b k n = older_in_lem b.phase b.pointer k n
