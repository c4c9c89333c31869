-- A stored byte keeps 11h without its fixed bit, and a written one the lock in its order. Assumes nothing.
use Rattle.std.proofs.Common.{◌≡◌, true, ℕ, arith}
use Rattle.std.proofs.lemmas.Bool.Decides.{nat_tests}
use Rattle.registers.proofs.FixedLaws.{clear_kept}
use Rattle.control.specs.Control as control
use Rattle.control.specs.Control.{bit_of, by_ctr3}
use Rattle.control.specs.Lock as lock
use Rattle.control.specs.declared.control.Control.{Control}
use Rattle.control.specs.declared.lock.Lock.{Lock}

module _ (c : Control) (w : control.well_of c ≡ true) where
  pub stored_well : (a b : ℕ) → control.well_of (control.stored_of c a b) ≡ true
  unfolding control.well_of control.stored_of
  stored_well a b = grind (arith, nat_tests, clear_kept)

pub written_well : (l : Lock) → lock.well_of l ≡ true → (a b : ℕ) → lock.well_of (lock.written_of l a b) ≡ true
unfolding lock.well_of lock.written_of
written_well l w a b = grind (arith, nat_tests)
