-- The pointer steps round the 32 registers and never past them. Assumes nothing.
use Rattle.std.proofs.Common.{◌≡◌, ℕ, ◌+◌, ◌%◌, ◌≤◌, ◌<◌, arith}
use Rattle.std.proofs.lemmas.Bool.Decides.{nat_tests}
use Rattle.bus.specs.Phase.{next_of}

module _ (p : ℕ) where
  pub next_small : next_of p ≤ 31
  next_small = grind (arith, nat_tests)

  pub next_wraps : p < 32 → next_of p ≡ (p + 1) % 32
  next_wraps h = grind (arith, nat_tests)
