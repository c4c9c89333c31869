-- The list of registers has each one at its number. Assumes nothing.
use Rattle.std.proofs.Common.{◌≡◌, refl, ℕ, zero, suc, ◌<◌, length, get_or, arith}
use Rattle.std.proofs.lemmas.Grind.{common_steps}
use Rattle.sd2068.specs.declared.clock.Clock.{Clock}
use Rattle.sd2068.specs.Reading.{register_of, registers_to}

module _ (c : Clock) where
  pub registers_length : (n : ℕ) → length (registers_to c n) ≡ n
  unfolding registers_to
  registers_length zero = refl
  registers_length (suc n) = grind (arith, common_steps, registers_length n)

  pub registers_listed : (n i : ℕ) → i < n → get_or (registers_to c n) i 0 ≡ register_of c i
  unfolding registers_to
  registers_listed zero i h = absurd (omega arith)
  registers_listed (suc n) i h = grind (arith, common_steps, registers_length n, registers_listed n i)
