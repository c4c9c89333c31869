-- Several steps of a counter at once: below its limit they are a sum, and running down a difference. Assumes nothing.
use Rattle.std.proofs.Common.{◌≡◌, ◌∙◌, ℕ, suc, ◌+◌, ◌-◌, ◌≤◌, add-zero, arith}
use Rattle.std.proofs.lemmas.Bool.Decides.{nat_tests}
use Rattle.registers.specs.Counters.{less_of, more_of, within_of}

-- as many as leave x below the limit, of n
module _ (x limit n : ℕ) where
  pub record Within (k : ℕ) : Type 0 where
    pub asked : k ≤ n
    pub room : k ≤ limit - 1 - x

  pub within_room : Within (within_of x limit n)
  within_room = record { asked = grind (arith, nat_tests); room = grind (arith, nat_tests) }

-- 32 bits hold what stays below a limit of 32 bits
module _ (x limit k : ℕ) (fits : limit ≤ 0x100000000) (room : k ≤ limit - 1 - x) where
  pub more_room : more_of x k ≡ x + k
  more_room = grind (arith, nat_tests)

module _ (x : ℕ) where
  pub more_none : more_of x 0 ≡ x
  more_none = more_room x 0 0 (omega arith) (omega arith) ∙ add-zero x

  pub less_none : less_of x 0 ≡ x
  less_none = omega arith

  pub less_more : (k : ℕ) → less_of (less_of x k) 1 ≡ less_of x (suc k)
  less_more k = omega arith
