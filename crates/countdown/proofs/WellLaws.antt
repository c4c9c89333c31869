-- A pulse and a stored byte keep the countdown within its bounds. Assumes nothing.
use Rattle.std.proofs.Common.{◌≡◌, Bool, true, ℕ, ◌≤◌, arith}
use Rattle.std.proofs.lemmas.Bool.Decides.{nat_tests}
use Rattle.countdown.specs.Countdown.{limit_of, counted_of, lessened_of, stored_of, well_of}
use Rattle.countdown.specs.declared.Countdown.{Countdown}

-- the parts of a countdown that is well formed
pub record Well (c : Countdown) : Type 0 where
  pub count : c.count ≤ c.reload
  pub prescaler : c.prescaler ≤ 1966079
  pub pulse : c.pulse ≤ 8192

module _ (c : Countdown) where
  pub parts : well_of c ≡ true → Well c
  unfolding well_of
  parts h = record { count = grind (arith, nat_tests); prescaler = grind (arith, nat_tests); pulse = grind (arith, nat_tests) }

  pub whole : Well c → well_of c ≡ true
  unfolding well_of
  whole w = grind (arith, nat_tests)

-- the longest tick
pub limit_most : (tds : ℕ) → limit_of tds ≤ 1966080
limit_most tds = grind (arith, nat_tests)

module _ (c : Countdown) (w : Well c) where
  pub counted_well : (on : Bool) (tds : ℕ) → Well (counted_of c on tds)
  unfolding counted_of
  counted_well on tds =
      record {
        count = grind (arith, nat_tests);
        prescaler = grind (arith, nat_tests, limit_most);
        pulse = grind (arith, nat_tests);
      }

  pub lessened_well : (n : ℕ) → Well (lessened_of c n)
  lessened_well n = record { count = w.count; prescaler = w.prescaler; pulse = omega (arith, w.pulse) }

  pub stored_well : (a b : ℕ) → Well (stored_of c a b)
  unfolding stored_of
  stored_well a b = record { count = grind (arith, nat_tests); prescaler = grind (arith, nat_tests); pulse = w.pulse }
