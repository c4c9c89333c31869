-- What holds of all values of some bits, by one test that antt computes. Assumes nothing.
use mathlib.Core.Path.{◌≡◌, refl}
use mathlib.Core.Bool.{Bool, true, false, ◌&&◌, beq}
use Prim.Native.Nat.{ℕ, zero, suc}
use lib.Dec.{T}
use Rattle.fields.proofs.Below.{both_left, both_right}

-- a test of n bits
abbrev pub Test : ℕ → Type 0
Test zero = Bool
Test (suc n) = Bool → Test n

-- it holds of all their values
abbrev pub all_of : (n : ℕ) → Test n → Bool
all_of zero t = t
all_of (suc n) t = all_of n (t true) && all_of n (t false)

abbrev pub Each : (n : ℕ) → Test n → Type 0
Each zero t = T t
Each (suc n) t = (b : Bool) → Each n (t b)

one_bit : (n : ℕ) (t : Test (suc n)) → T (all_of (suc n) t) → (b : Bool) → T (all_of n (t b))
one_bit n t h true = both_left (all_of n (t true)) (all_of n (t false)) h
one_bit n t h false = both_right (all_of n (t true)) (all_of n (t false)) h

pub each_bit : (n : ℕ) (t : Test n) → T (all_of n t) → Each n t
each_bit zero t h = h
each_bit (suc n) t h = λ b. each_bit n (t b) (one_bit n t h b)

-- two bits that are tested to be the same
pub same : (a b : Bool) → T (beq a b) → a ≡ b
same true true t = refl
same true false t = absurd t
same false true t = absurd t
same false false t = refl
