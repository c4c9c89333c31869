-- The arithmetic of the hours gives the two rows of codes, by a test over every byte. Assumes nothing.
use mathlib.Core.Path.{◌≡◌, refl}
use mathlib.Core.Bool.{Bool, true, false, cond, ◌&&◌}
use mathlib.Core.List.{List, [], ◌∷◌}
use Prim.Native.Nat.{ℕ, suc, ◌+◌, ◌*◌, ◌/◌, ◌%◌, ◌≤◌, ◌<◌}
use native.Mathlib.Omega.{arith}
use lib.ListN.{length}
use lib.Dec.{leb, ltb, eqb}
use Rattle.fields.specs.Digits.{legal_of, value_of, byte_of}
use Rattle.fields.specs.Hours.{mode_of, codes, place_of, hour_number_of, hour_byte_of}
use Rattle.fields.specs.declared.hours.HourMode.{HourMode}
use Rattle.fields.specs.declared.hours.HourMode.TheVariants.{Twelve, TwentyFour}
use Rattle.fields.proofs.Below.{agree}

abbrev pub number12_by : ℕ → ℕ
number12_by h = cond (legal_of 0x01 0x12 (h % 32) && ltb h 0x40) (value_of (h % 32) % 12 + h / 32 * 12) 24

abbrev pub number24_by : ℕ → ℕ
number24_by h = cond (legal_of 0x00 0x23 (h % 128) && leb 0x80 h) (value_of (h % 128)) 24

abbrev pub byte12_by : ℕ → ℕ
byte12_by n = cond (ltb n 24) (byte_of ((n % 12 + 11) % 12 + 1) + n / 12 % 2 * 32) 0x12

abbrev pub byte24_by : ℕ → ℕ
byte24_by n = cond (ltb n 24) (byte_of (n % 24) + 0x80) 0x80

pub number12_right : (h : ℕ) → h < 256 → number12_by h ≡ place_of h (codes Twelve)
unfolding codes place_of
number12_right = agree number12_by (λ (h : ℕ). place_of h (codes Twelve)) 256 tt

pub number24_right : (h : ℕ) → h < 256 → number24_by h ≡ place_of h (codes TwentyFour)
unfolding codes place_of
number24_right = agree number24_by (λ (h : ℕ). place_of h (codes TwentyFour)) 256 tt

pub byte12_right : (n : ℕ) → n < 256 → byte12_by n ≡ hour_byte_of Twelve n
unfolding codes hour_byte_of
byte12_right = agree byte12_by (hour_byte_of Twelve) 256 tt

pub byte24_right : (n : ℕ) → n < 256 → byte24_by n ≡ hour_byte_of TwentyFour n
unfolding codes hour_byte_of
byte24_right = agree byte24_by (hour_byte_of TwentyFour) 256 tt

-- a place is at most the length, so every hour number is at most 24
picked_small : (b : Bool) (n k : ℕ) → n ≤ k → cond b 0 (suc n) ≤ suc k
picked_small true n k h = omega arith
picked_small false n k h = omega arith

place_small : (x : ℕ) (l : List ℕ) → place_of x l ≤ length l
unfolding place_of
place_small x [] = omega arith
place_small x (c ∷ cs) = picked_small (eqb x c) (place_of x cs) (length cs) (place_small x cs)

pub codes_24 : (m : HourMode) → length (codes m) ≡ 24
unfolding codes
codes_24 Twelve = refl
codes_24 TwentyFour = refl

pub hour_small : (h : ℕ) → hour_number_of h ≤ 24
unfolding hour_number_of
hour_small h = omega (arith, place_small h (codes (mode_of h)), codes_24 (mode_of h))
