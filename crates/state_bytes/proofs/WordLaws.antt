-- A number and its bytes are had back from each other. Assumes nothing.
use Rattle.std.proofs.Common.{◌≡◌, ℕ, ◌<◌, ◌^◌, [], ◌∷◌, arith}
use Rattle.std.specs.Int.{w32, to_le_bytes}
use Rattle.state_bytes.specs.Words.{word_of, long_of, low_of, second_of, third_of, high_of}

pub word_back : (v : ℕ) → v < 65536 → word_of (low_of v) (second_of v) ≡ v
word_back v h = omega arith

pub long_back : (v : ℕ) → long_of (low_of v) (second_of v) (third_of v) (high_of v) ≡ v
long_back v = omega arith

module _ (a b : ℕ) (ha : a < 256) where
  pub low_word : low_of (word_of a b) ≡ a
  low_word = omega arith

  pub second_word : b < 256 → second_of (word_of a b) ≡ b
  second_word hb = omega arith

module _ (a b c d : ℕ) (ha : a < 256) where
  pub low_long : low_of (long_of a b c d) ≡ a
  low_long = omega arith

  pub second_long : b < 256 → second_of (long_of a b c d) ≡ b
  second_long hb = omega arith

  pub third_long : b < 256 → c < 256 → third_of (long_of a b c d) ≡ c
  third_long hb hc = omega arith

  pub high_long : b < 256 → c < 256 → high_of (long_of a b c d) ≡ d
  high_long hb hc = omega arith

-- the bytes of a number are the four that are named
pub named_bytes : (v : ℕ) → v < 2 ^ 32 → to_le_bytes w32 v ≡ low_of v ∷ second_of v ∷ third_of v ∷ high_of v ∷ []
named_bytes v h = grind arith
