-- Rows 2 and 3 of the refusals' table, which an event's own fields earn, each written from its row alone. (rules 8.1 and 8.3)
use Rattle.std.specs.Prelude.{◌≡◌, ℕ, ◌<◌}

-- row 2: a kind over 6
abbrev pub Row2 : ℕ → Type 0
Row2 k = 6 < k

-- row 3, of kind k, byte b and count n: an unused field that is not 0, or pulses that are 0; the byte is kind 2's, the count kind 5's
pub data Row3 (k b n : ℕ) : Type 0 where
  byte : (k ≡ 2 → ⊥) → (b ≡ 0 → ⊥) → Row3 k b n
  count : (k ≡ 5 → ⊥) → (n ≡ 0 → ⊥) → Row3 k b n
  pulses : k ≡ 5 → n ≡ 0 → Row3 k b n

-- neither row
abbrev pub Sound : ℕ → ℕ → ℕ → Type 0
Sound k b n = (Row2 k → ⊥) × (Row3 k b n → ⊥)
