-- A register keeps of a byte the bits that are not fixed, by a test of all that antt computes; so a byte that it keeps whole has no fixed bit set. Assumes nothing.
use Rattle.std.proofs.Common.{◌≡◌, sym, ap, ◌∙◌, Bool, true, false, ◌&&◌, not, ◌↔◌, ℕ, ◌<◌, T, ltb, ltb→lt, eq-eqb, eqb-true, arith}
use mathlib.Core.Bool.{beq}
use Rattle.std.proofs.lemmas.Grind.{common_steps}
use Rattle.fields.proofs.Below.{all, each}
use Rattle.fields.proofs.Bits.{same}
use Rattle.registers.specs.Fixed.{kept_time, kept_alarm, kept_control, kept_of, clear_of}
use Rattle.promises.specs.Registers.{bit}
use Rattle.promises.specs.Fixed.{fixed}
use Rattle.promises.proofs.BitLaws.{same_bits}

-- a test of every register and byte
every : (f : ℕ → ℕ → Bool) → T (all (λ (a : ℕ). all (f a) 256) 32) → (a b : ℕ) → a < 32 → b < 256 → T (f a b)
every f t a b h l = each (f a) 256 (each (λ (a : ℕ). all (f a) 256) 32 t a h) b l

-- register a keeps bit n of b unless it is fixed
pub kept_bits : (a n b : ℕ) → a < 32 → n < 8 → b < 256 → bit n (kept_of a b) ≡ (bit n b && not (fixed a n))
unfolding fixed kept_of kept_time kept_alarm kept_control
kept_bits a n b h k l =
    same _ _
    (each (λ (n : ℕ). beq (bit n (kept_of a b)) (bit n b && not (fixed a n))) 8
    (every (λ (a b : ℕ). all (λ (n : ℕ). beq (bit n (kept_of a b)) (bit n b && not (fixed a n))) 8) tt a b h l) n k)

-- and what it keeps is a byte
pub kept_byte : (a b : ℕ) → a < 32 → b < 256 → kept_of a b < 256
unfolding kept_of kept_time kept_alarm kept_control
kept_byte a b h l = ltb→lt _ _ (every (λ (a b : ℕ). ltb (kept_of a b) 256) tt a b h l)

-- a bit that stays though it is fixed is 0, and one that is 0 where it is fixed stays
lost : (x f : Bool) → (x && not f) ≡ x → f ≡ true → x ≡ false
lost x f e h = grind (arith, common_steps)

stays : (x f : Bool) → (f ≡ true → x ≡ false) → (x && not f) ≡ x
stays x f e = grind (arith, common_steps)

-- b is clear at register a exactly if each bit of b that is fixed there is 0
module _ (a b : ℕ) (h : a < 32) (l : b < 256) where
  clear_zeros : clear_of a b ≡ true → (n : ℕ) → n < 8 → fixed a n ≡ true → bit n b ≡ false
  unfolding clear_of
  clear_zeros e n k = lost (bit n b) (fixed a n) (sym (kept_bits a n b h k l) ∙ ap (bit n) (eqb-true (kept_of a b) b e))

  zeros_clear : ((n : ℕ) → n < 8 → fixed a n ≡ true → bit n b ≡ false) → clear_of a b ≡ true
  unfolding clear_of
  zeros_clear z =
      eq-eqb (kept_of a b) b
      (same_bits (kept_of a b) b (kept_byte a b h l) l (λ n k. kept_bits a n b h k l ∙ stays (bit n b) (fixed a n) (z n k)))

  pub clear_bits : (clear_of a b ≡ true) ↔ ((n : ℕ) → n < 8 → fixed a n ≡ true → bit n b ≡ false)
  clear_bits = (clear_zeros, zeros_clear)
