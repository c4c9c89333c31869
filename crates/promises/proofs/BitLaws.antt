-- The bits of 0Fh and 10h can be put one by one, by tests of all their values that antt computes. Assumes nothing.
use Rattle.std.proofs.Common.{◌≡◌, sym, ◌∙◌, Bool, ℕ, ◌<◌, eqb, eqb→eq, lit<}
use Rattle.fields.proofs.Below.{agree}
use Rattle.fields.proofs.Bits.{each_bit}
use Rattle.control.proofs.BitLaws.{ctr1, ctr2}
use Rattle.promises.specs.Registers.{bit, put}

module _ (a b c d e : Bool) where
  pub put_intaf : (x : Bool) → put 5 x (ctr1 a b c d e) ≡ ctr1 a x c d e
  put_intaf x = eqb→eq _ _ (each_bit 6 (λ x a b c d e. eqb (put 5 x (ctr1 a b c d e)) (ctr1 a x c d e)) tt x a b c d e)

  pub put_flags : (x y : Bool) → put 5 x (put 4 y (ctr1 a b c d e)) ≡ ctr1 a x y d e
  put_flags x y = eqb→eq _ _ (each_bit 7 (λ x y a b c d e. eqb (put 5 x (put 4 y (ctr1 a b c d e))) (ctr1 a x y d e)) tt x y a b c d e)

  pub put_lock : (x y : Bool) → put 7 x (put 2 y (ctr1 a b c d e)) ≡ ctr1 x b c y e
  put_lock x y = eqb→eq _ _ (each_bit 7 (λ x y a b c d e. eqb (put 7 x (put 2 y (ctr1 a b c d e))) (ctr1 x b c y e)) tt x y a b c d e)

pub put_wrtc1 : (a b c d e f g h x : Bool) → put 7 x (ctr2 a b c d e f g h) ≡ ctr2 x b c d e f g h
put_wrtc1 a b c d e f g h x =
    eqb→eq _ _ (each_bit 9 (λ a b c d e f g h x. eqb (put 7 x (ctr2 a b c d e f g h)) (ctr2 x b c d e f g h)) tt a b c d e f g h x)

-- a byte is the sum of its bits
abbrev summed : ℕ → ℕ
summed b = ctr2 (bit 7 b) (bit 6 b) (bit 5 b) (bit 4 b) (bit 3 b) (bit 2 b) (bit 1 b) (bit 0 b)

pub summed_same : (b : ℕ) → b < 256 → summed b ≡ b
summed_same = agree summed (λ (b : ℕ). b) 256 tt

-- so two bytes with the same bits are the same
pub same_bits : (x y : ℕ) → x < 256 → y < 256 → ((n : ℕ) → n < 8 → bit n x ≡ bit n y) → x ≡ y
same_bits x y h l e =
    sym (summed_same x h)
    ∙ (λ i. ctr2 (e 7 (lit< tt) i) (e 6 (lit< tt) i) (e 5 (lit< tt) i) (e 4 (lit< tt) i) (e 3 (lit< tt) i) (e 2 (lit< tt) i) (e 1 (lit< tt) i) (e 0 (lit< tt) i))
    ∙ summed_same y l
