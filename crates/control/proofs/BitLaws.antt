-- Each bit of 0Fh and of 10h is had back from the byte, by tests of all their values that antt computes. Assumes nothing.
use Rattle.std.proofs.Common.{◌≡◌, Bool, cond, ℕ, ◌+◌, T}
use mathlib.Core.Bool.{beq}
use Rattle.fields.proofs.Bits.{Test, all_of, each_bit, same}
use Rattle.control.specs.Control.{bit_of}

-- 0Fh is put together of its five bits and has no other
abbrev pub ctr1 : Bool → Bool → Bool → Bool → Bool → ℕ
ctr1 a b c d e = cond a 0x80 0 + cond b 0x20 0 + cond c 0x10 0 + cond d 0x04 0 + cond e 0x01 0

-- 10h, of its eight bits
abbrev pub ctr2 : Bool → Bool → Bool → Bool → Bool → Bool → Bool → Bool → ℕ
ctr2 a b c d e f g h =
    cond a 0x80 0 + cond b 0x40 0 + cond c 0x20 0 + cond d 0x10 0 + cond e 0x08 0 + cond f 0x04 0 + cond g 0x02 0 + cond h 0x01 0

module _ (a b c d e : Bool) where
  of_ctr1 : (t : Test 5) → T (all_of 5 t) → T (t a b c d e)
  of_ctr1 t h = each_bit 5 t h a b c d e

  pub wrtc3 : bit_of 0x80 (ctr1 a b c d e) ≡ a
  wrtc3 = same _ _ (of_ctr1 (λ a b c d e. beq (bit_of 0x80 (ctr1 a b c d e)) a) tt)

  pub intaf : bit_of 0x20 (ctr1 a b c d e) ≡ b
  intaf = same _ _ (of_ctr1 (λ a b c d e. beq (bit_of 0x20 (ctr1 a b c d e)) b) tt)

  pub intdf : bit_of 0x10 (ctr1 a b c d e) ≡ c
  intdf = same _ _ (of_ctr1 (λ a b c d e. beq (bit_of 0x10 (ctr1 a b c d e)) c) tt)

  pub wrtc2 : bit_of 0x04 (ctr1 a b c d e) ≡ d
  wrtc2 = same _ _ (of_ctr1 (λ a b c d e. beq (bit_of 0x04 (ctr1 a b c d e)) d) tt)

  pub rtcf : bit_of 0x01 (ctr1 a b c d e) ≡ e
  rtcf = same _ _ (of_ctr1 (λ a b c d e. beq (bit_of 0x01 (ctr1 a b c d e)) e) tt)

module _ (a b c d e f g h : Bool) where
  of_ctr2 : (t : Test 8) → T (all_of 8 t) → T (t a b c d e f g h)
  of_ctr2 t p = each_bit 8 t p a b c d e f g h

  pub wrtc1 : bit_of 0x80 (ctr2 a b c d e f g h) ≡ a
  wrtc1 = same _ _ (of_ctr2 (λ a b c d e f g h. beq (bit_of 0x80 (ctr2 a b c d e f g h)) a) tt)

  pub im : bit_of 0x40 (ctr2 a b c d e f g h) ≡ b
  im = same _ _ (of_ctr2 (λ a b c d e f g h. beq (bit_of 0x40 (ctr2 a b c d e f g h)) b) tt)

  pub ints1 : bit_of 0x20 (ctr2 a b c d e f g h) ≡ c
  ints1 = same _ _ (of_ctr2 (λ a b c d e f g h. beq (bit_of 0x20 (ctr2 a b c d e f g h)) c) tt)

  pub ints0 : bit_of 0x10 (ctr2 a b c d e f g h) ≡ d
  ints0 = same _ _ (of_ctr2 (λ a b c d e f g h. beq (bit_of 0x10 (ctr2 a b c d e f g h)) d) tt)

  pub fobat : bit_of 0x08 (ctr2 a b c d e f g h) ≡ e
  fobat = same _ _ (of_ctr2 (λ a b c d e f g h. beq (bit_of 0x08 (ctr2 a b c d e f g h)) e) tt)

  pub intde : bit_of 0x04 (ctr2 a b c d e f g h) ≡ f
  intde = same _ _ (of_ctr2 (λ a b c d e f g h. beq (bit_of 0x04 (ctr2 a b c d e f g h)) f) tt)

  pub intae : bit_of 0x02 (ctr2 a b c d e f g h) ≡ g
  intae = same _ _ (of_ctr2 (λ a b c d e f g h. beq (bit_of 0x02 (ctr2 a b c d e f g h)) g) tt)

  pub intfe : bit_of 0x01 (ctr2 a b c d e f g h) ≡ h
  intfe = same _ _ (of_ctr2 (λ a b c d e f g h. beq (bit_of 0x01 (ctr2 a b c d e f g h)) h) tt)
