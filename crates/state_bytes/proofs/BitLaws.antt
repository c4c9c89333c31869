-- A byte of 0Fh without a fixed bit, and any of 10h, is had back from its bits. Assumes nothing.
use mathlib.Core.Path.{◌≡◌, ◌∙◌}
use mathlib.Core.Bool.{true}
use Prim.Native.Nat.{ℕ, ◌<◌}
use borrow.Author.Tests.{eqb-true}
use Rattle.fields.proofs.Below.{agree}
use Rattle.control.specs.Control.{bit_of}
use Rattle.control.proofs.BitLaws.{ctr1, ctr2}
use Rattle.registers.specs.Fixed.{kept_ctr1, kept_control, kept_of, clear_of}

-- a byte put together anew of the bits of 0Fh, and of those of 10h
abbrev bits1 : ℕ → ℕ
bits1 b = ctr1 (bit_of 0x80 b) (bit_of 0x20 b) (bit_of 0x10 b) (bit_of 0x04 b) (bit_of 0x01 b)

abbrev bits2 : ℕ → ℕ
bits2 b =
    ctr2 (bit_of 0x80 b) (bit_of 0x40 b) (bit_of 0x20 b) (bit_of 0x10 b) (bit_of 0x08 b) (bit_of 0x04 b) (bit_of 0x02 b) (bit_of 0x01 b)

kept_bits : (b : ℕ) → b < 256 → bits1 b ≡ kept_ctr1 b
kept_bits = agree bits1 kept_ctr1 256 tt

pub ctr1_again : (b : ℕ) → b < 256 → clear_of 0x0F b ≡ true → bits1 b ≡ b
unfolding clear_of kept_of kept_control
ctr1_again b h e = kept_bits b h ∙ eqb-true (kept_ctr1 b) b e

pub ctr2_again : (b : ℕ) → b < 256 → bits2 b ≡ b
ctr2_again = agree bits2 (λ b. b) 256 tt
