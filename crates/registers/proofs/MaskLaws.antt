-- The masks of the fixed bits leave of a byte what the definitions say, by tests of all bytes that antt computes. Assumes nothing.
use Rattle.std.proofs.Common.{◌≡◌, ℕ, ◌%◌, ◌<◌, bit_and}
use Rattle.fields.proofs.Below.{agree}
use Rattle.registers.specs.Fixed.{without, kept_ctr1}

pub seven_bits : (b : ℕ) → b < 256 → bit_and b 0x7F ≡ b % 0x80
seven_bits = agree (λ (b : ℕ). bit_and b 0x7F) (λ (b : ℕ). b % 0x80) 256 tt

pub six_bits : (b : ℕ) → b < 256 → bit_and b 0x3F ≡ b % 0x40
six_bits = agree (λ (b : ℕ). bit_and b 0x3F) (λ (b : ℕ). b % 0x40) 256 tt

pub five_bits : (b : ℕ) → b < 256 → bit_and b 0x1F ≡ b % 0x20
five_bits = agree (λ (b : ℕ). bit_and b 0x1F) (λ (b : ℕ). b % 0x20) 256 tt

pub three_bits : (b : ℕ) → b < 256 → bit_and b 0x07 ≡ b % 0x08
three_bits = agree (λ (b : ℕ). bit_and b 0x07) (λ (b : ℕ). b % 0x08) 256 tt

pub but_bit_6 : (b : ℕ) → b < 256 → bit_and b 0xBF ≡ without 0x40 b
but_bit_6 = agree (λ (b : ℕ). bit_and b 0xBF) (without 0x40) 256 tt

pub ctr1_bits : (b : ℕ) → b < 256 → bit_and b 0xB5 ≡ kept_ctr1 b
ctr1_bits = agree (λ (b : ℕ). bit_and b 0xB5) kept_ctr1 256 tt

pub ruleset masks = (seven_bits, six_bits, five_bits, three_bits, but_bit_6, ctr1_bits)
