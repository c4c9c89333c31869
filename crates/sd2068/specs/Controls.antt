-- The numbers that stand in the control registers. (rules 2.5 and 2.6)
use Rattle.std.specs.Prelude.{Bool, cond, ℕ, ◌+◌, ◌/◌, ◌%◌}
use Rattle.control.specs.Control.{bit_of}

-- of 11h
abbrev pub arst_of : ℕ → Bool
arst_of ctr3 = bit_of 0x80 ctr3

abbrev pub tds_of : ℕ → ℕ
tds_of ctr3 = ctr3 / 0x10 % 4

abbrev pub fs_of : ℕ → ℕ
fs_of ctr3 = ctr3 % 0x10

-- of 10h: INTS, of its two bits
abbrev pub ints_of : Bool → Bool → ℕ
ints_of ints1 ints0 = cond ints1 2 0 + cond ints0 1 0
