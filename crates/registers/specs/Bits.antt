-- The bits of a byte by their numbers. (rule 2.3)
use Rattle.std.specs.Prelude.{Bool, ℕ, ◌/◌, ◌%◌, ◌^◌, eqb}

-- bit n is 1; past bit 7 no byte has one
abbrev pub bit_at_of : ℕ → ℕ → Bool
bit_at_of b n = eqb (b / 2 ^ n % 2) 1
