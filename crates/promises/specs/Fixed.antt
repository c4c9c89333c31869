-- The bits that always read 0, by register and bit number, in the rows of the rules' table. (rule 2.2)
use Rattle.std.specs.Prelude.{Bool, false, ◌&&◌, ◌||◌, List, [], ◌∷◌, ℕ, eqb}

-- x is in a list
abbrev pub among : List ℕ → ℕ → Bool
among [] x = false
among (k ∷ ks) x = eqb x k || among ks x

-- bit n of register a is fixed
unfoldable pub fixed : ℕ → ℕ → Bool
fixed a n =
    (among (0x00 ∷ 0x01 ∷ 0x07 ∷ 0x08 ∷ 0x0A ∷ 0x0E ∷ 0x12 ∷ []) a && among (7 ∷ []) n)
    || (among (0x02 ∷ 0x11 ∷ []) a && among (6 ∷ []) n)
    || (among (0x03 ∷ []) a && among (7 ∷ 6 ∷ 5 ∷ 4 ∷ 3 ∷ []) n)
    || (among (0x04 ∷ 0x09 ∷ 0x0B ∷ []) a && among (7 ∷ 6 ∷ []) n)
    || (among (0x05 ∷ 0x0C ∷ []) a && among (7 ∷ 6 ∷ 5 ∷ []) n)
    || (among (0x0F ∷ []) a && among (6 ∷ 3 ∷ 1 ∷ []) n)
