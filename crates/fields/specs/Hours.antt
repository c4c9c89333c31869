-- Hours in both modes, each a row of 24 codes, midnight first. (rules 3.4 and 3.5)
use Rattle.std.specs.Prelude.{Bool, cond, List, [], ◌∷◌, ℕ, suc, ◌+◌, ltb, eqb, get_or}
use Rattle.fields.specs.declared.hours.HourMode.{HourMode}
use Rattle.fields.specs.declared.hours.HourMode.TheVariants.{Twelve, TwentyFour}

-- bit 7 of a byte tells the mode (rule 3.4)
abbrev pub mode_of : ℕ → HourMode
mode_of h = cond (ltb h 0x80) Twelve TwentyFour

-- the 24 codes of a mode in their order (rule 3.5)
unfoldable pub codes : HourMode → List ℕ
codes Twelve =
    0x12 ∷ 0x01 ∷ 0x02 ∷ 0x03 ∷ 0x04 ∷ 0x05 ∷ 0x06 ∷ 0x07 ∷ 0x08 ∷ 0x09 ∷ 0x10 ∷ 0x11
    ∷ 0x32 ∷ 0x21 ∷ 0x22 ∷ 0x23 ∷ 0x24 ∷ 0x25 ∷ 0x26 ∷ 0x27 ∷ 0x28 ∷ 0x29 ∷ 0x30 ∷ 0x31 ∷ []
codes TwentyFour =
    0x80 ∷ 0x81 ∷ 0x82 ∷ 0x83 ∷ 0x84 ∷ 0x85 ∷ 0x86 ∷ 0x87 ∷ 0x88 ∷ 0x89 ∷ 0x90 ∷ 0x91
    ∷ 0x92 ∷ 0x93 ∷ 0x94 ∷ 0x95 ∷ 0x96 ∷ 0x97 ∷ 0x98 ∷ 0x99 ∷ 0xa0 ∷ 0xa1 ∷ 0xa2 ∷ 0xa3 ∷ []

-- the mode's first code
abbrev pub first_hour : HourMode → ℕ
first_hour Twelve = 0x12
first_hour TwentyFour = 0x80

-- the place of x in a list, and the list's length where it is not there
unfoldable pub place_of : ℕ → List ℕ → ℕ
place_of x [] = 0
place_of x (c ∷ cs) = cond (eqb x c) 0 (suc (place_of x cs))

-- the hour of the day, 0 to 23, and 24 for a byte that is no hour
unfoldable pub hour_number_of : ℕ → ℕ
hour_number_of h = place_of h (codes (mode_of h))

-- a code of its mode
abbrev pub legal_hour_of : ℕ → Bool
legal_hour_of h = ltb (hour_number_of h) 24

-- the code of an hour of the day, and the first one for a number past 23
unfoldable pub hour_byte_of : HourMode → ℕ → ℕ
hour_byte_of m n = get_or (codes m) n (first_hour m)

-- the code after h; after the last one, and from an illegal one, the first of h's mode
unfoldable pub next_hour_of : ℕ → ℕ
next_hour_of h = hour_byte_of (mode_of h) (hour_number_of h + 1)
