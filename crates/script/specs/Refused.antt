-- The line of a refusal, and what it leaves in an output. (rule 9.6)
use Rattle.std.specs.Prelude.{cond, List, [], ◌∷◌, ◌++◌, ℕ, ◌+◌, ◌/◌, ◌%◌, ltb, length, drop, Option, Some, None}

-- `refused` and a space
abbrev pub refused_word : List ℕ
refused_word = 114 ∷ 101 ∷ 102 ∷ 117 ∷ 115 ∷ 101 ∷ 100 ∷ 32 ∷ []

-- the character of a decimal digit
abbrev pub decimal_digit : ℕ → ℕ
decimal_digit d = 48 + d

-- a number below 1,000 in decimal, without leading zeros
abbrev pub decimal_of : ℕ → List ℕ
decimal_of n =
    cond (ltb n 10) (decimal_digit n ∷ [])
    (cond (ltb n 100) (decimal_digit (n / 10) ∷ decimal_digit (n % 10) ∷ [])
    (decimal_digit (n / 100) ∷ decimal_digit (n / 10 % 10) ∷ decimal_digit (n % 10) ∷ []))

-- the number and a newline, which stand behind the word
abbrev pub refused_number : ℕ → List ℕ
refused_number n = decimal_of n ++ (10 ∷ [])

abbrev pub refused_line : ℕ → List ℕ
refused_line n = refused_word ++ refused_number n

-- how many bytes are put, none where there is no room, and the output that has them
pub record Put : Type 0 where
  pub size : Option ℕ
  pub output : List ℕ

abbrev pub has_put : Option ℕ → List ℕ → Put
has_put n out = record { size = n; output = out }

-- the line stands at the beginning of the output; one that is too short for it stays as it is
unfoldable pub refused_put : ℕ → List ℕ → Put
refused_put n out =
    let line = refused_line n in
    cond (ltb (length out) (length line)) (has_put None out) (has_put (Some (length line)) (line ++ drop (length line) out))
