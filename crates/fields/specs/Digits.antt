-- A field of two BCD digits. (rules 3.1 to 3.3)
use Rattle.std.specs.Prelude.{Bool, cond, ◌&&◌, ℕ, ◌+◌, ◌*◌, ◌/◌, ◌%◌, leb, ltb}

-- the number that the digits of x say (rule 3.1)
abbrev pub value_of : ℕ → ℕ
value_of x = x / 16 * 10 + x % 16

-- the byte whose digits say n, of a longer number the last two
abbrev pub byte_of : ℕ → ℕ
byte_of n = n / 10 % 10 * 16 + n % 10

-- both digits are below ten, and x is one of the field's bytes from first to last (rule 3.2)
abbrev pub legal_of : ℕ → ℕ → ℕ → Bool
legal_of first last x = ltb (x % 16) 10 && ltb (x / 16) 10 && leb first x && leb x last

-- the next value; after the last one, and from an illegal one, the first (rule 3.3)
unfoldable pub step_of : ℕ → ℕ → ℕ → ℕ
step_of first last x = cond (legal_of first last x && ltb x last) (byte_of (value_of x + 1)) first
