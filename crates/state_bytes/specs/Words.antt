-- Numbers of two and four bytes, low byte first. (rule 10.1)
use Rattle.std.specs.Prelude.{ℕ, ◌+◌, ◌*◌, ◌/◌, ◌%◌}

abbrev pub word_of : ℕ → ℕ → ℕ
word_of a b = a + 256 * b

abbrev pub long_of : ℕ → ℕ → ℕ → ℕ → ℕ
long_of a b c d = a + 256 * b + 65536 * c + 16777216 * d

abbrev pub low_of : ℕ → ℕ
low_of v = v % 256

abbrev pub second_of : ℕ → ℕ
second_of v = v / 256 % 256

abbrev pub third_of : ℕ → ℕ
third_of v = v / 65536 % 256

-- a number of four bytes has nothing above
abbrev pub high_of : ℕ → ℕ
high_of v = v / 16777216
