-- How many pulses a second has. (rules 4.2 and 4.3)
use Rattle.std.specs.Prelude.{Bool, cond, ◌||◌, ℕ, ◌*◌, ◌-◌, ◌%◌, ltb, eqb, ℤ, pos, ◌+ℤ◌, ◌-ℤ◌, nat_abs}

-- the change in pulses for the low seven bits F of 12h
unfoldable pub change_of : ℕ → ℤ
change_of f =
    cond (ltb f 2) (pos 0)
    (cond (ltb f 64) (pos (2 * (f - 1)))
    (cond (ltb f 66) (pos 0)
    (pos 0 -ℤ pos (2 * (128 - f)))))

-- seconds read 00h, 20h or 40h
abbrev pub trimmed_of : ℕ → Bool
trimmed_of seconds = eqb seconds 0x00 || eqb seconds 0x20 || eqb seconds 0x40

-- the length of the present second
unfoldable pub length_of : ℕ → ℕ → ℕ
length_of seconds trim = cond (trimmed_of seconds) (nat_abs (pos 32768 +ℤ change_of (trim % 128))) 32768
