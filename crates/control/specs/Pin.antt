-- The levels of the pin. (rules 5.12 to 5.14 and 8.1)
use Rattle.std.specs.Prelude.{Bool, cond, ◌&&◌, ℕ, ◌/◌, ◌%◌, eqb, ltb}
use Rattle.control.specs.declared.pin.Level.{Level}
use Rattle.control.specs.declared.pin.Level.TheVariants.{High, Low, Crystal}

-- the characters for the levels: H, L, and X where the pin follows the crystal
abbrev pub letter_of : Level → ℕ
letter_of High = 72
letter_of Low = 76
letter_of Crystal = 88

abbrev pub driven_of : Bool → ℕ
driven_of low = cond low (letter_of Low) (letter_of High)

-- alarm and countdown: IM 0, low while the flag is set; IM 1, low within a pin pulse while enabled
unfoldable pub bell_of : Bool → Bool → Bool → ℕ → ℕ
bell_of im flag enabled pulse = cond im (driven_of (enabled && ltb 0 pulse)) (driven_of flag)

-- the periods of FS 2 to 14, in pulses
unfoldable pub period_of : ℕ → ℕ
period_of fs =
    cond (eqb fs 2) 8
    (cond (eqb fs 3) 32
    (cond (eqb fs 4) 512
    (cond (eqb fs 5) 1024
    (cond (eqb fs 6) 2048
    (cond (eqb fs 7) 4096
    (cond (eqb fs 8) 8192
    (cond (eqb fs 9) 16384
    (cond (eqb fs 10) 32768
    (cond (eqb fs 11) 65536
    (cond (eqb fs 12) 131072
    (cond (eqb fs 13) 262144
    524288)))))))))))

-- the first half of the period
unfoldable pub low_half_of : ℕ → ℕ → Bool
low_half_of fs divider = ltb (divider % period_of fs) (period_of fs / 2)

-- FS 0 high; 1 the crystal; 15 low in the first 16,384 pulses of a second; else the divider
unfoldable pub output_of : ℕ → ℕ → ℕ → ℕ
output_of fs divider counter =
    cond (eqb fs 0) (letter_of High)
    (cond (eqb fs 1) (letter_of Crystal)
    (cond (eqb fs 15) (driven_of (ltb counter 16384))
    (driven_of (low_half_of fs divider))))

-- high unless INTFE
abbrev pub frequency_of : Bool → ℕ → ℕ → ℕ → ℕ
frequency_of intfe fs divider counter = cond intfe (output_of fs divider counter) (letter_of High)
