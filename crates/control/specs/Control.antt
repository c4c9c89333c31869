-- What 10h and 11h set beside the lock. (rules 2.5 to 2.7 and 8.2)
use Rattle.std.specs.Prelude.{Bool, cond, ℕ, ◌/◌, ◌%◌, eqb}
use Rattle.registers.specs.Fixed.{kept_of, clear_of}
use Rattle.control.specs.declared.control.Control.{Control}

-- the bit of weight w
abbrev pub bit_of : ℕ → ℕ → Bool
bit_of w b = eqb (b / w % 2) 1

-- what 10h, but for the lock's bit, and 11h hold
abbrev pub held_in : ℕ → ℕ → Control
held_in b k =
    record {
      im = bit_of 0x40 b;
      ints1 = bit_of 0x20 b;
      ints0 = bit_of 0x10 b;
      fobat = bit_of 0x08 b;
      intde = bit_of 0x04 b;
      intae = bit_of 0x02 b;
      intfe = bit_of 0x01 b;
      ctr3 = k;
    }

-- the bits of 10h below the lock's
abbrev pub by_ctr2 : Control → ℕ → Control
by_ctr2 c b = held_in b c.ctr3

-- 11h is held as its byte
abbrev pub by_ctr3 : Control → ℕ → Control
by_ctr3 c k =
    record {
      im = c.im;
      ints1 = c.ints1;
      ints0 = c.ints0;
      fobat = c.fobat;
      intde = c.intde;
      intae = c.intae;
      intfe = c.intfe;
      ctr3 = k;
    }

-- a byte stored at register a
unfoldable pub stored_of : Control → ℕ → ℕ → Control
stored_of c a b = cond (eqb a 0x10) (by_ctr2 c b) (cond (eqb a 0x11) (by_ctr3 c (kept_of a b)) c)

-- the fixed bit of 11h is 0
unfoldable pub well_of : Control → Bool
well_of c = clear_of 0x11 c.ctr3
