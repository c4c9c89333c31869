-- A data byte, over register numbers: the lock bits that it gives, whether it is stored, and what storing it does. (rules 2.7, 2.8 and 7.2 to 7.5)
use Rattle.std.specs.Prelude.{Bool, false, cond, ◌&&◌, ◌||◌, not, ℕ, eqb}
use Rattle.registers.specs.Fixed.{kept_of}
use Rattle.promises.specs.Registers.{bit, put, Inner, lock_open}

-- the registers r with the lock bits of byte b at p: 0Fh gives two while WRTC1 is 1; 10h gives WRTC1, and a 0 there clears the two (rules 7.3 and 7.4)
unfoldable pub locked_at : (ℕ → ℕ) → ℕ → ℕ → ℕ → ℕ
locked_at r p b a =
    cond (eqb a 0x0F && eqb p 0x0F && bit 7 (r 0x10)) (put 7 (bit 7 b) (put 2 (bit 2 b) (r 0x0F)))
    (cond (eqb a 0x0F && eqb p 0x10 && not (bit 7 b)) (put 7 false (put 2 false (r 0x0F)))
    (cond (eqb a 0x10 && eqb p 0x10) (put 7 (bit 7 b) (r 0x10))
    (r a)))

-- it is stored if the lock is open before it and after it (rule 7.2)
unfoldable pub stores_at : (ℕ → ℕ) → ℕ → ℕ → Bool
stores_at r p b = lock_open r && lock_open (locked_at r p b)

-- the registers r with a stored byte: at 0Fh it clears flags by its zeros, at 0Eh it clears INTAF too, elsewhere it replaces its register (rules 2.7 and 2.8)
unfoldable pub stored_at : (ℕ → ℕ) → ℕ → ℕ → ℕ → ℕ
stored_at r p b a =
    cond (eqb a 0x0F && eqb p 0x0F) (put 5 (bit 5 (r 0x0F) && bit 5 b) (put 4 (bit 4 (r 0x0F) && bit 4 b) (r 0x0F)))
    (cond (eqb a 0x0F && eqb p 0x0E) (put 5 false (r 0x0F))
    (cond (eqb p a) (kept_of p b)
    (r a)))

-- all registers after the byte (rule 7.2)
unfoldable pub written_at : (ℕ → ℕ) → ℕ → ℕ → ℕ → ℕ
written_at r p b a = cond (stores_at r p b) (stored_at (locked_at r p b) p b a) (locked_at r p b a)

-- the numbers inside after the byte: stored at 00h it begins the second anew, at 11h and 13h a tick; 13h is the reload too (rule 2.7)
unfoldable pub written_inner : (ℕ → ℕ) → ℕ → ℕ → Inner → Inner
written_inner r p b i =
    record {
      counter = cond (stores_at r p b && eqb p 0x00) 0 i.counter;
      reload = cond (stores_at r p b && eqb p 0x13) b i.reload;
      prescaler = cond (stores_at r p b && (eqb p 0x11 || eqb p 0x13)) 0 i.prescaler;
      alarm_pulse = i.alarm_pulse;
      countdown_pulse = i.countdown_pulse;
      divider = i.divider;
    }
