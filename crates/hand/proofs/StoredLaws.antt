-- A stored byte moves the hand at the registers of the time and at the trim only, and 00h alone sets the counter. Assumes nothing.
use Rattle.std.proofs.Common.{◌≡◌, refl, ℕ, ◌≤◌, ◌<◌, arith}
use Rattle.std.proofs.lemmas.Bool.Decides.{nat_tests}
use Rattle.registers.specs.Fixed.{kept_of}
use Rattle.registers.specs.Seven.{with_byte_of}
use Rattle.hand.specs.Hand.{stored_of}
use Rattle.hand.specs.declared.hand.Hand.{Hand}

-- what has no register at the address stays
pub hand_kept : (h : Hand) (a b : ℕ) → 7 ≤ a → (a ≡ 0x12 → ⊥) → stored_of h a b ≡ h
unfolding stored_of
hand_kept h a b past other = grind (arith, nat_tests)

-- the seconds begin the second anew
pub stored_second : (h : Hand) (b : ℕ) → stored_of h 0x00 b ≡ record { time = with_byte_of h.time 0x00 (kept_of 0x00 b); counter = 0; trim = h.trim }
unfolding stored_of
stored_second h b = refl

-- and no other byte of the time does
pub stored_later : (h : Hand) (a b : ℕ) → 1 ≤ a → a < 7 → stored_of h a b ≡ record { time = with_byte_of h.time a (kept_of a b); counter = h.counter; trim = h.trim }
unfolding stored_of
stored_later h a b past low = grind (arith, nat_tests)
