-- The 32 registers as they stand, and as the bus sees them. (rules 2.1 to 2.6, 2.12, 5.10 and 6.7)
use Rattle.std.specs.Prelude.{cond, List, [], ◌∷◌, ◌++◌, ℕ, zero, suc, ◌-◌, eqb, ltb, get_or}
use Rattle.registers.specs.Seven.{byte_at_of}
use Rattle.control.specs.Lock.{ctr1_of, ctr2_of}
use Rattle.sd2068.specs.declared.clock.Clock.{Clock}

-- 0Eh to 13h
unfoldable pub control_at_of : Clock → ℕ → ℕ
control_at_of c a =
    cond (eqb a 0x0E) c.alarm.enable
    (cond (eqb a 0x0F) (ctr1_of c.lock c.alarm.flag c.countdown.flag c.rtcf)
    (cond (eqb a 0x10) (ctr2_of c.lock c.control)
    (cond (eqb a 0x11) c.control.ctr3
    (cond (eqb a 0x12) c.hand.trim
    c.countdown.count))))

-- any register as it stands; an address over 1Fh has none and shows FFh
unfoldable pub register_of : Clock → ℕ → ℕ
register_of c a =
    cond (ltb a 0x07) (byte_at_of c.hand.time a)
    (cond (ltb a 0x0E) (byte_at_of c.alarm.at (a - 0x07))
    (cond (ltb a 0x14) (control_at_of c a)
    (cond (ltb a 0x20) (get_or c.ram (a - 0x14) 0)
    0xFF)))

-- as a read on the bus sees it: 00h to 06h from the latch
unfoldable pub shown_of : Clock → ℕ → ℕ
shown_of c a = cond (ltb a 0x07) (get_or c.latched a 0) (register_of c a)

-- the first n registers
unfoldable pub registers_to : Clock → ℕ → List ℕ
registers_to c zero = []
registers_to c (suc n) = registers_to c n ++ (register_of c n ∷ [])

abbrev pub registers_of : Clock → List ℕ
registers_of c = registers_to c 32
