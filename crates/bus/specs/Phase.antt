-- The phase of the bus, and what time, START and STOP do to it. (rules 6.1, 6.2, 6.5, 6.7, 6.10 to 6.12 and 8.2)
use Rattle.std.specs.Prelude.{Bool, false, cond, ◌&&◌, ℕ, ◌+◌, ltb, leb}
use Rattle.bus.specs.declared.phase.Mode.{Mode}
use Rattle.bus.specs.declared.phase.Mode.TheVariants.{Address}
use Rattle.bus.specs.declared.phase.Transfer.{Transfer}
use Rattle.bus.specs.declared.phase.Phase.{Phase}
use Rattle.bus.specs.declared.phase.Phase.TheVariants.{Closed, Open}
use Rattle.bus.specs.declared.phase.Bus.{Bus}

-- the pointer after an access: 1Fh is followed by 00h
abbrev pub next_of : ℕ → ℕ
next_of pointer = cond (ltb pointer 0x1F) (pointer + 1) 0x00

-- after START an address is awaited; a transfer that begins is new
abbrev pub started_in : Phase → Phase
started_in Closed = Open Address (record { age = 0; marked = false })
started_in (Open m t) = Open Address t

abbrev pub started_of : Bus → Bus
started_of b = record { pointer = b.pointer; phase = started_in b.phase }

-- what STOP leaves: no transfer is open and the pointer is 0
abbrev pub closed_bus : Bus
closed_bus = record { pointer = 0x00; phase = Closed }

-- an open transfer n pulses on: at 16,384 it closes
abbrev pub aged_of : ℕ → Mode → Transfer → ℕ → Bus
aged_of pointer m t n =
    cond (ltb (t.age + n) 16384)
    (record { pointer = pointer; phase = Open m (record { age = t.age + n; marked = t.marked }) })
    closed_bus

abbrev pub older_in : Phase → ℕ → ℕ → Bus
older_in Closed pointer n = record { pointer = pointer; phase = Closed }
older_in (Open m t) pointer n = aged_of pointer m t n

abbrev pub older_of : Bus → ℕ → Bus
older_of b n = older_in b.phase b.pointer n

-- 0Fh was read in the open transfer
abbrev pub marked_in : Phase → Bool
marked_in Closed = false
marked_in (Open m t) = t.marked

abbrev pub marked_of : Bus → Bool
marked_of b = marked_in b.phase

-- the pointer is at most 31 and the age of an open transfer at most 16,383
abbrev pub age_in : Phase → Bool → Bool
age_in Closed ok = ok
age_in (Open m t) ok = ok && leb t.age 16383

abbrev pub well_of : Bus → Bool
well_of b = age_in b.phase (leb b.pointer 31)
