-- Every event of the bus keeps the pointer and the age within their bounds. Assumes nothing.
use Rattle.std.proofs.Common.{◌≡◌, Bool, true, false, ℕ, ◌≤◌, arith, leb}
use Rattle.std.proofs.lemmas.Bool.Decides.{nat_tests}
use Rattle.bus.specs.declared.phase.Mode.{Mode}
use Rattle.bus.specs.declared.phase.Mode.TheVariants.{Address, Pointer, Writing, Reading, Deaf}
use Rattle.bus.specs.declared.phase.Transfer.{Transfer}
use Rattle.bus.specs.declared.phase.Phase.{Phase}
use Rattle.bus.specs.declared.phase.Phase.TheVariants.{Closed, Open}
use Rattle.bus.specs.declared.phase.Bus.{Bus}
use Rattle.bus.specs.Phase.{started_of, closed_bus, aged_of, older_of, age_in, well_of}
use Rattle.bus.specs.Bytes.{addressed_of, pointed_of, heard_in, heard_of}
use Rattle.bus.specs.Reads.{read_in, read_of}
use Rattle.bus.proofs.PointerLaws.{next_small}

-- the parts of a bus that is well formed
pub data Well : Bus → Type 0 where
  shut : {p : ℕ} → p ≤ 31 → Well (record { pointer = p; phase = Closed })
  opened : {p : ℕ} {m : Mode} {t : Transfer} → p ≤ 31 → t.age ≤ 16383 → Well (record { pointer = p; phase = Open m t })

parts_in : (f : Phase) (p : ℕ) → age_in f (leb p 31) ≡ true → Well (record { pointer = p; phase = f })
parts_in Closed p h = shut (grind (arith, nat_tests))
parts_in (Open m t) p h = opened (grind (arith, nat_tests)) (grind (arith, nat_tests))

pub parts : (b : Bus) → well_of b ≡ true → Well b
parts b h = parts_in b.phase b.pointer h

pub whole : {b : Bus} → Well b → well_of b ≡ true
whole (shut h) = grind (arith, nat_tests)
whole (opened h a) = grind (arith, nat_tests)

pub closed_well : Well closed_bus
closed_well = shut {p = 0} (omega arith)

pub started_well : {b : Bus} → Well b → Well (started_of b)
started_well (shut h) = opened {t = record { age = 0; marked = false }} h (omega arith)
started_well (opened h a) = opened h a

pub older_well : {b : Bus} → Well b → (n : ℕ) → Well (older_of b n)
older_well (shut h) n = shut h
older_well (opened {p} {m} {t} h a) n = parts (aged_of p m t n) (grind (arith, nat_tests))

-- an open transfer whose pointer and age are within their bounds
module _ (p : ℕ) (t : Transfer) (h : p ≤ 31) (a : t.age ≤ 16383) where
  heard_in_lem : (m : Mode) (b : ℕ) → Well (heard_in m p t b).bus
  heard_in_lem Address b = parts (addressed_of p t b).bus (grind (arith, nat_tests))
  heard_in_lem Pointer b = parts (pointed_of p t b).bus (grind (arith, nat_tests))
  heard_in_lem Writing b = opened (next_small p) a
  heard_in_lem Reading b = opened h a
  heard_in_lem Deaf b = opened h a

  read_in_lem : (m : Mode) (ack : Bool) → Well (read_in m p t ack).bus
  read_in_lem Address ack = opened h a
  read_in_lem Pointer ack = opened h a
  read_in_lem Writing ack = opened h a
  read_in_lem Reading ack = opened (next_small p) a
  read_in_lem Deaf ack = opened h a

pub heard_well : {bus : Bus} → Well bus → (b : ℕ) → Well (heard_of bus b).bus
unfolding heard_of
heard_well (shut h) b = shut h
heard_well (opened {p} {m} {t} h a) b = heard_in_lem p t h a m b

pub read_well : {bus : Bus} → Well bus → (ack : Bool) → Well (read_of bus ack).bus
unfolding read_of
read_well (shut h) ack = shut h
read_well (opened {p} {m} {t} h a) ack = read_in_lem p t h a m ack
