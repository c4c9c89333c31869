-- The phase of the bus by its number, the mark and the age. (rules 6.1 and 10.2)
use Rattle.std.specs.Prelude.{Bool, cond, ◌&&◌, ℕ, eqb, ltb}
use Rattle.bus.specs.declared.phase.Mode.{Mode}
use Rattle.bus.specs.declared.phase.Mode.TheVariants.{Address, Pointer, Writing, Reading, Deaf}
use Rattle.bus.specs.declared.phase.Transfer.{Transfer}
use Rattle.bus.specs.declared.phase.Phase.{Phase}
use Rattle.bus.specs.declared.phase.Phase.TheVariants.{Closed, Open}

-- 0 is closed, the open ones are 1 to 5
abbrev pub mode_number : Mode → ℕ
mode_number Address = 1
mode_number Pointer = 2
mode_number Writing = 3
mode_number Reading = 4
mode_number Deaf = 5

abbrev pub number_in : Phase → ℕ
number_in Closed = 0
number_in (Open m t) = mode_number m

-- the mark is 1 if 0Fh was read
abbrev pub mark_number : Bool → ℕ
mark_number marked = cond marked 1 0

abbrev pub mark_in : Phase → ℕ
mark_in Closed = 0
mark_in (Open m t) = mark_number t.marked

abbrev pub age_in : Phase → ℕ
age_in Closed = 0
age_in (Open m t) = t.age

-- a number that is no open phase's counts as closed
abbrev pub phase_of : ℕ → Transfer → Phase
phase_of n t =
    cond (eqb n 1) (Open Address t)
    (cond (eqb n 2) (Open Pointer t)
    (cond (eqb n 3) (Open Writing t)
    (cond (eqb n 4) (Open Reading t)
    (cond (eqb n 5) (Open Deaf t)
    Closed))))

-- a closed phase carries nothing, and a mark is 0 or 1
abbrev pub phase_well : ℕ → ℕ → ℕ → Bool
phase_well n mark age = cond (eqb n 0) (eqb mark 0 && eqb age 0) (ltb n 6 && ltb mark 2)
