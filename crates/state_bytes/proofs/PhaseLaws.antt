-- A phase and its number, mark and age are had back from each other. Assumes nothing.
use Rattle.std.proofs.Common.{◌≡◌, true, ℕ, eqb, arith}
use Rattle.std.proofs.lemmas.Grind.{common_steps}
use Rattle.std.proofs.lemmas.Bool.Decides.{nat_tests}
use Rattle.bus.specs.declared.phase.Transfer.{Transfer}
use Rattle.bus.specs.declared.phase.Phase.{Phase}
use Rattle.state_bytes.specs.Phases.{number_in, mark_in, age_in, phase_of, phase_well}

pub phase_back : (p : Phase) (age : ℕ) → age ≡ age_in p → phase_of (number_in p) (record { age = age; marked = eqb (mark_in p) 1 }) ≡ p
phase_back p age e = grind (arith, common_steps)

-- what a phase is written as is written so
pub phase_written : (p : Phase) (age : ℕ) → age ≡ age_in p → phase_well (number_in p) (mark_in p) age ≡ true
phase_written p age e = grind (arith, common_steps)

-- a number, a mark and an age that are written so come back from the phase
module _ (mark age : ℕ) where
  abbrev transfer : Transfer
  transfer = record { age = age; marked = eqb mark 1 }

  pub record Again (n : ℕ) : Type 0 where
    pub numbered : number_in (phase_of n transfer) ≡ n
    pub marked : mark_in (phase_of n transfer) ≡ mark
    pub aged : age_in (phase_of n transfer) ≡ age

  pub phase_again : (n : ℕ) → phase_well n mark age ≡ true → Again n
  phase_again n e =
      record { numbered = grind (arith, nat_tests); marked = grind (arith, nat_tests); aged = grind (arith, nat_tests) }
