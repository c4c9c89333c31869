-- A pulse and a stored byte keep the hand within its bounds. Assumes nothing.
use Rattle.std.proofs.Common.{◌≡◌, true, ℕ, ◌≤◌, arith, eqb, eqb-true}
use Rattle.std.proofs.lemmas.Bool.Decides.{nat_tests}
use Rattle.calendar.specs.declared.time.Time.{Time}
use Rattle.calendar.specs.Advance.{advance_of}
use Rattle.calendar.proofs.FixedLaws.{stays_clear}
use Rattle.registers.specs.Fixed.{clear_of, clear_time_of}
use Rattle.registers.proofs.FixedLaws.{time_clear, clear_time, clear_held, stored_clear}
use Rattle.hand.specs.Hand.{ticked_of, stored_of, well_of}
use Rattle.hand.specs.declared.hand.Hand.{Hand}
use Rattle.hand.proofs.SpanLaws.{length_most}

-- the parts of a hand that is well formed
pub record Well (h : Hand) : Type 0 where
  pub time : clear_time_of h.time ≡ true
  pub trim : clear_of 0x12 h.trim ≡ true
  pub counter : h.counter ≤ 32891

module _ (h : Hand) where
  pub parts : well_of h ≡ true → Well h
  unfolding well_of
  parts e = record { time = grind (arith, nat_tests); trim = grind (arith, nat_tests); counter = grind (arith, nat_tests) }

  pub whole : Well h → well_of h ≡ true
  unfolding well_of
  whole w = grind (arith, nat_tests)

-- time going on sets no fixed bit
clear_advanced : (t : Time) → clear_time_of t ≡ true → clear_time_of (advance_of t) ≡ true
clear_advanced t e = clear_time (advance_of t) (stays_clear t (time_clear t e))

module _ (h : Hand) (w : Well h) where
  pub ticked_well : Well (ticked_of h)
  unfolding ticked_of
  ticked_well =
      record {
        time = grind (arith, nat_tests, clear_advanced);
        trim = w.trim;
        counter = grind (arith, nat_tests, length_most);
      }

  pub stored_well : (a b : ℕ) → Well (stored_of h a b)
  unfolding stored_of
  stored_well a b =
      record {
        time = grind (arith, nat_tests, stored_clear);
        trim = clear_held 0x12 a b h.trim (eqb a 0x12) (eqb-true a 0x12) w.trim;
        counter = grind (arith, nat_tests);
      }
