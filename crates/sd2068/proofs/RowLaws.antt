-- A step and a power-on are refused exactly when a row says so, and then change nothing. Assumes nothing.
use Rattle.std.proofs.Common.{◌≡◌, sym, ◌∙◌, Bool, true, cond, ◌&&◌, true≢false, List, [], ◌∷◌, ℕ, ◌+◌, ◌<◌, arith, length, get_or, below_none, below_more, ne_eqb, eqb}
use Rattle.registers.specs.Fixed.{clear_of, clear_time_of}
use Rattle.events.specs.Refusal.{fault_of}
use Rattle.events.proofs.Telling.{Tells, told, equal, turned, chosen, is_true, is_false, also}
use Rattle.events.proofs.RowLaws.{Fault, Judged, judged, fault_only}
use Rattle.sd2068.specs.declared.clock.Clock.{Clock}
use Rattle.sd2068.specs.Power.{Power, start_time, start_of, zero_start, power_on_of}
use Rattle.sd2068.specs.Pin.{pin_of}
use Rattle.sd2068.specs.WellFormed.{well_formed_of}
use Rattle.sd2068.specs.Step.{refusal_of, step_of}
use Rattle.sd2068.specs.Rows.{Row1, StepDue, Row6, ClearTime, PowerDue}
use Rattle.sd2068.proofs.ListedLaws.{well_listed, listed_well}

module _ (c : Clock) where
  row1 : Tells (Row1 c → ⊥) (Row1 c) (well_formed_of c)
  row1 = told (well_formed_of c) (λ e r. r (well_listed c e)) (λ e l. true≢false (sym (listed_well c l) ∙ e))

  module _ (kind byte count : ℕ) where
    abbrev Of_step : ℕ → Type 0
    Of_step = StepDue c kind byte count

    -- what is found of the event, where row 1 does not hold
    of_event : (Row1 c → ⊥) → {n : ℕ} → Judged kind byte count n → Of_step n
    of_event n1 (Judged.sound s) = StepDue.due0 n1 s
    of_event n1 (Judged.fault (Fault.kind r)) = StepDue.due2 n1 r
    of_event n1 (Judged.fault (Fault.field n2 r)) = StepDue.due3 n1 n2 r

    pub step_due : Of_step (step_of c kind byte count).refusal
    unfolding step_of refusal_of
    step_due = chosen Of_step (fault_of kind byte count) 1 row1 (λ n1. of_event n1 (judged kind byte count)) StepDue.due1

    by_event : (Row1 c → ⊥) → {n : ℕ} → Judged kind byte count n → (step_of c kind byte count).refusal ≡ n
    unfolding step_of refusal_of
    by_event n1 j = simp (is_true row1 n1) (fault_only kind byte count j)

    only : {n : ℕ} → Of_step n → (step_of c kind byte count).refusal ≡ n
    unfolding step_of refusal_of
    only (StepDue.due1 r) = simp (is_false row1 (λ n. n r))
    only (StepDue.due2 n1 r) = by_event n1 (Judged.fault (Fault.kind r))
    only (StepDue.due3 n1 n2 r) = by_event n1 (Judged.fault (Fault.field n2 r))
    only (StepDue.due0 n1 s) = by_event n1 (Judged.sound s)

    pub step_refused :
        ((step_of c kind byte count).refusal ≡ 0 → ⊥)
        → step_of c kind byte count ≡ record { refusal = (step_of c kind byte count).refusal; state = c; answer = 45 ∷ 45 ∷ []; pin = pin_of c }
    unfolding step_of
    step_refused n = simp (ne_eqb (refusal_of c kind byte count) 0 n)

pub step_only : {c : Clock} {kind byte count n : ℕ} → StepDue c kind byte count n → (step_of c kind byte count).refusal ≡ n
step_only {c} {kind} {byte} {count} d = only c kind byte count d

module _ (s : List ℕ) where
  abbrev Clear : ℕ → Type 0
  Clear r = clear_of r (get_or s r 0) ≡ true

  abbrev Before : ℕ → Type 0
  Before n = (r : ℕ) → r < n → Clear r

  -- one test
  byte_clear : (r : ℕ) → r < 7 → Tells (Clear r) (Row6 s) (clear_of r (get_or s r 0))
  byte_clear r h = told (clear_of r (get_or s r 0)) (λ t. t) (λ f. record { r = r; time = h; fixed = f })

  -- one register more
  more : (r : ℕ) → r < 7 → {b : Bool} → Tells (Before r) (Row6 s) b → Tells (Before (r + 1)) (Row6 s) (b && clear_of r (get_or s r 0))
  more r h all = turned (also all (λ _. byte_clear r h)) (λ p. below_more Clear r p.0 p.1) (λ r6. r6)

  first : Tells (Before 1) (Row6 s) (clear_of 0 (get_or s 0 0))
  first = turned (byte_clear 0 (omega arith)) (λ c. below_more Clear 0 (below_none Clear) c) (λ r6. r6)

  pub clear_time : Tells (ClearTime s) (Row6 s) (clear_time_of (start_time s))
  unfolding clear_time_of
  clear_time =
      more 6 (omega arith) (more 5 (omega arith) (more 4 (omega arith)
      (more 3 (omega arith) (more 2 (omega arith) (more 1 (omega arith) first)))))

  pub not_clear : ClearTime s → Row6 s → ⊥
  not_clear all x = let clear = all x.r x.time in true≢false (cc)

  -- a power-on that is taken, and one that is refused with n
  abbrev good : Power
  good = record { refusal = 0; state = start_of s }

  abbrev bad : ℕ → Power
  bad n = record { refusal = n; state = zero_start }

  abbrev Of_power : Power → Type 0
  Of_power p = PowerDue s p.refusal

  pub power_due : PowerDue s (power_on_of s).refusal
  unfolding power_on_of
  power_due =
      chosen Of_power (cond (clear_time_of (start_time s)) good (bad 6)) (bad 5) (equal (length s) 19)
      (λ long. chosen Of_power good (bad 6) clear_time (PowerDue.due0 long) (PowerDue.due6 long))
      PowerDue.due5

  power_by : (long clear : Bool) → ((cond long (cond clear good (bad 6)) (bad 5)).refusal ≡ 0 → ⊥) → (cond long (cond clear good (bad 6)) (bad 5)).state ≡ zero_start
  power_by long clear n = grind arith

  pub power_refused : ((power_on_of s).refusal ≡ 0 → ⊥) → (power_on_of s).state ≡ zero_start
  unfolding power_on_of
  power_refused = power_by (eqb (length s) 19) (clear_time_of (start_time s))

pub power_only : {s : List ℕ} {n : ℕ} → PowerDue s n → (power_on_of s).refusal ≡ n
unfolding power_on_of
power_only {s} (PowerDue.due5 n) = simp (is_false (equal (length s) 19) n)
power_only {s} (PowerDue.due6 long r) = simp (is_true (equal (length s) 19) (λ n. n long), is_false (clear_time s) (λ all. not_clear s all r))
power_only {s} (PowerDue.due0 long all) = simp (is_true (equal (length s) 19) (λ n. n long), is_true (clear_time s) (not_clear s all))
