-- A power-on and a run are the chip's and the script's, or tell 255 where the lent state has no place; what they leave is accepted. Assumes nothing.
use mathlib.Core.Path.{◌≡◌, refl, sym, ap, subst, ◌∙◌}
use mathlib.Core.Bool.{Bool, cond}
use mathlib.Core.Logic.{◌↔◌}
use mathlib.Core.List.{List, []}
use Prim.Native.Nat.{ℕ, ◌+◌, ◌*◌, ◌%◌, ◌≤◌}
use native.Mathlib.Nat.{mod-eq_of_lt}
use native.Mathlib.Omega.{arith}
use lib.ListN.{length}
use borrow.Author.Tests.{eq-eqb, ne_eqb}
use Rattle.events.specs.declared.event.Event.{Event}
use Rattle.events.proofs.Telling.{equal, less, either}
use Rattle.sd2068.specs.Power.{zero_start, power_on_of}
use Rattle.sd2068.specs.Run.{step, after}
use Rattle.sd2068.specs.Rows.{PowerDue}
use Rattle.sd2068.proofs.RowLaws.{power_due, power_only}
use Rattle.sd2068.proofs.WellLaws.{whole, power_on_well, steps_well}
use Rattle.script.specs.File as script
use Rattle.script.specs.File.{Run}
use Rattle.script.specs.Rows.{header_word, starts_of, listed_of, Whole, Due}
use Rattle.script.proofs.RunLaws.{run_due, run_given, run_only, run_whole, run_untouched}
use Rattle.script.proofs.SectionLaws.{most_events}
use Rattle.state_bytes.specs.Encoded.{bytes_of}
use Rattle.state_events.proofs.ArrayLaws.{power_on_arrays, steps_arrays}
use Rattle.state_events.specs.Event.{Lent, lent}
use Rattle.sd2068_abi.specs.Abi.{accepted_of, no_place, power_of, ran_of, LentRun, lent_run, run_of}
use Rattle.sd2068_abi.specs.Said.{run_refusal_in, run_index_in, run_count_in}
use Rattle.sd2068_abi.proofs.BoundaryLaws.{encoded_accepted, Accepted}

-- a power-on on a state of another length is told 255 and leaves it; on any other it is the chip's, so that it is refused as the rows say
no_row : {start : List ℕ} {n : ℕ} → PowerDue start n → n ≡ 255 → ⊥
no_row (PowerDue.due5 r) e = omega arith
no_row (PowerDue.due6 h r) e = omega arith
no_row (PowerDue.due0 h c) e = omega arith

module _ (start s : List ℕ) where
  pub power_stays : (length s ≡ 61 → ⊥) → power_of start s ≡ lent 255 s
  unfolding power_of
  power_stays h = simp (ne_eqb (length s) 61 h)

  pub board_power : length s ≡ 61 → power_of start s ≡ lent (power_on_of start).refusal (bytes_of (power_on_of start).state)
  unfolding power_of
  board_power h = simp (eq-eqb (length s) 61 h)

  pub board_power_due : length s ≡ 61 → (n : ℕ) → ((power_of start s).told ≡ n) ↔ PowerDue start n
  board_power_due h n =
      let told = ap (λ (l : Lent). l.told) (board_power h) in
      (λ e. subst (PowerDue start) (sym told ∙ e) (power_due start), λ due. told ∙ power_only due)

  pub power_no_place : ((power_of start s).told ≡ 255) ↔ (length s ≡ 61 → ⊥)
  power_no_place =
      (λ e h. no_row ((board_power_due h 255).0 e) refl, λ h. ap (λ (l : Lent). l.told) (power_stays h))

-- a file has at most 4,089 events, so neither the index nor the count of a run is cut
module _ (file out : List ℕ) where
  few : Whole file → header_word file 0 ≤ 4089
  few w = most_events file w.not5 (either (less 16384 (length file)) (λ long. absurd (w.not8 long)) (λ short. short))

  -- what of a refusal that is due fits where it is told
  record Fits (n i : ℕ) : Type 0 where
    refusal : n ≤ 8
    index : i ≤ 4089
    count : n ≡ 0 → header_word file 0 ≤ 4089

  fits : {n i : ℕ} → Due file (length out) n i → Fits n i
  fits (Due.due8 r) = record { refusal = omega arith; index = omega arith; count = λ e. absurd (omega arith) }
  fits (Due.due4 a r) = record { refusal = omega arith; index = omega arith; count = λ e. absurd (omega arith) }
  fits (Due.due5 a b r) = record { refusal = omega arith; index = omega arith; count = λ e. absurd (omega arith) }
  fits (Due.due6 a b c r) = record { refusal = omega arith; index = omega arith; count = λ e. absurd (omega arith) }
  fits (Due.due2 i w h sound r) = record { refusal = omega arith; index = let most = few w in omega arith; count = λ e. few w }
  fits (Due.due3 i w h sound a r) = record { refusal = omega arith; index = let most = few w in omega arith; count = λ e. few w }
  fits (Due.due7 w sound r) = record { refusal = omega arith; index = omega arith; count = λ e. few w }
  fits (Due.due0 w sound r) = record { refusal = omega arith; index = omega arith; count = λ e. few w }

  abbrev ran : Run
  ran = script.run_of file out

  due_fits : Fits ran.refusal ran.index
  due_fits = fits (run_due file out)

  count_few : ran.count ≤ 4089
  count_few =
      either (equal ran.refusal 0)
      (λ zero. subst (λ (n : ℕ). n ≤ 4089) (sym (ap (λ (r : Run). r.count) (run_whole file out zero))) (due_fits.count zero))
      (λ more. subst (λ (n : ℕ). n ≤ 4089) (sym (ap (λ (r : Run). r.count) (run_untouched file out more))) (omega arith))

  -- so a run on a state of the right length is the script's
  module _ (s : List ℕ) where
    pub board_run : length s ≡ 61 → run_of file out s ≡ lent_run (ran.refusal + 65536 * ran.index + 4294967296 * ran.count) ran.output (bytes_of ran.state)
    unfolding run_of
    board_run h =
        let index : ran.index % 65536 ≡ ran.index = mod-eq_of_lt (omega (arith, due_fits.index)) in
        let count : ran.count % 65536 ≡ ran.count = mod-eq_of_lt (omega (arith, count_few)) in
        ap (λ (b : Bool). cond b (lent_run (ran_of ran.refusal ran.index ran.count) ran.output (bytes_of ran.state)) (lent_run (ran_of no_place 0 0) out s)) (eq-eqb (length s) 61 h)
        ∙ (λ i. lent_run (ran.refusal + 65536 * index i + 4294967296 * count i) ran.output (bytes_of ran.state))

    pub run_uncut : length s ≡ 61 → (run_of file out s).told ≡ ran.refusal + 65536 * ran.index + 4294967296 * ran.count
    run_uncut h = ap (λ (l : LentRun). l.told) (board_run h)

    abbrev told : ℕ
    told = (run_of file out s).told

    refusal_back : length s ≡ 61 → run_refusal_in told ≡ ran.refusal
    refusal_back h = omega (arith, run_uncut h, due_fits.refusal)

    index_back : length s ≡ 61 → run_index_in told ≡ ran.index
    index_back h = omega (arith, run_uncut h, due_fits.refusal, due_fits.index)

    -- it is refused as the rows say, with the index of the event at fault
    pub board_run_due : length s ≡ 61 → (n i : ℕ) → ((run_refusal_in told ≡ n) × (run_index_in told ≡ i)) ↔ Due file (length out) n i
    board_run_due h n i = (
      λ e. run_given file out (sym (refusal_back h) ∙ e.0, sym (index_back h) ∙ e.1),
      λ due. let only = run_only file out due in (refusal_back h ∙ only.0, index_back h ∙ only.1),
    )

    -- not refused, it counts the events of the file
    pub run_counts : length s ≡ 61 → run_refusal_in told ≡ 0 → run_count_in told ≡ header_word file 0
    run_counts h zero =
        let count : run_count_in told ≡ ran.count = omega (arith, run_uncut h, due_fits.refusal, due_fits.index) in
        count ∙ ap (λ (r : Run). r.count) (run_whole file out (sym (refusal_back h) ∙ zero))

    -- refused, every byte of the output stays, no event is counted, and the state is what 19 zero bytes give
    pub run_refused : length s ≡ 61 → (run_refusal_in told ≡ 0 → ⊥) → run_of file out s ≡ lent_run (run_refusal_in told + 65536 * run_index_in told) out (bytes_of zero_start)
    run_refused h bad =
        let r = run_untouched file out (λ zero. bad (refusal_back h ∙ zero)) in
        let told_by_lem : ran.refusal + 65536 * ran.index + 4294967296 * ran.count ≡ run_refusal_in told + 65536 * run_index_in told =
        omega (arith, refusal_back h, index_back h, ap (λ (x : Run). x.count) r) in
        board_run h ∙ (λ i. lent_run (told_by_lem i) (r i).output (bytes_of (r i).state))

    -- on a state of another length it is told 255 and leaves the output and the state
    pub run_stays : (length s ≡ 61 → ⊥) → run_of file out s ≡ lent_run 255 out s
    unfolding run_of
    run_stays h = simp (ne_eqb (length s) 61 h)

    pub run_no_place : (run_refusal_in told ≡ 255) ↔ (length s ≡ 61 → ⊥)
    run_no_place =
        (λ e h. let n = due_fits.refusal in let same = refusal_back h in omega arith, λ h. ap (λ (l : LentRun). run_refusal_in l.told) (run_stays h))

-- what they leave is accepted by the next call
pub power_accepted : (start s : List ℕ) → length s ≡ 61 → Accepted (power_of start s).state
power_accepted start s h =
    let c = (power_on_of start).state in
    ap (λ (l : Lent). accepted_of l.state) (board_power start s h) ∙ encoded_accepted c (power_on_arrays start) (whole c (power_on_well start))

-- a state that a power-on and steps lead to
reached : (start : List ℕ) (es : List Event) → Accepted (bytes_of (after step (power_on_of start).state es))
reached start es =
    let c = (power_on_of start).state in
    encoded_accepted (after step c es) (steps_arrays c (power_on_arrays start) es) (whole (after step c es) (steps_well c (power_on_well start) es))

module _ (file out s : List ℕ) where
  run_reached : Accepted (bytes_of (script.run_of file out).state)
  unfolding after power_on_of
  run_reached =
      either (equal (script.run_of file out).refusal 0)
      (λ zero. ap (λ (r : Run). accepted_of (bytes_of r.state)) (run_whole file out zero) ∙ reached (starts_of file) (listed_of file))
      (λ more. ap (λ (r : Run). accepted_of (bytes_of r.state)) (run_untouched file out more) ∙ reached [] [])

  pub run_accepted : length s ≡ 61 → Accepted (run_of file out s).state
  run_accepted h = ap (λ (l : LentRun). accepted_of l.state) (board_run file out s h) ∙ run_reached
