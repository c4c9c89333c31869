-- What a run hands back: the refusal that is due, or the lines of events that are all taken. Assumes nothing.
use mathlib.Core.Path.{◌≡◌, refl, sym, ap, ◌∙◌, subst}
use mathlib.Core.Bool.{Bool, true, false, cond}
use mathlib.Core.List.{List, [], ◌∷◌, ◌++◌}
use Prim.Native.Nat.{ℕ, ◌+◌, ◌*◌, ◌≤◌}
use native.Mathlib.Omega.{arith}
use lib.Dec.{eqb}
use lib.ListN.{length, take, drop}
use lib.Seq.{take_at, drop_at}
use Rattle.std.specs.Prelude.{Ok}
use borrow.Author.Tests.{eqb-true, eqb-false}
use Rattle.events.specs.declared.event.Event.{Event}
use Rattle.events.specs.Refusal.{fault_in}
use Rattle.events.proofs.Telling.{equal, less, either}
use Rattle.sd2068.specs.declared.clock.Clock.{Clock}
use Rattle.sd2068.specs.Power as power
use Rattle.sd2068.specs.Step.{Told}
use Rattle.sd2068.specs.Power.{zero_start, power_on_of}
use Rattle.sd2068.specs.Run.{told_by, after_of}
use Rattle.sd2068.proofs.WellLaws.{Well, power_on_well, step_well, step_taken}
use Rattle.script.specs.declared.header.Header.{Header}
use Rattle.script.specs.declared.file.Ran.{Ran}
use Rattle.script.specs.Header.{header_of}
use Rattle.script.specs.Checks.{Found, found_at, first_of, start_bytes_of, events_of, checked_of}
use Rattle.script.specs.Rows.{header_word, listed_of, starts_of, Due}
use Rattle.script.specs.Lines.{lines_of}
use Rattle.script.specs.File.{Run, good_of, refused_of, run_of, ran}
use Rattle.script.proofs.EventLaws.{events_listed}
use Rattle.script.proofs.FileLaws.{good, start_state, events_count, run_accepted, run_refused}
use Rattle.script.proofs.LineLaws.{lines_length}
use Rattle.script.proofs.RowLaws.{given, only, clean}
use Rattle.script.proofs.SectionLaws.{most_events}

-- each event is taken from the state that the one before it left
pub data Taken : Clock → List Event → Type 0 where
  none : {c : Clock} → Taken c []
  more : {c : Clock} {e : Event} {es : List Event} → (told_by c e).refusal ≡ 0 → Taken (told_by c e).state es → Taken c (e ∷ es)

-- an event at fault would be found
sound : (e : Event) (rest : Found) (i : ℕ) (t : Bool) → eqb (fault_in e) 0 ≡ t → (cond t rest (found_at (fault_in e) i)).refusal ≡ 0 → (fault_in e ≡ 0) × (rest.refusal ≡ 0)
sound e rest i true p h = (eqb-true (fault_in e) 0 p, h)
sound e rest i false p h = absurd (eqb-false (fault_in e) 0 p h)

pub taken : (c : Clock) → Well c → (es : List Event) (i : ℕ) → (first_of es i).refusal ≡ 0 → Taken c es
unfolding first_of
taken c w [] i h = Taken.none
taken c w (e ∷ es) i h =
    let s = sound e (first_of es (i + 1)) i (eqb (fault_in e) 0) refl h in
    Taken.more (ap (λ (t : Told). t.refusal) (step_taken c w e.kind e.byte e.count s.0))
    (taken (told_by c e).state (step_well c w e.kind e.byte e.count) es (i + 1) s.1)

pub file_taken : (file : List ℕ) (room : ℕ) → (checked_of file room).refusal ≡ 0 → Taken (power.start_of (start_bytes_of file (header_of file))) (events_of file (header_of file))
file_taken file room n =
    let h = header_of file in
    let s = start_bytes_of file h in
    let g = good file room n in
    taken (power.start_of s) (subst Well (start_state file h room g) (power_on_well s)) (events_of file h) 0 g.events

module _ (file out : List ℕ) where
  abbrev checks : Found
  checks = checked_of file (length out)

  told : ((run_of file out).refusal ≡ checks.refusal) × ((run_of file out).index ≡ checks.index)
  unfolding good_of refused_of
  told =
      either (equal checks.refusal 0)
      (λ zero.
      let run = run_accepted file out zero in
      (ap (λ (r : Run). r.refusal) run ∙ sym zero, ap (λ (r : Run). r.index) run ∙ sym (clean (given file (length out)) zero).index))
      (λ more.
      let run = run_refused file out more in
      (ap (λ (r : Run). r.refusal) run, ap (λ (r : Run). r.index) run))

  -- a run's refusal is the one that is due, and no other
  pub run_due : Due file (length out) (run_of file out).refusal (run_of file out).index
  run_due =
      subst (λ (f : Found). Due file (length out) f.refusal f.index) {x = checks} {y = found_at (run_of file out).refusal (run_of file out).index}
      (λ i. found_at (sym told.0 i) (sym told.1 i))
      (given file (length out))

  pub run_given : {n i : ℕ} → ((run_of file out).refusal ≡ n) × ((run_of file out).index ≡ i) → Due file (length out) n i
  run_given {n} e =
      subst (Due file (length out) n) e.1 (subst (λ (m : ℕ). Due file (length out) m (run_of file out).index) e.0 run_due)

  pub run_only : {n i : ℕ} → Due file (length out) n i → ((run_of file out).refusal ≡ n) × ((run_of file out).index ≡ i)
  run_only d = (told.0 ∙ (only d).0, told.1 ∙ (only d).1)

  -- a refused file leaves the output, and nothing has run
  pub run_untouched : ((run_of file out).refusal ≡ 0 → ⊥) → run_of file out ≡ record { refusal = (run_of file out).refusal; index = (run_of file out).index; count = 0; state = zero_start; output = out }
  unfolding refused_of
  run_untouched bad =
      run_refused file out (λ e. bad (told.0 ∙ e))
      ∙ (λ i. record { refusal = sym told.0 i; index = sym told.1 i; count = 0; state = zero_start; output = out })

  -- a file that is not refused is run: from its start bytes, through the events that its bytes list
  abbrev begun : Clock
  begun = (power_on_of (starts_of file)).state

  pub run_whole :
      (run_of file out).refusal ≡ 0
      → run_of file out
      ≡ record {
        refusal = 0;
        index = 0;
        count = header_word file 0;
        state = after_of begun (listed_of file);
        output = lines_of begun (listed_of file) ++ drop (header_word file 0 * 5) out;
      }
  unfolding good_of
  run_whole zero =
      let n = sym told.0 ∙ zero in
      let h = header_of file in
      let g = good file (length out) n in
      let count : h.count ≡ header_word file 0 = omega arith in
      let place : h.start ≡ header_word file 3 = omega arith in
      let state = sym (start_state file h (length out) g) ∙ ap (λ (at : ℕ). (power_on_of (take 19 (drop at file))).state) place in
      let events = events_listed file (clean (given file (length out)) n).before.not5 in
      run_accepted file out n
      ∙ (λ i. record {
        refusal = 0;
        index = 0;
        count = count i;
        state = after_of (state i) (events i);
        output = lines_of (state i) (events i) ++ drop (count i * 5) out;
      })

  -- the first five bytes an event are the lines, and the others stay
  module _ (n : checks.refusal ≡ 0) where
    abbrev header : Header
    header = header_of file

    abbrev lines : List ℕ
    lines = lines_of (power.start_of (start_bytes_of file header)) (events_of file header)

    output : (run_of file out).output ≡ lines ++ drop (header.count * 5) out
    unfolding good_of
    output = ap (λ (m : Run). m.output) (run_accepted file out n)

    size : length lines ≡ header.count * 5
    size =
        lines_length (power.start_of (start_bytes_of file header)) (events_of file header)
        ∙ ap (λ (k : ℕ). k * 5) (events_count file header (length out) (good file (length out) n))

    pub run_lines : take (header.count * 5) (run_of file out).output ≡ lines
    run_lines = ap (take (header.count * 5)) output ∙ take_at lines (drop (header.count * 5) out) (header.count * 5) size

    pub run_rest : drop (header.count * 5) (run_of file out).output ≡ drop (header.count * 5) out
    run_rest = ap (drop (header.count * 5)) output ∙ drop_at lines (drop (header.count * 5) out) (header.count * 5) size

  -- its events have room for their lines, and a refused file has none
  pub run_fits : (run_of file out).count * 5 ≤ length out
  unfolding good_of refused_of
  run_fits =
      either (equal checks.refusal 0)
      (λ zero.
      let count = ap (λ (r : Run). r.count) (run_accepted file out zero) in
      let room = (good file (length out) zero).enough in
      omega arith)
      (λ more.
      let count = ap (λ (r : Run). r.count) (run_refused file out more) in
      omega arith)

-- so a result counts no more events than there was room for
pub run_room : (r : Ran) (file out last : List ℕ) → ran (Ok r) last ≡ run_of file out → r.count * 5 ≤ length out
run_room r file out last e =
    let count = ap (λ (m : Run). m.count) e in
    omega (arith, run_fits file out)

-- an output of 20,445 bytes is never too short
enough_room : {file : List ℕ} {room n i : ℕ} → 20445 ≤ room → Due file room n i → n ≡ 7 → ⊥
enough_room h (Due.due8 r) e = omega arith
enough_room h (Due.due4 n8 r) e = omega arith
enough_room h (Due.due5 n8 n4 r) e = omega arith
enough_room h (Due.due6 n8 n4 n5 r) e = omega arith
enough_room h (Due.due2 i w k b r) e = omega arith
enough_room h (Due.due3 i w k b n r) e = omega arith
enough_room {file} h (Due.due7 w s r) e =
    let most = most_events file w.not5 (either (less 16384 (length file)) (λ long. absurd (w.not8 long)) (λ short. short)) in
    omega arith
enough_room h (Due.due0 w s n) e = omega arith

pub never_seven : (file out : List ℕ) → 20445 ≤ length out → (run_of file out).refusal ≡ 7 → ⊥
never_seven file out h = enough_room h (run_due file out)
