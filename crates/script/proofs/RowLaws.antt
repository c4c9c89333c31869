-- A refusal is given exactly when its row holds and none before it. Assumes nothing.
use mathlib.Core.Path.{◌≡◌, refl, ap, ◌∙◌}
use mathlib.Core.Bool.{cond}
use mathlib.Core.List.{List}
use Prim.Native.Nat.{ℕ, ◌*◌, ◌≤◌, ◌<◌}
use native.Mathlib.Omega.{arith}
use lib.Dec.{ltb}
use lib.ListN.{length}
use Rattle.events.proofs.Telling.{Tells, less, turned, chosen, is_true, is_false}
use Rattle.events.proofs.RowLaws.{Fault}
use Rattle.script.specs.Header.{header_of}
use Rattle.script.specs.Sections.{sections_of}
use Rattle.script.specs.Checks.{Found, found_at, none, or_else, first_of, events_of, placed_of, checked_of}
use Rattle.script.specs.Rows.{header_word, Row4, Row7, Row8, Sound, Whole, Due}
use Rattle.script.proofs.SectionLaws.{row5}
use Rattle.script.proofs.StartLaws.{row6}
use Rattle.script.proofs.EventLaws.{First, first, one_first}

pub not_zero : (n : ℕ) → 0 < n → ◌≡◌ {A = ℕ} n 0 → ⊥
not_zero n h e = omega arith

module _ (file : List ℕ) (room : ℕ) where
  row8 : Tells (Row8 file) (Row8 file → ⊥) (ltb 16384 (length file))
  row8 = turned (less 16384 (length file)) (λ h. h) (λ (h : length file ≤ 16384). omega arith)

  row4 : Tells (Row4 file) (Row4 file → ⊥) (ltb (length file) 8)
  row4 = turned (less (length file) 8) (λ h. h) (λ (h : 8 ≤ length file). omega arith)

  row7 : Tells (Row7 file room) (Row7 file room → ⊥) (ltb room ((header_of file).count * 5))
  row7 = turned (less room ((header_of file).count * 5)) (λ (h : room < (header_of file).count * 5). omega arith) (λ (h : (header_of file).count * 5 ≤ room). omega arith)

  -- what is found behind the events
  abbrev last : Found
  last = cond (ltb room ((header_of file).count * 5)) (found_at 7 0) none

  abbrev Found_due : Found → Type 0
  Found_due f = Due file room f.refusal f.index

  events_due : Whole file → {f : Found} → First file f → Found_due (or_else f last)
  events_due w (First.clean s) = chosen Found_due (found_at 7 0) none row7 (λ r. Due.due7 w s r) (λ n. Due.due0 w s n)
  events_due w (First.here i h b (Fault.kind r)) = Due.due2 i w h b r
  events_due w (First.here i h b (Fault.field n r)) = Due.due3 i w h b n r

  pub given : Due file room (checked_of file room).refusal (checked_of file room).index
  unfolding checked_of placed_of
  given =
      let h = header_of file in
      let sections : Found = cond (sections_of h (length file)) (placed_of file h room) (found_at 5 0) in
      chosen Found_due (found_at 8 0) (cond (ltb (length file) 8) (found_at 4 0) sections) row8 (λ r8. Due.due8 r8)
      (λ n8.
      chosen Found_due (found_at 4 0) sections row4 (λ r4. Due.due4 n8 r4)
      (λ n4.
      chosen Found_due (placed_of file h room) (found_at 5 0) (row5 file)
      (λ n5.
      chosen Found_due (or_else (first_of (events_of file h) 0) last) (found_at 6 0) (row6 file)
      (λ n6. events_due (record { not8 = n8; not4 = n4; not5 = n5; not6 = n6 }) (first file n5))
      (λ r6. Due.due6 n8 n4 n5 r6))
      (λ r5. Due.due5 n8 n4 r5)))

  -- a file with none of the rows before its events
  whole : Whole file → checked_of file room ≡ or_else (first_of (events_of file (header_of file)) 0) last
  unfolding checked_of placed_of
  whole w =
      simp (is_false row8 w.not8, is_false row4 w.not4, is_true (row5 file) w.not5, is_true (row6 file) w.not6)

  found_first : Whole file → {f : Found} → First file f → checked_of file room ≡ or_else f last
  found_first w x = whole w ∙ ap (λ (f : Found). or_else f last) (one_first (first file w.not5) x)

  settled : {n i : ℕ} → Due file room n i → checked_of file room ≡ found_at n i
  unfolding checked_of placed_of
  settled (Due.due8 r) = simp (is_true row8 (λ n. n r))
  settled (Due.due4 n8 r) = simp (is_false row8 n8, is_true row4 (λ n. n r))
  settled (Due.due5 n8 n4 r) = simp (is_false row8 n8, is_false row4 n4, is_false (row5 file) (λ n. n r))
  settled (Due.due6 n8 n4 n5 r) = simp (is_false row8 n8, is_false row4 n4, is_true (row5 file) n5, is_false (row6 file) (λ n. n r))
  settled (Due.due2 i w h b r) = found_first w (First.here i h b (Fault.kind r))
  settled (Due.due3 i w h b n r) = found_first w (First.here i h b (Fault.field n r))
  settled (Due.due7 w s r) = found_first w (First.clean s) ∙ simp (is_true row7 (λ n. n r))
  settled (Due.due0 w s n) = found_first w (First.clean s) ∙ simp (is_false row7 n)

pub only : {file : List ℕ} {room n i : ℕ} → Due file room n i → ((checked_of file room).refusal ≡ n) × ((checked_of file room).index ≡ i)
only {file} {room} d = (ap (λ (f : Found). f.refusal) (settled file room d), ap (λ (f : Found). f.index) (settled file room d))

-- where 0 is due no row holds, and its index is 0
pub record Clean (file : List ℕ) (room i : ℕ) : Type 0 where
  pub index : i ≡ 0
  pub before : Whole file
  pub sound : (j : ℕ) → j < header_word file 0 → Sound file j
  pub enough : Row7 file room → ⊥

pub clean : {file : List ℕ} {room n i : ℕ} → Due file room n i → n ≡ 0 → Clean file room i
clean (Due.due8 r) e = absurd (not_zero 8 (omega arith) e)
clean (Due.due4 n8 r) e = absurd (not_zero 4 (omega arith) e)
clean (Due.due5 n8 n4 r) e = absurd (not_zero 5 (omega arith) e)
clean (Due.due6 n8 n4 n5 r) e = absurd (not_zero 6 (omega arith) e)
clean (Due.due2 i w h b r) e = absurd (not_zero 2 (omega arith) e)
clean (Due.due3 i w h b n r) e = absurd (not_zero 3 (omega arith) e)
clean (Due.due7 w s r) e = absurd (not_zero 7 (omega arith) e)
clean (Due.due0 w s n) e = record { index = refl; before = w; sound = s; enough = n }
