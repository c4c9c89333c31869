-- The first event at fault is the first of which row 2 or row 3 holds. Assumes nothing.
use mathlib.Core.Path.{◌≡◌, refl, sym, ap, ap₂, subst, ◌∙◌}
use mathlib.Core.Bool.{cond}
use mathlib.Core.List.{List, ◌∷◌}
use Prim.Native.Nat.{ℕ, zero, suc, ◌+◌, ◌*◌, ◌/◌, ◌≤◌, ◌<◌}
use native.Mathlib.Omega.{arith}
use lib.Dec.{eqb}
use lib.ListN.{length, get_or, drop, length-take, length-drop}
use borrow.Author.Count.{below_none, below_more}
use Rattle.events.specs.declared.event.Event.{Event}
use Rattle.events.specs.Refusal.{fault_in}
use Rattle.events.proofs.Telling.{less, either}
use Rattle.events.proofs.RowLaws.{Fault, Judged, unsound, one_fault, judged}
use Rattle.script.specs.Header.{header_of, word_of}
use Rattle.script.specs.Sections.{section_of}
use Rattle.script.specs.Event.{event_at, events_from, events_in}
use Rattle.script.specs.Checks.{Found, found_at, none, first_of}
use Rattle.script.specs.Rows.{header_word, listed_of, kind_of, byte_of, count_of, listed_at, listed_from, Row5, Sound}
use Rattle.script.proofs.SectionLaws.{events_fit}
use Rattle.script.proofs.StartLaws.{section_byte}

-- of event i: a row that holds and its refusal, and what is found of it
abbrev pub FaultAt : List ℕ → ℕ → ℕ → Type 0
FaultAt file i = Fault (kind_of file i) (byte_of file i) (count_of file i)

abbrev JudgedAt : List ℕ → ℕ → ℕ → Type 0
JudgedAt file i = Judged (kind_of file i) (byte_of file i) (count_of file i)

-- the first event at fault of all
pub data First (file : List ℕ) : Found → Type 0 where
  clean : ((j : ℕ) → j < header_word file 0 → Sound file j) → First file none
  here : (i : ℕ) → i < header_word file 0 → ((j : ℕ) → j < i → Sound file j) → {n : ℕ} → FaultAt file i n → First file (found_at n i)

-- there are not two of it
pub one_first : {file : List ℕ} {f g : Found} → First file f → First file g → f ≡ g
one_first (clean s) (clean t) = refl
one_first (clean s) (here j k c y) = absurd (unsound y (s j k))
one_first (here i h b x) (clean t) = absurd (unsound x (t i h))
one_first {file} (here i h b {n = n} x) (here j k c {n = m} y) =
    either (less i j) (λ lt. absurd (unsound x (c i lt)))
    (λ (le : j ≤ i).
    either (less j i) (λ lt. absurd (unsound y (b j lt)))
    (λ (ge : i ≤ j).
    let e : i ≡ j = omega arith in
    let d : n ≡ m = one_fault (subst (λ (p : ℕ). FaultAt file p n) e x) y in
    λ t. found_at (d t) (e t)))

pub same_event :
    {k k' b b' l l' h h' : ℕ} → k ≡ k' → b ≡ b' → l ≡ l' → h ≡ h' → ◌≡◌ {A = Event} (record { kind = k; byte = b; count = word_of l h }) (record { kind = k'; byte = b'; count = l' + 256 * h' })
same_event {l} {l'} {h} {h'} p q r s =
    let c : word_of l h ≡ l' + 256 * h' = omega arith in
    λ i. record { kind = p i; byte = q i; count = c i }

module _ (file : List ℕ) where
  abbrev part : List ℕ
  part = section_of file (header_of file).events ((header_of file).count * 4)

  part_event : (i : ℕ) → i < header_word file 0 → event_at part (4 * i) ≡ listed_at file i
  part_event i h = same_event (same 0 (4 * i) (omega arith) (omega arith)) (same 1 (4 * i + 1) (omega arith) (omega arith)) (same 2 (4 * i + 2) (omega arith) (omega arith)) (same 3 (4 * i + 3) (omega arith) (omega arith))
    where
      same : (k p : ℕ) → k < 4 → 4 * i + k ≡ p → get_or part p 0 ≡ get_or file (header_word file 1 + 4 * i + k) 0
      same k p b e = section_byte file (header_of file).events ((header_of file).count * 4) p (header_word file 1 + 4 * i + k) (omega arith) (omega arith)

  -- an event, and the ones behind it where it is sound
  step :
      (j : ℕ) → j < header_word file 0 → ((k : ℕ) → k < j → Sound file k) → {v : ℕ} → JudgedAt file j v → (rest : Found) → (Sound file j → First file rest)
      → First file (cond (eqb v 0) rest (found_at v j))
  step j h all (Judged.sound s) rest f = f s
  step j h all (Judged.fault (Fault.kind r)) rest f = here j h all (Fault.kind r)
  step j h all (Judged.fault (Fault.field n r)) rest f = here j h all (Fault.field n r)

  from : (m j : ℕ) → j + m ≡ header_word file 0 → ((k : ℕ) → k < j → Sound file k) → First file (first_of (events_from part (4 * j) m) j)
  unfolding first_of
  from zero j e all = clean (λ k h. all k (omega arith))
  from (suc m) j e all =
      let rest : Found = first_of (events_from part (4 * j + 4) m) (j + 1) in
      subst (λ (v : ℕ). First file (cond (eqb v 0) rest (found_at v j))) (sym (ap fault_in (part_event j (omega arith))))
      (step j (omega arith) all (judged (kind_of file j) (byte_of file j) (count_of file j)) rest
      (λ (s : Sound file j).
      let p : 4 * (j + 1) ≡ 4 * j + 4 = omega arith in
      subst (λ (x : ℕ). First file (first_of (events_from part x m) (j + 1))) p
      (from m (j + 1) (omega arith) (below_more (Sound file) j all s))))

  part_count : (Row5 file → ⊥) → length part / 4 ≡ header_word file 0
  part_count n =
      omega (arith, length-take ((header_of file).count * 4) (drop (header_of file).events file), length-drop (header_of file).events file, events_fit file n)

  pub first : (Row5 file → ⊥) → First file (first_of (events_in part) 0)
  unfolding events_in
  first n = from (length part / 4) 0 (omega (arith, part_count n)) (below_none (Sound file))

  -- the events of the section are those that the file's bytes list
  listed : (m j : ℕ) → j + m ≡ header_word file 0 → events_from part (4 * j) m ≡ listed_from file j m
  unfolding listed_from
  listed zero j e = refl
  listed (suc m) j e =
      let p : 4 * j + 4 ≡ 4 * (j + 1) = omega arith in
      ap₂ (λ (x : Event) (xs : List Event). x ∷ xs) (part_event j (omega arith)) (ap (λ (x : ℕ). events_from part x m) p ∙ listed m (j + 1) (omega arith))

  pub events_listed : (Row5 file → ⊥) → events_in part ≡ listed_of file
  unfolding events_in
  events_listed n = ap (λ (m : ℕ). events_from part 0 m) (part_count n) ∙ listed (header_word file 0) 0 (omega arith)
