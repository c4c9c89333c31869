-- The sections' test holds exactly if row 5 does not. Assumes nothing.
use mathlib.Core.Path.{◌≡◌}
use mathlib.Core.List.{List}
use mathlib.Core.Logic.{◌⊎◌, inl, inr}
use Prim.Native.Nat.{ℕ, ◌+◌, ◌*◌, ◌≤◌, ◌<◌}
use native.Mathlib.Omega.{arith}
use lib.Dec.{eqb}
use lib.ListN.{length}
use Rattle.events.proofs.Telling.{Tells, at_most, equal, turned, either, also, or_else}
use Rattle.script.specs.Header.{header_of}
use Rattle.script.specs.Sections.{inside_of, apart_of, sections_of}
use Rattle.script.specs.Rows.{header_word, Section, Among, Row5, Row5.below as low}

-- no byte in common, as the test says it
abbrev Apart : ℕ → ℕ → ℕ → ℕ → Type 0
Apart a n b m = ((n ≡ 0) ⊎ (a + n ≤ b)) ⊎ (b + m ≤ a)

not_shared : {a n b m c : ℕ} → Apart a n b m → Among a n c → Among b m c → ⊥
not_shared (inl (inl e)) p q = omega arith
not_shared (inl (inr h)) p q = omega arith
not_shared (inr h) p q = omega arith

module _ (file : List ℕ) where
  -- the first byte that the file does not have, or the offset itself
  over : {at n : ℕ} → Section file at n → length file < at + n → Row5 file
  over {at} {n} s h =
      either (at_most at (length file))
      (λ (le : at ≤ length file). Row5.outside s (length file) (record { from = le; below = h }) (omega arith))
      (λ (lt : length file < at). Row5.past s lt)

  -- where the larger offset is, both have a byte
  meet :
      header_word file 2 ≡ 19 → (4 * header_word file 0 ≡ 0 → ⊥) → header_word file 3 < header_word file 1 + 4 * header_word file 0
      → header_word file 1 < header_word file 3 + 19 → Row5 file
  meet count some below above =
      either (at_most (header_word file 1) (header_word file 3))
      (λ (le : header_word file 1 ≤ header_word file 3). Row5.shared (header_word file 3) (record { from = le; below = below }) (record { from = omega arith; below = omega arith }))
      (λ (lt : header_word file 3 < header_word file 1). Row5.shared (header_word file 1) (record { from = omega arith; below = omega arith }) (record { from = omega arith; below = omega arith }))

  -- a section's test, at numbers that are its own
  inside : (a z : ℕ) {at n : ℕ} → a ≡ at → z ≡ n → Section file at n → Tells ((8 ≤ at) × (at + n ≤ length file)) (Row5 file) (inside_of a z (length file))
  inside a z {at} {n} p q s =
      also (turned (at_most 8 a) (λ (h : 8 ≤ a). omega arith) (λ (h : a < 8). low s (omega arith)))
      (λ (_ : 8 ≤ at). turned (at_most (a + z) (length file)) (λ (h : a + z ≤ length file). omega arith) (λ (h : length file < a + z). over s (omega arith)))

  counted : Tells (header_word file 2 ≡ 19) (Row5 file) (eqb (header_of file).starts 19)
  counted =
      turned (equal (header_of file).starts 19)
      (λ (e : (header_of file).starts ≡ 19). omega arith)
      (λ (n : (header_of file).starts ≡ 19 → ⊥). Row5.starts (λ (e : header_word file 2 ≡ 19). n (omega arith)))

  abbrev Kept_apart : Type 0
  Kept_apart = Apart (header_of file).events ((header_of file).count * 4) (header_of file).start 19

  apart : header_word file 2 ≡ 19 → Tells Kept_apart (Row5 file) (apart_of (header_of file).events ((header_of file).count * 4) (header_of file).start 19)
  apart count =
      let h = header_of file in
      turned (or_else (or_else (equal (h.count * 4) 0) (at_most (h.events + h.count * 4) h.start)) (at_most (h.start + 19) h.events))
      (λ x. x)
      (λ n. meet count (λ (e : 4 * header_word file 0 ≡ 0). n.0.0 (omega arith)) (omega (arith, n.0.1)) (omega (arith, n.1)))

  -- what the test has shown where it holds
  abbrev Facts : Type 0
  Facts =
      (((header_word file 2 ≡ 19) × ((8 ≤ header_word file 3) × (header_word file 3 + header_word file 2 ≤ length file)))
      × ((8 ≤ header_word file 1) × (header_word file 1 + 4 * header_word file 0 ≤ length file)))
      × Kept_apart

  facts : Tells Facts (Row5 file) (sections_of (header_of file) (length file))
  unfolding sections_of
  facts =
      let h = header_of file in
      also
      (also
      (also counted (λ (e : header_word file 2 ≡ 19). inside h.start 19 (omega arith) (omega arith) Section.start))
      (λ _. inside h.events (h.count * 4) (omega arith) (omega arith) Section.events))
      (λ f. apart f.0.0)

  not5 : Facts → Row5 file → ⊥
  not5 f (Row5.starts n) = n f.0.0.0
  not5 f (Row5.outside Section.events b m h) = omega arith
  not5 f (Row5.outside Section.start b m h) = omega arith
  not5 f (Row5.header Section.events b m h) = omega arith
  not5 f (Row5.header Section.start b m h) = omega arith
  not5 f (Row5.shared b m k) = not_shared {c = b} f.1 (record { from = omega arith; below = omega arith }) (record { from = omega arith; below = omega arith })
  not5 f (Row5.below Section.events h) = omega arith
  not5 f (Row5.below Section.start h) = omega arith
  not5 f (Row5.past Section.events h) = omega arith
  not5 f (Row5.past Section.start h) = omega arith

  pub row5 : Tells (Row5 file → ⊥) (Row5 file) (sections_of (header_of file) (length file))
  row5 = turned facts not5 (λ r. r)

  -- so every event's bytes are in the file
  pub events_fit : (Row5 file → ⊥) → header_word file 1 + 4 * header_word file 0 ≤ length file
  events_fit n =
      either (at_most (header_word file 1 + 4 * header_word file 0) (length file))
      (λ le. le)
      (λ (lt : length file < header_word file 1 + 4 * header_word file 0). absurd (n (over Section.events lt)))

  -- header, start bytes and events share no byte, so a file of 16,384 has room for 4,089 events
  counted_room : Facts → length file ≤ 16384 → Kept_apart → header_word file 0 ≤ 4089
  counted_room f h (inl (inl e)) = omega arith
  counted_room f h (inl (inr b)) = omega arith
  counted_room f h (inr b) = omega arith

  pub most_events : (Row5 file → ⊥) → length file ≤ 16384 → header_word file 0 ≤ 4089
  most_events n h = either facts (λ f. counted_room f h f.1) (λ r. absurd (n r))
