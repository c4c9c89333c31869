-- What a file of which the sections are right has, and what stands in a section. Assumes nothing.
use mathlib.Core.Path.{◌≡◌, sym, ap, ap₂, ◌∙◌}
use mathlib.Core.Bool.{true, ◌&&◌}
use mathlib.Core.List.{List}
use Prim.Native.Nat.{ℕ, ◌+◌, ◌-◌, ◌*◌, ◌≤◌, ◌<◌, min}
use native.Mathlib.Omega.{arith}
use lib.Dec.{eqb, leb}
use lib.ListN.{length, take, drop, length-drop, drop_of_length-le}
use lib.Seq.{length-take-le, take_all}
use borrow.Author.Tests.{leb-true}
use Rattle.fields.proofs.FieldLaws.{and_left, and_right}
use Rattle.events.proofs.Telling.{at_most, either}
use Rattle.script.specs.declared.header.Header.{Header}
use Rattle.script.specs.Sections.{inside_of, apart_of, sections_of, section_of}

-- both sections end in the file
pub record Ends (h : Header) (n : ℕ) : Type 0 where
  pub start : h.start + 19 ≤ n
  pub events : h.events + h.count * 4 ≤ n

pub ends : (h : Header) (n : ℕ) → sections_of h n ≡ true → Ends h n
unfolding sections_of
ends h n e =
    let size = h.count * 4 in
    let first = eqb h.starts 19 && inside_of h.start 19 n in
    let inner = and_left (first && inside_of h.events size n) (apart_of h.events size h.start 19) e in
    let start = and_right (eqb h.starts 19) (inside_of h.start 19 n) (and_left first (inside_of h.events size n) inner) in
    let events = and_right first (inside_of h.events size n) inner in
    record {
      start = leb-true (h.start + 19) n (and_right (leb 8 h.start) (leb (h.start + 19) n) start);
      events = leb-true (h.events + size) n (and_right (leb 8 h.events) (leb (h.events + size) n) events);
    }

-- a section in the file has its size
pub section_length : (file : List ℕ) (at n : ℕ) → at + n ≤ length file → length (section_of file at n) ≡ n
section_length file at n h =
    let d = length-drop at file in
    length-take-le n (drop at file) (omega arith)

-- from a place that may be past the end, as many of n bytes as the file has
module _ (file : List ℕ) (at n : ℕ) where
  abbrev from : ℕ
  from = min at (length file)

  abbrev to : ℕ
  to = min (at + n) (length file)

  short : length file < at + n → take (to - from) (drop from file) ≡ section_of file at n
  short lt =
      take_all (to - from) (drop from file) (omega (arith, length-drop from file))
      ∙ either (at_most at (length file))
      (λ (le : at ≤ length file).
      let place : from ≡ at = omega arith in
      ap (λ (k : ℕ). drop k file) place)
      (λ (past : length file < at). drop_of_length-le file {i = from} (omega arith) ∙ sym (drop_of_length-le file {i = at} (omega arith)))
      ∙ sym (take_all n (drop at file) (omega (arith, length-drop at file)))

  pub part_there : take (to - from) (drop from file) ≡ section_of file at n
  part_there =
      either (at_most (at + n) (length file))
      (λ (le : at + n ≤ length file).
      let size : to - from ≡ n = omega arith in
      let place : from ≡ at = omega arith in
      ap₂ (λ (k : ℕ) (p : ℕ). take k (drop p file)) size place)
      short
