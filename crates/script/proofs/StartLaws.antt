-- The time's test holds exactly if row 6 does not. Assumes nothing.
use mathlib.Core.Path.{◌≡◌, ap, ◌∙◌, subst}
use mathlib.Core.List.{List}
use Prim.Native.Nat.{ℕ, ◌+◌, ◌<◌}
use native.Mathlib.Omega.{arith}
use lib.ListN.{get_or, drop}
use lib.Seq.{get_or-take, get_or-drop}
use Rattle.registers.specs.Fixed.{clear_time_of}
use Rattle.events.proofs.Telling.{Tells, turned}
use Rattle.sd2068.specs.Power.{start_time}
use Rattle.sd2068.proofs.RowLaws.{clear_time, not_clear}
use Rattle.script.specs.Header.{header_of}
use Rattle.script.specs.Sections.{section_of}
use Rattle.script.specs.Checks.{start_bytes_of}
use Rattle.script.specs.Rows.{header_word, starts_of, Row6}

-- a byte of a section is the file's
pub section_byte : (file : List ℕ) (at size k place : ℕ) → k < size → at + k ≡ place → get_or (section_of file at size) k 0 ≡ get_or file place 0
section_byte file at size k place h e = get_or-take size (drop at file) k 0 h ∙ get_or-drop at file k 0 ∙ ap (λ (p : ℕ). get_or file p 0) e

module _ (file : List ℕ) where
  abbrev start : List ℕ
  start = start_bytes_of file (header_of file)

  same_start : starts_of file ≡ start
  same_start =
      let at : header_word file 3 ≡ (header_of file).start = omega arith in
      ap (λ (p : ℕ). section_of file p 19) at

  pub row6 : Tells (Row6 file → ⊥) (Row6 file) (clear_time_of (start_time start))
  row6 =
      subst (λ (s : List ℕ). Tells (Row6 file → ⊥) (Row6 file) (clear_time_of (start_time s))) same_start
      (turned (clear_time (starts_of file)) (not_clear (starts_of file)) (λ x. x))
