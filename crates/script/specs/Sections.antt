-- Where sections may lie, and what stands in them. (rule 9.2)
use Rattle.std.specs.Prelude.{Bool, ◌&&◌, ◌||◌, List, ℕ, ◌+◌, ◌*◌, eqb, leb, take, drop}
use Rattle.script.specs.declared.header.Header.{Header}

-- behind the header and in the file
abbrev pub inside_of : ℕ → ℕ → ℕ → Bool
inside_of at size length = leb 8 at && leb (at + size) length

-- no byte in common: one is empty or ends before the other
abbrev pub apart_of : ℕ → ℕ → ℕ → ℕ → Bool
apart_of a n b m = (eqb n 0 || leb (a + n) b) || leb (b + m) a

unfoldable pub sections_of : Header → ℕ → Bool
sections_of h length =
    ((eqb h.starts 19 && inside_of h.start 19 length) && inside_of h.events (h.count * 4) length)
    && apart_of h.events (h.count * 4) h.start 19

-- the bytes of a section
abbrev pub section_of : List ℕ → ℕ → ℕ → List ℕ
section_of file at size = take size (drop at file)
