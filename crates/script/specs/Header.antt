-- The four words that a file begins with. (rule 9.1)
use Rattle.std.specs.Prelude.{List, ℕ, ◌+◌, ◌*◌, get_or}
use Rattle.script.specs.declared.header.Header.{Header}

-- little-endian
abbrev pub word_of : ℕ → ℕ → ℕ
word_of low high = low + high * 256

-- the event count, the events' offset, the start byte count, the start bytes' offset
abbrev pub header_of : List ℕ → Header
header_of file =
    record {
      count = word_of (get_or file 0 0) (get_or file 1 0);
      events = word_of (get_or file 2 0) (get_or file 3 0);
      starts = word_of (get_or file 4 0) (get_or file 5 0);
      start = word_of (get_or file 6 0) (get_or file 7 0);
    }
