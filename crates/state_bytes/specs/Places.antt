-- What stands at a place and those behind it. (rule 10.1)
use Rattle.std.specs.Prelude.{List, [], ◌∷◌, ℕ, zero, suc, ◌+◌, get_or}
use Rattle.calendar.specs.declared.time.Time.{Time}
use Rattle.state_bytes.specs.Words.{word_of, long_of}

-- n bytes from place i + k on
abbrev pub bytes_at : List ℕ → ℕ → ℕ → ℕ → List ℕ
bytes_at s i k zero = []
bytes_at s i k (suc n) = get_or s (i + k) 0 ∷ bytes_at s i (suc k) n

-- seven bytes in the order of the time's registers
abbrev pub time_at : List ℕ → ℕ → Time
time_at s i =
    record {
      seconds = get_or s i 0;
      minutes = get_or s (i + 1) 0;
      hours = get_or s (i + 2) 0;
      weekday = get_or s (i + 3) 0;
      day = get_or s (i + 4) 0;
      month = get_or s (i + 5) 0;
      year = get_or s (i + 6) 0;
    }

abbrev pub word_at : List ℕ → ℕ → ℕ
word_at s i = word_of (get_or s i 0) (get_or s (i + 1) 0)

abbrev pub long_at : List ℕ → ℕ → ℕ
long_at s i = long_of (get_or s i 0) (get_or s (i + 1) 0) (get_or s (i + 2) 0) (get_or s (i + 3) 0)
