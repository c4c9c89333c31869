-- What calls tell, read back as the header has it, beside what the chip's steps say. (rules 10.5 and 10.8)
use Rattle.std.specs.Prelude.{cond, List, [], ◌∷◌, ℕ, ◌/◌, ◌%◌, ◌<◌}
use Rattle.events.specs.declared.event.Event.{Event}
use Rattle.sd2068.specs.declared.clock.Clock.{Clock}
use Rattle.sd2068.specs.Run.{told_by, read_by}
use Rattle.state_events.specs.Said.{Said, said_of}

-- the parts of what a run tells
abbrev pub run_refusal_in : ℕ → ℕ
run_refusal_in n = n % 65536

abbrev pub run_index_in : ℕ → ℕ
run_index_in n = n / 65536 % 65536

abbrev pub run_count_in : ℕ → ℕ
run_count_in n = n / 4294967296

-- what the chip's steps say, one after the other
unfoldable pub said_by : Clock → List Event → List Said
said_by c [] = []
said_by c (e ∷ es) = said_of (told_by c e) ∷ said_by (told_by c e).state es

-- of what is said to events, the answers to the reads
unfoldable pub reads_said : List Event → List Said → List (List ℕ)
reads_said [] all = []
reads_said (e ∷ es) [] = []
reads_said (e ∷ es) (x ∷ xs) = cond (read_by e) (x.answer ∷ reads_said es xs) (reads_said es xs)

-- what the type of an event's byte says and a number does not
pub data EventBytes : List Event → Type 0 where
  none : EventBytes []
  more : {e : Event} {es : List Event} → e.byte < 256 → EventBytes es → EventBytes (e ∷ es)
