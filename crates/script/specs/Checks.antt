-- The refusals of a file, in their order. (rule 9.4)
use Rattle.std.specs.Prelude.{cond, List, [], ◌∷◌, ℕ, ◌+◌, ◌*◌, eqb, ltb, length, Result, Ok, Err}
use Rattle.registers.specs.Fixed.{clear_time_of}
use Rattle.events.specs.declared.event.Event.{Event}
use Rattle.events.specs.Refusal.{number_of, fault_in}
use Rattle.sd2068.specs.Power.{start_time}
use Rattle.script.specs.declared.header.Header.{Header}
use Rattle.script.specs.declared.checks.Fault.{Fault}
use Rattle.script.specs.Header.{header_of}
use Rattle.script.specs.Sections.{sections_of, section_of}
use Rattle.script.specs.Event.{events_in}

-- a refusal's number and the index of the event that it is for; 0 and 0 is none
pub record Found : Type 0 where
  pub refusal : ℕ
  pub index : ℕ

abbrev pub found_at : ℕ → ℕ → Found
found_at n i = record { refusal = n; index = i }

abbrev pub none : Found
none = found_at 0 0

-- the second where the first is none
abbrev pub or_else : Found → Found → Found
or_else f g = cond (eqb f.refusal 0) g f

-- the first event at fault, where the first of the list has index i
unfoldable pub first_of : List Event → ℕ → Found
first_of [] i = none
first_of (e ∷ es) i = cond (eqb (fault_in e) 0) (first_of es (i + 1)) (found_at (fault_in e) i)

-- the start bytes, and the events, of a file whose sections are right
abbrev pub start_bytes_of : List ℕ → Header → List ℕ
start_bytes_of file h = section_of file h.start 19

abbrev pub events_of : List ℕ → Header → List Event
events_of file h = events_in (section_of file h.events (h.count * 4))

-- 6 for a fixed bit in the time, then the events, then 7 for an output shorter than five bytes an event
unfoldable pub placed_of : List ℕ → Header → ℕ → Found
placed_of file h room =
    cond (clear_time_of (start_time (start_bytes_of file h)))
    (or_else (first_of (events_of file h) 0) (cond (ltb room (h.count * 5)) (found_at 7 0) none))
    (found_at 6 0)

-- 8 for a file over 16,384 bytes, 4 for one under 8, 5 for its sections, and so on
unfoldable pub checked_of : List ℕ → ℕ → Found
checked_of file room =
    cond (ltb 16384 (length file)) (found_at 8 0)
    (cond (ltb (length file) 8) (found_at 4 0)
    (cond (sections_of (header_of file) (length file)) (placed_of file (header_of file) room) (found_at 5 0)))

-- what the check's answer says
abbrev pub found : {T : Type 0} → Result T Fault → Found
found (Ok x) = none
found (Err f) = found_at (number_of f.refusal) f.index
