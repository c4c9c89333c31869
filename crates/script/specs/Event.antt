-- The events of a section, four bytes each. (rule 9.3)
use Rattle.std.specs.Prelude.{List, [], ◌∷◌, ℕ, zero, suc, ◌+◌, ◌/◌, length, get_or}
use Rattle.events.specs.declared.event.Event.{Event}
use Rattle.script.specs.Header.{word_of}

-- kind, byte and count
abbrev pub event_at : List ℕ → ℕ → Event
event_at s at =
    record { kind = get_or s at 0; byte = get_or s (at + 1) 0; count = word_of (get_or s (at + 2) 0) (get_or s (at + 3) 0) }

-- n events from a place on
abbrev pub events_from : List ℕ → ℕ → ℕ → List Event
events_from s at zero = []
events_from s at (suc n) = event_at s at ∷ events_from s (at + 4) n

unfoldable pub events_in : List ℕ → List Event
events_in s = events_from s 0 (length s / 4)
