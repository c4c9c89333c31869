-- Events one after the other. (rules 8.1 and 8.3)
use Rattle.std.specs.Prelude.{Bool, cond, ◌&&◌, ◌||◌, not, List, [], ◌∷◌, ℕ, ◌+◌, eqb}
use Rattle.events.specs.declared.event.Event.{Event}
use Rattle.events.specs.Answer.{text_of}
use Rattle.events.specs.Refusal.{fault_in}
use Rattle.sd2068.specs.declared.clock.Clock.{Clock}
use Rattle.sd2068.specs.declared.answers.Answered.{Answered}
use Rattle.sd2068.specs.Step.{Told, quiet_of, event_of, step_of}

-- the events, by their kinds
abbrev pub start : Event
start = record { kind = 0; byte = 0; count = 0 }

abbrev pub stop : Event
stop = record { kind = 1; byte = 0; count = 0 }

abbrev pub byte : ℕ → Event
byte b = record { kind = 2; byte = b; count = 0 }

abbrev pub ack : Event
ack = record { kind = 3; byte = 0; count = 0 }

abbrev pub nak : Event
nak = record { kind = 4; byte = 0; count = 0 }

abbrev pub pulses : ℕ → Event
pulses n = record { kind = 5; byte = 0; count = n }

-- what the step of an event says
abbrev pub told_by : Clock → Event → Told
told_by c e = step_of c e.kind e.byte e.count

-- what comes of an event: the state that it leaves, and the two characters of its answer
pub record Outcome : Type 0 where
  pub state : Clock
  pub answer : List ℕ

-- a way to take events: the step is one
abbrev pub Machine : Type 0
Machine = Clock → Event → Outcome

abbrev pub step : Machine
step c e = record { state = (told_by c e).state; answer = (told_by c e).answer }

-- and what is inside it is another, on any state, well formed or not; an event that is refused for itself hands the state back
abbrev pub taken_of : Clock → Event → Answered
taken_of c e = cond (eqb (fault_in e) 0) (event_of c e.kind e.byte e.count) (quiet_of c)

abbrev pub event : Machine
event c e = record { state = (taken_of c e).clock; answer = text_of (taken_of c e).answer }

-- the state after events
unfoldable pub after : Machine → Clock → List Event → Clock
after m c [] = c
after m c (e ∷ es) = after m (m c e).state es

abbrev pub after_of : Clock → List Event → Clock
after_of = after step

-- the pulses of an event, and of events in all; one that is refused makes none
abbrev pub pulses_by : Event → ℕ
pulses_by e = cond (eqb (fault_in e) 0) (cond (eqb e.kind 5) e.count 0) 0

unfoldable pub pulses_in : List Event → ℕ
pulses_in [] = 0
pulses_in (e ∷ es) = pulses_by e + pulses_in es

-- a read, with ACK or with NAK, and a master's byte, that is not refused
abbrev pub read_by : Event → Bool
read_by e = eqb (fault_in e) 0 && (eqb e.kind 3 || eqb e.kind 4)

abbrev pub byte_by : Event → Bool
byte_by e = eqb (fault_in e) 0 && eqb e.kind 2

-- refused, or pulses
abbrev pub waits : Event → Bool
waits e = not (eqb (fault_in e) 0) || eqb e.kind 5

-- events without these, and without those that a transfer leaves unheard
unfoldable pub spoken : (Event → Bool) → List Event → List Event
spoken unheard [] = []
spoken unheard (e ∷ es) = cond (waits e || unheard e) (spoken unheard es) (e ∷ spoken unheard es)

-- what the reads among events answer, in their order
unfoldable pub reads_of : Machine → Clock → List Event → List (List ℕ)
reads_of m c [] = []
reads_of m c (e ∷ es) = cond (read_by e) ((m c e).answer ∷ reads_of m (m c e).state es) (reads_of m (m c e).state es)
