-- An event by its kind, and what a try at it comes to. (rules 8.1 and 8.3)
use Rattle.std.specs.Prelude.{cond, ℕ, eqb, Option, Some, None, Result, Ok, Err}
use Rattle.events.specs.declared.event.Event.{Event}
use Rattle.events.specs.declared.kind.Kind.{Kind}
use Rattle.events.specs.declared.kind.Kind.TheVariants.{Start, Stop, Byte, ReadAck, ReadNak, Pulses, PowerLoss}
use Rattle.events.specs.declared.refusal.Refusal.{Refusal}
use Rattle.events.specs.Refusal.{number_of, fault_in}

-- the number of a kind, its byte and its count; what a kind does not use is 0
abbrev pub event_of : Kind → Event
event_of Start = record { kind = 0; byte = 0; count = 0 }
event_of Stop = record { kind = 1; byte = 0; count = 0 }
event_of (Byte b) = record { kind = 2; byte = b; count = 0 }
event_of ReadAck = record { kind = 3; byte = 0; count = 0 }
event_of ReadNak = record { kind = 4; byte = 0; count = 0 }
event_of (Pulses n) = record { kind = 5; byte = 0; count = n }
event_of PowerLoss = record { kind = 6; byte = 0; count = 0 }

-- the number of a refusal, 0 where there is none, and the event that is had where there is none
pub record Tried : Type 0 where
  pub refusal : ℕ
  pub event : Option Event

abbrev pub tried : Result Kind Refusal → Tried
tried (Ok k) = record { refusal = 0; event = Some (event_of k) }
tried (Err r) = record { refusal = number_of r; event = None }

-- an event that is not refused, as it is
abbrev pub tried_of : Event → Tried
tried_of e = record { refusal = fault_in e; event = cond (eqb (fault_in e) 0) (Some e) None }
