-- What an event does to a state, told from the state before it. (rules 11.1 to 11.5)
use Rattle.std.specs.Prelude.{Bool, cond, ℕ, eqb, ltb}
use Rattle.bus.specs.declared.phase.Mode.{Mode}
use Rattle.bus.specs.declared.phase.Mode.TheVariants.{Address, Pointer, Writing, Reading, Deaf}
use Rattle.bus.specs.declared.phase.Phase.{Phase}
use Rattle.bus.specs.declared.phase.Phase.TheVariants as phase
use Rattle.bus.specs.declared.phase.Bus.{Bus}
use Rattle.bus.specs.Phase.{next_of}
use Rattle.sd2068.specs.declared.clock.Clock.{Clock}
use Rattle.sd2068.specs.Step.{refusal_of}
use Rattle.sd2068.specs.Transfer.{clears_of}
use Rattle.sd2068.specs.Writing.{stores_of}
use Rattle.facts.specs.declared.deeds.Deed.{Deed}
use Rattle.facts.specs.declared.deeds.Deed.TheVariants as deed

-- START begins a transfer, or stands in an open one
abbrev pub start_deed : Phase → Deed
start_deed phase.Closed = deed.Opened
start_deed (phase.Open m t) = deed.Repeated

-- STOP ends an open transfer, and may clear the flags
abbrev pub stop_deed : Phase → Bool → Deed
stop_deed phase.Closed clears = deed.Idle
stop_deed (phase.Open m t) clears = cond clears deed.Cleared deed.Closed

-- an address byte
abbrev pub address_deed : ℕ → Deed
address_deed b = cond (eqb b 0x64) deed.ToWrite (cond (eqb b 0x65) deed.ToRead deed.Elsewhere)

-- a pointer byte
abbrev pub pointer_deed : ℕ → Deed
pointer_deed b = cond (ltb b 0x20) (deed.Pointed b) deed.Beyond

-- a data byte, at the pointer
abbrev pub data_deed : Clock → ℕ → Deed
data_deed c b = cond (stores_of c c.bus.pointer b) (deed.Stored c.bus.pointer) (deed.Lost c.bus.pointer)

-- a byte in an open transfer, by what it awaits
abbrev pub heard_deed : Mode → Clock → ℕ → Deed
heard_deed Address c b = address_deed b
heard_deed Pointer c b = pointer_deed b
heard_deed Writing c b = data_deed c b
heard_deed Reading c b = deed.Unheard
heard_deed Deaf c b = deed.Unheard

abbrev pub byte_in : Phase → Clock → ℕ → Deed
byte_in phase.Closed c b = deed.Unheard
byte_in (phase.Open m t) c b = heard_deed m c b

abbrev pub byte_deed : Clock → ℕ → Deed
byte_deed c b = byte_in c.bus.phase c b

-- a register that is sent: the time from the latch; after 1Fh the time is latched anew
abbrev pub register_deed : ℕ → Deed
register_deed a = cond (ltb a 0x07) (deed.Latched a) (cond (eqb (next_of a) 0x00) (deed.Renewed a) (deed.Sent a))

-- a read in an open transfer: only one that reads sends a byte
abbrev pub sent_deed : Mode → ℕ → Deed
sent_deed Address p = deed.Silent
sent_deed Pointer p = deed.Silent
sent_deed Writing p = deed.Silent
sent_deed Reading p = register_deed p
sent_deed Deaf p = deed.Silent

abbrev pub read_in : Phase → ℕ → Deed
read_in phase.Closed p = deed.Silent
read_in (phase.Open m t) p = sent_deed m p

abbrev pub read_deed : Bus → Deed
read_deed bus = read_in bus.phase bus.pointer

-- by the kind, 0 to 6: START, STOP, a byte, a read with ACK or NAK, pulses, power loss
unfoldable pub event_deed : Clock → ℕ → ℕ → Deed
event_deed c kind b =
    cond (eqb kind 0) (start_deed c.bus.phase)
    (cond (eqb kind 1) (stop_deed c.bus.phase (clears_of c))
    (cond (eqb kind 2) (byte_deed c b)
    (cond (eqb kind 3) (read_deed c.bus)
    (cond (eqb kind 4) (read_deed c.bus)
    (cond (eqb kind 5) deed.Passed deed.PowerLost)))))

-- an event that the step refuses does nothing
unfoldable pub deed_of : Clock → ℕ → ℕ → ℕ → Deed
deed_of c kind byte count = cond (eqb (refusal_of c kind byte count) 0) (event_deed c kind byte) deed.Refused
