-- What each deed says: of the event's kind, of the state before it, of its answer, and of the state that it leaves. (rules 11.1 to 11.5)
use Rattle.std.specs.Prelude.{◌≡◌, Bool, true, false, List, ℕ, ◌≤◌, ◌<◌, get_or}
use Rattle.registers.specs.Seven.{bytes_of}
use Rattle.control.specs.Lock.{written_of}
use Rattle.bus.specs.declared.phase.Mode.{Mode}
use Rattle.bus.specs.declared.phase.Mode.TheVariants.{Address, Pointer, Writing, Reading, Deaf}
use Rattle.bus.specs.declared.phase.Transfer.{Transfer}
use Rattle.bus.specs.declared.phase.Phase.{Phase}
use Rattle.bus.specs.declared.phase.Phase.TheVariants as phase
use Rattle.bus.specs.Phase.{next_of, closed_bus}
use Rattle.bus.specs.Reads.{moved_of}
use Rattle.events.specs.declared.answer.Answer.{Answer}
use Rattle.events.specs.declared.answer.Answer.TheVariants.{Ack, Nak, Byte}
use Rattle.sd2068.specs.declared.clock.Clock.{Clock}
use Rattle.sd2068.specs.declared.answers.Answered.{Answered}
use Rattle.sd2068.specs.Clock.{with_alarm, with_countdown, with_lock, with_latched, with_bus}
use Rattle.sd2068.specs.Controls.{arst_of}
use Rattle.sd2068.specs.Power.{lost_of}
use Rattle.sd2068.specs.Pulse.{pulses_of}
use Rattle.sd2068.specs.Reading.{register_of}
use Rattle.sd2068.specs.Step.{quiet_of}
use Rattle.sd2068.specs.Transfer.{alarm_kept, countdown_kept}
use Rattle.sd2068.specs.Writing.{stores_of, written_by}
use Rattle.facts.specs.declared.deeds.Deed.{Deed}
use Rattle.facts.specs.declared.deeds.Deed.TheVariants as deed

-- an answer and the state beside it
abbrev pub answering : Answer → Clock → Answered
answering a c = record { clock = c; answer = a }

-- the state with the transfer led on: the pointer, and what it awaits or does
abbrev pub led : Clock → ℕ → Mode → Transfer → Clock
led c p m t = with_bus c (record { pointer = p; phase = phase.Open m t })

-- the state with both flags kept, or cleared
abbrev pub flags_kept : Bool → Clock → Clock
flags_kept keep c = with_countdown (with_alarm c (alarm_kept keep c.alarm)) (countdown_kept keep c.countdown)

-- a master's byte, and a read, is awaited
abbrev pub hears : Phase → Bool
hears phase.Closed = false
hears (phase.Open Address t) = true
hears (phase.Open Pointer t) = true
hears (phase.Open Writing t) = true
hears (phase.Open Reading t) = false
hears (phase.Open Deaf t) = false

abbrev pub reads : Phase → Bool
reads phase.Closed = false
reads (phase.Open Address t) = false
reads (phase.Open Pointer t) = false
reads (phase.Open Writing t) = false
reads (phase.Open Reading t) = true
reads (phase.Open Deaf t) = false

-- no transfer is open; one is, and awaits or does this
abbrev pub Shut : Clock → Type 0
Shut c = c.bus.phase ≡ phase.Closed

abbrev pub In : Clock → Mode → Transfer → Type 0
In c m t = c.bus.phase ≡ phase.Open m t

-- the pointer, and the seven bytes of the time as it stands
abbrev pub at : Clock → ℕ
at c = c.bus.pointer

abbrev pub live : Clock → List ℕ
live c = bytes_of c.hand.time

-- STOP clears the flags: ARST is 1, and 0Fh was read in the transfer
abbrev pub Clears : Clock → Transfer → Type 0
Clears c t = (arst_of c.control.ctr3 ≡ true) × (t.marked ≡ true)

-- the kinds of a read, and whether the master acknowledges the byte
pub data ReadKind : ℕ → Bool → Type 0 where
  with_ack : ReadKind 3 true
  with_nak : ReadKind 4 false

-- an event of byte b or n pulses that is not refused: its kind (0 START, 1 STOP, 2 a byte, 3 and 4 a read, 5 pulses, 6 power loss), its deed on a state, and what it answers and leaves
pub data Done (c : Clock) (kind b n : ℕ) : Deed → Answered → Type 0 where
  opened : kind ≡ 0 → Shut c → Done c kind b n deed.Opened (quiet_of (led c (at c) Address (record { age = 0; marked = false })))
  repeated : {m : Mode} {t : Transfer} → kind ≡ 0 → In c m t → Done c kind b n deed.Repeated (quiet_of (led c (at c) Address t))
  idle : kind ≡ 1 → Shut c → Done c kind b n deed.Idle (quiet_of (with_bus c closed_bus))
  closed : {m : Mode} {t : Transfer} → kind ≡ 1 → In c m t → (Clears c t → ⊥) → Done c kind b n deed.Closed (quiet_of (with_bus c closed_bus))
  cleared : {m : Mode} {t : Transfer} → kind ≡ 1 → In c m t → Clears c t → Done c kind b n deed.Cleared (quiet_of (with_bus (flags_kept false c) closed_bus))
  to_write : {t : Transfer} → kind ≡ 2 → In c Address t → b ≡ 0x64 → Done c kind b n deed.ToWrite (answering Ack (led c (at c) Pointer t))
  to_read : {t : Transfer} → kind ≡ 2 → In c Address t → b ≡ 0x65 → Done c kind b n deed.ToRead (answering Ack (led (with_latched c (live c)) (at c) Reading t))
  elsewhere : {t : Transfer} → kind ≡ 2 → In c Address t → (b ≡ 0x64 → ⊥) → (b ≡ 0x65 → ⊥) → Done c kind b n deed.Elsewhere (answering Nak (led c (at c) Deaf t))
  pointed : {t : Transfer} → kind ≡ 2 → In c Pointer t → b < 0x20 → Done c kind b n (deed.Pointed b) (answering Ack (led c b Writing t))
  beyond : {t : Transfer} → kind ≡ 2 → In c Pointer t → 0x20 ≤ b → Done c kind b n deed.Beyond (answering Nak (led c (at c) Deaf t))
  stored : {t : Transfer} → kind ≡ 2 → In c Writing t → stores_of c (at c) b ≡ true → Done c kind b n (deed.Stored (at c)) (answering Ack (led (written_by true c (at c) b) (next_of (at c)) Writing t))
  lost : {t : Transfer} → kind ≡ 2 → In c Writing t → stores_of c (at c) b ≡ false → Done c kind b n (deed.Lost (at c)) (answering Ack (led (with_lock c (written_of c.lock (at c) b)) (next_of (at c)) Writing t))
  unheard : kind ≡ 2 → hears c.bus.phase ≡ false → Done c kind b n deed.Unheard (answering Nak c)
  latched : {t : Transfer} {ack : Bool} → ReadKind kind ack → In c Reading t → at c < 0x07 → Done c kind b n (deed.Latched (at c)) (answering (Byte (get_or c.latched (at c) 0)) (with_bus c (moved_of (at c) t ack)))
  sent : {t : Transfer} {ack : Bool} → ReadKind kind ack → In c Reading t → 0x07 ≤ at c → (next_of (at c) ≡ 0x00 → ⊥) → Done c kind b n (deed.Sent (at c)) (answering (Byte (register_of c (at c))) (with_bus c (moved_of (at c) t ack)))
  renewed : {t : Transfer} {ack : Bool} → ReadKind kind ack → In c Reading t → 0x07 ≤ at c → next_of (at c) ≡ 0x00 → Done c kind b n (deed.Renewed (at c)) (answering (Byte (register_of c (at c))) (with_bus (with_latched c (live c)) (moved_of (at c) t ack)))
  silent : {ack : Bool} → ReadKind kind ack → reads c.bus.phase ≡ false → Done c kind b n deed.Silent (answering (Byte 0xFF) c)
  passed : kind ≡ 5 → Done c kind b n deed.Passed (quiet_of (pulses_of c n))
  power_lost : kind ≡ 6 → Done c kind b n deed.PowerLost (quiet_of (lost_of c))
