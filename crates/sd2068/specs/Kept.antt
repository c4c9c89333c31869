-- A time set, any traffic, and the time read back. (rules 3.16, 4.1 to 4.4, 6.2 to 6.12, 7.1 and 7.2)
use Rattle.std.specs.Prelude.{◌≡◌, true, List, [], ◌∷◌, ◌++◌, map, ◌⊎◌, ℕ, ◌+◌, ◌<◌}
use Rattle.calendar.specs.declared.time.Time.{Time}
use Rattle.registers.specs.Fixed.{kept_of}
use Rattle.registers.specs.Seven.{bytes_of}
use Rattle.hand.specs.Span.{Counted}
use Rattle.bus.specs.declared.phase.Mode.TheVariants.{Address, Writing}
use Rattle.bus.specs.declared.phase.Transfer.{Transfer}
use Rattle.bus.specs.declared.phase.Phase.{Phase}
use Rattle.bus.specs.declared.phase.Phase.TheVariants.{Closed, Open}
use Rattle.events.specs.declared.event.Event.{Event}
use Rattle.events.specs.declared.answer.Answer.TheVariants.{Ack, Byte}
use Rattle.events.specs.Answer.{text_of}
use Rattle.events.specs.Refusal.{fault_in}
use Rattle.sd2068.specs.declared.clock.Clock.{Clock}
use Rattle.sd2068.specs.Reading.{register_of}
use Rattle.sd2068.specs.Run.{byte, ack, nak, Outcome, Machine, after, pulses_in, read_by, byte_by, spoken, reads_of}

-- the lock is open
pub record Unlocked (c : Clock) : Type 0 where
  pub wrtc1 : c.lock.wrtc1 ≡ true
  pub wrtc2 : c.lock.wrtc2 ≡ true
  pub wrtc3 : c.lock.wrtc3 ≡ true

-- a power loss
pub record PowerLoss (e : Event) : Type 0 where
  pub good : fault_in e ≡ 0
  pub kind : e.kind ≡ 6

-- a byte that sets the time or the trim: the chip writes, the lock is open, and the pointer is at a register of theirs
pub record Stores (c : Clock) (e : Event) : Type 0 where
  pub good : fault_in e ≡ 0
  pub kind : e.kind ≡ 2
  pub transfer : Transfer
  pub writes : c.bus.phase ≡ Open Writing transfer
  pub unlocked : Unlocked c
  pub place : (c.bus.pointer < 0x07) ⊎ (c.bus.pointer ≡ 0x12)

-- no event is a power loss or such a byte, each judged in the state before it
pub data Spares (m : Machine) : Clock → List Event → Type 0 where
  none : {c : Clock} → Spares m c []
  more : {c : Clock} {e : Event} {es : List Event} → (PowerLoss e → ⊥) → (Stores c e → ⊥) → Spares m (m c e).state es → Spares m c (e ∷ es)

-- the seven bytes that the registers of the time keep of those sent
abbrev pub kept_time_of : Time → Time
kept_time_of sent =
    record {
      seconds = kept_of 0x00 sent.seconds;
      minutes = kept_of 0x01 sent.minutes;
      hours = kept_of 0x02 sent.hours;
      weekday = kept_of 0x03 sent.weekday;
      day = kept_of 0x04 sent.day;
      month = kept_of 0x05 sent.month;
      year = kept_of 0x06 sent.year;
    }

-- a transfer that writes with the lock open, at the seconds
pub record Pointed (c : Clock) : Type 0 where
  pub transfer : Transfer
  pub writes : c.bus.phase ≡ Open Writing transfer
  pub pointer : c.bus.pointer ≡ 0x00
  pub unlocked : Unlocked c

-- how a time is set there: seven bytes are sent, of which the registers keep its own; `rest` is what comes after the seconds, and a read among it is unheard
pub record Setting (c : Clock) (t : Time) : Type 0 where
  pub pointed : Pointed c
  pub sent : Time
  pub kept : kept_time_of sent ≡ t
  pub rest : List Event
  pub six :
      spoken read_by rest
      ≡ byte sent.minutes ∷ byte sent.hours ∷ byte sent.weekday ∷ byte sent.day ∷ byte sent.month ∷ byte sent.year ∷ []
  pub timely : pointed.transfer.age + pulses_in rest < 16384

-- how old the transfer is that START goes on with; one that it opens is new
abbrev pub age_of : Phase → ℕ
age_of Closed = 0
age_of (Open m t) = t.age

-- one way there: with the lock open START, 64h and 00h; reads among them are unheard
pub record Pointing (c : Clock) : Type 0 where
  pub unlocked : Unlocked c
  pub pointing : List Event
  pub points : spoken read_by pointing ≡ byte 0x64 ∷ byte 0x00 ∷ []
  pub timely : age_of c.bus.phase + pulses_in pointing < 16384

-- how it is read: an address is awaited and the pointer is at the seconds; after 65h come seven reads, only the last may end in NAK, and a master's byte among them is unheard
pub record Reading (c : Clock) : Type 0 where
  pub transfer : Transfer
  pub awaits : c.bus.phase ≡ Open Address transfer
  pub pointer : c.bus.pointer ≡ 0x00
  pub reads : List Event
  pub six : spoken byte_by reads ≡ ack ∷ ack ∷ ack ∷ ack ∷ ack ∷ ack ∷ []
  pub last : Event
  pub seventh : (last ≡ ack) ⊎ (last ≡ nak)
  pub timely : transfer.age + pulses_in reads < 16384

-- the events of a setting, in whole
abbrev pub set_by : {c : Clock} {t : Time} → Setting c t → List Event
set_by s = byte s.sent.seconds ∷ s.rest

-- the pulses between the stored seconds and what comes after the traffic
abbrev pub pulses_since : {c : Clock} {t : Time} → Setting c t → List Event → ℕ
pulses_since s traffic = pulses_in s.rest + pulses_in traffic

-- a time set, any traffic, and seven bytes read
pub record Kept (m : Machine) (c : Clock) (t : Time) : Type 0 where
  pub setting : Setting c t
  pub traffic : List Event
  pub spares : Spares m (after m c (set_by setting)) traffic
  pub reading : Reading (after m (after m c (set_by setting)) traffic)

-- what comes before its 65h, and the reads after it
abbrev pub until_address : {m : Machine} {c : Clock} {t : Time} → Kept m c t → List Event
until_address k = set_by k.setting ++ k.traffic

abbrev pub reading_of : {m : Machine} {c : Clock} {t : Time} → Kept m c t → List Event
reading_of k = k.reading.reads ++ (k.reading.last ∷ [])

-- what its 65h and its seven reads answer
abbrev pub addressed : {m : Machine} {c : Clock} {t : Time} → Kept m c t → Outcome
addressed {m} {c} k = m (after m (after m c (set_by k.setting)) k.traffic) (byte 0x65)

abbrev pub read_back : {m : Machine} {c : Clock} {t : Time} → Kept m c t → List (List ℕ)
read_back {m} k = reads_of m (addressed k).state (reading_of k)

-- two characters for each byte of a time
abbrev pub shown_by : Time → List (List ℕ)
shown_by t = map (λ b. text_of (Byte b)) (bytes_of t)

-- what a reading answers: 65h is acknowledged, and the reads show the time that the setting and the pulses since give
pub record ReadsBack (t : Time) (k trim pulses : ℕ) (answer : List ℕ) (reads : List (List ℕ)) : Type 0 where
  pub acknowledged : answer ≡ text_of Ack
  pub time : Time
  pub counted : Counted t k trim pulses time
  pub shown : reads ≡ shown_by time

-- what is promised of a time set, with second number k: by 12h and the pulses since
abbrev pub KeepsTime : {m : Machine} {c : Clock} {t : Time} → ℕ → Kept m c t → Type 0
KeepsTime {m} {c} {t} k r = ReadsBack t k (register_of c 0x12) (pulses_since r.setting r.traffic) (addressed r).answer (read_back r)
