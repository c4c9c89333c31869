-- What each kind of event answers and leaves to be seen, over register numbers, and the pin by it. (rules 2.9 to 2.11, 4.7, 6.2 to 6.11 and 8.1)
use Rattle.std.specs.Prelude.{◌≡◌, Bool, true, false, cond, ◌&&◌, ◌||◌, List, [], ◌∷◌, ℕ, ◌+◌, ◌-◌, ◌/◌, ◌%◌, eqb, ltb, get_or, replicate}
use Rattle.calendar.specs.Repeat.{times}
use Rattle.bus.specs.declared.phase.Mode.TheVariants.{Address, Pointer, Writing, Reading, Deaf}
use Rattle.bus.specs.declared.phase.Transfer.{Transfer}
use Rattle.bus.specs.declared.phase.Phase.{Phase}
use Rattle.bus.specs.declared.phase.Phase.TheVariants.{Closed, Open}
use Rattle.events.specs.Answer.{digit_of}
use Rattle.sd2068.specs.Step.{Told}
use Rattle.promises.specs.Registers.{bit, put, View, Looks, time_bytes}
use Rattle.promises.specs.Pin.{pin_by}
use Rattle.promises.specs.Written.{written_at, written_inner}
use Rattle.promises.specs.Pulsed.{after_pulse}

-- what is seen of an event: its answer, and the clock that it leaves
pub record Seen : Type 0 where
  pub said : List ℕ
  pub left : View

-- a step is not refused and shows this, with the pin that the registers and the numbers inside then say
pub record Shows (r : Told) (s : Seen) : Type 0 where
  pub refusal : r.refusal ≡ 0
  pub answer : r.answer ≡ s.said
  pub state : Looks r.state s.left
  pub pin : r.pin ≡ pin_by s.left

-- the answers: --, AK, NK, and the two digits of a byte (rule 8.1)
abbrev pub quiet_text : List ℕ
quiet_text = 45 ∷ 45 ∷ []

abbrev pub ack_text : List ℕ
ack_text = 65 ∷ 75 ∷ []

abbrev pub nak_text : List ℕ
nak_text = 78 ∷ 75 ∷ []

abbrev pub digits_text : ℕ → List ℕ
digits_text b = digit_of (b / 16) ∷ digit_of (b % 16) ∷ []

-- nothing moves
abbrev pub unmoved : List ℕ → View → Seen
unmoved answer v = record { said = answer; left = v }

-- the phase after START: an address is awaited; where no transfer is open one begins, else age and mark go on (rule 6.2)
abbrev pub started_phase : Phase → Phase
started_phase Closed = Open Address (record { age = 0; marked = false })
started_phase (Open m t) = Open Address t

-- START: nothing else moves
unfoldable pub start_seen : View → Seen
start_seen v =
    record {
      said = quiet_text;
      left = record { register = v.register; inner = v.inner; latch = v.latch; pointer = v.pointer; phase = started_phase v.phase };
    }

-- 0Fh was read in the open transfer (rule 6.11)
abbrev pub is_marked : Phase → Bool
is_marked Closed = false
is_marked (Open m t) = t.marked

-- the registers after STOP: where ARST is 1 and the transfer is marked, INTAF and INTDF clear (rule 6.11)
unfoldable pub stopped_at : Bool → (ℕ → ℕ) → ℕ → ℕ
stopped_at marked r a = cond (eqb a 0x0F && bit 7 (r 0x11) && marked) (put 5 false (put 4 false (r 0x0F))) (r a)

-- STOP: the bus closes, its pointer at 0 (rule 6.10)
unfoldable pub stop_seen : View → Seen
stop_seen v =
    record {
      said = quiet_text;
      left =
          record {
            register = stopped_at (is_marked v.phase) v.register;
            inner = v.inner;
            latch = v.latch;
            pointer = 0x00;
            phase = Closed;
          };
    }

-- an address: 64h awaits a pointer, 65h latches the time and reads, any other leaves the chip deaf (rule 6.3)
abbrev pub address_seen : Transfer → View → ℕ → Seen
address_seen t v b =
    record {
      said = cond (eqb b 0x64 || eqb b 0x65) ack_text nak_text;
      left =
          record {
            register = v.register;
            inner = v.inner;
            latch = cond (eqb b 0x65) (time_bytes v.register) v.latch;
            pointer = v.pointer;
            phase = Open (cond (eqb b 0x64) Pointer (cond (eqb b 0x65) Reading Deaf)) t;
          };
    }

-- a pointer: 00h to 1Fh is set and the chip writes, any other leaves it deaf (rule 6.4)
abbrev pub pointer_seen : Transfer → View → ℕ → Seen
pointer_seen t v b =
    record {
      said = cond (ltb b 0x20) ack_text nak_text;
      left =
          record {
            register = v.register;
            inner = v.inner;
            latch = v.latch;
            pointer = cond (ltb b 0x20) b v.pointer;
            phase = Open (cond (ltb b 0x20) Writing Deaf) t;
          };
    }

-- data: it is written at the pointer, which steps (rule 6.5)
abbrev pub data_seen : Transfer → View → ℕ → Seen
data_seen t v b =
    record {
      said = ack_text;
      left =
          record {
            register = written_at v.register v.pointer b;
            inner = written_inner v.register v.pointer b v.inner;
            latch = v.latch;
            pointer = (v.pointer + 1) % 32;
            phase = Open Writing t;
          };
    }

-- a master's byte, by the phase (rules 6.3 to 6.6)
unfoldable pub byte_seen : Phase → View → ℕ → Seen
byte_seen Closed v b = unmoved nak_text v
byte_seen (Open Address t) v b = address_seen t v b
byte_seen (Open Pointer t) v b = pointer_seen t v b
byte_seen (Open Writing t) v b = data_seen t v b
byte_seen (Open Reading t) v b = unmoved nak_text v
byte_seen (Open Deaf t) v b = unmoved nak_text v

-- the byte at the pointer, of the time from the latch; 0Fh marks the transfer, 1Fh latches the time anew, and after a NAK the chip is deaf (rules 6.7, 6.9 and 6.11)
abbrev pub sent_seen : Transfer → View → Bool → Seen
sent_seen t v more =
    record {
      said = digits_text (cond (ltb v.pointer 0x07) (get_or v.latch v.pointer 0) (v.register v.pointer));
      left =
          record {
            register = v.register;
            inner = v.inner;
            latch = cond (eqb v.pointer 0x1F) (time_bytes v.register) v.latch;
            pointer = (v.pointer + 1) % 32;
            phase = Open (cond more Reading Deaf) (record { age = t.age; marked = eqb v.pointer 0x0F || t.marked });
          };
    }

-- a read with ACK or NAK, by the phase: FFh where the chip does not read (rules 6.7 and 6.8)
unfoldable pub read_seen : Phase → View → Bool → Seen
read_seen Closed v more = unmoved (digits_text 0xFF) v
read_seen (Open Address t) v more = unmoved (digits_text 0xFF) v
read_seen (Open Pointer t) v more = unmoved (digits_text 0xFF) v
read_seen (Open Writing t) v more = unmoved (digits_text 0xFF) v
read_seen (Open Reading t) v more = sent_seen t v more
read_seen (Open Deaf t) v more = unmoved (digits_text 0xFF) v

-- n pulses, one after the other (rule 4.7)
abbrev pub pulses_seen : View → ℕ → Seen
pulses_seen v n = record { said = quiet_text; left = times after_pulse n v }

-- the registers that power leaves of r: the time and the RAM stay, 0Fh is 01h, every other is 0 (rules 2.10 and 2.11)
unfoldable pub powered_at : (ℕ → ℕ) → ℕ → ℕ
powered_at r a = cond (ltb a 0x07) (r a) (cond (ltb a 0x14) (cond (eqb a 0x0F) 0x01 0x00) (r a))

-- with them every number inside is 0, and the bus is closed and points at 00h (rule 2.10)
unfoldable pub powered_view : (ℕ → ℕ) → View
powered_view r =
    record {
      register = powered_at r;
      inner = record { counter = 0; reload = 0; prescaler = 0; alarm_pulse = 0; countdown_pulse = 0; divider = 0 };
      latch = replicate 7 0;
      pointer = 0x00;
      phase = Closed;
    }

-- power loss (rule 2.11)
abbrev pub loss_seen : View → Seen
loss_seen v = record { said = quiet_text; left = powered_view v.register }

-- the 19 start bytes by the registers that they are for: the first seven from 00h on, the others from 14h on (rule 2.9)
unfoldable pub start_at : List ℕ → ℕ → ℕ
start_at s a = cond (ltb a 0x07) (get_or s a 0) (cond (ltb a 0x20) (get_or s (a - 0x14 + 7) 0) 0xFF)

-- any event, by its kind (rule 8.1)
unfoldable pub event_seen : View → ℕ → ℕ → ℕ → Seen
event_seen v kind byte count =
    cond (eqb kind 0) (start_seen v)
    (cond (eqb kind 1) (stop_seen v)
    (cond (eqb kind 2) (byte_seen v.phase v byte)
    (cond (eqb kind 3) (read_seen v.phase v true)
    (cond (eqb kind 4) (read_seen v.phase v false)
    (cond (eqb kind 5) (pulses_seen v count)
    (loss_seen v))))))
