-- A read. (rules 6.7, 6.8 and 6.11)
use Rattle.std.specs.Prelude.{Bool, cond, ◌||◌, ℕ, eqb, Some, None}
use Rattle.bus.specs.declared.phase.Mode.{Mode}
use Rattle.bus.specs.declared.phase.Mode.TheVariants.{Address, Pointer, Writing, Reading, Deaf}
use Rattle.bus.specs.declared.phase.Transfer.{Transfer}
use Rattle.bus.specs.declared.phase.Phase.{Phase}
use Rattle.bus.specs.declared.phase.Phase.TheVariants.{Closed, Open}
use Rattle.bus.specs.declared.phase.Bus.{Bus}
use Rattle.bus.specs.declared.reads.Read.{Read}
use Rattle.bus.specs.Phase.{next_of}

-- a read at 0Fh marks the transfer
abbrev pub marks_of : ℕ → Bool
marks_of p = eqb p 0x0F

-- after a byte was read: the pointer steps, 0Fh is marked, and a NAK makes the chip deaf
abbrev pub moved_of : ℕ → Transfer → Bool → Bus
moved_of p t ack =
    record {
      pointer = next_of p;
      phase = Open (cond ack Reading Deaf) (record { age = t.age; marked = marks_of p || t.marked });
    }

-- nothing is sent and nothing moves
abbrev pub unread_of : Mode → ℕ → Transfer → Read
unread_of m p t = record { bus = record { pointer = p; phase = Open m t }; sent = None }

-- by the mode: only a transfer that reads sends the byte at its pointer
abbrev pub read_in : Mode → ℕ → Transfer → Bool → Read
read_in Address p t ack = unread_of Address p t
read_in Pointer p t ack = unread_of Pointer p t
read_in Writing p t ack = unread_of Writing p t
read_in Reading p t ack = record { bus = moved_of p t ack; sent = Some p }
read_in Deaf p t ack = unread_of Deaf p t

abbrev pub read_by : Phase → ℕ → Bool → Read
read_by Closed p ack = record { bus = record { pointer = p; phase = Closed }; sent = None }
read_by (Open m t) p ack = read_in m p t ack

unfoldable pub read_of : Bus → Bool → Read
read_of bus ack = read_by bus.phase bus.pointer ack
