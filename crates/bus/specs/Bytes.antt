-- A master's byte. (rules 6.3 to 6.6)
use Rattle.std.specs.Prelude.{true, false, cond, ℕ, eqb, ltb}
use Rattle.bus.specs.declared.phase.Mode.{Mode}
use Rattle.bus.specs.declared.phase.Mode.TheVariants.{Address, Pointer, Writing, Reading, Deaf}
use Rattle.bus.specs.declared.phase.Transfer.{Transfer}
use Rattle.bus.specs.declared.phase.Phase.{Phase}
use Rattle.bus.specs.declared.phase.Phase.TheVariants.{Closed, Open}
use Rattle.bus.specs.declared.phase.Bus.{Bus}
use Rattle.bus.specs.declared.bytes.Effect.TheVariants.{None, Latch, Write}
use Rattle.bus.specs.declared.bytes.Heard.{Heard}
use Rattle.bus.specs.Phase.{next_of}

-- not acknowledged, and deaf from here on
abbrev pub deaf_of : ℕ → Transfer → Heard
deaf_of p t = record { bus = record { pointer = p; phase = Open Deaf t }; ack = false; effect = None }

-- an address: 64h awaits the pointer, 65h latches the time and reads, any other makes deaf
abbrev pub addressed_of : ℕ → Transfer → ℕ → Heard
addressed_of p t b =
    cond (eqb b 0x64) (record { bus = record { pointer = p; phase = Open Pointer t }; ack = true; effect = None })
    (cond (eqb b 0x65) (record { bus = record { pointer = p; phase = Open Reading t }; ack = true; effect = Latch })
    (deaf_of p t))

-- a pointer byte, 00h to 1Fh; above it the chip is deaf
abbrev pub pointed_of : ℕ → Transfer → ℕ → Heard
pointed_of p t b =
    cond (ltb b 0x20) (record { bus = record { pointer = b; phase = Open Writing t }; ack = true; effect = None })
    (deaf_of p t)

-- by the mode: a data byte is written at the pointer, which steps; where none is awaited NAK and no change
abbrev pub heard_in : Mode → ℕ → Transfer → ℕ → Heard
heard_in Address p t b = addressed_of p t b
heard_in Pointer p t b = pointed_of p t b
heard_in Writing p t b = record { bus = record { pointer = next_of p; phase = Open Writing t }; ack = true; effect = Write p }
heard_in Reading p t b = record { bus = record { pointer = p; phase = Open Reading t }; ack = false; effect = None }
heard_in Deaf p t b = deaf_of p t

abbrev pub heard_by : Phase → ℕ → ℕ → Heard
heard_by Closed p b = record { bus = record { pointer = p; phase = Closed }; ack = false; effect = None }
heard_by (Open m t) p b = heard_in m p t b

unfoldable pub heard_of : Bus → ℕ → Heard
heard_of bus b = heard_by bus.phase bus.pointer b
