-- The events of the bus. (rules 6.2 to 6.11)
use Rattle.std.specs.Prelude.{Bool, cond, ◌&&◌, not, ℕ, eqb, Option, Some, None}
use Rattle.registers.specs.Seven.{bytes_of}
use Rattle.bus.specs.declared.bytes.Effect.{Effect}
use Rattle.bus.specs.declared.bytes.Effect.TheVariants as effect
use Rattle.bus.specs.Phase as phase
use Rattle.bus.specs.Phase.{next_of, closed_bus, marked_of}
use Rattle.bus.specs.Bytes.{heard_of}
use Rattle.bus.specs.Reads as reads
use Rattle.alarm.specs.declared.alarm.Alarm.{Alarm}
use Rattle.countdown.specs.declared.Countdown.{Countdown}
use Rattle.sd2068.specs.declared.clock.Clock.{Clock}
use Rattle.events.specs.declared.answer.Answer.TheVariants.{Byte}
pub use Rattle.events.specs.Answer.{acknowledged}
use Rattle.sd2068.specs.declared.answers.Answered.{Answered}
use Rattle.sd2068.specs.Controls.{arst_of}
use Rattle.sd2068.specs.Clock.{with_latched, with_bus}
use Rattle.sd2068.specs.Reading.{shown_of}
use Rattle.sd2068.specs.Writing.{write_of}

-- START
abbrev pub started_of : Clock → Clock
started_of c = with_bus c (phase.started_of c.bus)

-- under ARST a transfer that read 0Fh clears the flags
abbrev pub clears_of : Clock → Bool
clears_of c = arst_of c.control.ctr3 && marked_of c.bus

abbrev pub alarm_kept : Bool → Alarm → Alarm
alarm_kept keep a = record a { flag = keep && a.flag }

abbrev pub countdown_kept : Bool → Countdown → Countdown
countdown_kept keep d = record d { flag = keep && d.flag }

-- STOP leaves a closed bus
unfoldable pub stopped_of : Clock → Clock
stopped_of c =
    record c {
      alarm = alarm_kept (not (clears_of c)) c.alarm;
      countdown = countdown_kept (not (clears_of c)) c.countdown;
      bus = closed_bus;
    }

-- the seven bytes of the time, latched
abbrev pub latched_of : Clock → Clock
latched_of c = with_latched c (bytes_of c.hand.time)

-- what a byte does beside the bus
abbrev pub effected_by : Effect → Clock → ℕ → Clock
effected_by effect.None c b = c
effected_by effect.Latch c b = latched_of c
effected_by (effect.Write a) c b = write_of c a b

-- a master's byte
unfoldable pub byte_of : Clock → ℕ → Answered
byte_of c b =
    record {
      clock = with_bus (effected_by (heard_of c.bus b).effect c b) (heard_of c.bus b).bus;
      answer = acknowledged (heard_of c.bus b).ack;
    }

-- a read at a whose pointer goes on to 00h latches anew
abbrev pub renews_of : ℕ → Bool
renews_of a = eqb (next_of a) 0x00

unfoldable pub renewed_of : Clock → ℕ → Clock
renewed_of c a = with_latched c (cond (renews_of a) (bytes_of c.hand.time) c.latched)

-- a read: the byte at the pointer, and then what moves; FFh and no change where none is sent
abbrev pub sent_by : Option ℕ → Clock → Bool → Answered
sent_by None c ack = record { clock = c; answer = Byte 0xFF }
sent_by (Some a) c ack =
    record { clock = with_bus (renewed_of c a) (reads.read_of c.bus ack).bus; answer = Byte (shown_of c a) }

unfoldable pub read_of : Clock → Bool → Answered
read_of c ack = sent_by (reads.read_of c.bus ack).sent c ack
