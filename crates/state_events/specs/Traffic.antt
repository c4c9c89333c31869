-- The events of the bus on a state's bytes. (rules 6.2 to 6.11)
use Rattle.std.specs.Prelude.{Bool, cond, ◌&&◌, not, List, ℕ, ◌+◌, ltb, get_or, set, Option, Some, None}
use Rattle.bus.specs.declared.bytes.Effect.{Effect}
use Rattle.bus.specs.declared.bytes.Effect.TheVariants as effect
use Rattle.bus.specs.Phase.{started_of, closed_bus, marked_of}
use Rattle.bus.specs.Bytes.{heard_of}
use Rattle.bus.specs.Reads.{read_of}
use Rattle.control.specs.Lock.{ctr1_of}
use Rattle.events.specs.declared.answer.Answer.{Answer}
use Rattle.events.specs.declared.answer.Answer.TheVariants.{Byte}
use Rattle.sd2068.specs.Controls.{arst_of}
use Rattle.sd2068.specs.Transfer.{acknowledged, renews_of}
use Rattle.state_bytes.specs.Decoded.{alarm_of, countdown_of, lock_of, control_of, rtcf_of, bus_of}
use Rattle.state_bytes.specs.Places.{time_at}
use Rattle.state_events.specs.Put.{put_time, put_bus}
use Rattle.state_events.specs.Written.{write_in}

-- an event's answer and the bytes that it leaves
pub record Done : Type 0 where
  pub answer : Answer
  pub state : List ℕ

abbrev pub done : Answer → List ℕ → Done
done answer state = record { answer = answer; state = state }

-- START
abbrev pub started_in : List ℕ → List ℕ
started_in s = put_bus s (started_of (bus_of s))

-- STOP: what it keeps of the flags, and the closed bus
abbrev pub keeps_in : List ℕ → Bool
keeps_in s = not (arst_of (control_of s).ctr3 && marked_of (bus_of s))

abbrev pub stopped_in : List ℕ → List ℕ
stopped_in s =
    put_bus (set s 0x0F (ctr1_of (lock_of s) (keeps_in s && (alarm_of s).flag) (keeps_in s && (countdown_of s).flag) (rtcf_of s))) closed_bus

-- the seven bytes of the time, latched
abbrev pub latched_in : List ℕ → List ℕ
latched_in s = put_time s 32 (time_at s 0)

-- what a byte does beside the bus
abbrev pub effected_in : Effect → List ℕ → ℕ → List ℕ
effected_in effect.None s b = s
effected_in effect.Latch s b = latched_in s
effected_in (effect.Write a) s b = write_in s a b

-- a master's byte
abbrev pub heard_in : List ℕ → ℕ → Done
heard_in s b =
    let heard = heard_of (bus_of s) b in
    done (acknowledged heard.ack) (put_bus (effected_in heard.effect s b) heard.bus)

-- a register as a read on the bus sees it
abbrev pub shown_in : List ℕ → ℕ → ℕ
shown_in s a = cond (ltb a 0x07) (get_or s (32 + a) 0) (cond (ltb a 0x20) (get_or s a 0) 0xFF)

-- a read whose pointer goes on to 00h latches anew
abbrev pub renewed_in : List ℕ → ℕ → List ℕ
renewed_in s a = cond (renews_of a) (latched_in s) s

-- a read
abbrev pub sent_in : Option ℕ → List ℕ → Bool → Done
sent_in None s ack = done (Byte 0xFF) s
sent_in (Some a) s ack = done (Byte (shown_in s a)) (put_bus (renewed_in s a) (read_of (bus_of s) ack).bus)

abbrev pub read_in : List ℕ → Bool → Done
read_in s ack = sent_in (read_of (bus_of s) ack).sent s ack
