-- What the events of the bus leave of a state's bytes are the bytes of the state that they leave. Assumes nothing.
use mathlib.Core.Path.{◌≡◌, refl, sym, ap, ◌∙◌}
use mathlib.Core.Bool.{Bool, true, false, cond, ◌&&◌}
use mathlib.Core.List.{List}
use Prim.Native.Nat.{ℕ}
use native.Mathlib.Omega.{arith}
use lib.ListN.{set}
use Rattle.std.proofs.lemmas.Grind.{common_steps}
use Rattle.registers.specs.Seven as seven
use Rattle.bus.specs.declared.phase.Bus.{Bus}
use Rattle.std.specs.Prelude.{Option, Some, None}
use Rattle.bus.specs.Phase as phase
use Rattle.bus.specs.Phase.{closed_bus}
use Rattle.bus.specs.Reads as reads
use Rattle.control.specs.Lock.{ctr1_of}
use Rattle.events.specs.declared.answer.Answer.TheVariants.{Byte}
use Rattle.sd2068.specs.declared.clock.Clock.{Clock}
use Rattle.sd2068.specs.declared.answers.Answered.{Answered}
use Rattle.sd2068.specs.Clock.{with_bus, with_latched}
use Rattle.sd2068.specs.Reading.{register_of, shown_of}
use Rattle.sd2068.specs.Transfer.{started_of, stopped_of, latched_of, renews_of, renewed_of, sent_by, read_of}
use Rattle.state_bytes.specs.Decoded.{alarm_of, countdown_of, lock_of, rtcf_of, bus_of, clock_of}
use Rattle.state_bytes.specs.Encoded.{bytes_of}
use Rattle.state_bytes.specs.Places.{time_at}
use Rattle.state_events.specs.Put.{put_time, put_bus}
use Rattle.state_events.specs.Traffic.{Done, done, started_in, keeps_in, stopped_in, latched_in, shown_in, renewed_in, sent_in, read_in}
use Rattle.state_bytes.proofs.RegisterLaws.{register_place, latched_place}

-- an event's answer, and the bytes of the state that it leaves
abbrev pub done_by : Answered → Done
done_by a = done a.answer (bytes_of a.clock)

-- the bus over its bytes
pub bus_put : (c : Clock) (b : Bus) → put_bus (bytes_of c) b ≡ bytes_of (with_bus c b)
unfolding bytes_of
bus_put c b = refl

-- a read shows what the state shows
module _ (c : Clock) (a : ℕ) where
  pub stands : shown_in (bytes_of c) a ≡ shown_of c a
  unfolding shown_of register_of
  stands = grind (arith, common_steps, latched_place, register_place)

module _ (s : List ℕ) (again : bytes_of (clock_of s) ≡ s) where
  pub start_left : started_in s ≡ bytes_of (started_of (clock_of s))
  unfolding bytes_of clock_of
  start_left = ap (λ (l : List ℕ). put_bus l (phase.started_of (bus_of s))) (sym again)

  pub stop_left : stopped_in s ≡ bytes_of (stopped_of (clock_of s))
  unfolding bytes_of clock_of stopped_of
  stop_left =
      let flags = ctr1_of (lock_of s) (keeps_in s && (alarm_of s).flag) (keeps_in s && (countdown_of s).flag) (rtcf_of s) in
      ap (λ (l : List ℕ). put_bus (set l 0x0F flags) closed_bus) (sym again)

  pub latch_left : latched_in s ≡ bytes_of (latched_of (clock_of s))
  unfolding bytes_of clock_of
  latch_left = ap (λ (l : List ℕ). put_time l 32 (time_at s 0)) (sym again)

  renewed_by : (t : Bool) → cond t (latched_in s) s ≡ bytes_of (with_latched (clock_of s) (cond t (seven.bytes_of (clock_of s).hand.time) (clock_of s).latched))
  renewed_by true = latch_left
  renewed_by false = sym again

  pub renew_left : (a : ℕ) → renewed_in s a ≡ bytes_of (renewed_of (clock_of s) a)
  unfolding renewed_of
  renew_left a = renewed_by (renews_of a)

  sent_left : (x : Option ℕ) (ack : Bool) → sent_in x s ack ≡ done_by (sent_by x (clock_of s) ack)
  unfolding clock_of
  sent_left None ack = ap (done (Byte 0xFF)) (sym again)
  sent_left (Some a) ack =
      let bus = (reads.read_of (bus_of s) ack).bus in
      λ i.
      done (Byte ((ap (λ (l : List ℕ). shown_in l a) (sym again) ∙ stands (clock_of s) a) i))
      ((ap (λ (l : List ℕ). put_bus l bus) (renew_left a) ∙ bus_put (renewed_of (clock_of s) a) bus) i)

  pub read_left : (ack : Bool) → read_in s ack ≡ done_by (read_of (clock_of s) ack)
  unfolding read_of clock_of
  read_left ack = sent_left (reads.read_of (bus_of s) ack).sent ack
