-- Power and every event keep the lengths of the arrays. Assumes nothing.
use mathlib.Core.Path.{◌≡◌, refl, ap, ◌∙◌}
use mathlib.Core.Bool.{Bool, true, false}
use mathlib.Core.List.{List, [], ◌∷◌}
use Prim.Native.Nat.{ℕ}
use lib.Dec.{eqb}
use lib.ListN.{length, length-set}
use native.Mathlib.Omega.{arith}
use Rattle.std.proofs.lemmas.Grind.{common_steps}
use Rattle.fields.proofs.Picked.{picked}
use Rattle.events.specs.declared.event.Event.{Event}
use Rattle.bus.specs.declared.bytes.Effect.{Effect}
use Rattle.bus.specs.declared.bytes.Effect.TheVariants as effect
use Rattle.std.specs.Prelude.{Option, Some, None}
use Rattle.bus.specs.Bytes.{heard_of}
use Rattle.bus.specs.Reads as reads
use Rattle.registers.specs.Fixed.{clear_time_of}
use Rattle.sd2068.specs.declared.clock.Clock.{Clock}
use Rattle.sd2068.specs.declared.answers.Answered.{Answered}
use Rattle.sd2068.specs.Power.{powered_of, lost_of, start_time, Power, power_on_of}
use Rattle.sd2068.specs.Pulse.{pulses_of}
use Rattle.sd2068.specs.Writing.{ram_stored_of, stores_of, write_of}
use Rattle.sd2068.specs.Transfer.{stopped_of, effected_by, byte_of, renews_of, renewed_of, sent_by, read_of}
use Rattle.sd2068.specs.Step.{event_of, refusal_of, step_of}
use Rattle.sd2068.specs.Run.{step, after}
use Rattle.sd2068.proofs.GroupLaws.{pulses_ram, pulses_latched}
use Rattle.state_bytes.specs.Decoded.{clock_of}
use Rattle.state_bytes.specs.Shapes.{Arrays}

abbrev Long : ℕ → List ℕ → Type 0
Long n l = length l ≡ n

abbrev After : Answered → Type 0
After e = Arrays e.clock

-- a state that bytes stand for
pub decoded_arrays : (s : List ℕ) → Arrays (clock_of s)
unfolding clock_of
decoded_arrays s = record { ram = refl; latched = refl }

-- power
pub power_on_arrays : (s : List ℕ) → Arrays (power_on_of s).state
unfolding power_on_of powered_of
power_on_arrays s =
    picked (λ (p : Power). Arrays p.state) (eqb (length s) 19)
    (picked (λ (p : Power). Arrays p.state) (clear_time_of (start_time s)) (record { ram = refl; latched = refl }) (record { ram = refl; latched = refl }))
    (record { ram = refl; latched = refl })

module _ (c : Clock) (a : Arrays c) where
  ram_stored : (r b : ℕ) → Long 12 (ram_stored_of c.ram r b)
  unfolding ram_stored_of
  ram_stored r b = grind (arith, common_steps, length-set {A = ℕ})

  write_arrays : (r b : ℕ) → Arrays (write_of c r b)
  unfolding write_of
  write_arrays r b = record { ram = picked (Long 12) (stores_of c r b) (ram_stored r b) a.ram; latched = a.latched }

  effect_arrays : (e : Effect) (b : ℕ) → Arrays (effected_by e c b)
  effect_arrays effect.None b = a
  effect_arrays effect.Latch b = record { ram = a.ram; latched = refl }
  effect_arrays (effect.Write r) b = write_arrays r b

  byte_arrays : (b : ℕ) → After (byte_of c b)
  unfolding byte_of
  byte_arrays b =
      let x = effect_arrays (heard_of c.bus b).effect b in
      record { ram = x.ram; latched = x.latched }

  sent_arrays : (s : Option ℕ) (ack : Bool) → After (sent_by s c ack)
  unfolding renewed_of
  sent_arrays None ack = a
  sent_arrays (Some r) ack =
      record { ram = a.ram; latched = picked (Long 7) (renews_of r) refl a.latched }

  read_arrays : (ack : Bool) → After (read_of c ack)
  unfolding read_of
  read_arrays ack = sent_arrays (reads.read_of c.bus ack).sent ack

  pulses_arrays : (n : ℕ) → Arrays (pulses_of c n)
  pulses_arrays n =
      record { ram = ap length (pulses_ram n c) ∙ a.ram; latched = ap length (pulses_latched n c) ∙ a.latched }

  lost_arrays : Arrays (lost_of c)
  unfolding powered_of
  lost_arrays = record { ram = a.ram; latched = refl }

  -- an event of any kind
  pub event_arrays : (kind byte count : ℕ) → After (event_of c kind byte count)
  unfolding event_of stopped_of
  event_arrays kind byte count =
      picked After (eqb kind 0) (record { ram = a.ram; latched = a.latched })
      (picked After (eqb kind 1) (record { ram = a.ram; latched = a.latched })
      (picked After (eqb kind 2) (byte_arrays byte)
      (picked After (eqb kind 3) (read_arrays true)
      (picked After (eqb kind 4) (read_arrays false)
      (picked After (eqb kind 5) (pulses_arrays count)
      lost_arrays)))))

  -- refused or not
  pub step_arrays : (kind byte count : ℕ) → Arrays (step_of c kind byte count).state
  unfolding step_of
  step_arrays kind byte count = picked After (eqb (refusal_of c kind byte count) 0) (event_arrays kind byte count) a

-- steps keep them, however many
pub steps_arrays : (c : Clock) → Arrays c → (es : List Event) → Arrays (after step c es)
unfolding after
steps_arrays c a [] = a
steps_arrays c a (e ∷ es) = steps_arrays (step c e).state (step_arrays c a e.kind e.byte e.count) es
