-- Power-on gives a state of 12 bytes of RAM and 7 latched ones that is well formed, and every step keeps it so. Assumes nothing.
use Rattle.std.proofs.Common.{◌≡◌, refl, ap, ◌∙◌, Bool, true, false, List, ℕ, eqb, length, set, length-set, arith, Option, Some}
use Rattle.std.proofs.lemmas.Grind.{common_steps}
use Rattle.fields.proofs.Picked.{picked}
use Rattle.bus.specs.declared.bytes.Effect.{Effect}
use Rattle.bus.specs.Phase.{next_of}
use Rattle.bus.specs.Bytes.{heard_of}
use Rattle.bus.specs.Reads as reads
use Rattle.sd2068.specs.declared.clock.Clock.{Clock}
use Rattle.sd2068.specs.declared.answers.Answered.{Answered}
use Rattle.sd2068.specs.Power.{powered_of, power_on_of}
use Rattle.sd2068.specs.Writing.{ram_stored_of, write_of}
use Rattle.sd2068.specs.Transfer.{stopped_of, effected_by, byte_of, renewed_of, sent_by, read_of}
use Rattle.sd2068.specs.Step.{event_of, refusal_of, step_of}
use Rattle.sd2068.proofs.GroupLaws.{pulses_ram, pulses_latched}
use Rattle.sd2068.proofs.WellLaws.{whole, power_on_well, step_keeps}
use Rattle.promises.specs.Registers.{State}

-- 12 bytes of RAM and 7 latched ones
record Sized (c : Clock) : Type 0 where
  ram : length c.ram ≡ 12
  latch : length c.latched ≡ 7

module _ (c : Clock) (z : Sized c) where
  set_sized : (a b : ℕ) → length (set c.ram a b) ≡ 12
  set_sized a b = length-set c.ram a b ∙ z.ram

  ram_sized : (a b : ℕ) → length (ram_stored_of c.ram a b) ≡ 12
  unfolding ram_stored_of
  ram_sized a b = grind (arith, common_steps, picked, set_sized)

  effect_sized : (e : Effect) (b : ℕ) → Sized (effected_by e c b)
  unfolding write_of
  effect_sized e b = grind (arith, common_steps, picked, ram_sized)

  byte_sized : (b : ℕ) → Sized (byte_of c b).clock
  unfolding byte_of
  byte_sized b = let s = effect_sized (heard_of c.bus b).effect b in record { ram = s.ram; latch = s.latch }

  sent_sized : (s : Option ℕ) (ack : Bool) → Sized (sent_by s c ack).clock
  unfolding renewed_of
  sent_sized Option.None ack = z
  sent_sized (Some a) ack = record { ram = z.ram; latch = picked (λ (l : List ℕ). length l ≡ 7) (eqb (next_of a) 0x00) refl z.latch }

  read_sized : (ack : Bool) → Sized (read_of c ack).clock
  unfolding read_of
  read_sized ack = sent_sized (reads.read_of c.bus ack).sent ack

  event_sized : (kind byte count : ℕ) → Sized (event_of c kind byte count).clock
  unfolding event_of stopped_of powered_of
  event_sized kind byte count =
      let After : Answered → Type 0 = λ e. Sized e.clock in
      picked After (eqb kind 0) (record { ram = z.ram; latch = z.latch })
      (picked After (eqb kind 1) (record { ram = z.ram; latch = z.latch })
      (picked After (eqb kind 2) (byte_sized byte)
      (picked After (eqb kind 3) (read_sized true)
      (picked After (eqb kind 4) (read_sized false)
      (picked After (eqb kind 5) (record { ram = ap length (pulses_ram count c) ∙ z.ram; latch = ap length (pulses_latched count c) ∙ z.latch })
      (record { ram = z.ram; latch = refl }))))))

  step_sized : (kind byte count : ℕ) → Sized (step_of c kind byte count).state
  unfolding step_of
  step_sized kind byte count = picked (λ (e : Answered). Sized e.clock) (eqb (refusal_of c kind byte count) 0) (event_sized kind byte count) z

pub step_state : (c : Clock) → State c → (kind byte count : ℕ) → State (step_of c kind byte count).state
step_state c w kind byte count =
    let z = step_sized c (record { ram = w.ram; latch = w.latch }) kind byte count in
    record { well = step_keeps c w.well kind byte count; ram = z.ram; latch = z.latch }

power_sized : (s : List ℕ) → Sized (power_on_of s).state
unfolding power_on_of powered_of
power_sized s = grind (arith, common_steps)

pub power_state : (s : List ℕ) → State (power_on_of s).state
power_state s =
    let z = power_sized s in
    record { well = whole (power_on_of s).state (power_on_well s); ram = z.ram; latch = z.latch }
