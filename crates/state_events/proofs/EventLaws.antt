-- What an event leaves of a state's bytes are the bytes of the state that it leaves, and it answers the same. Assumes nothing.
use mathlib.Core.Path.{◌≡◌, sym, ap, ◌∙◌}
use mathlib.Core.Bool.{Bool, true, false, cond}
use mathlib.Core.List.{List}
use Prim.{Unit}
use Prim.Native.Nat.{ℕ, ◌≤◌, ◌<◌}
use native.Mathlib.Omega.{arith}
use lib.Dec.{eqb, ltb}
use lib.ListN.{length}
use borrow.Author.Tests.{ltb-true}
use Rattle.std.proofs.lemmas.Grind.{common_steps}
use Rattle.bus.specs.declared.phase.Mode.{Mode}
use Rattle.bus.specs.declared.phase.Transfer.{Transfer}
use Rattle.bus.specs.declared.phase.Bus.{Bus}
use Rattle.bus.specs.declared.bytes.Effect.{Effect}
use Rattle.bus.specs.declared.bytes.Effect.TheVariants as effect
use Rattle.bus.specs.declared.bytes.Heard.{Heard}
use Rattle.bus.specs.Bytes.{heard_in, heard_of}
use Rattle.bus.proofs.WellLaws as bus_laws
use Rattle.bus.proofs.WellLaws.{shut, opened}
use Rattle.events.specs.declared.answer.Answer.TheVariants.{Quiet}
use Rattle.events.specs.Refusal.{fields_of, fault_of}
use Rattle.sd2068.specs.Step as step
use Rattle.sd2068.specs.Step.{Told, event_of}
use Rattle.sd2068.specs.Transfer.{acknowledged, effected_by, byte_of}
use Rattle.sd2068.proofs.ListedLaws.{none, ◌also◌}
use Rattle.sd2068.proofs.WellLaws as well_laws
use Rattle.sd2068.proofs.WellLaws.{Well}
use Rattle.state_bytes.specs.Decoded.{bus_of, clock_of}
use Rattle.state_bytes.specs.Encoded.{bytes_of}
use Rattle.state_events.specs.Put.{put_bus}
use Rattle.state_events.specs.Traffic as traffic
use Rattle.state_events.specs.Traffic.{done, effected_in}
use Rattle.state_events.specs.Event.{stepped_in, event_in}
use Rattle.state_events.proofs.TrafficLaws.{done_by, bus_put, start_left, stop_left, latch_left, read_left}
use Rattle.state_events.proofs.WriteLaws.{write_left}

-- what is written is written to a register
abbrev Low : Effect → Type 0
Low effect.None = Unit {0}
Low effect.Latch = Unit {0}
Low (effect.Write a) = a < 32

abbrev LowIn : Heard → Type 0
LowIn h = Low h.effect

low_in : (m : Mode) (p : ℕ) (t : Transfer) (b : ℕ) → p ≤ 31 → LowIn (heard_in m p t b)
low_in m p t b h = grind (arith, common_steps)

low : {bus : Bus} → bus_laws.Well bus → (b : ℕ) → LowIn (heard_of bus b)
unfolding heard_of
low (shut h) b = tt
low (opened {p} {m} {t} h a) b = low_in m p t b h

kind_low : (k f : Bool) → ◌≡◌ {A = ℕ} (cond k (cond f 0 3) 2) 0 → k ≡ true
kind_low k f e = grind (arith, common_steps)

module _ (s : List ℕ) (again : bytes_of (clock_of s) ≡ s) (w : Well (clock_of s)) where
  effect_left : (e : Effect) (b : ℕ) → Low e → effected_in e s b ≡ bytes_of (effected_by e (clock_of s) b)
  effect_left effect.None b h = sym again
  effect_left effect.Latch b h = latch_left s again
  effect_left (effect.Write a) b h = write_left s again a b h

  byte_left : (b : ℕ) → traffic.heard_in s b ≡ done_by (byte_of (clock_of s) b)
  unfolding byte_of clock_of
  byte_left b =
      let heard = heard_of (bus_of s) b in
      ap (done (acknowledged heard.ack))
      (ap (λ (l : List ℕ). put_bus l heard.bus) (effect_left heard.effect b (low w.bus b))
      ∙ bus_put (effected_by heard.effect (clock_of s) b) heard.bus)

  full : eqb (length s) 61 ≡ true
  unfolding bytes_of
  full = ap (λ (l : List ℕ). eqb (length l) 61) (sym again)

  module _ (byte count : ℕ) where
    Left : ℕ → Type 0
    Left kind = fault_of kind byte count ≡ 0 → event_in s kind byte count ≡ done_by (event_of (clock_of s) kind byte count)

    whole_left : (kind : ℕ) → fault_of kind byte count ≡ 0 → stepped_in s kind byte count ≡ bytes_of (event_of (clock_of s) kind byte count).clock
    whole_left kind e =
        ap (λ (b : Bool). cond b (bytes_of (step.step_of (clock_of s) kind byte count).state) s) full
        ∙ ap (λ (t : Told). bytes_of t.state) (well_laws.step_taken (clock_of s) w kind byte count e)

    each_left : (kind : ℕ) → kind < 7 → Left kind
    unfolding Left event_in event_of
    each_left =
        (none Left
        also (λ e. ap (done Quiet) (start_left s again))
        also (λ e. ap (done Quiet) (stop_left s again))
        also (λ e. byte_left byte)
        also (λ e. read_left s again true)
        also (λ e. read_left s again false)
        also (λ e. ap (done Quiet) (whole_left 5 e))
        also (λ e. ap (done Quiet) (whole_left 6 e))).each

    pub event_left : (kind : ℕ) → fault_of kind byte count ≡ 0 → event_in s kind byte count ≡ done_by (event_of (clock_of s) kind byte count)
    unfolding Left
    event_left kind e = each_left kind (ltb-true kind 7 (kind_low (ltb kind 7) (fields_of kind byte count) e)) e
