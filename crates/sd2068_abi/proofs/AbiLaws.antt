-- Which bytes are accepted, and what a step tells and leaves. Assumes nothing.
use mathlib.Core.Path.{◌≡◌, sym, ap, ◌∙◌}
use mathlib.Core.Bool.{Bool, true, false, cond, ◌&&◌}
use mathlib.Core.List.{List}
use Prim.Native.Nat.{ℕ}
use lib.ListN.{length}
use borrow.Author.Tests.{eq-eqb, eqb-true}
use Rattle.fields.proofs.FieldLaws.{and_left, and_right}
use Rattle.events.specs.Refusal.{fault_of}
use Rattle.state_bytes.specs.Decoded.{clock_of, is_state}
use Rattle.state_bytes.specs.Shapes.{Bytes}
use Rattle.state_events.specs.Event.{lent, tell_in, done_of}
use Rattle.state_events.proofs.TellLaws.{decoded_stands, tell_done}
use Rattle.sd2068_abi.specs.Abi.{full_of, accepted_of, step_of}

-- bytes that are accepted have the length of a state and are one's
module _ (s : List ℕ) (e : accepted_of s ≡ true) where
  pub accepted_full : length s ≡ 61
  unfolding accepted_of
  accepted_full = eqb-true (length s) 61 (and_left (full_of s) (is_state s) e)

  pub accepted_state : is_state s ≡ true
  unfolding accepted_of
  accepted_state = and_right (full_of s) (is_state s) e

-- a step
module _ (s : List ℕ) (kind byte count : ℕ) where
  pub step_refused : accepted_of s ≡ false → lent 1 s ≡ step_of s kind byte count
  unfolding step_of
  step_refused e = sym (ap (λ (b : Bool). cond b (done_of (clock_of s) kind byte count) (lent 1 s)) e)

  -- on bytes that are a state's, what is told and left is that of the event's state
  pub step_told :
      (r n : ℕ) (out : List ℕ) → Bytes s → is_state s ≡ true → n ≡ fault_of kind byte count → lent r out ≡ tell_in s n kind byte count →
      lent r out ≡ step_of s kind byte count
  unfolding step_of accepted_of
  step_told r n out bytes taken fault said =
      let accepts : full_of s && is_state s ≡ true = λ i. eq-eqb (length s) 61 bytes.long i && taken i in
      said
      ∙ ap (λ (m : ℕ). tell_in s m kind byte count) fault
      ∙ tell_done s (decoded_stands s bytes taken) kind byte count
      ∙ sym (ap (λ (b : Bool). cond b (done_of (clock_of s) kind byte count) (lent 1 s)) accepts)
