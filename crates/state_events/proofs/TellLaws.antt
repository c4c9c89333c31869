-- What an event on a state's bytes tells and leaves is what it does on the state, and bytes that are a state's stay so. Assumes nothing.
use mathlib.Core.Path.{◌≡◌, refl, sym, ap, ◌∙◌}
use mathlib.Core.Bool.{Bool, true, false, cond}
use mathlib.Core.List.{List}
use Prim.Native.Nat.{ℕ}
use lib.Dec.{eqb}
use lib.ListN.{length}
use borrow.Author.Tests.{eq-eqb, eqb-true}
use Rattle.events.specs.declared.answer.Answer.TheVariants.{Quiet}
use Rattle.events.specs.Refusal.{fault_of}
use Rattle.sd2068.specs.declared.clock.Clock.{Clock}
use Rattle.sd2068.specs.Pin.{pin_of}
use Rattle.sd2068.specs.Step.{quiet_of, event_of, refusal_of, step_of}
use Rattle.sd2068.specs.WellFormed.{well_formed_of}
use Rattle.sd2068.proofs.WellLaws.{Well, parts, step_keeps}
use Rattle.state_bytes.specs.Decoded.{clock_of, is_state}
use Rattle.state_bytes.specs.Encoded.{bytes_of}
use Rattle.state_bytes.specs.Shapes.{Arrays, Bytes}
use Rattle.state_bytes.proofs.RoundLaws.{encoded_back, decoded_well, decoded_again, pin_back}
use Rattle.state_events.specs.Said.{told_of}
use Rattle.state_events.specs.Traffic.{Done, done}
use Rattle.state_events.specs.Event.{event_in, answered_in, lent, tell_in, answered_of, done_of}
use Rattle.state_events.proofs.ArrayLaws.{decoded_arrays, step_arrays}
use Rattle.state_events.proofs.TrafficLaws.{done_by}
use Rattle.state_events.proofs.EventLaws.{event_left}

-- bytes that are a well-formed state's
pub record Stands (s : List ℕ) : Type 0 where
  pub well : well_formed_of (clock_of s) ≡ true
  pub again : bytes_of (clock_of s) ≡ s

pub stands_long : {s : List ℕ} → Stands s → length s ≡ 61
unfolding bytes_of
stands_long h = ap length (sym h.again)

pub decoded_stands : (s : List ℕ) → Bytes s → is_state s ≡ true → Stands s
decoded_stands s bytes taken = record { well = decoded_well s bytes taken; again = decoded_again s bytes taken }

pub encoded_stands : (c : Clock) → Arrays c → well_formed_of c ≡ true → Stands (bytes_of c)
encoded_stands c a w =
    let back = encoded_back c a w in
    record { well = ap well_formed_of back ∙ w; again = ap bytes_of back }

-- an event leaves the bytes of the state that the chip's step leaves
pub done_state : (c : Clock) (kind byte count : ℕ) → (done_of c kind byte count).state ≡ bytes_of (step_of c kind byte count).state
unfolding done_of step_of
done_state c kind byte count = refl

module _ (s : List ℕ) (h : Stands s) (kind byte count : ℕ) where
  abbrev number : ℕ
  number = fault_of kind byte count

  number_due : number ≡ refusal_of (clock_of s) kind byte count
  unfolding refusal_of
  number_due = sym (ap (λ (b : Bool). cond b number 1) h.well)

  w : Well (clock_of s)
  w = parts (clock_of s) h.well

  left_by : (b : Bool) → eqb number 0 ≡ b → cond b (event_in s kind byte count) (done Quiet s) ≡ done_by (cond b (event_of (clock_of s) kind byte count) (quiet_of (clock_of s)))
  left_by true e = event_left s h.again w byte count kind (eqb-true number 0 e)
  left_by false e = ap (done Quiet) (sym h.again)

  left : answered_in s number kind byte count ≡ done_by (answered_of (clock_of s) kind byte count)
  left =
      left_by (eqb number 0) refl
      ∙ ap (λ (n : ℕ). done_by (cond (eqb n 0) (event_of (clock_of s) kind byte count) (quiet_of (clock_of s)))) number_due

  next_well : well_formed_of (step_of (clock_of s) kind byte count).state ≡ true
  next_well = step_keeps (clock_of s) h.well kind byte count

  next_arrays : Arrays (step_of (clock_of s) kind byte count).state
  next_arrays = step_arrays (clock_of s) (decoded_arrays s) kind byte count

  pub tell_done : tell_in s number kind byte count ≡ done_of (clock_of s) kind byte count
  unfolding tell_in done_of step_of
  tell_done =
      let a = answered_of (clock_of s) kind byte count in
      let d = answered_in s number kind byte count in
      ap (λ (b : Bool). cond b (lent (told_of number (pin_of (clock_of d.state)) d.answer) d.state) (lent 1 s)) (eq-eqb (length s) 61 (stands_long h))
      ∙ ap (λ (x : Done). lent (told_of number (pin_of (clock_of x.state)) x.answer) x.state) left
      ∙ (λ i. lent (told_of (number_due i) (pin_back a.clock next_well i) a.answer) (bytes_of a.clock))

  -- what is left is a state's too, that of the step
  pub tell_stands : Stands (done_of (clock_of s) kind byte count).state
  unfolding done_of step_of
  tell_stands = encoded_stands (answered_of (clock_of s) kind byte count).clock next_arrays next_well

  pub tell_clock : clock_of (done_of (clock_of s) kind byte count).state ≡ (step_of (clock_of s) kind byte count).state
  tell_clock = ap clock_of (done_state (clock_of s) kind byte count) ∙ encoded_back (step_of (clock_of s) kind byte count).state next_arrays next_well
