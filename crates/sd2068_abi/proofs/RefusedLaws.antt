-- Bytes that are no state's are refused with 1, by a step and by a look; a refused step leaves every byte. Assumes nothing.
use mathlib.Core.Path.{◌≡◌, refl, sym, ap, ◌∙◌}
use mathlib.Core.Bool.{Bool, true, false, cond, ◌&&◌}
use mathlib.Core.Logic.{◌↔◌}
use mathlib.Core.List.{List, [], ◌∷◌}
use Prim.Native.Nat.{ℕ, ◌<◌}
use native.Mathlib.Omega.{arith}
use lib.Dec.{eqb}
use lib.ListN.{get_or}
use borrow.Author.Tests.{eqb-true}
use Rattle.fields.proofs.FieldLaws.{and_left}
use Rattle.events.specs.declared.answer.Answer.{Answer}
use Rattle.events.specs.declared.answer.Answer.TheVariants.{Quiet, Byte}
use Rattle.events.specs.Answer.{text_of}
use Rattle.sd2068.specs.declared.clock.Clock.{Clock}
use Rattle.sd2068.specs.Pin as pin
use Rattle.sd2068.specs.Reading as reading
use Rattle.sd2068.specs.Step as steps
use Rattle.sd2068.specs.Step.{quiet_of, event_of, refusal_of}
use Rattle.sd2068.specs.WellFormed.{well_formed_of}
use Rattle.sd2068.specs.Rows.{Row1, StepDue}
use Rattle.sd2068.proofs.ListedLaws.{well_listed}
use Rattle.sd2068.proofs.RowLaws.{step_due}
use Rattle.state_bytes.specs.Decoded.{clock_of, plain_of, is_state}
use Rattle.state_bytes.specs.Encoded.{bytes_of}
use Rattle.state_events.specs.Said.{told_of, refusal_in, said_in}
use Rattle.state_events.specs.Event.{Lent, lent, answered_of, done_of}
use Rattle.state_events.proofs.ByteLaws.{decoded_small, register_byte, pin_byte, refusal_byte}
use Rattle.state_events.proofs.SaidLaws.{told_refusal, said_back}
use Rattle.sd2068_abi.specs.Abi.{full_of, accepted_of, step_of, seen_of, pin_of, register_of}
use Rattle.sd2068_abi.proofs.AbiLaws.{accepted_state, step_refused}
use Rattle.sd2068_abi.proofs.BoundaryLaws.{accepted_encoded}

-- a step that is refused leaves the bytes as they are
module _ (s : List ℕ) (each : (i : ℕ) → get_or s i 0 < 256) (kind byte count : ℕ) where
  abbrev Refused : Lent → Type 0
  Refused l = (refusal_in l.told ≡ 0 → ⊥) → l.state ≡ s

  abbrev left_by : Bool → Lent
  left_by taken =
      let a = cond taken (event_of (clock_of s) kind byte count) (quiet_of (clock_of s)) in
      lent (told_of (refusal_of (clock_of s) kind byte count) (pin.pin_of a.clock) a.answer) (bytes_of a.clock)

  done_by_lem : accepted_of s ≡ true → (taken : Bool) → eqb (refusal_of (clock_of s) kind byte count) 0 ≡ taken → Refused (left_by taken)
  done_by_lem e true z n =
      let a = event_of (clock_of s) kind byte count in
      let r = eqb-true (refusal_of (clock_of s) kind byte count) 0 z in
      absurd (n (ap (λ (k : ℕ). refusal_in (told_of k (pin.pin_of a.clock) a.answer)) r ∙ told_refusal 0 (pin.pin_of a.clock) a.answer (omega arith)))
  done_by_lem e false z n = accepted_encoded s each e

  step_by : (accepts : Bool) → accepted_of s ≡ accepts → Refused (cond accepts (done_of (clock_of s) kind byte count) (lent 1 s))
  unfolding done_of
  step_by true e = done_by_lem e (eqb (refusal_of (clock_of s) kind byte count) 0) refl
  step_by false e = λ n. refl

  pub refused_stays : (refusal_in (step_of s kind byte count).told ≡ 0 → ⊥) → (step_of s kind byte count).state ≡ s
  unfolding step_of
  refused_stays = step_by (accepted_of s) refl

-- a look at the pin or at a register is refused with 1 exactly where a step is, whatever its event
one_row : {c : Clock} {kind byte count n : ℕ} → StepDue c kind byte count n → n ≡ 1 → Row1 c
one_row (StepDue.due1 r) e = r
one_row (StepDue.due2 n1 r) e = absurd (omega arith)
one_row (StepDue.due3 n1 n2 r) e = absurd (omega arith)
one_row (StepDue.due0 n1 s) e = absurd (omega arith)

within : (a b : Bool) (x y : ℕ) → cond a (cond b x y) y ≡ cond (a && b) x y
within true b x y = refl
within false b x y = refl

module _ (s : List ℕ) where
  abbrev look : Answer → ℕ
  look a = cond (full_of s) (seen_of s (clock_of s) a) 1

  abbrev look_told : Answer → ℕ
  look_told a = told_of 0 (pin.pin_of (clock_of s)) a

  -- it judges the bytes as a step does
  pub look_judged : (a : Answer) → look a ≡ cond (accepted_of s) (look_told a) 1
  unfolding seen_of accepted_of is_state
  look_judged a = within (full_of s) (well_formed_of (clock_of s) && plain_of s) (look_told a) 1

  look_alone : (a : Answer) → accepted_of s ≡ false → look a ≡ 1
  look_alone a no_state = look_judged a ∙ ap (λ (b : Bool). cond b (look_told a) 1) no_state

  look_by : (a : Answer) (accepts : Bool) → accepted_of s ≡ accepts → refusal_in (cond accepts (look_told a) 1) ≡ 1 → accepted_of s ≡ false
  look_by a true e one =
      let zero : ◌≡◌ {A = ℕ} 0 1 = sym (told_refusal 0 (pin.pin_of (clock_of s)) a (omega arith)) ∙ one in
      absurd (omega arith)
  look_by a false e one = e

  look_not : (a : Answer) → refusal_in (look a) ≡ 1 → accepted_of s ≡ false
  look_not a one = look_by a (accepted_of s) refl (sym (ap refusal_in (look_judged a)) ∙ one)

  abbrev register_look : ℕ → Answer
  register_look a = Byte (reading.register_of (clock_of s) a)

  module _ (kind byte count : ℕ) where
    step_by_one : (accepts : Bool) → accepted_of s ≡ accepts → refusal_in (cond accepts (done_of (clock_of s) kind byte count) (lent 1 s)).told ≡ 1 → accepted_of s ≡ false
    unfolding done_of is_state steps.step_of
    step_by_one true e one =
        let c = clock_of s in
        let a = answered_of c kind byte count in
        let n = refusal_of c kind byte count in
        let refusal = sym (told_refusal n (pin.pin_of a.clock) a.answer (refusal_byte c kind byte count)) ∙ one in
        absurd (one_row (step_due c kind byte count) refusal (well_listed c (and_left (well_formed_of c) (plain_of s) (accepted_state s e))))
    step_by_one false e one = e

    step_not : refusal_in (step_of s kind byte count).told ≡ 1 → accepted_of s ≡ false
    unfolding step_of
    step_not = step_by_one (accepted_of s) refl

    step_alone : accepted_of s ≡ false → step_of s kind byte count ≡ lent 1 s
    step_alone no_state = sym (step_refused s kind byte count no_state)

    step_one : accepted_of s ≡ false → refusal_in (step_of s kind byte count).told ≡ 1
    step_one no_state = ap (λ (l : Lent). refusal_in l.told) (step_alone no_state)

    -- a step is refused with 1 exactly if the bytes are no state's
    pub no_state_refused : (refusal_in (step_of s kind byte count).told ≡ 1) ↔ (accepted_of s ≡ false)
    no_state_refused = (step_not, step_one)

    pub pin_refused : (refusal_in (pin_of s) ≡ 1) ↔ (refusal_in (step_of s kind byte count).told ≡ 1)
    unfolding pin_of
    pin_refused = (λ one. step_one (look_not Quiet one), λ one. ap refusal_in (look_alone Quiet (step_not one)))

    pub register_refused : (a : ℕ) → (refusal_in (register_of s a) ≡ 1) ↔ (refusal_in (step_of s kind byte count).told ≡ 1)
    unfolding register_of
    register_refused a =
        (λ one. step_one (look_not (register_look a) one), λ one. ap refusal_in (look_alone (register_look a) (step_not one)))

    -- and then nothing but the 1 is told by any of them, and a step leaves the bytes
    pub refused_alone : refusal_in (step_of s kind byte count).told ≡ 1 → (step_of s kind byte count ≡ lent 1 s) × ((pin_of s ≡ 1) × ((a : ℕ) → register_of s a ≡ 1))
    unfolding pin_of register_of
    refused_alone one =
        let no_state = step_not one in
        (step_alone no_state, (look_alone Quiet no_state, λ a. look_alone (register_look a) no_state))

  -- and where it is not, it shows the chip's pin and the chip's register
  module _ (e : accepted_of s ≡ true) where
    look_taken : (a : Answer) → look a ≡ look_told a
    look_taken a = look_judged a ∙ ap (λ (b : Bool). cond b (look_told a) 1) e

    pub pin_shown : said_in (pin_of s) ≡ record { refusal = 0; answer = 45 ∷ 45 ∷ []; pin = pin.pin_of (clock_of s) }
    unfolding pin_of
    pin_shown =
        ap said_in (look_taken Quiet) ∙ said_back 0 (pin.pin_of (clock_of s)) Quiet (omega arith) (pin_byte (clock_of s)) (omega arith)

    module _ (each : (i : ℕ) → get_or s i 0 < 256) (a : ℕ) where
      abbrev shown : ℕ
      shown = reading.register_of (clock_of s) a

      shown_byte : shown < 256
      shown_byte = register_byte (clock_of s) (decoded_small s each) a

      pub register_shown : said_in (register_of s a) ≡ record { refusal = 0; answer = text_of (Byte shown); pin = pin.pin_of (clock_of s) }
      unfolding register_of
      register_shown =
          ap said_in (look_taken (Byte shown)) ∙ said_back 0 (pin.pin_of (clock_of s)) (Byte shown) (omega arith) (pin_byte (clock_of s)) shown_byte
