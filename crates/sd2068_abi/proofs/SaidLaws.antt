-- The number that a call tells, read back as the header has it, says what the chip's step says. Assumes nothing.
use mathlib.Core.Path.{◌≡◌, refl, sym, ap, ◌∙◌}
use mathlib.Core.Bool.{Bool, true, cond}
use mathlib.Core.List.{List, [], ◌∷◌, map}
use Prim.Native.Nat.{ℕ, ◌<◌}
use lib.ListN.{get_or}
use Rattle.events.specs.declared.event.Event.{Event}
use Rattle.sd2068.specs.declared.clock.Clock.{Clock}
use Rattle.sd2068.specs.Step as steps
use Rattle.sd2068.specs.Run.{told_by, step, read_by, reads_of}
use Rattle.sd2068.specs.WellFormed.{well_formed_of}
use Rattle.sd2068.proofs.WellLaws.{step_keeps}
use Rattle.state_bytes.specs.Decoded.{clock_of}
use Rattle.state_bytes.specs.Encoded.{bytes_of}
use Rattle.state_bytes.specs.Shapes.{Arrays}
use Rattle.state_events.specs.Said.{said_in, said_of}
use Rattle.state_events.specs.Event.{Lent, lent, done_of}
use Rattle.state_events.proofs.ArrayLaws.{decoded_arrays, step_arrays}
use Rattle.state_events.proofs.ByteLaws.{Small, decoded_small, step_small}
use Rattle.state_events.proofs.SaidLaws.{done_says}
use Rattle.state_events.proofs.TellLaws.{done_state}
use Rattle.sd2068_abi.specs.Abi.{accepted_of, step_of, told_in}
use Rattle.sd2068_abi.specs.Said.{said_by, reads_said, EventBytes}
use Rattle.sd2068_abi.proofs.BoundaryLaws.{accepted_well, accepted_encoded, board_step}

-- on the bytes of a well-formed state, for one step
module _ (s : List ℕ) (each : (i : ℕ) → get_or s i 0 < 256) (e : accepted_of s ≡ true) where
  pub told_says : (kind byte count : ℕ) → said_in (step_of s kind byte count).told ≡ said_of (steps.step_of (clock_of s) kind byte count)
  unfolding step_of
  told_says kind byte count =
      ap (λ (b : Bool). said_in (cond b (done_of (clock_of s) kind byte count) (lent 1 s)).told) e
      ∙ done_says (clock_of s) (decoded_small s each) kind byte count

-- and for any number of them, one after the other
module _ (e : Event) where
  first_said : (c : Clock) → Arrays c → well_formed_of c ≡ true → Small c → said_in (step_of (bytes_of c) e.kind e.byte e.count).told ≡ said_of (told_by c e)
  first_said c a w s =
      ap (λ (l : Lent). said_in l.told) (board_step c a w e.kind e.byte e.count) ∙ done_says c s e.kind e.byte e.count

  next_bytes : (c : Clock) → Arrays c → well_formed_of c ≡ true → (step_of (bytes_of c) e.kind e.byte e.count).state ≡ bytes_of (told_by c e).state
  next_bytes c a w =
      ap (λ (l : Lent). l.state) (board_step c a w e.kind e.byte e.count) ∙ done_state c e.kind e.byte e.count

calls_by : (c : Clock) → Arrays c → well_formed_of c ≡ true → Small c → {es : List Event} → EventBytes es → map said_in (told_in (bytes_of c) es) ≡ said_by c es
unfolding told_in said_by
calls_by c a w s EventBytes.none = refl
calls_by c a w s (EventBytes.more {e = e} {es = es} h hs) =
    let d = (told_by c e).state in
    let rest =
    calls_by d (step_arrays c a e.kind e.byte e.count) (step_keeps c w e.kind e.byte e.count) (step_small c s e.kind e.byte e.count h) hs in
    let others = ap (λ (l : List ℕ). map said_in (told_in l es)) (next_bytes e c a w) ∙ rest in
    λ i. first_said e c a w s i ∷ others i

pub reads_said_lem : (c : Clock) (es : List Event) → reads_said es (said_by c es) ≡ reads_of step c es
unfolding said_by reads_said reads_of
reads_said_lem c [] = refl
reads_said_lem c (e ∷ es) =
    ap (λ (l : List (List ℕ)). cond (read_by e) ((told_by c e).answer ∷ l) l) (reads_said_lem (told_by c e).state es)

module _ (s : List ℕ) (each : (i : ℕ) → get_or s i 0 < 256) (e : accepted_of s ≡ true) {es : List Event} (bytes : EventBytes es) where
  pub calls_tell : map said_in (told_in s es) ≡ said_by (clock_of s) es
  calls_tell =
      ap (λ (l : List ℕ). map said_in (told_in l es)) (sym (accepted_encoded s each e))
      ∙ calls_by (clock_of s) (decoded_arrays s) (accepted_well s each e) (decoded_small s each) bytes
