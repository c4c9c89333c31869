-- Which bytes are accepted, and that steps on them leave the bytes of the states that the chip's steps leave. Assumes nothing.
use mathlib.Core.Path.{◌≡◌, refl, ap, ◌∙◌}
use mathlib.Core.Bool.{Bool, true, cond}
use mathlib.Core.List.{List, [], ◌∷◌}
use Prim.Native.Nat.{ℕ, ◌<◌}
use lib.ListN.{get_or}
use Rattle.events.specs.declared.event.Event.{Event}
use Rattle.sd2068.specs.declared.clock.Clock.{Clock}
use Rattle.sd2068.specs.Step as steps
use Rattle.sd2068.specs.Run.{step, after}
use Rattle.sd2068.specs.WellFormed.{well_formed_of}
use Rattle.sd2068.proofs.WellLaws.{step_keeps}
use Rattle.state_bytes.specs.Decoded.{clock_of}
use Rattle.state_bytes.specs.Encoded.{bytes_of}
use Rattle.state_bytes.specs.Shapes.{Arrays, Bytes}
use Rattle.state_bytes.proofs.RoundLaws.{encoded_back, encoded_state, decoded_well, decoded_again}
use Rattle.state_events.specs.Event.{Lent, lent, done_of}
use Rattle.state_events.proofs.ArrayLaws.{decoded_arrays, step_arrays}
use Rattle.state_events.proofs.TellLaws.{done_state}
use Rattle.sd2068_abi.specs.Abi.{full_of, accepted_of, step_of, after_in}
use Rattle.sd2068_abi.proofs.AbiLaws.{accepted_full, accepted_state}

-- the bytes of a well-formed state are accepted, and it comes back from them
module _ (c : Clock) (a : Arrays c) (well : well_formed_of c ≡ true) where
  full_encoded : full_of (bytes_of c) ≡ true
  unfolding bytes_of
  full_encoded = refl

  pub encoded_accepted : accepted_of (bytes_of c) ≡ true
  unfolding accepted_of
  encoded_accepted = simp (full_encoded, encoded_state c a well)

  pub encoded_decoded : clock_of (bytes_of c) ≡ c
  encoded_decoded = encoded_back c a well

-- bytes that are accepted are those of a well-formed state, the one that they stand for
module _ (s : List ℕ) (each : (i : ℕ) → get_or s i 0 < 256) (e : accepted_of s ≡ true) where
  bytes : Bytes s
  bytes = record { long = accepted_full s e; each = each }

  pub accepted_well : well_formed_of (clock_of s) ≡ true
  accepted_well = decoded_well s bytes (accepted_state s e)

  pub accepted_encoded : bytes_of (clock_of s) ≡ s
  accepted_encoded = decoded_again s bytes (accepted_state s e)

-- so a board that lends the bytes of a well-formed state has the chip's steps, however many
pub board_step :
    (c : Clock) → Arrays c → well_formed_of c ≡ true → (kind byte count : ℕ) → step_of (bytes_of c) kind byte count ≡ done_of c kind byte count
unfolding step_of
board_step c a w kind byte count =
    ap (λ (t : Bool). cond t (done_of (clock_of (bytes_of c)) kind byte count) (lent 1 (bytes_of c))) (encoded_accepted c a w)
    ∙ ap (λ (x : Clock). done_of x kind byte count) (encoded_decoded c a w)

pub board_steps : (c : Clock) → Arrays c → well_formed_of c ≡ true → (es : List Event) → after_in (bytes_of c) es ≡ bytes_of (after step c es)
unfolding after_in after
board_steps c a w [] = refl
board_steps c a w (e ∷ es) =
    ap (λ (l : Lent). after_in l.state es) (board_step c a w e.kind e.byte e.count)
    ∙ ap (λ (l : List ℕ). after_in l es) (done_state c e.kind e.byte e.count)
    ∙ board_steps (step c e).state (step_arrays c a e.kind e.byte e.count) (step_keeps c w e.kind e.byte e.count) es

-- which the next call accepts
abbrev pub Accepted : List ℕ → Type 0
Accepted s = accepted_of s ≡ true

module _ (s : List ℕ) (each : (i : ℕ) → get_or s i 0 < 256) (e : accepted_of s ≡ true) (kind byte count : ℕ) where
  abbrev clock : Clock
  clock = clock_of s

  stepped_accepted : Accepted (done_of clock kind byte count).state
  unfolding done_of steps.step_of
  stepped_accepted =
      encoded_accepted (steps.step_of clock kind byte count).state (step_arrays clock (decoded_arrays s) kind byte count)
      (step_keeps clock (accepted_well s each e) kind byte count)

  pub step_accepted : Accepted (step_of s kind byte count).state
  unfolding step_of
  step_accepted = ap (λ (b : Bool). accepted_of (cond b (done_of clock kind byte count) (lent 1 s)).state) e ∙ stepped_accepted
