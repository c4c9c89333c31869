-- The events of a section, one by one. Assumes nothing.
use mathlib.Core.Path.{◌≡◌, refl, sym, ap, ap₂, ◌∙◌}
use Prim.Native.Nat.{ℕ, zero, suc, ◌+◌, ◌-◌, ◌*◌, ◌/◌, ◌≤◌, ◌<◌}
use mathlib.Core.List.{List, [], ◌∷◌}
use native.Mathlib.Omega.{arith}
use native.Mathlib.Nat.{not-suc-le-zero}
use lib.ListN.{length, get_or, take, drop}
use lib.Seq.{get_or-take, get_or-drop}
use borrow.Author.Tests.{eq-eqb, ne_eqb, eqb-false}
use Rattle.std.specs.Simd.{first_chunks}
use Rattle.events.specs.declared.event.Event.{Event}
use Rattle.events.specs.declared.refusal.Refusal.{Refusal}
use Rattle.events.specs.Refusal.{number_of, fault_in}
use Rattle.events.proofs.Settled.{number_not0}
use Rattle.script.specs.Header.{word_of}
use Rattle.script.specs.Event.{event_at, events_from, events_in}
use Rattle.script.specs.Checks.{none, found_at, first_of}

-- a refusal has a number
pub not_none : (x : Refusal) → number_of x ≡ 0 → ⊥
not_none x = eqb-false (number_of x) 0 (number_not0 x)

-- n events are n
pub events_length : (s : List ℕ) (at n : ℕ) → length (events_from s at n) ≡ n
events_length s at zero = refl
events_length s at (suc n) = ap suc (events_length s (at + 4) n)

-- the events from the one with index i on
abbrev pub left_of : List ℕ → ℕ → List Event
left_of s i = events_from s (4 * i) (length s / 4 - i)

pub left_all : (s : List ℕ) → left_of s 0 ≡ events_in s
unfolding events_in
left_all s =
    let n : length s / 4 - 0 ≡ length s / 4 = omega arith in
    ap (events_from s 0) n

first_from : (s : List ℕ) (at n : ℕ) → 0 < n → events_from s at n ≡ event_at s at ∷ events_from s (at + 4) (n - 1)
first_from s at zero h = absurd (not-suc-le-zero h)
first_from s at (suc k) h =
    let one : k ≡ suc k - 1 = omega arith in
    ap (λ (m : ℕ). event_at s at ∷ events_from s (at + 4) m) one

pub left_first : (s : List ℕ) (i : ℕ) → i < length s / 4 → left_of s i ≡ event_at s (4 * i) ∷ left_of s (i + 1)
left_first s i h =
    let place : 4 * i + 4 ≡ 4 * (i + 1) = omega arith in
    let less : length s / 4 - i - 1 ≡ length s / 4 - (i + 1) = omega arith in
    first_from s (4 * i) (length s / 4 - i) (omega arith)
    ∙ ap₂ (λ (p n : ℕ). event_at s (4 * i) ∷ events_from s p n) place less

pub left_none : (s : List ℕ) (i : ℕ) → length s / 4 ≤ i → left_of s i ≡ []
left_none s i h =
    let none : length s / 4 - i ≡ 0 = omega arith in
    ap (events_from s (4 * i)) none

-- four bytes of a section are an event of it
same_bytes : (s t : List ℕ) (a b : ℕ) → ((k : ℕ) → k < 4 → get_or s (a + k) 0 ≡ get_or t (b + k) 0) → event_at s a ≡ event_at t b
same_bytes s t a b same =
    let from : a ≡ a + 0 = omega arith in
    let to : b + 0 ≡ b = omega arith in
    λ i. record {
      kind = (ap (λ (p : ℕ). get_or s p 0) from ∙ same 0 (omega arith) ∙ ap (λ (p : ℕ). get_or t p 0) to) i;
      byte = same 1 (omega arith) i;
      count = word_of (same 2 (omega arith) i) (same 3 (omega arith) i);
    }

pub chunk_event : (s : List ℕ) (i n : ℕ) → i < n → event_at (get_or (first_chunks 4 n s) i []) 0 ≡ event_at s (4 * i)
chunk_event s i zero h = absurd (not-suc-le-zero h)
chunk_event s zero (suc n) h = same_bytes (take 4 s) s 0 0 (λ k b. get_or-take 4 s (0 + k) 0 (omega arith))
chunk_event s (suc i) (suc n) h =
    chunk_event (drop 4 s) i n (omega arith)
    ∙ same_bytes (drop 4 s) s (4 * i) (4 * suc i)
    (λ k b.
    let place : 4 + (4 * i + k) ≡ 4 * suc i + k = omega arith in
    get_or-drop 4 s (4 * i + k) 0 ∙ ap (λ (p : ℕ). get_or s p 0) place)

-- the same of the chunks that a loop goes over
pub chunk_at : (s : List ℕ) {chunks : List (List ℕ)} → chunks ≡ first_chunks 4 (length s / 4) s → (i : ℕ) → i < length s / 4 → event_at (get_or chunks i []) 0 ≡ event_at s (4 * i)
chunk_at s front i h = ap (λ (l : List (List ℕ)). event_at (get_or l i []) 0) front ∙ chunk_event s i (length s / 4) h

-- the search at one event: either it goes on behind it, or ends with it
module _ (s : List ℕ) (i : ℕ) (e : Event) (n : ℕ) (event : e ≡ event_at s (4 * i)) (fault : n ≡ fault_in e) (more : i < length s / 4) where
  here : fault_in (event_at s (4 * i)) ≡ n
  here = ap fault_in (sym event) ∙ sym fault

  pub first_good : n ≡ 0 → first_of (left_of s (i + 1)) (i + 1) ≡ first_of (left_of s i) i
  unfolding first_of
  first_good good =
      sym (ap (λ (es : List Event). first_of es i) (left_first s i more) ∙ simp (eq-eqb (fault_in (event_at s (4 * i))) 0 (here ∙ good)))

  pub first_bad : (n ≡ 0 → ⊥) → found_at n i ≡ first_of (left_of s i) i
  unfolding first_of
  first_bad bad =
      sym (ap (λ (es : List Event). first_of es i) (left_first s i more) ∙ simp (here, ne_eqb n 0 bad))

pub first_end : (s : List ℕ) (i : ℕ) → length s / 4 ≤ i → none ≡ first_of (left_of s i) i
unfolding first_of
first_end s i h = sym (ap (λ (es : List Event). first_of es i) (left_none s i h))

-- what a search through the events goes by
pub ruleset search_steps = (left_all, chunk_at, first_good, first_bad, first_end, not_none)
