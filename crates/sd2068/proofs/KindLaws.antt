-- An event that is refused changes nothing, and any other is of kind 0 to 6 and does what its kind does. Assumes nothing.
use Rattle.std.proofs.Common.{◌≡◌, sym, subst, false, ℕ, ◌≤◌, ◌<◌, arith}
use Rattle.std.proofs.lemmas.Bool.Decides.{nat_tests}
use native.Mathlib.Decide.{ℕ_discrete}
use Rattle.events.specs.declared.event.Event.{Event}
use Rattle.events.specs.Refusal.{fault_of, fault_in}
use Rattle.sd2068.specs.declared.clock.Clock.{Clock}
use Rattle.sd2068.specs.Step.{event_of}
use Rattle.sd2068.specs.Run.{taken_of, pulses_by, read_by}

-- a number is n, or it is another one
or_else : (P : ℕ → Type 0) (k n : ℕ) → P n → ((k ≡ n → ⊥) → P k) → P k
or_else P k n p other = elim (ℕ_discrete k n) [ yes e ↦ subst P (sym e) p | no d ↦ other d ]

-- what holds of 0 to 5, and of all from 6 on
pub each_kind : (P : ℕ → Type 0) → P 0 → P 1 → P 2 → P 3 → P 4 → P 5 → ((k : ℕ) → 6 ≤ k → P k) → (k : ℕ) → P k
each_kind P p0 p1 p2 p3 p4 p5 others k =
    or_else P k 0 p0
    (λ n0. or_else P k 1 p1 (λ n1. or_else P k 2 p2 (λ n2. or_else P k 3 p3 (λ n3. or_else P k 4 p4 (λ n4. or_else P k 5 p5 (λ n5. others k (omega arith)))))))

-- row 2 keeps out what is over 6
pub small_kind : (kind byte count : ℕ) → fault_of kind byte count ≡ 0 → kind < 7
small_kind kind byte count good = grind (arith, nat_tests)

-- a refused event leaves the state, makes no pulse and is no read
module _ (e : Event) (bad : fault_in e ≡ 0 → ⊥) where
  pub refused_state : (c : Clock) → (taken_of c e).clock ≡ c
  refused_state c = grind (arith, nat_tests)

  pub refused_pulses : pulses_by e ≡ 0
  refused_pulses = grind (arith, nat_tests)

  pub refused_read : read_by e ≡ false
  refused_read = grind (arith, nat_tests)

-- an event that is not refused does what its kind does
pub good_taken : (e : Event) → fault_in e ≡ 0 → (c : Clock) → taken_of c e ≡ event_of c e.kind e.byte e.count
good_taken e good c = simp good
