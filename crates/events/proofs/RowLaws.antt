-- The fault of an event is told by its rows: 2 before 3, and 0 where neither holds. Assumes nothing.
use Rattle.std.proofs.Common.{◌≡◌, refl, true, false, cond, ℕ, ◌≤◌, ◌<◌, arith}
use Rattle.std.proofs.lemmas.Bool.Decides.{nat_tests}
use Rattle.events.specs.Refusal.{fields_of, fault_of}
use Rattle.events.specs.Rows.{Row2, Row3, Row3.count as count_used, Row3.pulses as no_pulses, Sound}
use Rattle.events.proofs.Telling.{Tells, told, less, equal, either, chosen}

-- a row of an event that holds, and its refusal
pub data Fault (k b n : ℕ) : ℕ → Type 0 where
  kind : Row2 k → Fault k b n 2
  field : (Row2 k → ⊥) → Row3 k b n → Fault k b n 3

-- what is found of an event
pub data Judged (k b n : ℕ) : ℕ → Type 0 where
  sound : Sound k b n → Judged k b n 0
  fault : {v : ℕ} → Fault k b n v → Judged k b n v

module _ {k b n : ℕ} where
  pub unsound : {v : ℕ} → Fault k b n v → Sound k b n → ⊥
  unsound (kind r) s = s.0 r
  unsound (field m r) s = s.1 r

  pub one_fault : {v w : ℕ} → Fault k b n v → Fault k b n w → v ≡ w
  one_fault (kind r) (kind s) = refl
  one_fault (kind r) (field m s) = absurd (m r)
  one_fault (field m r) (kind s) = absurd (m s)
  one_fault (field m r) (field l s) = refl

  one_judged : {v w : ℕ} → Judged k b n v → Judged k b n w → v ≡ w
  one_judged (sound s) (sound t) = refl
  one_judged (sound s) (fault f) = absurd (unsound f s)
  one_judged (fault f) (sound s) = absurd (unsound f s)
  one_judged (fault f) (fault g) = one_fault f g

module _ (k b n : ℕ) where
  fields_sound : fields_of k b n ≡ true → Row3 k b n → ⊥
  fields_sound e (Row3.byte m l) = grind (arith, nat_tests)
  fields_sound e (Row3.count m l) = grind (arith, nat_tests)
  fields_sound e (Row3.pulses f o) = grind (arith, nat_tests)

  fields_due : fields_of k b n ≡ false → Row3 k b n
  fields_due e =
      either (equal k 2) (λ e2. count_used (omega arith) (grind (arith, nat_tests)))
      (λ n2. either (equal b 0)
      (λ z. either (equal k 5) (λ e5. no_pulses e5 (grind (arith, nat_tests))) (λ n5. count_used n5 (grind (arith, nat_tests))))
      (λ m. Row3.byte n2 m))

  row3 : Tells (Row3 k b n → ⊥) (Row3 k b n) (fields_of k b n)
  row3 = told (fields_of k b n) fields_sound fields_due

  pub judged : Judged k b n (fault_of k b n)
  judged =
      chosen (Judged k b n) (cond (fields_of k b n) 0 3) 2 (less k 7)
      (λ (lt : k < 7).
      chosen (Judged k b n) 0 3 row3 (λ n3. sound (omega arith, n3)) (λ r3. fault (field (omega arith) r3)))
      (λ (le : 7 ≤ k). fault (kind le))

  pub fault_only : {v : ℕ} → Judged k b n v → fault_of k b n ≡ v
  fault_only = one_judged judged
