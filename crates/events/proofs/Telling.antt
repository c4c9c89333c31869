-- A test that tells which of two statements holds, so that a choice by it is proved from the statements alone. Assumes nothing.
use Rattle.std.proofs.Common.{◌≡◌, refl, Bool, true, false, cond, ◌&&◌, ◌||◌, not, ◌⊎◌, inl, inr, ℕ, ◌≤◌, ◌<◌, eqb, ltb, leb, ltb-true, ltb-false, leb-true, leb-false, eqb-true}
use Rattle.std.proofs.lemmas.Bool.{eqb-false}

pub data Tells (P Q : Type 0) : Bool → Type 0 where
  holds : P → Tells P Q true
  fails : Q → Tells P Q false

-- what a test's two answers say
pub told : {P Q : Type 0} (b : Bool) → (b ≡ true → P) → (b ≡ false → Q) → Tells P Q b
told true f g = holds (f refl)
told false f g = fails (g refl)

pub at_most : (a b : ℕ) → Tells (a ≤ b) (b < a) (leb a b)
at_most a b = told (leb a b) (leb-true a b) (leb-false a b)

pub less : (a b : ℕ) → Tells (a < b) (b ≤ a) (ltb a b)
less a b = told (ltb a b) (ltb-true a b) (ltb-false a b)

pub equal : (a b : ℕ) → Tells (a ≡ b) (a ≡ b → ⊥) (eqb a b)
equal a b = told (eqb a b) (eqb-true a b) (eqb-false a b)

pub turned : {P Q R S : Type 0} {b : Bool} → Tells P Q b → (P → R) → (Q → S) → Tells R S b
turned (holds p) f g = holds (f p)
turned (fails q) f g = fails (g q)

module _ {P Q : Type 0} where
  pub either : {R : Type 0} {b : Bool} → Tells P Q b → (P → R) → (Q → R) → R
  either (holds p) f g = f p
  either (fails q) f g = g q

  -- of a choice, what either side has
  pub chosen : {A : Type 0} (F : A → Type 0) (x y : A) {b : Bool} → Tells P Q b → (P → F x) → (Q → F y) → F (cond b x y)
  chosen F x y (holds p) f g = f p
  chosen F x y (fails q) f g = g q

  pub is_true : {b : Bool} → Tells P Q b → (Q → ⊥) → b ≡ true
  is_true (holds p) n = refl
  is_true (fails q) n = absurd (n q)

  pub is_false : {b : Bool} → Tells P Q b → (P → ⊥) → b ≡ false
  is_false (holds p) n = absurd (n p)
  is_false (fails q) n = refl

  -- the second test may build on what the first has shown
  pub also : {R : Type 0} {a b : Bool} → Tells P R a → (P → Tells Q R b) → Tells (P × Q) R (a && b)
  also (holds p) f = turned (f p) (λ q. (p, q)) (λ r. r)
  also (fails r) f = fails r

  pub or_else : {R S : Type 0} {a b : Bool} → Tells P R a → Tells Q S b → Tells (P ⊎ Q) (R × S) (a || b)
  or_else (holds p) t = holds (inl p)
  or_else (fails r) (holds q) = holds (inr q)
  or_else (fails r) (fails s) = fails (r, s)

  pub opposite : {b : Bool} → Tells P Q b → Tells Q P (not b)
  opposite (holds p) = fails p
  opposite (fails q) = holds q
