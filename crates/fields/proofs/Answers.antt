-- An answer that is there exactly when a test holds. Assumes nothing.
use mathlib.Core.Path.{◌≡◌, refl, sym}
use mathlib.Core.Bool.{Bool, true, false, cond, true≢false}
use Rattle.std.specs.Prelude.{Some, None}
use Prim.Native.Nat.{ℕ}
use native.Mathlib.Omega.{arith}

-- the facts behind an answer
pub record Given {A : Type 0} (b : Bool) (x y : A) : Type 0 where
  pub holds : b ≡ true
  pub same : x ≡ y

module _ {A : Type 0} where
  some_one : (x y : A) → Some x ≡ Some y → x ≡ y
  some_one x y e = cc

  pub some_none : (x : A) → Some x ≡ None → ⊥
  some_none x e = let z : ◌≡◌ {A = ℕ} 0 1 = cc in omega arith

  pub given : (b : Bool) (x y : A) → cond b (Some x) None ≡ Some y → Given b x y
  given true x y e = record { holds = refl; same = some_one x y e }
  given false x y e = absurd (some_none y (sym e))

  pub missing : (b : Bool) (x : A) → cond b (Some x) None ≡ None → b ≡ false
  missing true x e = absurd (some_none x e)
  missing false x e = refl

  -- none exactly when the test fails
  pub none_when : (b : Bool) (x : A) → b ≡ false → cond b (Some x) None ≡ None
  none_when true x e = absurd (true≢false e)
  none_when false x e = refl
