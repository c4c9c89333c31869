-- A fact of every number below a bound, from one test that antt computes. Assumes nothing.
use mathlib.Core.Path.{◌≡◌, subst, sym}
use mathlib.Core.Logic.{⊎_elim}
use mathlib.Core.Bool.{Bool, true, false, ◌&&◌}
use Prim.Native.Nat.{ℕ, zero, suc, ◌+◌, ◌%◌, ◌<◌}
use native.Mathlib.Nat.{eq-or-lt_of_le, le_of_suc-le-suc, mod-eq_of_lt, not-suc-le-zero}
use lib.Dec.{T, eqb, eqb→eq}

pub both_left : (a b : Bool) → T (a && b) → T a
both_left true b t = tt
both_left false b t = t

pub both_right : (a b : Bool) → T (a && b) → T b
both_right true b t = t
both_right false b t = absurd t

-- f holds at every number below n
abbrev pub all : (ℕ → Bool) → ℕ → Bool
all f zero = true
all f (suc n) = f n && all f n

pub each : (f : ℕ → Bool) (n : ℕ) → T (all f n) → (x : ℕ) → x < n → T (f x)
each f zero t x h = absurd (not-suc-le-zero h)
each f (suc n) t x h =
    ⊎_elim
    (λ (e : x ≡ n). subst (λ (k : ℕ). T (f k)) (sym e) (both_left (f n) (all f n) t))
    (λ (l : x < n). each f n (both_right (f n) (all f n) t) x l)
    (eq-or-lt_of_le (le_of_suc-le-suc h))

-- two functions that agree at every number below n
pub agree : (f g : ℕ → ℕ) (n : ℕ) → T (all (λ (x : ℕ). eqb (f x) (g x)) n) → (x : ℕ) → x < n → f x ≡ g x
agree f g n t x h = eqb→eq (f x) (g x) (each (λ (k : ℕ). eqb (f k) (g k)) n t x h)

-- a next number that is still below c is the next modulo c
pub counts : (c n m : ℕ) → m ≡ n + 1 → m < c → m ≡ (n + 1) % c
counts c n m e h = rw (← e) (sym (mod-eq_of_lt h))
