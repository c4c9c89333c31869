-- Tests that antt computes month by month with the running first day, and what each says of every month. Assumes nothing.
use mathlib.Core.Path.{◌≡◌, refl, ◌∙◌, sym, subst, ap, ap₂}
use mathlib.Core.Bool.{Bool, true, ◌&&◌}
use mathlib.Core.List.{List, [], ◌∷◌}
use Prim.Native.Nat.{ℕ, zero, suc, ◌+◌, ◌<◌}
use native.Mathlib.Nat.{add-zero, zero-add, add-suc, suc-add, le_of_suc-le-suc, not-suc-le-zero}
use lib.Dec.{T, eqb, eqb→eq}
use lib.ListN.{length}
use Rattle.fields.proofs.Below.{both_left, both_right}
use Rattle.dates.specs.Months.{days_of, first_day_of, first_days_from, first_days}

-- the table's rule: each entry is the running first day, and the century ends where the table does
abbrev pub begins : ℕ → ℕ → List ℕ → Bool
begins k a [] = eqb a 36525
begins k a (x ∷ xs) = eqb x a && begins (suc k) (a + days_of k) xs

-- a table that passes is the list of first days
begins_list : (xs : List ℕ) (k : ℕ) → T (begins k (first_day_of k) xs) → xs ≡ first_days_from (length xs) k
unfolding first_day_of first_days_from
begins_list [] k t = refl
begins_list (x ∷ xs) k t =
    ap₂ (λ (y : ℕ) (ys : List ℕ). y ∷ ys) (eqb→eq x (first_day_of k) (both_left (eqb x (first_day_of k)) (begins (suc k) (first_day_of (suc k)) xs) t))
    (begins_list xs (suc k) (both_right (eqb x (first_day_of k)) (begins (suc k) (first_day_of (suc k)) xs) t))

pub table_list : (xs : List ℕ) → T (begins 0 0 xs) → length xs ≡ 1200 → xs ≡ first_days
unfolding first_day_of first_days
table_list xs t e = begins_list xs 0 t ∙ ap (λ (n : ℕ). first_days_from n 0) e

-- a test of n months from month k on, each with its first day
abbrev pub runs : (ℕ → ℕ → Bool) → ℕ → ℕ → ℕ → Bool
runs f zero k a = true
runs f (suc n) k a = f k a && runs f n (suc k) (a + days_of k)

runs_from : (f : ℕ → ℕ → Bool) (n k : ℕ) → T (runs f n k (first_day_of k)) → (i : ℕ) → i < n → T (f (k + i) (first_day_of (k + i)))
unfolding first_day_of
runs_from f zero k t i h = absurd (not-suc-le-zero h)
runs_from f (suc n) k t zero h =
    subst (λ (j : ℕ). T (f j (first_day_of j))) (sym (add-zero k)) (both_left (f k (first_day_of k)) (runs f n (suc k) (first_day_of (suc k))) t)
runs_from f (suc n) k t (suc i) h =
    subst (λ (j : ℕ). T (f j (first_day_of j))) (suc-add k i ∙ sym (add-suc k i))
    (runs_from f n (suc k) (both_right (f k (first_day_of k)) (runs f n (suc k) (first_day_of (suc k))) t) i (le_of_suc-le-suc h))

-- every month passes
pub every_month : (f : ℕ → ℕ → Bool) (n : ℕ) → T (runs f n 0 0) → (k : ℕ) → k < n → T (f k (first_day_of k))
unfolding first_day_of
every_month f n t k h = subst (λ (j : ℕ). T (f j (first_day_of j))) (zero-add k) (runs_from f n 0 t k h)
