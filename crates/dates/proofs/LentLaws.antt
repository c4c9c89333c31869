-- By the list of first days the conversions of a lent list are those of the rules. Assumes nothing.
use mathlib.Core.Path.{◌≡◌, refl, sym, ◌∙◌, ap}
use mathlib.Core.Bool.{Bool, true, false, cond}
use Rattle.std.specs.Prelude.{Some, None}
use Prim.Native.Nat.{ℕ, zero, suc, min, ◌+◌, ◌-◌, ◌≤◌, ◌<◌}
use native.Mathlib.Nat.{add-zero, zero-add, add-suc, suc-add, le_of_suc-le-suc, not-suc-le-zero}
use native.Mathlib.Omega.{arith}
use lib.Dec.{leb, ltb}
use lib.ListN.{get_or}
use borrow.Author.Tests.{lt-ltb, ltb-true, leb-true, leb-false}
use Rattle.fields.specs.Digits.{byte_of}
use Rattle.fields.proofs.Picked.{picked}
use Rattle.dates.specs.Months.{month_byte_of, year_byte_of, days_of, first_day_of, first_days_from, first_days}
use Rattle.dates.specs.Dates.{legal_date_of, month_number_of, day_of, day_number_of, month_of, date_in, date_at_of}
use Rattle.dates.specs.Lent.{day_from, day_by, day_number_in_of, guess_of, month_by, month_in_of, date_from, date_by, date_in_of}
use Rattle.dates.specs.declared.date.Date.{Date}
use Rattle.dates.proofs.MonthLaws.{first_small, Falls, found, guess_month, guess_before, days_small}
use Rattle.dates.proofs.DateLaws.{LegalDate, legal_date, month_small}

listed_from_lem : (n k i : ℕ) → i < n → get_or (first_days_from n k) i 0 ≡ first_day_of (k + i)
unfolding first_days_from
listed_from_lem zero k i h = absurd (not-suc-le-zero h)
listed_from_lem (suc n) k zero h = ap first_day_of (sym (add-zero k))
listed_from_lem (suc n) k (suc i) h = listed_from_lem n (suc k) i (le_of_suc-le-suc h) ∙ ap first_day_of (suc-add k i ∙ sym (add-suc k i))

-- the list has the first day of each month at its number
pub first_listed : (k : ℕ) → k < 1200 → get_or first_days k 0 ≡ first_day_of k
unfolding first_days
first_listed k h = listed_from_lem 1200 0 k h ∙ ap first_day_of (zero-add k)

-- no day of a month is past its 31st, as plain numbers
uncut : (a n v : ℕ) → n < a + v → v ≤ 31 → min (n - a) 30 + 1 ≡ n - a + 1
uncut a n v p q = omega arith

-- a day in the month in which it falls
module _ (k n a : ℕ) (h : Falls k n) (e : a ≡ first_day_of k) where
  from_first : date_from n k a ≡ date_in (month_of n) n
  from_first =
      ap (date_from n k) e
      ∙ ap (λ (d : ℕ). record { day = byte_of d; month = month_byte_of k; year = year_byte_of k }) (uncut (first_day_of k) n (days_of k) h.until (days_small k))
      ∙ ap (λ (j : ℕ). date_in j n) (sym (found k n h))

  pub dated_at : Some (date_from n k a) ≡ date_at_of n
  unfolding date_at_of
  dated_at = rw (lt-ltb n 36525 (omega (arith, h.until, first_small k h.month))) (ap Some from_first)

-- a guessed month that has begun is the one, and else the month before it is
month_lent : (n a : ℕ) (b : Bool) → n < 36525 → a ≡ first_day_of (guess_of n) → leb a n ≡ b → Falls (cond b (guess_of n) (guess_of n - 1)) n
month_lent n a true h e t = guess_month n (guess_of n) h refl (rw e at (leb-true a n t))
month_lent n a false h e t = guess_before n (guess_of n) h refl (rw e at (leb-false a n t))

guess_small : (n : ℕ) → guess_of n < 1200
guess_small n = omega arith

-- whatever the first day, the month is one of the century
pub by_small : (n e a : ℕ) → e < 1200 → month_by n e a < 1200
by_small n e a h = picked (λ (k : ℕ). k < 1200) _ {y = e - 1} h (omega arith)

-- answers that are there in the same case are the same if their values are, where they are there
same_answer : {A : Type 0} (b : Bool) {x y : A} → (b ≡ true → x ≡ y) → cond b (Some x) None ≡ cond b (Some y) None
same_answer true h = ap Some (h refl)
same_answer false h = refl

-- the date of a day of the century
date_by_lem : (n : ℕ) → n < 36525 → date_by first_days n ≡ date_in (month_of n) n
date_by_lem n h =
    let a = get_or first_days (guess_of n) 0 in
    let f : Falls (month_in_of first_days n) n = month_lent n a (leb a n) h (first_listed (guess_of n) (guess_small n)) refl in
    from_first (month_in_of first_days n) n (get_or first_days (month_in_of first_days n) 0) f (first_listed (month_in_of first_days n) f.month)

-- the date of a day number
pub lent_date : (n : ℕ) → date_in_of first_days n ≡ date_at_of n
unfolding date_in_of date_at_of
lent_date n = same_answer (ltb n 36525) (λ e. date_by_lem n (ltb-true n 36525 e))

-- the days since 2000-01-01 of a legal date
day_by_lem : (d : Date) → LegalDate d → day_by first_days d ≡ day_of d
unfolding day_of
day_by_lem d l = ap (λ (a : ℕ). day_from a d.day) (first_listed (month_number_of d) (month_small d l))

-- the day number of a date
pub lent_number : (d : Date) → day_number_in_of first_days d ≡ day_number_of d
unfolding day_number_in_of day_number_of
lent_number d = same_answer (legal_date_of d) (λ e. day_by_lem d (legal_date d e))
