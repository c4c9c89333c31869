-- By the list of first days the conversions of a lent list are those of the rules. Assumes nothing.
use mathlib.Core.Path.{◌≡◌, refl, ◌∙◌, ap}
use mathlib.Core.Bool.{Bool, true, false, cond, ◌&&◌}
use Rattle.std.specs.Prelude.{Some, None}
use Prim.Native.Nat.{ℕ, ◌/◌, ◌≤◌, ◌<◌}
use native.Mathlib.Omega.{arith}
use lib.Dec.{ltb}
use borrow.Author.Tests.{lt-ltb, le-ltb, ltb-true, ltb-false}
use Rattle.fields.specs.declared.hours.HourMode.{HourMode}
use Rattle.fields.specs.Times.{legal_time_of, second_of}
use Rattle.dates.specs.Months.{first_days}
use Rattle.dates.specs.Dates.{legal_date_of, day_of, day_number_of, month_of, date_in, date_at_of}
use Rattle.dates.proofs.DateLaws.{legal_date, day_small}
use Rattle.dates.proofs.LentLaws.{lent_number, lent_date}
use Rattle.calendar.specs.Advance.{clock_of, date_of}
use Rattle.calendar.specs.Numbers.{since_of, number_of, time_in, time_at_of}
use Rattle.calendar.specs.Lent.{second_from, number_in_of, time_on, time_in_of}
use Rattle.calendar.specs.declared.time.Time.{Time}

-- the second number goes by the day number
number_by : (t : Time) (b : Bool) → legal_date_of (date_of t) ≡ b → second_from (cond b (Some (day_of (date_of t))) None) (legal_time_of (clock_of t)) (second_of (clock_of t)) ≡ cond (b && legal_time_of (clock_of t)) (Some (since_of t)) None
unfolding since_of
number_by t true e = simp (lt-ltb (day_of (date_of t)) 36525 (day_small (date_of t) (legal_date (date_of t) e)))
number_by t false e = refl

pub second_from_lem : (t : Time) → second_from (day_number_of (date_of t)) (legal_time_of (clock_of t)) (second_of (clock_of t)) ≡ number_of t
unfolding day_number_of number_of
second_from_lem t = number_by t (legal_date_of (date_of t)) refl

-- a number is below the century exactly if its day is, as plain numbers
day_below : (n : ℕ) → n / 86400 < 36525 → n < 3155760000
day_below n h = omega arith

day_past : (n : ℕ) → 36525 ≤ n / 86400 → 3155760000 ≤ n
day_past n h = omega arith

module _ (n : ℕ) (m : HourMode) (w : ℕ) where
  time_by_lem : (b : Bool) → ltb (n / 86400) 36525 ≡ b → time_on (cond b (Some (date_in (month_of (n / 86400)) (n / 86400))) None) n m w ≡ cond (ltb n 3155760000) (Some (time_in n m w)) None
  unfolding time_in
  time_by_lem true e = simp (lt-ltb n 3155760000 (day_below n (ltb-true (n / 86400) 36525 e)))
  time_by_lem false e = simp (le-ltb n 3155760000 (day_past n (ltb-false (n / 86400) 36525 e)))

  -- the time goes by the date
  pub time_on_lem : time_on (date_at_of (n / 86400)) n m w ≡ time_at_of n m w
  unfolding date_at_of time_at_of
  time_on_lem = time_by_lem (ltb (n / 86400) 36525) refl

  -- the time of a second number
  pub lent_time : time_in_of first_days n m w ≡ time_at_of n m w
  unfolding time_in_of
  lent_time = ap (λ d. time_on d n m w) (lent_date (n / 86400)) ∙ time_on_lem

-- the second number of a time
pub lent_second : (t : Time) → number_in_of first_days t ≡ number_of t
unfolding number_in_of
lent_second t = ap (λ d. second_from d (legal_time_of (clock_of t)) (second_of (clock_of t))) (lent_number (date_of t)) ∙ second_from_lem t
