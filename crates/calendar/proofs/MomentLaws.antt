-- A moment, a legal date with a legal time of day, and its second number: the two conversions. Assumes nothing.
use mathlib.Core.Path.{◌≡◌, refl, sym, ◌∙◌, ap, ap₂}
use mathlib.Core.Logic.{◌↔◌}
use mathlib.Core.Bool.{true, false, ◌&&◌}
use Rattle.std.specs.Prelude.{Some, None}
use Prim.Native.Nat.{ℕ, ◌+◌, ◌*◌, ◌/◌, ◌%◌, ◌≤◌, ◌<◌}
use native.Mathlib.Omega.{arith}
use lib.Dec.{ltb}
use borrow.Author.Tests.{lt-ltb, ltb-true, ltb-false, le-ltb}
use Rattle.fields.specs.declared.hours.HourMode.{HourMode}
use Rattle.fields.specs.Hours.{mode_of}
use Rattle.fields.specs.Times.{legal_time_of, second_of, time_of_day_of}
use Rattle.fields.proofs.Answers.{given, missing, none_when}
use Rattle.fields.proofs.FieldLaws.{and_left, and_right}
use Rattle.fields.proofs.TimeLaws.{LegalTime, legal_time, time_legal, second_small, time_again, time_of_legal, time_of_mode, second_again}
use Rattle.dates.specs.Dates.{legal_date_of, day_of, month_of, date_in}
use Rattle.dates.proofs.MonthLaws.{falls}
use Rattle.dates.proofs.DateLaws.{LegalDate, legal_date, date_legal, day_small, date_again, date_in_legal, day_in}
use Rattle.calendar.specs.Advance.{clock_of, date_of}
use Rattle.calendar.specs.Numbers.{since_of, number_of, joined, time_in, time_at_of}
use Rattle.calendar.specs.declared.time.Time.{Time}

-- the date and the time of day are legal
pub record Moment (t : Time) : Type 0 where
  pub date : LegalDate (date_of t)
  pub clock : LegalTime (clock_of t)

module _ (t : Time) where
  moment : legal_date_of (date_of t) && legal_time_of (clock_of t) ≡ true → Moment t
  moment e =
      record {
        date = legal_date (date_of t) (and_left (legal_date_of (date_of t)) (legal_time_of (clock_of t)) e);
        clock = legal_time (clock_of t) (and_right (legal_date_of (date_of t)) (legal_time_of (clock_of t)) e);
      }

  pub since_small : Moment t → since_of t < 3155760000
  unfolding since_of
  since_small l = omega (arith, day_small (date_of t) l.date, second_small (clock_of t) l.clock)

  -- a moment has a second number
  pub moment_number : Moment t → number_of t ≡ Some (since_of t)
  unfolding number_of
  moment_number l = simp (date_legal (date_of t) l.date, time_legal (clock_of t) l.clock)

  -- and nothing else has
  pub number_moment : (k : ℕ) → number_of t ≡ Some k → Moment t
  unfolding number_of
  number_moment k e = moment (given (legal_date_of (date_of t) && legal_time_of (clock_of t)) (since_of t) k e).holds

  pub number_since : (k : ℕ) → number_of t ≡ Some k → since_of t ≡ k
  unfolding number_of
  number_since k e = (given (legal_date_of (date_of t) && legal_time_of (clock_of t)) (since_of t) k e).same

  pub number_small : (k : ℕ) → number_of t ≡ Some k → k < 3155760000
  number_small k e = omega (arith, number_since k e, since_small (number_moment k e))

-- a day and a second come back out of their sum
record Split (d s n : ℕ) : Type 0 where
  day : n / 86400 ≡ d
  second : n % 86400 ≡ s

split : (d s : ℕ) → s < 86400 → Split d s (d * 86400 + s)
split d s h = omega arith

module _ (t : Time) (l : Moment t) where
  since_split : Split (day_of (date_of t)) (second_of (clock_of t)) (since_of t)
  unfolding since_of
  since_split = split (day_of (date_of t)) (second_of (clock_of t)) (second_small (clock_of t) l.clock)

  -- the moment comes back out of its number, in its own hour mode
  pub time_back : time_in (since_of t) (mode_of t.hours) t.weekday ≡ t
  unfolding time_in
  time_back =
      let c = ap (time_of_day_of (mode_of t.hours)) since_split.second ∙ time_again (clock_of t) l.clock in
      let d = ap (λ (n : ℕ). date_in (month_of n) n) since_split.day ∙ date_again (date_of t) l.date in
      ap₂ (λ x y. joined x t.weekday y) c d

module _ (n : ℕ) (m : HourMode) (w : ℕ) where
  time_mode : mode_of (time_in n m w).hours ≡ m
  unfolding time_in
  time_mode = time_of_mode m (n % 86400)

  module _ (small : n < 3155760000) where
    day_fits : n / 86400 < 36525
    day_fits = omega arith

    pub time_moment : Moment (time_in n m w)
    unfolding time_in
    time_moment =
        record {
          date = date_in_legal (month_of (n / 86400)) (n / 86400) (falls (n / 86400) day_fits);
          clock = time_of_legal m (n % 86400);
        }

    -- the number comes back out of its moment
    pub since_back : since_of (time_in n m w) ≡ n
    unfolding time_in since_of
    since_back =
        let d = day_in (month_of (n / 86400)) (n / 86400) (falls (n / 86400) day_fits) in
        let s = second_again m (n % 86400) (omega arith) in
        ap₂ (λ (x : ℕ) (y : ℕ). x * 86400 + y) d s ∙ omega arith

-- exactly the numbers below a century have a time
module _ (n : ℕ) (m : HourMode) (w : ℕ) where
  pub time_there : n < 3155760000 → time_at_of n m w ≡ Some (time_in n m w)
  unfolding time_at_of
  time_there h = simp (lt-ltb n 3155760000 h)

  pub time_absent : time_at_of n m w ≡ None → 3155760000 ≤ n
  unfolding time_at_of
  time_absent e = ltb-false n 3155760000 (missing (ltb n 3155760000) (time_in n m w) e)

  pub time_small : (t : Time) → time_at_of n m w ≡ Some t → n < 3155760000
  unfolding time_at_of
  time_small t e = ltb-true n 3155760000 (given (ltb n 3155760000) (time_in n m w) t e).holds

  pub time_is : (t : Time) → time_at_of n m w ≡ Some t → time_in n m w ≡ t
  unfolding time_at_of
  time_is t e = (given (ltb n 3155760000) (time_in n m w) t e).same

-- both round trips, over the answers
pub number_time : (t : Time) (k : ℕ) → number_of t ≡ Some k → time_at_of k (mode_of t.hours) t.weekday ≡ Some t
number_time t k e =
    time_there k (mode_of t.hours) t.weekday (number_small t k e)
    ∙ ap Some (ap (λ (n : ℕ). time_in n (mode_of t.hours) t.weekday) (sym (number_since t k e)) ∙ time_back t (number_moment t k e))

pub time_number : (n : ℕ) (m : HourMode) (w : ℕ) (t : Time) → time_at_of n m w ≡ Some t → number_of t ≡ Some n
time_number n m w t e =
    let h = time_small n m w t e in
    ap number_of (sym (time_is n m w t e)) ∙ moment_number (time_in n m w) (time_moment n m w h) ∙ ap Some (since_back n m w h)

-- in the hour mode asked for, and with the weekday that was handed in
pub time_in_mode : (n : ℕ) (m : HourMode) (w : ℕ) (t : Time) → time_at_of n m w ≡ Some t → mode_of t.hours ≡ m
time_in_mode n m w t e = ap (λ (u : Time). mode_of u.hours) (sym (time_is n m w t e)) ∙ time_mode n m w

pub time_weekday : (n : ℕ) (m : HourMode) (w : ℕ) (t : Time) → time_at_of n m w ≡ Some t → t.weekday ≡ w
unfolding time_in
time_weekday n m w t e = ap (λ (u : Time). u.weekday) (sym (time_is n m w t e))

-- none exactly for an illegal date or time of day
pub number_none : (t : Time) → (number_of t ≡ None) ↔ (legal_date_of (date_of t) && legal_time_of (clock_of t) ≡ false)
unfolding number_of
number_none t =
    let b = legal_date_of (date_of t) && legal_time_of (clock_of t) in
    (missing b (since_of t), none_when b (since_of t))

-- none exactly for a number of a century or more
pub time_none : (n : ℕ) (m : HourMode) (w : ℕ) → (time_at_of n m w ≡ None) ↔ (3155760000 ≤ n)
unfolding time_at_of
time_none n m w = (time_absent n m w, λ h. none_when (ltb n 3155760000) (time_in n m w) (le-ltb n 3155760000 h))

-- the weekday plays no part
pub number_weekday : (t : Time) (w : ℕ) → number_of (joined (clock_of t) w (date_of t)) ≡ number_of t
unfolding number_of since_of
number_weekday t w = refl
