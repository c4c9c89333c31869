-- The laws of dates: the day number, the two conversions, and one day on. Assumes nothing.
use mathlib.Core.Path.{◌≡◌, sym, ◌∙◌, ap, ap₂}
use mathlib.Core.Bool.{true, false, ◌&&◌}
use Rattle.std.specs.Prelude.{Some, None}
use Prim.Native.Nat.{ℕ, suc, ◌+◌, ◌-◌, ◌*◌, ◌/◌, ◌%◌, ◌≤◌, ◌<◌}
use native.Mathlib.Nat.{add-zero}
use native.Mathlib.Omega.{arith}
use lib.Dec.{ltb}
use borrow.Author.Tests.{ltb-true, ltb-false}
use Rattle.fields.specs.Digits.{value_of, byte_of, legal_of, step_of}
use Rattle.fields.proofs.Answers.{given, missing}
use Rattle.fields.proofs.Below.{counts}
use Rattle.fields.proofs.FieldLaws.{Held, twelve, hundred, byte_held, held, legal_held, and_left, and_right, byte_value, value_byte, value_up, Stepped, up, over, stepped}
use Rattle.dates.specs.Months.{last_day_of, month_byte_of, year_byte_of, days_of, first_day_of}
use Rattle.dates.specs.Dates.{legal_date_of, carried_date, next_date_of, month_number_of, day_of, day_number_of, month_of, date_in, date_at_of}
use Rattle.dates.specs.declared.date.Date.{Date}
use Rattle.dates.proofs.MonthLaws.{century, first_zero, first_suc, first_small, Falls, found, day_field, days_small}

-- what it is to be legal, as facts
pub record LegalDate (d : Date) : Type 0 where
  pub day : Held 0x01 (last_day_of d.month d.year) d.day
  pub month : Held 0x01 0x12 d.month
  pub year : Held 0x00 0x99 d.year

-- a year and a month come back out of their month number
record Split (y m k : ℕ) : Type 0 where
  small : k < 1200
  month : k % 12 + 1 ≡ m
  year : k / 12 ≡ y

split : (y m : ℕ) → y < 100 → 1 ≤ m → m ≤ 12 → Split y m (y * 12 + (m - 1))
split y m a b c = omega arith

-- sums of a first day and a day of the month, as plain numbers
within : (a v n : ℕ) → 1 ≤ v → v ≤ n → (a ≤ a + (v - 1)) × (a + (v - 1) < a + n)
within a v n p q = omega arith

back : (a v : ℕ) → 1 ≤ v → a + (v - 1) - a + 1 ≡ v
back a v p = omega arith

ends_month : (a v n : ℕ) → 1 ≤ v → v ≡ n → a + (v - 1) + 1 ≡ a + n
ends_month a v n p e = omega arith

forth : (a n : ℕ) → a ≤ n → a + (n - a + 1 - 1) ≡ n
forth a n p = omega arith

into : (a n v : ℕ) → a ≤ n → n < a + v → n - a + 1 ≤ v
into a n v p q = omega arith

module _ (d : Date) where
  pub legal_date : legal_date_of d ≡ true → LegalDate d
  unfolding legal_date_of
  legal_date e =
      let x = legal_of 0x01 (last_day_of d.month d.year) d.day in
      let m = legal_of 0x01 0x12 d.month in
      let y = legal_of 0x00 0x99 d.year in
      record {
        day = held 0x01 (last_day_of d.month d.year) d.day (and_left x m (and_left (x && m) y e));
        month = held 0x01 0x12 d.month (and_right x m (and_left (x && m) y e));
        year = held 0x00 0x99 d.year (and_right (x && m) y e);
      }

  pub date_legal : LegalDate d → legal_date_of d ≡ true
  unfolding legal_date_of
  date_legal l =
      simp (
        legal_held 0x01 (last_day_of d.month d.year) d.day l.day,
        legal_held 0x01 0x12 d.month l.month,
        legal_held 0x00 0x99 d.year l.year,
      )

module _ (d : Date) (l : LegalDate d) where
  month_split : Split (value_of d.year) (value_of d.month) (month_number_of d)
  month_split = split (value_of d.year) (value_of d.month) (omega (arith, l.year)) (omega (arith, l.month)) (omega (arith, l.month))

  pub month_small : month_number_of d < 1200
  month_small = month_split.small

  month_again : month_byte_of (month_number_of d) ≡ d.month
  month_again = ap byte_of month_split.month ∙ byte_value d.month l.month.units l.month.tens

  year_again : year_byte_of (month_number_of d) ≡ d.year
  year_again = ap byte_of month_split.year ∙ byte_value d.year l.year.units l.year.tens

  days_again : days_of (month_number_of d) ≡ value_of (last_day_of d.month d.year)
  unfolding days_of
  days_again = ap value_of (ap₂ last_day_of month_again year_again)

  day_top : value_of d.day ≤ days_of (month_number_of d)
  day_top =
      rw days_again
      (value_up d.day (last_day_of d.month d.year) l.day.units (day_field d.month d.year).end.units l.day.high)

  day_low : 1 ≤ value_of d.day
  day_low = omega (arith, l.day.low)

  pub day_falls : Falls (month_number_of d) (day_of d)
  unfolding day_of
  day_falls =
      record {
        month = month_split.small;
        from = (within (first_day_of (month_number_of d)) (value_of d.day) (days_of (month_number_of d)) day_low day_top).0;
        until = (within (first_day_of (month_number_of d)) (value_of d.day) (days_of (month_number_of d)) day_low day_top).1;
      }

  pub day_small : day_of d < 36525
  day_small = omega (arith, day_falls.until, first_small (month_number_of d) month_split.small)

  day_back : day_of d - first_day_of (month_number_of d) + 1 ≡ value_of d.day
  unfolding day_of
  day_back = back (first_day_of (month_number_of d)) (value_of d.day) day_low

  -- the date comes back out of its day number
  pub date_again : date_in (month_of (day_of d)) (day_of d) ≡ d
  date_again =
      let x = ap byte_of day_back ∙ byte_value d.day l.day.units l.day.tens in
      ap (λ (k : ℕ). date_in k (day_of d)) (found (month_number_of d) (day_of d) day_falls)
      ∙ (λ i. record { day = x i; month = month_again i; year = year_again i })

-- so every table has an entry for it
pub legal_small : (d : Date) → legal_date_of d ≡ true → month_number_of d < 1200
legal_small d e = month_small d (legal_date d e)

-- exactly the legal dates have a day number
module _ (d : Date) where
  pub number_legal : (n : ℕ) → day_number_of d ≡ Some n → LegalDate d
  unfolding day_number_of
  number_legal n e = legal_date d (given (legal_date_of d) (day_of d) n e).holds

  pub number_day : (n : ℕ) → day_number_of d ≡ Some n → day_of d ≡ n
  unfolding day_number_of
  number_day n e = (given (legal_date_of d) (day_of d) n e).same

  pub number_none : day_number_of d ≡ None → legal_date_of d ≡ false
  unfolding day_number_of
  number_none = missing (legal_date_of d) (day_of d)

-- exactly the days of the century have a date
module _ (n : ℕ) where
  pub date_found_lem : (d : Date) → date_at_of n ≡ Some d → n < 36525
  unfolding date_at_of
  date_found_lem d e = ltb-true n 36525 (given (ltb n 36525) (date_in (month_of n) n) d e).holds

  pub date_is : (d : Date) → date_at_of n ≡ Some d → date_in (month_of n) n ≡ d
  unfolding date_at_of
  date_is d e = (given (ltb n 36525) (date_in (month_of n) n) d e).same

  pub date_none : date_at_of n ≡ None → 36525 ≤ n
  unfolding date_at_of
  date_none e = ltb-false n 36525 (missing (ltb n 36525) (date_in (month_of n) n) e)

-- a day that falls into month k, as a date
module _ (k n : ℕ) (h : Falls k n) where
  pub date_in_legal : LegalDate (date_in k n)
  unfolding days_of
  date_in_legal =
      record {
        day =
            byte_held 0x01 (last_day_of (month_byte_of k) (year_byte_of k)) (n - first_day_of k + 1) (day_field (month_byte_of k) (year_byte_of k))
            (omega arith) (into (first_day_of k) n (value_of (last_day_of (month_byte_of k) (year_byte_of k))) h.from h.until);
        month = byte_held 0x01 0x12 (k % 12 + 1) twelve (omega arith) (omega arith);
        year = byte_held 0x00 0x99 (k / 12) hundred (omega arith) (omega (arith, h.month));
      }

  month_in : month_number_of (date_in k n) ≡ k
  month_in = rw (value_byte (k / 12) (omega (arith, h.month)), value_byte (k % 12 + 1) (omega arith)) (omega arith)

  day_of_month : value_of (byte_of (n - first_day_of k + 1)) ≡ n - first_day_of k + 1
  day_of_month = value_byte (n - first_day_of k + 1) (omega (arith, h.from, h.until, days_small k))

  pub day_in : day_of (date_in k n) ≡ n
  unfolding day_of
  day_in = ap₂ (λ (j : ℕ) (v : ℕ). first_day_of j + (v - 1)) month_in day_of_month ∙ forth (first_day_of k) n h.from

-- one day on: the date is legal again, and its day number is the next one of the century
pub record NextDay (d e : Date) : Type 0 where
  pub legal : LegalDate e
  pub day : day_of e ≡ (day_of d + 1) % 36525

-- the next day, month and year in the numbers, as plain numbers
day_on : (a v w : ℕ) → 1 ≤ v → w ≡ v + 1 → a + (w - 1) ≡ a + (v - 1) + 1
day_on a v w p e = omega arith

month_on : (y m n : ℕ) → 1 ≤ m → n ≡ m + 1 → y * 12 + (n - 1) ≡ suc (y * 12 + (m - 1))
month_on y m n p e = omega arith

year_on : (y z m : ℕ) → z ≡ y + 1 → m ≡ 12 → z * 12 + 0 ≡ suc (y * 12 + (m - 1))
year_on y z m e f = omega arith

abbrev first_of : ℕ → ℕ → Date
first_of m y = record { day = 0x01; month = m; year = y }

module _ (d : Date) (l : LegalDate d) where
  -- the day after a month's last is the first day of the next month
  last_day_on : d.day ≡ last_day_of d.month d.year → day_of d + 1 ≡ first_day_of (suc (month_number_of d))
  unfolding day_of
  last_day_on e =
      let v : value_of d.day ≡ days_of (month_number_of d) = ap value_of e ∙ sym (days_again d l) in
      ends_month (first_day_of (month_number_of d)) (value_of d.day) (days_of (month_number_of d)) (day_low d l) v ∙ sym (first_suc (month_number_of d))

  -- the first of the month after d's
  module _ (m y : ℕ) (w : LegalDate (first_of m y)) (e : month_number_of (first_of m y) ≡ suc (month_number_of d)) where
    first_number : day_of (first_of m y) ≡ first_day_of (suc (month_number_of d))
    unfolding day_of
    first_number = add-zero (first_day_of (month_number_of (first_of m y))) ∙ ap first_day_of e

    first_on : d.day ≡ last_day_of d.month d.year → NextDay d (first_of m y)
    first_on f =
        record {
          legal = w;
          day = counts 36525 (day_of d) (day_of (first_of m y)) (first_number ∙ sym (last_day_on f)) (day_small (first_of m y) w);
        }

  same_month : (a : ℕ) → Held 0x01 (last_day_of d.month d.year) a → value_of a ≡ value_of d.day + 1 → NextDay d (record { day = a; month = d.month; year = d.year })
  unfolding day_of
  same_month a n v =
      let e : Date = record { day = a; month = d.month; year = d.year } in
      let w : LegalDate e = record { day = n; month = l.month; year = l.year } in
      record {
        legal = w;
        day = counts 36525 (day_of d) (day_of e) (day_on (first_day_of (month_number_of d)) (value_of d.day) (value_of a) (day_low d l) v) (day_small e w);
      }

  century_on : d.day ≡ last_day_of d.month d.year → month_number_of d ≡ 1199 → NextDay d (first_of 0x01 0x00)
  unfolding day_of
  century_on f k =
      let z : day_of d + 1 ≡ 36525 = last_day_on f ∙ ap (λ (j : ℕ). first_day_of (suc j)) k ∙ century in
      record {
        legal = record { day = (day_field 0x01 0x00).begin; month = twelve.begin; year = hundred.begin };
        day = add-zero (first_day_of 0) ∙ first_zero ∙ sym (ap (λ (j : ℕ). j % 36525) z);
      }

  turned : (a m y : ℕ) → Stepped 0x01 (last_day_of d.month d.year) d.day a → Stepped 0x01 0x12 d.month m → Stepped 0x00 0x99 d.year y → NextDay d (carried_date d a m y)
  turned a m y (up b c n v e) q r = rw e (same_month a n v)
  turned a m y (over b e) (up b₂ c₂ n₂ v₂ e₂) r =
      let w : LegalDate (first_of m d.year) = record { day = (day_field m d.year).begin; month = n₂; year = l.year } in
      rw (e, e₂) (first_on m d.year w (month_on (value_of d.year) (value_of d.month) (value_of m) (omega (arith, l.month.low)) v₂) (b l.day))
  turned a m y (over b e) (over b₂ e₂) (up b₃ c₃ n₃ v₃ e₃) =
      let w : LegalDate (first_of 0x01 y) = record { day = (day_field 0x01 y).begin; month = twelve.begin; year = n₃ } in
      rw (e, e₂) (first_on 0x01 y w (year_on (value_of d.year) (value_of y) (value_of d.month) v₃ (ap value_of (b₂ l.month))) (b l.day))
  turned a m y (over b e) (over b₂ e₂) (over b₃ e₃) =
      rw (e, e₂, e₃) (century_on (b l.day) (ap₂ (λ (v : ℕ) (w : ℕ). v * 12 + (w - 1)) (ap value_of (b₃ l.year)) (ap value_of (b₂ l.month))))

  pub next_day : NextDay d (next_date_of d)
  unfolding next_date_of
  next_day =
      turned (step_of 0x01 (last_day_of d.month d.year) d.day) (step_of 0x01 0x12 d.month) (step_of 0x00 0x99 d.year)
      (stepped 0x01 (last_day_of d.month d.year) d.day (day_field d.month d.year))
      (stepped 0x01 0x12 d.month twelve) (stepped 0x00 0x99 d.year hundred)
