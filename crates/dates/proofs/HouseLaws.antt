-- The house rule for dates: one day on and the reading can be had in either order. Assumes nothing.
use mathlib.Core.Path.{◌≡◌, refl, sym, ◌∙◌, ap}
use mathlib.Core.Bool.{Bool, true, false, cond, ◌&&◌, true≢false}
use Prim.Native.Nat.{ℕ}
use lib.Dec.{eqb}
use borrow.Author.Tests.{eqb-true, ne_eqb}
use Rattle.fields.specs.Digits.{legal_of, step_of}
use Rattle.fields.specs.House.{as_field}
use Rattle.fields.proofs.FieldLaws.{Field, twelve, hundred, legal_held}
use Rattle.fields.proofs.HouseLaws.{as_step, step_as, read_carried, kept_past}
use Rattle.dates.specs.Months.{leap_of, last_day_of}
use Rattle.dates.specs.Dates.{next_date_of}
use Rattle.dates.specs.House.{as_date}
use Rattle.dates.specs.declared.date.Date.{Date}
use Rattle.dates.proofs.MonthLaws.{day_field}

-- an illegal year is no leap year, and neither is 99
leap_by : (year : ℕ) (t : Bool) → legal_of 0x00 0x99 year ≡ t → leap_of (cond t year 0x99) ≡ leap_of year
unfolding leap_of
leap_by year true e = refl
leap_by year false e = simp e

leap_as : (year : ℕ) → leap_of (as_field 0x00 0x99 year) ≡ leap_of year
unfolding as_field
leap_as year = leap_by year (legal_of 0x00 0x99 year) refl

-- an illegal month is none of the shorter ones, and neither is December
no_month : (x month : ℕ) → legal_of 0x01 0x12 x ≡ true → legal_of 0x01 0x12 month ≡ false → eqb month x ≡ false
no_month x month l e = ne_eqb month x (λ (p : month ≡ x). true≢false (sym l ∙ ap (legal_of 0x01 0x12) (sym p) ∙ e))

month_by_lem : (month year : ℕ) (t : Bool) → legal_of 0x01 0x12 month ≡ t → last_day_of (cond t month 0x12) year ≡ last_day_of month year
unfolding last_day_of
month_by_lem month year true e = refl
month_by_lem month year false e =
    simp (
      no_month 0x02 month refl e,
      no_month 0x04 month refl e,
      no_month 0x06 month refl e,
      no_month 0x09 month refl e,
      no_month 0x11 month refl e,
    )

month_as : (month year : ℕ) → last_day_of (as_field 0x01 0x12 month) year ≡ last_day_of month year
unfolding as_field
month_as month year = month_by_lem month year (legal_of 0x01 0x12 month) refl

year_as : (month year : ℕ) → last_day_of month (as_field 0x00 0x99 year) ≡ last_day_of month year
unfolding last_day_of
year_as month year = simp (leap_as year)

-- the reading leaves the month's length
last_as : (month year : ℕ) → last_day_of (as_field 0x01 0x12 month) (as_field 0x00 0x99 year) ≡ last_day_of month year
last_as month year = month_as month (as_field 0x00 0x99 year) ∙ year_as month year

-- day 01 is legal in every month
first_as : (last : ℕ) → Field 0x01 last → as_field 0x01 last 0x01 ≡ 0x01
unfolding as_field
first_as last f = simp (legal_held 0x01 last 0x01 f.begin)

-- the day after the step is legal in the month after the step
day_as : (a m y m₂ y₂ : ℕ) (b : Bool) (c : Bool) → eqb a 0x01 ≡ b → as_field 0x01 (last_day_of m y) a ≡ a → as_field 0x01 (last_day_of (cond b m₂ m) (cond (b && c) y₂ y)) a ≡ a
day_as a m y m₂ y₂ true c e h = rw (eqb-true a 0x01 e) (first_as (last_day_of m₂ (cond c y₂ y)) (day_field m₂ (cond c y₂ y)))
day_as a m y m₂ y₂ false c e h = h

-- one day on and the reading can be had in either order
pub next_as : (d : Date) → next_date_of (as_date d) ≡ as_date (next_date_of d)
unfolding next_date_of as_date
next_as d =
    let last = last_day_of d.month d.year in
    let a = step_of 0x01 last d.day in
    let m = step_of 0x01 0x12 d.month in
    let y = step_of 0x00 0x99 d.year in
    simp (
      last_as d.month d.year,
      step_as 0x01 last d.day (day_field d.month d.year),
      step_as 0x01 0x12 d.month twelve,
      step_as 0x00 0x99 d.year hundred,
      day_as a d.month d.year m y (eqb a 0x01) (eqb m 0x01) refl (as_step 0x01 last d.day (day_field d.month d.year)),
      read_carried (as_field 0x01 0x12) (eqb a 0x01) m d.month (as_step 0x01 0x12 d.month twelve),
      read_carried (as_field 0x00 0x99) (eqb a 0x01 && eqb m 0x01) y d.year (as_step 0x00 0x99 d.year hundred),
    )

-- what no carry reaches stays as held
pub next_kept : (d : Date) → eqb (next_date_of d).day 0x01 ≡ false → next_date_of d ≡ record { day = (next_date_of d).day; month = d.month; year = d.year }
unfolding next_date_of
next_kept d e = simp e

pub year_kept : (d : Date) → eqb (next_date_of d).month 0x01 ≡ false → (next_date_of d).year ≡ d.year
unfolding next_date_of
year_kept d e =
    kept_past (eqb (step_of 0x01 (last_day_of d.month d.year) d.day) 0x01) (step_of 0x01 0x12 d.month) d.month 0x01
    (step_of 0x00 0x99 d.year) d.year e
