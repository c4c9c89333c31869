-- The house rule for every time: one second on and the reading of illegal fields can be had in either order. Assumes nothing.
use mathlib.Core.Path.{◌≡◌, refl, sym, ◌∙◌, ap, ap₂}
use mathlib.Core.Bool.{Bool, true, false}
use Prim.Native.Nat.{ℕ}
use Rattle.fields.specs.declared.times.TimeOfDay.{TimeOfDay}
use Rattle.fields.specs.Times.{next_time_of, midnight_of}
use Rattle.fields.specs.House.{as_time_of_day}
use Rattle.fields.proofs.HouseLaws.{midnight_as}
use Rattle.fields.proofs.HouseLaws as clocks
use Rattle.dates.specs.declared.date.Date.{Date}
use Rattle.dates.specs.Dates.{next_date_of}
use Rattle.dates.specs.House.{as_date}
use Rattle.dates.proofs.HouseLaws as dates
use Rattle.calendar.specs.Weekdays.{next_weekday_of}
use Rattle.calendar.specs.Advance.{clock_of, date_of, turned_to, advance_of}
use Rattle.calendar.specs.Numbers.{joined}
use Rattle.calendar.specs.House.{as_time}
use Rattle.calendar.specs.declared.time.Time.{Time}
use Rattle.calendar.proofs.WeekdayLaws.{next_small, as_legal, next_weekday_as}

-- the reading of a time that has turned, or not
read_turned : (t : Time) (c : TimeOfDay) (d : Date) (b : Bool) → turned_to (as_time t) (as_time_of_day c) (as_date d) b ≡ as_time (turned_to t c d b)
unfolding as_time
read_turned t c d true =
    ap (λ (w : ℕ). joined (as_time_of_day c) w (as_date d))
    (next_weekday_as t.weekday ∙ sym (as_legal (next_weekday_of t.weekday) (next_small t.weekday)))
read_turned t c d false = refl

pub advance_as : (t : Time) → advance_of (as_time t) ≡ as_time (advance_of t)
unfolding advance_of as_time
advance_as t =
    let c = next_time_of (clock_of t) in
    let d = next_date_of (date_of t) in
    ap₂ (λ x y. turned_to (as_time t) x y (midnight_of x)) (clocks.next_as (clock_of t)) (dates.next_as (date_of t))
    ∙ ap (turned_to (as_time t) (as_time_of_day c) (as_date d)) (midnight_as c)
    ∙ read_turned t c d (midnight_of c)
