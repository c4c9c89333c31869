-- One second on for a moment: it stays a moment, and its number is the next of the century. Assumes nothing.
use mathlib.Core.Path.{◌≡◌, refl, ◌∙◌, ap}
use mathlib.Core.Bool.{Bool, true, false, cond}
use Rattle.std.specs.Prelude.{Some}
use Prim.Native.Nat.{ℕ, ◌+◌, ◌*◌, ◌%◌, ◌<◌}
use native.Mathlib.Omega.{arith}
use lib.Dec.{eqb}
use borrow.Author.Tests.{eq-eqb, ne_eqb}
use Rattle.fields.specs.declared.times.TimeOfDay.{TimeOfDay}
use Rattle.fields.specs.Hours.{mode_of}
use Rattle.fields.specs.Times.{second_of, next_time_of, midnight_of}
use Rattle.fields.proofs.Below.{counts}
use Rattle.fields.proofs.Picked.{picked}
use Rattle.fields.proofs.TimeLaws.{second_small, Turned, on, past, turns_over, next_mode}
use Rattle.dates.specs.declared.date.Date.{Date}
use Rattle.dates.specs.Dates.{day_of, next_date_of}
use Rattle.dates.proofs.DateLaws.{NextDay, next_day, day_small}
use Rattle.calendar.specs.Weekdays.{next_weekday_of}
use Rattle.calendar.specs.Advance.{clock_of, date_of, turned_to, advance_of}
use Rattle.calendar.specs.Numbers.{since_of, number_of}
use Rattle.calendar.specs.declared.time.Time.{Time}
use Rattle.calendar.proofs.WeekdayLaws.{next_small, next_weekday}
use Rattle.calendar.proofs.MomentLaws.{Moment, since_small, number_moment, number_since, moment_number}

-- what one second makes of a moment
pub record Advanced (t u : Time) : Type 0 where
  pub moment : Moment u
  pub since : since_of u ≡ (since_of t + 1) % 3155760000
  pub weekday : u.weekday ≡ cond (eqb ((since_of t + 1) % 86400) 0) (next_weekday_of t.weekday) t.weekday

-- a day d and its second s, one second on, as plain numbers
next_second_lem : (d s r : ℕ) → r ≡ s + 1 → d * 86400 + r ≡ d * 86400 + s + 1
next_second_lem d s r e = omega arith

not_midnight : (d s r : ℕ) → r ≡ s + 1 → r < 86400 → (d * 86400 + s + 1) % 86400 ≡ r
not_midnight d s r e h = omega arith

past_midnight : (d e s r : ℕ) → s ≡ 86399 → r ≡ 0 → d < 36525 → e ≡ (d + 1) % 36525 → e * 86400 + r ≡ (d * 86400 + s + 1) % 3155760000
past_midnight d e s r p q h f = omega arith

at_midnight : (d s : ℕ) → s ≡ 86399 → (d * 86400 + s + 1) % 86400 ≡ 0
at_midnight d s p = omega arith

module _ (t : Time) (l : Moment t) where
  by_turn : (c : TimeOfDay) (d : Date) → Turned (clock_of t) c → NextDay (date_of t) d → Advanced t (turned_to t c d (midnight_of c))
  unfolding since_of
  by_turn c d (on e s w) n =
      let u = turned_to t c d false in
      let k : Moment u = record { date = l.date; clock = w } in
      let x = day_of (date_of t) in
      let y = second_of (clock_of t) in
      let z = not_midnight x y (second_of c) s (second_small c w) in
      rw e
      (record {
        moment = k;
        since = counts 3155760000 (since_of t) (since_of u) (next_second_lem x y (second_of c) s) (since_small u k);
        weekday = rw (ne_eqb ((x * 86400 + y + 1) % 86400) 0 (λ q. omega arith)) refl;
      })
  by_turn c d (past e s z w) n =
      let x = day_of (date_of t) in
      let y = second_of (clock_of t) in
      rw e
      (record {
        moment = record { date = n.legal; clock = w };
        since = past_midnight x (day_of d) y (second_of c) s z (day_small (date_of t) l.date) n.day;
        weekday = rw (eq-eqb ((x * 86400 + y + 1) % 86400) 0 (at_midnight x y s)) refl;
      })

  pub advances : Advanced t (advance_of t)
  unfolding advance_of
  advances =
      by_turn (next_time_of (clock_of t)) (next_date_of (date_of t)) (turns_over (clock_of t) l.clock) (next_day (date_of t) l.date)

-- the number after one second is the next one of the century
pub advance_number : (t : Time) (k : ℕ) → number_of t ≡ Some k → number_of (advance_of t) ≡ Some ((k + 1) % 3155760000)
advance_number t k e =
    let a = advances t (number_moment t k e) in
    moment_number (advance_of t) a.moment ∙ ap Some (a.since ∙ ap (λ (n : ℕ). (n + 1) % 3155760000) (number_since t k e))

-- for every time, legal or not: the hour mode stays
pub advance_mode : (t : Time) → mode_of (advance_of t).hours ≡ mode_of t.hours
unfolding advance_of
advance_mode t = next_mode (clock_of t)

-- and the weekday steps exactly where the date does, when midnight is reached
pub advance_weekday : (t : Time) → (advance_of t).weekday ≡ cond (midnight_of (clock_of (advance_of t))) (next_weekday_of t.weekday) t.weekday
unfolding advance_of
advance_weekday t = refl

-- a legal weekday stays legal, whatever the date is
pub advance_weekday_legal : (t : Time) → t.weekday < 7 → (advance_of t).weekday < 7
advance_weekday_legal t h =
    rw (advance_weekday t) (picked (λ (w : ℕ). w < 7) (midnight_of (clock_of (advance_of t))) (next_small t.weekday) h)

-- a legal weekday is one more modulo 7 exactly when the day turns
pub weekday_turns : (t : Time) → Moment t → t.weekday < 7 → (advance_of t).weekday ≡ cond (eqb ((since_of t + 1) % 86400) 0) ((t.weekday + 1) % 7) t.weekday
weekday_turns t l h = rw (← next_weekday t.weekday h) (advances t l).weekday

turned_date : (t : Time) (c : TimeOfDay) (d : Date) (b : Bool) → date_of (turned_to t c d b) ≡ cond b d (date_of t)
turned_date t c d true = refl
turned_date t c d false = refl

pub advance_date : (t : Time) → date_of (advance_of t) ≡ cond (midnight_of (clock_of (advance_of t))) (next_date_of (date_of t)) (date_of t)
unfolding advance_of
advance_date t = turned_date t (next_time_of (clock_of t)) (next_date_of (date_of t)) (midnight_of (next_time_of (clock_of t)))
