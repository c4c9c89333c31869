-- n seconds on in closed form: n single seconds come to the time that the sum of the numbers says. Assumes nothing.
use mathlib.Core.Path.{◌≡◌, refl, sym, ◌∙◌, ap}
use mathlib.Core.Logic.{◌↔◌}
use mathlib.Core.Bool.{cond}
use Rattle.std.specs.Prelude.{Option, Some, None}
use Prim.Native.Nat.{ℕ, zero, suc, ◌+◌, ◌/◌, ◌%◌}
use native.Mathlib.Decide.{ℕ_discrete}
use native.Mathlib.Omega.{arith}
use lib.Dec.{eqb}
use borrow.Author.Tests.{eq-eqb, ne_eqb}
use Rattle.fields.proofs.Answers.{some_none}
use Rattle.fields.specs.Hours.{mode_of}
use Rattle.calendar.specs.Weekdays.{next_weekday_of, weekday_on_of}
use Rattle.calendar.specs.Advance.{advance_of}
use Rattle.calendar.specs.Numbers.{since_of, number_of, time_in, days_on_of, later_from, later_of}
use Rattle.calendar.specs.Repeat.{times}
use Rattle.calendar.specs.declared.time.Time.{Time}
use Rattle.calendar.proofs.MomentLaws.{Moment, since_small, moment_number, time_back}
use Rattle.calendar.proofs.WeekdayLaws.{on_zero, on_step}
use Rattle.calendar.proofs.AdvanceLaws.{advances, advance_mode}

-- u is t after n seconds, part by part
record Reached (t : Time) (n : ℕ) (u : Time) : Type 0 where
  moment : Moment u
  since : since_of u ≡ (since_of t + n) % 3155760000
  mode : mode_of u.hours ≡ mode_of t.hours
  weekday : u.weekday ≡ weekday_on_of t.weekday ((since_of t % 86400 + n) / 86400)

-- the numbers of the days, with k the number at the start and s the present one
turns : (k n s : ℕ) → s ≡ (k + n) % 3155760000 → (s + 1) % 86400 ≡ 0 → (k % 86400 + suc n) / 86400 ≡ (k % 86400 + n) / 86400 + 1
turns k n s e h = omega arith

stays : (k n s : ℕ) → s ≡ (k + n) % 3155760000 → ((s + 1) % 86400 ≡ 0 → ⊥) → (k % 86400 + suc n) / 86400 ≡ (k % 86400 + n) / 86400
stays k n s e h = omega arith

sums : (k n s : ℕ) → s ≡ (k + n) % 3155760000 → (s + 1) % 3155760000 ≡ (k + suc n) % 3155760000
sums k n s e = omega arith

module _ (t : Time) (l : Moment t) where
  start : Reached t 0 t
  start =
      let k = since_of t in
      let d : (k % 86400 + 0) / 86400 ≡ 0 = omega arith in
      record {
        moment = l;
        since = omega (arith, since_small t l);
        mode = refl;
        weekday = rw d (sym (on_zero t.weekday));
      }

  module _ (n : ℕ) (u : Time) (r : Reached t n u) where
    weekday_on : (x : ℕ) → x ≡ since_of u → Dec ((x + 1) % 86400 ≡ 0) → cond (eqb ((x + 1) % 86400) 0) (next_weekday_of u.weekday) u.weekday ≡ weekday_on_of t.weekday ((since_of t % 86400 + suc n) / 86400)
    weekday_on x e (yes h) =
        rw (eq-eqb ((x + 1) % 86400) 0 h, turns (since_of t) n x (e ∙ r.since) h)
        (ap next_weekday_of r.weekday ∙ on_step t.weekday ((since_of t % 86400 + n) / 86400))
    weekday_on x e (no h) = rw (ne_eqb ((x + 1) % 86400) 0 h, stays (since_of t) n x (e ∙ r.since) h) r.weekday

    further : Reached t (suc n) (advance_of u)
    further =
        let a = advances u r.moment in
        record {
          moment = a.moment;
          since = a.since ∙ sums (since_of t) n (since_of u) r.since;
          mode = advance_mode u ∙ r.mode;
          weekday = a.weekday ∙ weekday_on (since_of u) refl (ℕ_discrete ((since_of u + 1) % 86400) 0);
        }

  reached : (n : ℕ) → Reached t n (times advance_of n t)
  unfolding times
  reached zero = start
  reached (suc n) = further n (times advance_of n t) (reached n)

  placed : (n : ℕ) (u : Time) → Reached t n u → u ≡ days_on_of (time_in ((since_of t + n) % 3155760000) (mode_of t.hours) t.weekday) ((since_of t % 86400 + n) / 86400)
  unfolding time_in
  placed n u r = sym (time_back u r.moment) ∙ (λ i. time_in (r.since i) (r.mode i) (r.weekday i))

  -- n single seconds come to the time that is n seconds on
  pub later_times : (n : ℕ) → later_of t n ≡ Some (times advance_of n t)
  unfolding later_of
  later_times n = rw (moment_number t l) (ap Some (sym (placed n (times advance_of n t) (reached n))))

-- none exactly where the time has no second number
later_by : (t : Time) (n : ℕ) (k : Option ℕ) → (later_from t n k ≡ None) ↔ (k ≡ None)
later_by t n None = (λ e. refl, λ e. refl)
later_by t n (Some k) = (λ e. absurd (some_none _ e), λ e. absurd (some_none k e))

pub later_none : (t : Time) (n : ℕ) → (later_of t n ≡ None) ↔ (number_of t ≡ None)
unfolding later_of
later_none t n = later_by t n (number_of t)
