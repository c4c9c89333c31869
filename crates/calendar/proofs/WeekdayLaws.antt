-- The laws of the weekday: its step counts modulo 7, also from an illegal value. Assumes nothing.
use mathlib.Core.Path.{◌≡◌, refl, sym, ◌∙◌, ap}
use Prim.Native.Nat.{ℕ, ◌+◌, ◌%◌, ◌<◌}
use native.Mathlib.Decide.{dec_lt}
use native.Mathlib.Omega.{arith}
use borrow.Author.Tests.{lt-ltb, le-ltb, eq-eqb, ne_eqb}
use Rattle.calendar.specs.Weekdays.{next_weekday_of, as_weekday, weekday_on_of}

pub next_weekday : (w : ℕ) → w < 7 → next_weekday_of w ≡ (w + 1) % 7
next_weekday w h =
    elim (dec_lt w 6) [
      | yes l ↦ rw (lt-ltb w 6 l) (omega arith)
      | no l ↦ rw (le-ltb w 6 (omega arith)) (omega arith)
    ]

pub as_legal : (w : ℕ) → w < 7 → as_weekday w ≡ w
as_legal w h = rw (lt-ltb w 7 h) refl

pub next_weekday_as : (w : ℕ) → next_weekday_of (as_weekday w) ≡ next_weekday_of w
next_weekday_as w =
    elim (dec_lt w 7) [
      | yes l ↦ ap next_weekday_of (as_legal w l)
      | no l ↦ rw (le-ltb w 7 (omega arith), le-ltb w 6 (omega arith)) refl
    ]

as_small : (w : ℕ) → as_weekday w < 7
as_small w = elim (dec_lt w 7) [ yes l ↦ rw (lt-ltb w 7 l) l | no l ↦ rw (le-ltb w 7 (omega arith)) (omega arith) ]

-- the step from any weekday, counted from what it is read as
next_counted : (w : ℕ) → next_weekday_of w ≡ (as_weekday w + 1) % 7
next_counted w = sym (next_weekday_as w) ∙ next_weekday (as_weekday w) (as_small w)

pub next_small : (w : ℕ) → next_weekday_of w < 7
next_small w = rw (next_counted w) (omega arith)

-- no day on is no change, and each day more is one step more
pub on_zero : (w : ℕ) → weekday_on_of w 0 ≡ w
unfolding weekday_on_of
on_zero w = refl

-- from a legal weekday the days count modulo 7
pub on_legal : (w d : ℕ) → w < 7 → weekday_on_of w d ≡ (w + d) % 7
unfolding weekday_on_of
on_legal w d h =
    elim (dec_lt 0 d) [
      | yes l ↦ rw (ne_eqb d 0 (λ e. omega arith), as_legal w h) refl
      | no l ↦
          let z : d ≡ 0 = omega arith in
          rw (eq-eqb d 0 z) (omega arith)
    ]

on_more : (w d : ℕ) → weekday_on_of w (d + 1) ≡ (as_weekday w + (d + 1)) % 7
unfolding weekday_on_of
on_more w d = rw (ne_eqb (d + 1) 0 (λ e. omega arith)) refl

pub on_step : (w d : ℕ) → next_weekday_of (weekday_on_of w d) ≡ weekday_on_of w (d + 1)
unfolding weekday_on_of
on_step w d =
    elim (dec_lt 0 d) [
      | yes l ↦
          rw (on_more w d, ne_eqb d 0 (λ e. omega arith))
          (next_weekday ((as_weekday w + d) % 7) (omega arith) ∙ counted (as_weekday w) d)
      | no l ↦
          let z : d ≡ 0 = omega arith in
          rw (on_more w d, eq-eqb d 0 z) (next_counted w ∙ omega arith)
    ]
  where
    counted : (a b : ℕ) → ((a + b) % 7 + 1) % 7 ≡ (a + (b + 1)) % 7
    counted a b = omega arith
