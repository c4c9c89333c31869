-- The house rule: stepping an illegal field is stepping its last value, and a step ends legal. Assumes nothing.
use mathlib.Core.Path.{◌≡◌, refl, sym, ◌∙◌, ap}
use mathlib.Core.Bool.{Bool, true, false, cond, ◌&&◌, true≢false, false≢true}
use Prim.Native.Nat.{ℕ}
use native.Mathlib.Omega.{arith}
use lib.Dec.{eqb}
use borrow.Author.Tests.{lt-ltb, ne_eqb}
use Rattle.fields.specs.Digits.{legal_of, step_of}
use Rattle.fields.specs.Hours.{mode_of, codes, first_hour, place_of, legal_hour_of, hour_number_of, hour_byte_of, next_hour_of}
use Rattle.fields.specs.Times.{next_time_of, midnight_of}
use Rattle.fields.specs.House.{as_field, last_hour, as_hour, as_time_of_day}
use Rattle.fields.specs.declared.hours.HourMode.{HourMode}
use Rattle.fields.specs.declared.hours.HourMode.TheVariants.{Twelve, TwentyFour}
use Rattle.fields.specs.declared.times.TimeOfDay.{TimeOfDay}
use Rattle.fields.proofs.FieldLaws.{Held, Field, sixty, legal_held, Stepped, up, over, stepped}
use Rattle.fields.proofs.HourLaws.{HourStepped, later, turns, hour_stepped, number_first, next_legal}

module _ (first last x : ℕ) (f : Field first last) where
  ends_held : (s : ℕ) → Stepped first last x s → Held first last s
  ends_held s (up a b n v e) = n
  ends_held s (over a e) = rw e f.begin

  -- a step ends at a legal value
  pub step_held : Held first last (step_of first last x)
  step_held = ends_held (step_of first last x) (stepped first last x f)

  pub as_step : as_field first last (step_of first last x) ≡ step_of first last x
  unfolding as_field
  as_step = simp (legal_held first last (step_of first last x) step_held)

  -- an illegal value steps to the first, as the last one does
  over_first : (s : ℕ) → Stepped first last x s → (Held first last x → x ≡ last) → s ≡ first
  over_first s (up a b n v e) o = absurd (let z = o a in omega arith)
  over_first s (over a e) o = e

module _ (first last x : ℕ) (f : Field first last) where
  step_last : step_of first last last ≡ first
  step_last = over_first first last last f (step_of first last last) (stepped first last last f) (λ h. refl)

  -- an illegal field that must step comes to its first value, and so carries
  pub illegal_step : legal_of first last x ≡ false → step_of first last x ≡ first
  illegal_step e =
      over_first first last x f (step_of first last x) (stepped first last x f)
      (λ (h : Held first last x). absurd (true≢false (sym (legal_held first last x h) ∙ e)))

  as_by : (t : Bool) → legal_of first last x ≡ t → step_of first last (cond t x last) ≡ step_of first last x
  as_by true e = refl
  as_by false e = step_last ∙ sym (illegal_step e)

  pub step_as : step_of first last (as_field first last x) ≡ step_of first last x
  unfolding as_field
  step_as = as_by (legal_of first last x) refl

-- the same of hours
module _ (h : ℕ) where
  pub as_next_hour : as_hour (next_hour_of h) ≡ next_hour_of h
  unfolding as_hour
  as_next_hour = simp (lt-ltb _ _ (next_legal h))

next_last : (m : HourMode) → next_hour_of (last_hour m) ≡ first_hour m
unfolding next_hour_of hour_number_of hour_byte_of codes place_of
next_last Twelve = refl
next_last TwentyFour = refl

module _ (h : ℕ) where
  illegal_next : (s : ℕ) → HourStepped h s → legal_hour_of h ≡ false → s ≡ first_hour (mode_of h)
  illegal_next s (later b n t) e = absurd (true≢false (sym (lt-ltb (hour_number_of h) 24 (omega arith)) ∙ e))
  illegal_next s (turns b n t) e = n

  -- an illegal hour that must step comes to its mode's first
  pub illegal_hour : legal_hour_of h ≡ false → next_hour_of h ≡ first_hour (mode_of h)
  illegal_hour e = illegal_next (next_hour_of h) (hour_stepped h) e

  hour_by : (t : Bool) → legal_hour_of h ≡ t → next_hour_of (cond t h (last_hour (mode_of h))) ≡ next_hour_of h
  hour_by true e = refl
  hour_by false e = next_last (mode_of h) ∙ sym (illegal_hour e)

  pub next_hour_as : next_hour_of (as_hour h) ≡ next_hour_of h
  unfolding as_hour
  next_hour_as = hour_by (legal_hour_of h) refl

-- what no carry reaches stays as held
pub next_kept : (c : TimeOfDay) → eqb (next_time_of c).seconds 0x00 ≡ false → next_time_of c ≡ record { seconds = (next_time_of c).seconds; minutes = c.minutes; hours = c.hours }
unfolding next_time_of
next_kept c e = simp e

-- a field past one that has not come to its first value
pub kept_past : (b : Bool) (m n first h k : ℕ) → eqb (cond b m n) first ≡ false → cond (b && eqb m first) h k ≡ k
kept_past true m n first h k e = simp e
kept_past false m n first h k e = refl

pub hour_kept : (c : TimeOfDay) → eqb (next_time_of c).minutes 0x00 ≡ false → (next_time_of c).hours ≡ c.hours
unfolding next_time_of
hour_kept c e =
    kept_past (eqb (step_of 0x00 0x59 c.seconds) 0x00) (step_of 0x00 0x59 c.minutes) c.minutes 0x00 (next_hour_of c.hours) c.hours e

-- a reading of what a carry may have changed
pub read_carried : (read : ℕ → ℕ) (b : Bool) (x y : ℕ) → read x ≡ x → cond b x (read y) ≡ read (cond b x y)
read_carried read true x y e = sym e
read_carried read false x y e = refl

-- one second on and the reading can be had in either order
pub next_as : (c : TimeOfDay) → next_time_of (as_time_of_day c) ≡ as_time_of_day (next_time_of c)
unfolding next_time_of as_time_of_day
next_as c =
    let s = step_of 0x00 0x59 c.seconds in
    let m = step_of 0x00 0x59 c.minutes in
    simp (
      step_as 0x00 0x59 c.seconds sixty,
      step_as 0x00 0x59 c.minutes sixty,
      next_hour_as c.hours,
      as_step 0x00 0x59 c.seconds sixty,
      read_carried (as_field 0x00 0x59) (eqb s 0x00) m c.minutes (as_step 0x00 0x59 c.minutes sixty),
      read_carried as_hour (eqb s 0x00 && eqb m 0x00) (next_hour_of c.hours) c.hours (as_next_hour c.hours),
    )

-- the reading moves nothing to midnight and nothing away from it
zero_as : (x : ℕ) (t : Bool) → legal_of 0x00 0x59 x ≡ t → eqb (cond t x 0x59) 0x00 ≡ eqb x 0x00
zero_as x true e = refl
zero_as x false e = sym (ne_eqb x 0x00 (λ (p : x ≡ 0x00). false≢true (sym e ∙ ap (legal_of 0x00 0x59) p)))

last_not_first : (m : HourMode) → eqb (last_hour m) (first_hour (mode_of (last_hour m))) ≡ false
last_not_first Twelve = refl
last_not_first TwentyFour = refl

first_as : (h : ℕ) (t : Bool) → legal_hour_of h ≡ t → eqb (cond t h (last_hour (mode_of h))) (first_hour (mode_of (cond t h (last_hour (mode_of h))))) ≡ eqb h (first_hour (mode_of h))
first_as h true e = refl
first_as h false e =
    last_not_first (mode_of h)
    ∙ sym (ne_eqb h (first_hour (mode_of h)) (λ (p : h ≡ first_hour (mode_of h)). false≢true (sym e ∙ lt-ltb (hour_number_of h) 24 (rw p (omega (arith, number_first (mode_of h)))))))

pub midnight_as : (c : TimeOfDay) → midnight_of (as_time_of_day c) ≡ midnight_of c
unfolding midnight_of as_time_of_day as_field as_hour
midnight_as c =
    simp (
      zero_as c.seconds (legal_of 0x00 0x59 c.seconds) refl,
      zero_as c.minutes (legal_of 0x00 0x59 c.minutes) refl,
      first_as c.hours (legal_hour_of c.hours) refl,
    )
