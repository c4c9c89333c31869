-- When an alarm rings: where a match begins, and not while it lasts. Assumes nothing.
use Rattle.std.proofs.Common.{◌≡◌, refl, ◌∙◌, Bool, true, false, cond, ◌&&◌, not, ℕ, ◌<◌, eqb, arith}
use mathlib.Core.Bool.{and-true, beq}
use Rattle.std.proofs.lemmas.Bool.Decides.{nat_tests}
use Rattle.fields.specs.Digits.{step_of}
use Rattle.fields.specs.declared.times.TimeOfDay.{TimeOfDay}
use Rattle.fields.specs.Times.{next_time_of, midnight_of}
use Rattle.fields.proofs.Below.{each}
use Rattle.fields.proofs.Bits.{same}
use Rattle.fields.proofs.HouseLaws.{next_kept, hour_kept}
use Rattle.calendar.specs.declared.time.Time.{Time}
use Rattle.calendar.specs.Weekdays.{next_weekday_of}
use Rattle.calendar.specs.Advance.{clock_of, advance_of}
use Rattle.calendar.proofs.AdvanceLaws.{advance_weekday}
use Rattle.alarm.specs.Matching.{weekday_in, off, matches_of}
use Rattle.alarm.specs.Alarm.{meets_of, rings_of, rung_of}
use Rattle.alarm.specs.declared.alarm.Alarm.{Alarm}
use Rattle.alarm.proofs.LastingLaws.{unmoved, match_lasts}

-- so flag and pin pulse stay as they are, and where a match begins the one is set and the other whole
pub lasts_alone : (a : Alarm) (s t : Time) (asked : Bool) → meets_of a s ≡ true → rung_of a s t asked ≡ a
unfolding rung_of
lasts_alone a s t asked e = grind (arith, nat_tests)

pub begins_whole : (a : Alarm) (s t : Time) → meets_of a t ≡ true → meets_of a s ≡ false → rung_of a s t true ≡ record { at = a.at; enable = a.enable; flag = true; pulse = 8192 }
unfolding rung_of
begins_whole a s t now before = grind (arith, nat_tests)

-- an empty 0Eh is a match that never begins
pub empty_meets : (a : Alarm) (t : Time) → a.enable ≡ 0 → meets_of a t ≡ true
unfolding matches_of
empty_meets a t e = rw e refl

pub empty_silent : (a : Alarm) (s t : Time) → a.enable ≡ 0 → rings_of a s t ≡ false
empty_silent a s t e = match_lasts a s t (empty_meets a s e)

-- so 0Eh need not be asked for a field
pub enabled_rings : (a : Alarm) (s t : Time) → rings_of a s t ≡ (not (eqb a.enable 0) && rings_of a s t)
enabled_rings a s t = grind (arith, nat_tests, empty_silent)

-- the seconds never stay where they are
moves : (x : ℕ) → x < 256 → eqb (step_of 0x00 0x59 x) x ≡ false
unfolding step_of
moves x b = same (eqb (step_of 0x00 0x59 x) x) false (each (λ (y : ℕ). beq (eqb (step_of 0x00 0x59 y) y) false) 256 tt x b)

-- an alarm that compares the seconds rings wherever it matches
module _ (a : Alarm) (on : off 0x01 a.enable ≡ false) where
  unmet : (s : Time) → eqb s.seconds a.at.seconds ≡ false → meets_of a s ≡ false
  unfolding matches_of
  unmet s e = simp (on, e)

  pub seconds_ring : (t : Time) → t.seconds < 256 → rings_of a t (advance_of t) ≡ meets_of a (advance_of t)
  unfolding advance_of next_time_of
  seconds_ring t b = grind (arith, nat_tests, moves t.seconds b, unmet)

-- the hours stay where seconds and minutes have not both come to 00h
hours_stay : (c : TimeOfDay) (s m : Bool) → eqb (next_time_of c).seconds 0x00 ≡ s → eqb (next_time_of c).minutes 0x00 ≡ m → s && m ≡ false → (next_time_of c).hours ≡ c.hours
hours_stay c s m e f b = grind (arith, nat_tests, next_kept, hour_kept)

-- one that does not rings only where the seconds come to 00h
module _ (a : Alarm) (s : off 0x01 a.enable ≡ true) where
  pub minute_ring : (t : Time) → eqb (advance_of t).seconds 0x00 ≡ false → rings_of a t (advance_of t) ≡ false
  unfolding matches_of advance_of next_time_of midnight_of
  minute_ring t e = unmoved (meets_of a (advance_of t)) (meets_of a t) (simp (s, e))

  -- without the minutes only where they have come to 00h as well
  module _ (m : off 0x02 a.enable ≡ true) where
    pub hour_ring : (t : Time) → eqb (advance_of t).seconds 0x00 && eqb (advance_of t).minutes 0x00 ≡ false → rings_of a t (advance_of t) ≡ false
    unfolding matches_of advance_of midnight_of
    hour_ring t e =
        let c = next_time_of (clock_of t) in
        let h = hours_stay (clock_of t) (eqb c.seconds 0x00) (eqb c.minutes 0x00) refl refl e in
        unmoved (meets_of a (advance_of t)) (meets_of a t) (simp (s, m, e, h))

    -- and without the hours at midnight alone
    module _ (h : off 0x04 a.enable ≡ true) where
      pub day_ring : (t : Time) → midnight_of (clock_of (advance_of t)) ≡ false → rings_of a t (advance_of t) ≡ false
      unfolding matches_of advance_of
      day_ring t e = unmoved (meets_of a (advance_of t)) (meets_of a t) (simp (s, m, h, e))

-- by the weekday alone it rings at a midnight from a day that is not chosen into one that is
module _ (a : Alarm) (e : a.enable ≡ 0x08) where
  weekday_meets : (t : Time) → meets_of a t ≡ weekday_in a.at.weekday t.weekday
  unfolding matches_of
  weekday_meets t = simp (e, and-true (weekday_in a.at.weekday t.weekday))

  pub weekday_ring :
      (t : Time)
      → rings_of a t (advance_of t)
      ≡ (midnight_of (clock_of (advance_of t)) && (weekday_in a.at.weekday (next_weekday_of t.weekday) && not (weekday_in a.at.weekday t.weekday)))
  unfolding advance_of
  weekday_ring t = rw (weekday_meets t, weekday_meets (advance_of t)) (by (midnight_of (next_time_of (clock_of t))))
    where
      by :
          (turns : Bool) → let w = cond turns (next_weekday_of t.weekday) t.weekday in let days = a.at.weekday in
          weekday_in days w && not (weekday_in days t.weekday) ≡ turns && (weekday_in days (next_weekday_of t.weekday) && not (weekday_in days t.weekday))
      by true = refl
      by false = unmoved (weekday_in a.at.weekday t.weekday) (weekday_in a.at.weekday t.weekday) refl

-- into Monday, chosen with Tuesday, leads Sunday alone, also where the weekday is illegal
into_monday : (w : ℕ) → w < 8 → weekday_in 0x06 (next_weekday_of w) && not (weekday_in 0x06 w) ≡ eqb (next_weekday_of w) 1
unfolding weekday_in
into_monday w b =
    same (weekday_in 0x06 (next_weekday_of w) && not (weekday_in 0x06 w)) (eqb (next_weekday_of w) 1)
    (each (λ (v : ℕ). beq (weekday_in 0x06 (next_weekday_of v) && not (weekday_in 0x06 v)) (eqb (next_weekday_of v) 1)) 8 tt w b)

pub monday_ring :
    (a : Alarm) → a.enable ≡ 0x08 → a.at.weekday ≡ 0x06 → (t : Time) → t.weekday < 8
    → rings_of a t (advance_of t) ≡ (midnight_of (clock_of (advance_of t)) && eqb (advance_of t).weekday 1)
monday_ring a e days t b =
    weekday_ring a e t ∙ rw (days, into_monday t.weekday b, advance_weekday t) (by (midnight_of (clock_of (advance_of t))))
  where
    by : (turns : Bool) → turns && eqb (next_weekday_of t.weekday) 1 ≡ turns && eqb (cond turns (next_weekday_of t.weekday) t.weekday) 1
    by true = refl
    by false = refl
