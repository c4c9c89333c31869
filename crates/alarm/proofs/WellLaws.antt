-- A pulse, a ring and a stored byte keep the alarm within its bounds. Assumes nothing.
use Rattle.std.proofs.Common.{◌≡◌, refl, Bool, true, false, cond, ◌&&◌, ℕ, ◌+◌, ◌-◌, ◌≤◌, arith, rules, eqb, ltb, le-leb, eqb-true, ltb-false}
use Rattle.std.proofs.lemmas.Bool.Decides.{nat_tests}
use Rattle.fields.proofs.FieldLaws.{and_left, and_right}
use Rattle.fields.proofs.Picked.{picked}
use Rattle.calendar.specs.declared.time.Time.{Time}
use Rattle.registers.specs.Fixed.{kept_of, clear_of}
use Rattle.registers.specs.Seven.{with_byte_of}
use Rattle.registers.proofs.FixedLaws.{Seven, all_seven, clear_held}
use Rattle.alarm.specs.Alarm.{rings_of, rung_of, lessened_of, stored_of, well_of}
use Rattle.alarm.specs.declared.alarm.Alarm.{Alarm}

-- each field by itself
abbrev pub Fields : Time → Type 0
Fields t =
    Seven (clear_of 0x07 t.seconds) (clear_of 0x08 t.minutes) (clear_of 0x09 t.hours) (clear_of 0x0A t.weekday)
    (clear_of 0x0B t.day) (clear_of 0x0C t.month) (clear_of 0x0D t.year)

-- the parts of an alarm that is well formed
pub record Well (a : Alarm) : Type 0 where
  pub at : Fields a.at
  pub enable : clear_of 0x0E a.enable ≡ true
  pub pulse : a.pulse ≤ 8192

module _ (a : Alarm) where
  pub parts : well_of a ≡ true → Well a
  unfolding well_of
  parts h = record { at = search (rules, all_seven, and_left, and_right); enable = grind (arith, nat_tests); pulse = grind (arith, nat_tests) }

  pub whole : Well a → well_of a ≡ true
  unfolding well_of
  whole w =
      simp (w.at.one, w.at.two, w.at.three, w.at.four, w.at.five, w.at.six, w.at.seven, w.enable, le-leb a.pulse 8192 w.pulse)

-- a place of the seven tells the register
at_place : (r k : ℕ) → 7 ≤ r → eqb (r - 7) k ≡ true → r ≡ 7 + k
at_place r k h e = let q = eqb-true (r - 7) k e in omega arith

-- a byte stored at one of the alarm's fields
fields_stored : (t : Time) (r b : ℕ) → 7 ≤ r → Fields t → Fields (with_byte_of t (r - 7) (kept_of r b))
unfolding with_byte_of
fields_stored t r b h s =
    record {
      one = clear_held 0x07 r b t.seconds (eqb (r - 7) 0) (at_place r 0 h) s.one;
      two = clear_held 0x08 r b t.minutes (eqb (r - 7) 1) (at_place r 1 h) s.two;
      three = clear_held 0x09 r b t.hours (eqb (r - 7) 2) (at_place r 2 h) s.three;
      four = clear_held 0x0A r b t.weekday (eqb (r - 7) 3) (at_place r 3 h) s.four;
      five = clear_held 0x0B r b t.day (eqb (r - 7) 4) (at_place r 4 h) s.five;
      six = clear_held 0x0C r b t.month (eqb (r - 7) 5) (at_place r 5 h) s.six;
      seven = clear_held 0x0D r b t.year (eqb (r - 7) 6) (at_place r 6 h) s.seven;
    }

module _ (a : Alarm) (w : Well a) where
  pub rung_well : (s t : Time) (asked : Bool) → Well (rung_of a s t asked)
  unfolding rung_of
  rung_well s t asked =
      record { at = w.at; enable = w.enable; pulse = picked (λ (n : ℕ). n ≤ 8192) (asked && rings_of a s t) (omega arith) w.pulse }

  pub lessened_well : (n : ℕ) → Well (lessened_of a n)
  lessened_well n = record { at = w.at; enable = w.enable; pulse = omega (arith, w.pulse) }

  fields_by : (r b : ℕ) (low : Bool) → ltb r 0x07 ≡ low → Fields (cond low a.at (cond (ltb r 0x0E) (with_byte_of a.at (r - 7) (kept_of r b)) a.at))
  fields_by r b true e = w.at
  fields_by r b false e = picked Fields (ltb r 0x0E) (fields_stored a.at r b (ltb-false r 0x07 e) w.at) w.at

  pub stored_well : (r b : ℕ) → Well (stored_of a r b)
  unfolding stored_of
  stored_well r b =
      record {
        at = fields_by r b (ltb r 0x07) refl;
        enable = clear_held 0x0E r b a.enable (eqb r 0x0E) (eqb-true r 0x0E) w.enable;
        pulse = w.pulse;
      }
