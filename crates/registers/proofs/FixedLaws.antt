-- What a register keeps has no fixed bit set, and a stored byte keeps it so. Assumes nothing.
use Rattle.std.proofs.Common.{◌≡◌, refl, Bool, true, false, cond, ◌&&◌, ℕ, ◌%◌, arith, rules, eqb, eq-eqb, eqb-true}
use Rattle.std.proofs.lemmas.Bool.Decides.{nat_tests}
use Rattle.fields.proofs.FieldLaws.{and_left, and_right}
use Rattle.calendar.specs.Fixed.{Clear}
use Rattle.calendar.specs.declared.time.Time.{Time}
use Rattle.registers.specs.Fixed.{without, kept_ctr1, kept_time, kept_alarm, kept_control, kept_of, clear_of, clear_time_of}
use Rattle.registers.specs.Seven.{with_byte_of}

module _ (b : ℕ) where
  without_again : without 0x40 (without 0x40 b) ≡ without 0x40 b
  without_again = omega arith

  ctr1_again : kept_ctr1 (kept_ctr1 b) ≡ kept_ctr1 b
  ctr1_again = omega arith

  time_again : (a : ℕ) → kept_time a (kept_time a b) ≡ kept_time a b
  unfolding kept_time
  time_again a = grind (arith, nat_tests, without_again)

  alarm_again : (a : ℕ) → kept_alarm a (kept_alarm a b) ≡ kept_alarm a b
  unfolding kept_alarm
  alarm_again a = grind (arith, nat_tests)

  control_again : (a : ℕ) → kept_control a (kept_control a b) ≡ kept_control a b
  unfolding kept_control
  control_again a = grind (arith, nat_tests, without_again, ctr1_again)

-- what register a keeps of what it has kept is the same
pub kept_again : (a b : ℕ) → kept_of a (kept_of a b) ≡ kept_of a b
unfolding kept_of
kept_again a b = grind (arith, nat_tests, time_again b a, alarm_again b a, control_again b a)

-- so what it keeps has no fixed bit set
pub clear_kept : (a b : ℕ) → clear_of a (kept_of a b) ≡ true
unfolding clear_of
clear_kept a b = eq-eqb _ _ (kept_again a b)

-- register k after a byte that may be stored there
pub clear_held : (k a b x : ℕ) (stores : Bool) → (stores ≡ true → a ≡ k) → clear_of k x ≡ true → clear_of k (cond stores (kept_of a b) x) ≡ true
clear_held k a b x true same h = rw (← same refl) (clear_kept a b)
clear_held k a b x false same h = h

-- seven tests that all hold
pub record Seven (a b c d e f g : Bool) : Type 0 where
  pub one : a ≡ true
  pub two : b ≡ true
  pub three : c ≡ true
  pub four : d ≡ true
  pub five : e ≡ true
  pub six : f ≡ true
  pub seven : g ≡ true

pub all_seven : (a b c d e f g : Bool) → a && b && c && d && e && f && g ≡ true → Seven a b c d e f g
all_seven a b c d e f g h = search (rules, and_left, and_right)

module _ (t : Time) where
  -- each byte of a time by itself
  abbrev pub Bytes : Type 0
  Bytes =
      Seven (clear_of 0x00 t.seconds) (clear_of 0x01 t.minutes) (clear_of 0x02 t.hours) (clear_of 0x03 t.weekday)
      (clear_of 0x04 t.day) (clear_of 0x05 t.month) (clear_of 0x06 t.year)

  pub time_bytes_lem : clear_time_of t ≡ true → Bytes
  unfolding clear_time_of
  time_bytes_lem h = all_seven _ _ _ _ _ _ _ h

  -- as inequalities, for arithmetic
  pub time_clear : clear_time_of t ≡ true → Clear t
  unfolding clear_of kept_of kept_time
  time_clear h =
      let s = time_bytes_lem h in
      record {
        seconds = omega (arith, eqb-true (t.seconds % 0x80) t.seconds s.one);
        minutes = omega (arith, eqb-true (t.minutes % 0x80) t.minutes s.two);
        hours = omega (arith, eqb-true (without 0x40 t.hours) t.hours s.three);
        weekday = omega (arith, eqb-true (t.weekday % 0x08) t.weekday s.four);
        day = omega (arith, eqb-true (t.day % 0x40) t.day s.five);
        month = omega (arith, eqb-true (t.month % 0x20) t.month s.six);
      }

  pub clear_time : Clear t → clear_time_of t ≡ true
  unfolding clear_time_of clear_of kept_of kept_time
  clear_time c =
      simp (
        eq-eqb (t.seconds % 0x80) t.seconds (omega (arith, c.seconds)),
        eq-eqb (t.minutes % 0x80) t.minutes (omega (arith, c.minutes)),
        eq-eqb (without 0x40 t.hours) t.hours (omega (arith, c.hours)),
        eq-eqb (t.weekday % 0x08) t.weekday (omega (arith, c.weekday)),
        eq-eqb (t.day % 0x40) t.day (omega (arith, c.day)),
        eq-eqb (t.month % 0x20) t.month (omega (arith, c.month)),
        eq-eqb t.year t.year refl,
      )

  -- a byte stored at one of the time's registers
  pub stored_clear : (a b : ℕ) → clear_time_of t ≡ true → clear_time_of (with_byte_of t a (kept_of a b)) ≡ true
  unfolding clear_time_of with_byte_of
  stored_clear a b h =
      let s = time_bytes_lem h in
      simp (
        clear_held 0x00 a b t.seconds (eqb a 0) (eqb-true a 0) s.one,
        clear_held 0x01 a b t.minutes (eqb a 1) (eqb-true a 1) s.two,
        clear_held 0x02 a b t.hours (eqb a 2) (eqb-true a 2) s.three,
        clear_held 0x03 a b t.weekday (eqb a 3) (eqb-true a 3) s.four,
        clear_held 0x04 a b t.day (eqb a 4) (eqb-true a 4) s.five,
        clear_held 0x05 a b t.month (eqb a 5) (eqb-true a 5) s.six,
        clear_held 0x06 a b t.year (eqb a 6) (eqb-true a 6) s.seven,
      )
