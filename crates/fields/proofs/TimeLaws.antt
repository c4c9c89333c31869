-- The laws of the time of day: its second, the two conversions, and one second on. Assumes nothing.
use mathlib.Core.Path.{◌≡◌, refl, ◌∙◌, ap}
use mathlib.Core.Bool.{true, false, ◌&&◌}
use Prim.Native.Nat.{ℕ, ◌+◌, ◌*◌, ◌/◌, ◌%◌, ◌<◌}
use native.Mathlib.Omega.{arith}
use lib.Dec.{ltb, eqb}
use borrow.Author.Tests.{lt-ltb, ltb-true}
use Rattle.fields.specs.Digits.{value_of, byte_of, legal_of, step_of}
use Rattle.fields.specs.Hours.{mode_of, hour_number_of, hour_byte_of, next_hour_of}
use Rattle.fields.specs.Times.{legal_time_of, second_of, carried_time, next_time_of, midnight_of, time_of_day_of}
use Rattle.fields.specs.declared.hours.HourMode.{HourMode}
use Rattle.fields.specs.declared.times.TimeOfDay.{TimeOfDay}
use Rattle.fields.proofs.FieldLaws.{Held, sixty, byte_held, held, legal_held, and_left, and_right, byte_value, value_byte, Stepped, up, over, stepped}
use Rattle.fields.proofs.Picked.{picked}
use Rattle.fields.proofs.HourLaws.{mode_byte, mode_next, number_byte, byte_number, number_first, HourStepped, later, turns, hour_stepped}

-- what it is to be legal, as facts
pub record LegalTime (c : TimeOfDay) : Type 0 where
  pub seconds : Held 0x00 0x59 c.seconds
  pub minutes : Held 0x00 0x59 c.minutes
  pub hours : hour_number_of c.hours < 24

-- a sum of hours, minutes and seconds comes apart again
record Parts (h m s n : ℕ) : Type 0 where
  seconds : n % 60 ≡ s
  minutes : n / 60 % 60 ≡ m
  hours : n / 3600 % 24 ≡ h

parts : (h m s : ℕ) → h < 24 → m < 60 → s < 60 → Parts h m s (h * 3600 + m * 60 + s)
parts h m s hh hm hs = omega arith

module _ (c : TimeOfDay) where
  pub legal_time : legal_time_of c ≡ true → LegalTime c
  unfolding legal_time_of
  legal_time e =
      let s = legal_of 0x00 0x59 c.seconds in
      let m = legal_of 0x00 0x59 c.minutes in
      let h = ltb (hour_number_of c.hours) 24 in
      record {
        seconds = held 0x00 0x59 c.seconds (and_left s m (and_left (s && m) h e));
        minutes = held 0x00 0x59 c.minutes (and_right s m (and_left (s && m) h e));
        hours = ltb-true (hour_number_of c.hours) 24 (and_right (s && m) h e);
      }

  pub time_legal : LegalTime c → legal_time_of c ≡ true
  unfolding legal_time_of
  time_legal l =
      simp (legal_held 0x00 0x59 c.seconds l.seconds, legal_held 0x00 0x59 c.minutes l.minutes, lt-ltb _ _ l.hours)

  pub second_small : LegalTime c → second_of c < 86400
  unfolding second_of
  second_small l = omega arith

  -- back from the second in the time's own mode
  pub time_again : LegalTime c → time_of_day_of (mode_of c.hours) (second_of c) ≡ c
  unfolding time_of_day_of second_of
  time_again l =
      let q = parts (hour_number_of c.hours) (value_of c.minutes) (value_of c.seconds) l.hours (omega arith) (omega arith) in
      let s = ap byte_of q.seconds ∙ byte_value c.seconds l.seconds.units l.seconds.tens in
      let m = ap byte_of q.minutes ∙ byte_value c.minutes l.minutes.units l.minutes.tens in
      let h = ap (hour_byte_of (mode_of c.hours)) q.hours ∙ byte_number c.hours l.hours in
      λ i. record { seconds = s i; minutes = m i; hours = h i }

module _ (m : HourMode) (n : ℕ) where
  pub time_of_legal : LegalTime (time_of_day_of m n)
  unfolding time_of_day_of
  time_of_legal =
      record {
        seconds = byte_held 0x00 0x59 (n % 60) sixty (omega arith) (omega arith);
        minutes = byte_held 0x00 0x59 (n / 60 % 60) sixty (omega arith) (omega arith);
        hours = rw (number_byte m (n / 3600 % 24) (omega arith)) (omega arith);
      }

  pub time_of_mode : mode_of (time_of_day_of m n).hours ≡ m
  unfolding time_of_day_of
  time_of_mode = mode_byte m (n / 3600 % 24)

  pub second_again : n < 86400 → second_of (time_of_day_of m n) ≡ n
  unfolding time_of_day_of second_of
  second_again h =
      rw (
        value_byte (n % 60) (omega arith),
        value_byte (n / 60 % 60) (omega arith),
        number_byte m (n / 3600 % 24) (omega arith),
      )
      (omega arith)

-- one second on: within the day, or over midnight to its first second
pub data Turned (c d : TimeOfDay) : Type 0 where
  on : midnight_of d ≡ false → second_of d ≡ second_of c + 1 → LegalTime d → Turned c d
  past : midnight_of d ≡ true → second_of c ≡ 86399 → second_of d ≡ 0 → LegalTime d → Turned c d

minute_on : (h m n s : ℕ) → s ≡ 59 → n ≡ m + 1 → h * 3600 + n * 60 + 0 ≡ h * 3600 + m * 60 + s + 1
minute_on h m n s e f = omega arith

module _ (c : TimeOfDay) (l : LegalTime c) where
  turned : (s m h : ℕ) → Stepped 0x00 0x59 c.seconds s → Stepped 0x00 0x59 c.minutes m → HourStepped c.hours h → Turned c (carried_time c s m h)
  unfolding midnight_of second_of
  turned s m h (up a b n v e) q r = rw e (on (simp e) (omega arith) (record { seconds = n; minutes = l.minutes; hours = l.hours }))
  turned s m h (over a e) (up a₂ b n v e₂) r =
      let k = minute_on (hour_number_of c.hours) (value_of c.minutes) (value_of m) (value_of c.seconds) (ap value_of (a l.seconds)) v in
      rw (e, e₂) (on (simp e₂) k (record { seconds = sixty.begin; minutes = n; hours = l.hours }))
  turned s m h (over a e) (over a₂ e₂) (later b n t) =
      let z = a l.seconds in
      let w = a₂ l.minutes in
      rw (e, e₂) (on t (omega arith) (record { seconds = sixty.begin; minutes = sixty.begin; hours = omega arith }))
  turned s m h (over a e) (over a₂ e₂) (turns b n t) =
      let z = a l.seconds in
      let w = a₂ l.minutes in
      let y = b l.hours in
      let k : hour_number_of h ≡ 0 = ap hour_number_of n ∙ number_first (mode_of c.hours) in
      rw (e, e₂) (past t (omega arith) (omega arith) (record { seconds = sixty.begin; minutes = sixty.begin; hours = omega arith }))

  pub turns_over : Turned c (next_time_of c)
  unfolding next_time_of
  turns_over =
      turned (step_of 0x00 0x59 c.seconds) (step_of 0x00 0x59 c.minutes) (next_hour_of c.hours)
      (stepped 0x00 0x59 c.seconds sixty) (stepped 0x00 0x59 c.minutes sixty) (hour_stepped c.hours)

-- the hour mode stays, whatever the bytes are
pub next_mode : (c : TimeOfDay) → mode_of (next_time_of c).hours ≡ mode_of c.hours
unfolding next_time_of
next_mode c =
    picked (λ (h : ℕ). mode_of h ≡ mode_of c.hours) (eqb (step_of 0x00 0x59 c.seconds) 0x00 && eqb (step_of 0x00 0x59 c.minutes) 0x00)
    (mode_next c.hours) refl
