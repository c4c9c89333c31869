-- When a match begins, by the registers: what the test of a pulse says, and which alarms begin when. Assumes nothing.
use Rattle.std.proofs.Common.{◌≡◌, refl, sym, ap, ap₂, subst, ◌∙◌, ◌⊎◌, inl, inr, ◌↔◌, Bool, true, false, cond, ◌&&◌, not, true≢false, Some, ℕ, ◌+◌, ◌*◌, ◌/◌, ◌%◌, ◌<◌, ◌^◌, arith, eqb, ltb, eqb-true, eq-eqb, ne_eqb, lt-ltb}
use mathlib.Core.Bool.{beq}
use borrow.Author.Tests.{not-true}
use Rattle.std.proofs.lemmas.Grind.{common_steps}
use Rattle.fields.specs.declared.hours.HourMode.TheVariants.{Twelve, TwentyFour}
use Rattle.fields.specs.Digits.{value_of, legal_of}
use Rattle.fields.specs.Hours.{codes, place_of, hour_number_of, hour_byte_of}
use Rattle.fields.specs.Times.{legal_time_of, second_of, midnight_of}
use Rattle.fields.proofs.Below.{each}
use Rattle.fields.proofs.Bits as bits
use Rattle.fields.proofs.FieldLaws.{and_left, and_right, held}
use Rattle.dates.specs.declared.date.Date.{Date}
use Rattle.dates.specs.Months.{leap_of, last_day_of, days_of, first_day_of}
use Rattle.dates.specs.Dates.{legal_date_of, day_of}
use Rattle.dates.proofs.DateLaws.{LegalDate, legal_date}
use Rattle.calendar.specs.declared.time.Time.{Time}
use Rattle.calendar.specs.Advance.{clock_of, date_of}
use Rattle.calendar.specs.Numbers.{since_of, number_of}
use Rattle.calendar.proofs.MomentLaws.{number_moment, number_since}
use Rattle.alarm.specs.declared.alarm.Alarm.{Alarm}
use Rattle.alarm.specs.Matching.{off, matches_of}
use Rattle.alarm.specs.Alarm.{meets_of, rings_of}
use Rattle.alarm.proofs.RingLaws as laws
use Rattle.alarm.proofs.NumberLaws as numbers
use Rattle.promises.specs.Registers.{bit, Inner, seven_from}
use Rattle.promises.specs.Pulsed.{second_length, matches_at, ends, time_after, rings}
use Rattle.promises.specs.Ring.{time_before, time_next, Judged, Matched, Begins, Evening}
use Rattle.promises.proofs.PulseLaws.{matches_same}

-- the alarm that registers r hold
abbrev pub alarm_at : (ℕ → ℕ) → Alarm
alarm_at r = record { at = seven_from 0x07 r; enable = r 0x0E; flag = false; pulse = 0 }

module _ (r : ℕ → ℕ) (i : Inner) where
  -- what the test of a pulse says, condition by condition
  pub rings_begins : rings r i ≡ true → Begins r i
  unfolding rings time_after
  rings_begins e = grind (arith, common_steps)

  pub begins_rings : Begins r i → rings r i ≡ true
  unfolding rings time_after
  begins_rings b = simp (b.ended, b.intae, ne_eqb (r 0x0E) 0 b.enabled, b.after, b.before)

  -- judged, it begins exactly if the alarm's definition says so
  module _ (j : Judged r i) where
    alarm_begins : rings_of (alarm_at r) (time_before r) (time_next r) ≡ true → Begins r i
    alarm_begins e =
        let a = alarm_at r in
        let m = meets_of a (time_next r) in
        let b = not (meets_of a (time_before r)) in
        let some_field = and_left (not (eqb (r 0x0E) 0)) (m && b) (sym (laws.enabled_rings a (time_before r) (time_next r)) ∙ e) in
        record {
          ended = j.ended;
          intae = j.intae;
          enabled = λ p. true≢false (sym some_field ∙ ap not (eq-eqb (r 0x0E) 0 p));
          after = sym (matches_same r (time_next r)) ∙ and_left m b e;
          before = sym (matches_same r (time_before r)) ∙ not-true (meets_of a (time_before r)) (and_right m b e);
        }

    begins_alarm : Begins r i → rings_of (alarm_at r) (time_before r) (time_next r) ≡ true
    begins_alarm b = rw (matches_same r (time_next r), matches_same r (time_before r), b.after, b.before) refl

    -- so where a law has the alarm's ring as a test of two numbers, it begins exactly if these are the same
    begins_at : (n k : ℕ) → rings_of (alarm_at r) (time_before r) (time_next r) ≡ eqb n k → (Begins r i) ↔ (n ≡ k)
    begins_at n k law = (λ b. eqb-true n k (sym law ∙ begins_alarm b), λ e. alarm_begins (law ∙ eq-eqb n k e))

unheld : (b : Bool) → (b ≡ true → ⊥) → b ≡ false
unheld true f = absurd (f refl)
unheld false f = refl

-- bit n of 0Eh by its weight
module _ (e n : ℕ) where
  not_one : (k : ℕ) → k < 2 → eqb k 1 ≡ false → eqb k 0 ≡ true
  not_one k e h = grind (arith, common_steps)

  clear : bit n e ≡ false → off (2 ^ n) e ≡ true
  clear = not_one (e / 2 ^ n % 2) (omega arith)

  set : bit n e ≡ true → off (2 ^ n) e ≡ false
  set x = let one = eqb-true (e / 2 ^ n % 2) 1 x in ne_eqb (e / 2 ^ n % 2) 0 (λ z. omega arith)

-- 8 in the evening of 2008-08-08: its date, its hour in both modes, its number
abbrev games : Date
games = record { day = 0x08; month = 0x08; year = 0x08 }

games_legal : legal_date_of games ≡ true
unfolding legal_date_of last_day_of
games_legal = refl

games_day : day_of games * 86400 + 20 * 3600 ≡ 271540800
unfolding day_of first_day_of days_of last_day_of leap_of
games_day = refl

games_hour : (twelve : Bool) → cond twelve 0x28 0x20 ≡ hour_byte_of (cond twelve Twelve TwentyFour) 20 % 64
unfolding hour_byte_of codes
games_hour true = refl
games_hour false = refl

-- that moment as a time, whatever its weekday
pub games_number :
    (twelve : Bool) (w : ℕ)
    → number_of (record { seconds = 0x00; minutes = 0x00; hours = cond twelve 0x28 0xA0; weekday = w; day = 0x08; month = 0x08; year = 0x08 }) ≡ Some 271540800
unfolding number_of legal_date_of legal_time_of since_of day_of first_day_of days_of last_day_of leap_of second_of hour_number_of place_of codes
games_number true w = refl
games_number false w = refl

twelve_codes : (n : ℕ) → n < 24 → eqb (hour_byte_of Twelve n % 64) 0x20 ≡ false
unfolding hour_byte_of codes
twelve_codes n b =
    bits.same (eqb (hour_byte_of Twelve n % 64) 0x20) false (each (λ (k : ℕ). beq (eqb (hour_byte_of Twelve k % 64) 0x20) false) 24 tt n b)

module _ (r : ℕ → ℕ) (i : Inner) where
  -- inside a match nothing begins
  pub lasts_unrung : matches_at r (time_before r) ≡ true → rings r i ≡ false
  lasts_unrung e = unheld (rings r i) (λ b. true≢false (sym e ∙ (rings_begins r i b).before))

  -- an alarm that compares the seconds
  pub seconds_begins : r 0x00 < 256 → bit 0 (r 0x0E) ≡ true → (Begins r i) ↔ (Matched r i)
  seconds_begins small on = (λ b. record { ended = b.ended; intae = b.intae; enabled = b.enabled; after = b.after }, back)
    where
      back : Matched r i → Begins r i
      back m =
          alarm_begins r i (record { ended = m.ended; intae = m.intae })
          (laws.seconds_ring (alarm_at r) (set (r 0x0E) 0 on) (time_before r) small ∙ matches_same r (time_next r) ∙ m.after)

  -- the earliest field that is compared tells where a ring can be
  module _ (b : Begins r i) where
    rung_by_lem : rings_of (alarm_at r) (time_before r) (time_next r) ≡ true
    rung_by_lem = begins_alarm r i (record { ended = b.ended; intae = b.intae }) b

    by_law : (x : Bool) → (x ≡ false → rings_of (alarm_at r) (time_before r) (time_next r) ≡ false) → x ≡ true
    by_law true f = refl
    by_law false f = absurd (true≢false (sym rung_by_lem ∙ f refl))

    pub minute_begins : bit 0 (r 0x0E) ≡ false → (time_next r).seconds ≡ 0x00
    minute_begins s =
        eqb-true (time_next r).seconds 0x00
        (by_law (eqb (time_next r).seconds 0x00) (laws.minute_ring (alarm_at r) (clear (r 0x0E) 0 s) (time_before r)))

    pub hour_begins : bit 0 (r 0x0E) ≡ false → bit 1 (r 0x0E) ≡ false → ((time_next r).seconds ≡ 0x00) × ((time_next r).minutes ≡ 0x00)
    hour_begins s m =
        let x = eqb (time_next r).seconds 0x00 in
        let y = eqb (time_next r).minutes 0x00 in
        let both =
        by_law (x && y)
        (laws.hour_ring (alarm_at r) (clear (r 0x0E) 0 s) (clear (r 0x0E) 1 m) (time_before r)) in
        (eqb-true (time_next r).seconds 0x00 (and_left x y both), eqb-true (time_next r).minutes 0x00 (and_right x y both))

    pub date_begins : bit 0 (r 0x0E) ≡ false → bit 1 (r 0x0E) ≡ false → bit 2 (r 0x0E) ≡ false → midnight_of (clock_of (time_next r)) ≡ true
    date_begins s m h =
        by_law (midnight_of (clock_of (time_next r)))
        (laws.day_ring (alarm_at r) (clear (r 0x0E) 0 s) (clear (r 0x0E) 1 m) (clear (r 0x0E) 2 h) (time_before r))

  -- alarms by one field, and the sheet's by four
  module _ (j : Judged r i) where
    pub minutely : r 0x0E ≡ 0x01 → legal_of 0x00 0x59 (r 0x07) ≡ true → (k : ℕ) → number_of (time_before r) ≡ Some k → (Begins r i) ↔ ((k + 1) % 60 ≡ value_of (r 0x07))
    minutely e legal k number =
        begins_at r i j ((k + 1) % 60) (value_of (r 0x07))
        (numbers.once_a_minute (alarm_at r) e (held 0x00 0x59 (r 0x07) legal) (time_before r) (number_moment (time_before r) k number)
        ∙ ap (λ (n : ℕ). eqb ((n + 1) % 60) (value_of (r 0x07))) (number_since (time_before r) k number))

    pub mondays : r 0x0E ≡ 0x08 → r 0x0A ≡ 0x06 → r 0x03 < 8 → (Begins r i) ↔ ((midnight_of (clock_of (time_next r)) ≡ true) × ((time_next r).weekday ≡ 1))
    mondays e days small =
        let x = midnight_of (clock_of (time_next r)) in
        let y = eqb (time_next r).weekday 1 in
        let law = laws.monday_ring (alarm_at r) e days (time_before r) small in (
          λ b.
              let both = sym law ∙ begins_alarm r i j b in
              (and_left x y both, eqb-true (time_next r).weekday 1 (and_right x y both)),
          λ (both : (x ≡ true) × ((time_next r).weekday ≡ 1)). alarm_begins r i j (law ∙ rw (both.0, eq-eqb (time_next r).weekday 1 both.1) refl),
        )

    pub evening : Evening r → (k : ℕ) → number_of (time_before r) ≡ Some k → (Begins r i) ↔ ((k + 1) % 3155760000 ≡ 271540800)
    evening a k number =
        let date : date_of (alarm_at r).at ≡ games = λ x. record { day = a.day x; month = a.month x; year = a.year x } in
        let legal = subst LegalDate (sym date) (legal_date games games_legal) in
        let hour = a.hour ∙ games_hour (ltb (r 0x02) 0x80) in
        let moment = number_moment (time_before r) k number in
        begins_at r i j ((k + 1) % 3155760000) 271540800
        (numbers.once_a_century (alarm_at r) a.enable legal 20 (omega arith) (time_before r) moment hour
        ∙ ap₂ (λ (n : ℕ) (d : Date). eqb ((n + 1) % 3155760000) (day_of d * 86400 + 20 * 3600)) (number_since (time_before r) k number) date
        ∙ ap (eqb ((k + 1) % 3155760000)) games_day)

  -- where the hours are 12-hour ones, an alarm's 20h is none of them
  pub no_such_hour :
      bit 2 (r 0x0E) ≡ true → r 0x09 % 64 ≡ 0x20 → r 0x02 < 0x80 → (k : ℕ) → number_of (time_before r) ≡ Some k → Begins r i → ⊥
  no_such_hour on hour small k number b =
      let silent = numbers.hour_never (alarm_at r) (set (r 0x0E) 2 on) Twelve (rw hour twelve_codes) (time_before r) (number_moment (time_before r) k number) (rw (lt-ltb (r 0x02) 0x80 small) refl) in
      true≢false (sym (rung_by_lem b) ∙ silent)

  -- the registers but 0Fh decide, with the second counter: INTAF plays no part
  module _ (q : ℕ → ℕ) (k : Inner) (same : (a : ℕ) → (a ≡ 0x0F → ⊥) → r a ≡ q a) (counter : i.counter ≡ k.counter) where
    at : (a : ℕ) → (a < 0x0F) ⊎ (0x0F < a) → r a ≡ q a
    at a (inl h) = same a (λ e. omega arith)
    at a (inr h) = same a (λ e. omega arith)

    seven_alike : (a : ℕ) → a + 6 < 0x0F → seven_from a r ≡ seven_from a q
    seven_alike a h = grind (arith, common_steps)

    matches_alike : (t : Time) → matches_at r t ≡ matches_at q t
    matches_alike t =
        sym (matches_same r t)
        ∙ ap₂ (λ (s : Time) (e : ℕ). matches_of s e t) (seven_alike 0x07 (omega arith)) (at 0x0E (inl (omega arith)))
        ∙ matches_same q t

    ends_alike : ends r i ≡ ends q k
    unfolding ends second_length
    ends_alike = simp (at 0x00 (inl (omega arith)), at 0x12 (inr (omega arith)), counter)

    pub judged_alike : Begins r i → Begins q k
    judged_alike b = grind (arith, common_steps, ends_alike, at, matches_alike, seven_alike)
