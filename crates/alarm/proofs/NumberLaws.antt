-- When an alarm rings, by second numbers: once in each minute, and once in a century. Assumes nothing.
use Rattle.std.proofs.Common.{◌≡◌, refl, sym, ap, ap₂, ◌∙◌, Bool, true, false, ◌&&◌, ◌||◌, not, ℕ, ◌+◌, ◌*◌, ◌/◌, ◌%◌, ◌<◌, arith, eqb, eqb-true, eq-eqb, ne_eqb}
use mathlib.Core.Bool.{and-true, and-false, false≢true}
use native.Mathlib.Decide.{ℕ_discrete}
use Rattle.fields.specs.declared.hours.HourMode.{HourMode}
use Rattle.fields.specs.declared.hours.HourMode.TheVariants.{Twelve, TwentyFour}
use Rattle.fields.specs.Digits.{value_of, byte_of}
use Rattle.fields.specs.Hours.{mode_of, codes, place_of, hour_number_of, hour_byte_of}
use Rattle.fields.specs.Times.{second_of}
use Rattle.fields.proofs.Below.{agree}
use Rattle.fields.proofs.FieldLaws.{Held, and_left, and_right, byte_value}
use Rattle.fields.proofs.HourLaws.{byte_number}
use Rattle.dates.specs.declared.date.Date.{Date}
use Rattle.dates.specs.Dates.{day_of, month_of, date_in}
use Rattle.dates.proofs.DateLaws.{LegalDate, date_again}
use Rattle.calendar.specs.declared.time.Time.{Time}
use Rattle.calendar.specs.Advance.{date_of, advance_of}
use Rattle.calendar.specs.Numbers.{since_of}
use Rattle.calendar.proofs.MomentLaws.{Moment, since_small}
use Rattle.calendar.proofs.AdvanceLaws.{advances, advance_mode}
use Rattle.alarm.specs.Matching.{off, matches_of}
use Rattle.alarm.specs.Alarm.{meets_of, rings_of}
use Rattle.alarm.specs.declared.alarm.Alarm.{Alarm}
use Rattle.alarm.proofs.RingLaws.{seconds_ring}

-- two digits are equal exactly if their values are
same_value : (x y : ℕ) → Held 0x00 0x59 x → Held 0x00 0x59 y → eqb x y ≡ eqb (value_of x) (value_of y)
same_value x y h k =
    elim (ℕ_discrete x y) [
      | yes e ↦ eq-eqb x y e ∙ sym (eq-eqb (value_of x) (value_of y) (ap value_of e))
      | no n ↦
          ne_eqb x y n
          ∙ sym (ne_eqb (value_of x) (value_of y)
          (λ (e : value_of x ≡ value_of y).
          n (sym (byte_value x h.units h.tens) ∙ ap byte_of e ∙ byte_value y k.units k.tens)))
    ]

-- the second of the minute that a number shows
in_minute : (d h m s : ℕ) → s < 60 → (d * 86400 + (h * 3600 + m * 60 + s)) % 60 ≡ s
in_minute d h m s b = omega arith

minute_shown : (u : Time) → Moment u → since_of u % 60 ≡ value_of u.seconds
unfolding since_of second_of
minute_shown u l =
    in_minute (day_of (date_of u)) (hour_number_of u.hours) (value_of u.minutes) (value_of u.seconds) (omega (arith, l.clock.seconds))

-- a century has whole minutes
minutes_on : (n : ℕ) → n % 3155760000 % 60 ≡ n % 60
minutes_on n = omega arith

-- by the seconds alone: once in each minute, where its second has the alarm's number
module _ (a : Alarm) (e : a.enable ≡ 0x01) (h : Held 0x00 0x59 a.at.seconds) where
  second_meets : (u : Time) → meets_of a u ≡ eqb u.seconds a.at.seconds
  unfolding matches_of
  second_meets u = simp (e, and-true (eqb u.seconds a.at.seconds))

  pub once_a_minute : (t : Time) → Moment t → rings_of a t (advance_of t) ≡ eqb ((since_of t + 1) % 60) (value_of a.at.seconds)
  once_a_minute t l =
      let u = advance_of t in
      let v = advances t l in
      let shown = sym (minute_shown u v.moment) ∙ ap (λ (n : ℕ). n % 60) v.since ∙ minutes_on (since_of t + 1) in
      seconds_ring a (rw e refl) t (omega (arith, l.clock.seconds))
      ∙ second_meets u
      ∙ same_value u.seconds a.at.seconds v.moment.clock.seconds h
      ∙ ap (λ (n : ℕ). eqb n (value_of a.at.seconds)) shown

-- the six bits that are compared tell an hour of their mode
base : HourMode → ℕ
base Twelve = 0
base TwentyFour = 0x80

six_bits : (m : HourMode) (n : ℕ) → n < 24 → hour_number_of (hour_byte_of m n % 64 + base m) ≡ n
unfolding base hour_number_of hour_byte_of codes place_of
six_bits Twelve = agree (λ (n : ℕ). hour_number_of (hour_byte_of Twelve n % 64 + base Twelve)) (λ (n : ℕ). n) 24 tt
six_bits TwentyFour = agree (λ (n : ℕ). hour_number_of (hour_byte_of TwentyFour n % 64 + base TwentyFour)) (λ (n : ℕ). n) 24 tt

hour_told : (m : HourMode) (x h : ℕ) → hour_number_of x < 24 → h < 24 → mode_of x ≡ m → x % 64 ≡ hour_byte_of m h % 64 → hour_number_of x ≡ h
hour_told m x h b c mode e =
    let n = hour_number_of x in
    let code : hour_byte_of m n ≡ x = ap (λ (k : HourMode). hour_byte_of k n) (sym mode) ∙ byte_number x b in
    sym (six_bits m n b) ∙ ap (λ (y : ℕ). hour_number_of (y % 64 + base m)) code ∙ ap (λ (y : ℕ). hour_number_of (y + base m)) e ∙ six_bits m h c

-- a test that holds exactly where two numbers are the same
told : (x : Bool) (n k : ℕ) → (x ≡ true → n ≡ k) → (n ≡ k → x ≡ true) → x ≡ eqb n k
told true n k f g = sym (eq-eqb n k (f refl))
told false n k f g = sym (ne_eqb n k (λ e. false≢true (g e)))

-- the hour of the century that a number shows
in_hour : (d h m s : ℕ) → m < 60 → s < 60 → (d * 86400 + (h * 3600 + m * 60 + s)) / 3600 ≡ d * 24 + h
in_hour d h m s a b = omega arith

hour_shown : (u : Time) → Moment u → since_of u / 3600 ≡ day_of (date_of u) * 24 + hour_number_of u.hours
unfolding since_of second_of
hour_shown u l =
    in_hour (day_of (date_of u)) (hour_number_of u.hours) (value_of u.minutes) (value_of u.seconds) (omega (arith, l.clock.minutes))
    (omega (arith, l.clock.seconds))

record Split (d h e k : ℕ) : Type 0 where
  day : d ≡ e
  hour : h ≡ k

split : (d h e k : ℕ) → h < 24 → k < 24 → d * 24 + h ≡ e * 24 + k → Split d h e k
split d h e k b c s = omega arith

-- a legal date is told by its day
same_date : (d e : Date) → LegalDate d → LegalDate e → day_of d ≡ day_of e → d ≡ e
same_date d e l k s = sym (date_again d l) ∙ ap (λ (n : ℕ). date_in (month_of n) n) s ∙ date_again e k

-- an hour and a date, compared field by field
record Met (a : Alarm) (u : Time) : Type 0 where
  hours : u.hours % 64 ≡ a.at.hours % 64
  day : u.day ≡ a.at.day
  month : u.month ≡ a.at.month
  year : u.year ≡ a.at.year

-- by hour and date, the hour being h as mode m writes it
module _ (a : Alarm) (e : a.enable ≡ 0x74) (d : LegalDate (date_of a.at)) (m : HourMode) (h : ℕ) (b : h < 24) (hours : a.at.hours % 64 ≡ hour_byte_of m h % 64) where
  module _ (u : Time) (l : Moment u) (mode : mode_of u.hours ≡ m) where
    abbrev fields : Bool
    fields = eqb (u.hours % 64) (a.at.hours % 64) && eqb u.day a.at.day && eqb u.month a.at.month && eqb u.year a.at.year

    compared : meets_of a u ≡ fields
    unfolding matches_of
    compared = simp (e, and-true (eqb (u.hours % 64) (a.at.hours % 64)))

    met : fields ≡ true → Met a u
    met f =
        let x = eqb (u.hours % 64) (a.at.hours % 64) in
        let y = eqb u.day a.at.day in
        let z = eqb u.month a.at.month in
        let w = eqb u.year a.at.year in
        record {
          hours = eqb-true (u.hours % 64) (a.at.hours % 64) (and_left x y (and_left (x && y) z (and_left (x && y && z) w f)));
          day = eqb-true u.day a.at.day (and_right x y (and_left (x && y) z (and_left (x && y && z) w f)));
          month = eqb-true u.month a.at.month (and_right (x && y) z (and_left (x && y && z) w f));
          year = eqb-true u.year a.at.year (and_right (x && y && z) w f);
        }

    -- where they match it is that hour of that day
    inside : fields ≡ true → since_of u / 3600 ≡ day_of (date_of a.at) * 24 + h
    inside f =
        let g = met f in
        let day : date_of u ≡ date_of a.at = λ i. record { day = g.day i; month = g.month i; year = g.year i } in
        let hour = hour_told m u.hours h l.clock.hours b mode (g.hours ∙ hours) in
        hour_shown u l ∙ ap₂ (λ (x : ℕ) (y : ℕ). x * 24 + y) (ap day_of day) hour

    -- and in that hour they match
    matched : since_of u / 3600 ≡ day_of (date_of a.at) * 24 + h → fields ≡ true
    matched s =
        let p = split (day_of (date_of u)) (hour_number_of u.hours) (day_of (date_of a.at)) h l.clock.hours b (sym (hour_shown u l) ∙ s) in
        let q = same_date (date_of u) (date_of a.at) l.date d p.day in
        let code : u.hours ≡ hour_byte_of m h = sym (byte_number u.hours l.clock.hours) ∙ ap₂ hour_byte_of mode p.hour in
        let hour : u.hours % 64 ≡ a.at.hours % 64 = ap (λ (x : ℕ). x % 64) code ∙ sym hours in
        simp (
          eq-eqb (u.hours % 64) (a.at.hours % 64) hour,
          eq-eqb u.day a.at.day (ap (λ (x : Date). x.day) q),
          eq-eqb u.month a.at.month (ap (λ (x : Date). x.month) q),
          eq-eqb u.year a.at.year (ap (λ (x : Date). x.year) q),
        )

    hour_meets : meets_of a u ≡ eqb (since_of u / 3600) (day_of (date_of a.at) * 24 + h)
    hour_meets = compared ∙ told fields (since_of u / 3600) (day_of (date_of a.at) * 24 + h) inside matched

-- an hour of the century begins with one second
begins : (n s k : ℕ) → n < 3155760000 → s ≡ (n + 1) % 3155760000 → s / 3600 ≡ k → (n / 3600 ≡ k → ⊥) → s ≡ k * 3600
begins n s k b e p q = omega arith

lasts : (n s k : ℕ) → n < 3155760000 → s ≡ (n + 1) % 3155760000 → n / 3600 ≡ k → s ≡ k * 3600 → ⊥
lasts n s k b e p q = omega arith

outside : (s k : ℕ) → (s / 3600 ≡ k → ⊥) → s ≡ k * 3600 → ⊥
outside s k p q = omega arith

begins_once : (n s k : ℕ) → n < 3155760000 → s ≡ (n + 1) % 3155760000 → eqb (s / 3600) k && not (eqb (n / 3600) k) ≡ eqb s (k * 3600)
begins_once n s k b e =
    elim (ℕ_discrete (s / 3600) k) [
      | yes p ↦
          elim (ℕ_discrete (n / 3600) k) [
            | yes q ↦ rw (eq-eqb (s / 3600) k p, eq-eqb (n / 3600) k q, ne_eqb s (k * 3600) (lasts n s k b e q)) refl
            | no q ↦ rw (eq-eqb (s / 3600) k p, ne_eqb (n / 3600) k q, eq-eqb s (k * 3600) (begins n s k b e p q)) refl
          ]
      | no p ↦ rw (ne_eqb (s / 3600) k p, ne_eqb s (k * 3600) (outside s k p)) refl
    ]

in_seconds : (d h : ℕ) → (d * 24 + h) * 3600 ≡ d * 86400 + h * 3600
in_seconds d h = omega arith

-- so it rings once in the century: at the first second of that hour
pub once_a_century :
    (a : Alarm) → a.enable ≡ 0x74 → LegalDate (date_of a.at) → (h : ℕ) → h < 24 → (t : Time) → Moment t → a.at.hours % 64 ≡ hour_byte_of (mode_of t.hours) h % 64
    → rings_of a t (advance_of t) ≡ eqb ((since_of t + 1) % 3155760000) (day_of (date_of a.at) * 86400 + h * 3600)
once_a_century a e d h b t l hours =
    let m = mode_of t.hours in
    let u = advance_of t in
    let v = advances t l in
    let k = day_of (date_of a.at) * 24 + h in
    ap₂ (λ (x : Bool) (y : Bool). x && not y) (hour_meets a e d m h b hours u v.moment (advance_mode t)) (hour_meets a e d m h b hours t l refl)
    ∙ begins_once (since_of t) (since_of u) k (since_small t l) v.since
    ∙ ap₂ eqb v.since (in_seconds (day_of (date_of a.at)) h)

-- an hour that no code of the mode shows in its six bits never matches
module _ (a : Alarm) (on : off 0x04 a.enable ≡ false) (m : HourMode) (never : (n : ℕ) → n < 24 → eqb (hour_byte_of m n % 64) (a.at.hours % 64) ≡ false) where
  unmet : (u : Time) → Moment u → mode_of u.hours ≡ m → meets_of a u ≡ false
  unfolding matches_of
  unmet u l mode =
      let code : hour_byte_of m (hour_number_of u.hours) ≡ u.hours = ap (λ (k : HourMode). hour_byte_of k (hour_number_of u.hours)) (sym mode) ∙ byte_number u.hours l.clock.hours in
      let e : eqb (u.hours % 64) (a.at.hours % 64) ≡ false = ap (λ (x : ℕ). eqb (x % 64) (a.at.hours % 64)) (sym code) ∙ never (hour_number_of u.hours) l.clock.hours in
      let seconds = off 0x01 a.enable || eqb u.seconds a.at.seconds in
      let minutes = off 0x02 a.enable || eqb u.minutes a.at.minutes in
      simp (on, e, and-false (seconds && minutes))

  pub hour_never : (t : Time) → Moment t → mode_of t.hours ≡ m → rings_of a t (advance_of t) ≡ false
  hour_never t l mode = rw (unmet (advance_of t) (advances t l).moment (advance_mode t ∙ mode)) refl
