-- In one hour mode equal digits are the same minute, because a text tells its byte, and a legal hour is its byte without bit 7 and its mode; across modes they need not be. Assumes nothing.
use Rattle.std.proofs.Common.{◌≡◌, refl, sym, ap, ◌∙◌, subst, Bool, cond, List, [], ◌∷◌, Some, ℕ, ◌/◌, ◌%◌, ◌<◌, arith, ltb, ltb→lt, get_or}
use Rattle.std.proofs.lemmas.Grind.{common_steps}
use Rattle.fields.specs.declared.hours.HourMode.{HourMode}
use Rattle.fields.specs.declared.hours.HourMode.TheVariants.{Twelve, TwentyFour}
use Rattle.fields.specs.Hours.{mode_of, codes, place_of, hour_number_of, hour_byte_of}
use Rattle.fields.specs.Times.{legal_time_of, second_of}
use Rattle.fields.proofs.Below.{each, agree}
use Rattle.fields.proofs.FieldLaws.{Held}
use Rattle.fields.proofs.HourLaws.{byte_number}
use Rattle.dates.specs.Months.{leap_of, last_day_of, days_of, first_day_of}
use Rattle.dates.specs.Dates.{legal_date_of, day_of}
use Rattle.calendar.specs.declared.time.Time.{Time}
use Rattle.calendar.specs.Numbers.{since_of, number_of}
use Rattle.calendar.proofs.MomentLaws.{number_moment}
use Rattle.events.specs.declared.answer.Answer.TheVariants.{Byte}
use Rattle.events.specs.Answer.{text_of}
use Rattle.sd2068.specs.Kept.{shown_by, ReadsBack}
use Rattle.promises.specs.Ledger.{id_of, digits_of, byte_read, digits_read, SameMinute, built}

-- every code is a byte
code_small : (m : HourMode) (n : ℕ) → n < 24 → hour_byte_of m n < 256
unfolding codes hour_byte_of
code_small Twelve n h = ltb→lt (hour_byte_of Twelve n) 256 (each (λ (k : ℕ). ltb (hour_byte_of Twelve k) 256) 24 tt n h)
code_small TwentyFour n h = ltb→lt (hour_byte_of TwentyFour n) 256 (each (λ (k : ℕ). ltb (hour_byte_of TwentyFour k) 256) 24 tt n h)

pub hours_small : (h : ℕ) → hour_number_of h < 24 → h < 256
hours_small h l = subst (λ (x : ℕ). x < 256) (byte_number h l) (code_small (mode_of h) (hour_number_of h) l)

-- every byte comes back out of its text
pub read_byte : (b : ℕ) → b < 256 → byte_read (text_of (Byte b)) ≡ b
read_byte = agree (λ (b : ℕ). byte_read (text_of (Byte b))) (λ (b : ℕ). b) 256 tt

-- and so does every field of two decimal digits
read_field : {first last x : ℕ} → Held first last x → byte_read (text_of (Byte x)) ≡ x
read_field {first} {last} {x} h = read_byte x (omega (arith, h.tens))

-- what is read of a legal time has its digits
pub read_digits : (t : Time) (k : ℕ) → number_of t ≡ Some k → digits_read (shown_by t) ≡ digits_of t
unfolding digits_read
read_digits t k e =
    let legal = number_moment t k e in
    let hours = read_byte t.hours (hours_small t.hours legal.clock.hours) in
    λ i. id_of (read_field legal.date.month i) (read_field legal.date.day i) (hours i) (read_field legal.clock.minutes i)

-- bit 7 is the mode
same_bit : (h g : ℕ) (a b : Bool) → ltb h 0x80 ≡ a → ltb g 0x80 ≡ b → cond a Twelve TwentyFour ≡ cond b Twelve TwentyFour → h < 256 → g < 256 → h % 128 ≡ g % 128 → h ≡ g
same_bit h g a b p q m x y e = grind (arith, common_steps)

same_hours : (h g : ℕ) → hour_number_of h < 24 → hour_number_of g < 24 → mode_of h ≡ mode_of g → h % 128 ≡ g % 128 → h ≡ g
same_hours h g x y m e = same_bit h g (ltb h 0x80) (ltb g 0x80) refl refl m (hours_small h x) (hours_small g y) e

-- a byte is its two digits
same_byte : {x y : ℕ} → x / 16 ≡ y / 16 → x % 16 ≡ y % 16 → x ≡ y
same_byte p q = omega arith

-- two legal times in one hour mode
module _ (t u : Time) (k l : ℕ) (legal_t : number_of t ≡ Some k) (legal_u : number_of u ≡ Some l) (mode : mode_of t.hours ≡ mode_of u.hours) where
  pub same_digits : digits_of t ≡ digits_of u → SameMinute t u
  unfolding id_of
  same_digits e =
      let digit : (i : ℕ) → get_or (digits_of t) i 0 ≡ get_or (digits_of u) i 0 = λ i. ap (λ (d : List ℕ). get_or d i 0) e in
      let below = (number_moment t k legal_t).clock.hours in
      record {
        month = same_byte (digit 0) (digit 1);
        day = same_byte (digit 2) (digit 3);
        hour = ap hour_number_of (same_hours t.hours u.hours below (number_moment u l legal_u).clock.hours mode (same_byte (digit 4) (digit 5)));
        below = below;
        minutes = same_byte (digit 6) (digit 7);
      }

  -- so times at different hours of the day have different ids, 09:15 and 21:15 too
  pub apart : (hour_number_of t.hours ≡ hour_number_of u.hours → ⊥) → digits_of t ≡ digits_of u → ⊥
  apart n e = n (same_digits e).hour

-- the answers of a reading show the digits of its time
shown_digits : {t : Time} {k f p : ℕ} {a : List ℕ} {x : List (List ℕ)} (r : ReadsBack t k f p a x) → digits_read x ≡ digits_of r.time
shown_digits r = ap digits_read r.shown ∙ read_digits r.time _ r.counted.later.number

-- two readings whose times have the same digits were made in the same minute
pub same_minute :
    {t u : Time} {k l f g p q : ℕ} {a b : List ℕ} {x y : List (List ℕ)} → mode_of t.hours ≡ mode_of u.hours
    → (r : ReadsBack t k f p a x) (s : ReadsBack u l g q b y) → digits_of r.time ≡ digits_of s.time → SameMinute r.time s.time
same_minute mode r s e =
    let v = r.counted.later in
    let w = s.counted.later in
    same_digits r.time s.time _ _ v.number w.number (v.mode ∙ mode ∙ sym w.mode) e

-- so are two whose answers show the same digits
pub one_id :
    {t u : Time} {k l f g p q : ℕ} {a b : List ℕ} {x y : List (List ℕ)} → mode_of t.hours ≡ mode_of u.hours
    → (r : ReadsBack t k f p a x) (s : ReadsBack u l g q b y) → digits_read x ≡ digits_read y → SameMinute r.time s.time
one_id mode r s e = same_minute mode r s (sym (shown_digits r) ∙ e ∙ shown_digits s)

-- 09:15 and 21:15, in 24-hour mode and in 12-hour mode
pub quarter_past :
    built 0x89 0x15 ∷ built 0xA1 0x15 ∷ built 0x09 0x15 ∷ built 0x29 0x15 ∷ []
    ≡ record { second = Some 219921300; hour = 9; id = 1 ∷ 2 ∷ 2 ∷ 0 ∷ 0 ∷ 9 ∷ 1 ∷ 5 ∷ [] }
    ∷ record { second = Some 219964500; hour = 21; id = 1 ∷ 2 ∷ 2 ∷ 0 ∷ 2 ∷ 1 ∷ 1 ∷ 5 ∷ [] }
    ∷ record { second = Some 219921300; hour = 9; id = 1 ∷ 2 ∷ 2 ∷ 0 ∷ 0 ∷ 9 ∷ 1 ∷ 5 ∷ [] }
    ∷ record { second = Some 219964500; hour = 21; id = 1 ∷ 2 ∷ 2 ∷ 0 ∷ 2 ∷ 9 ∷ 1 ∷ 5 ∷ [] }
    ∷ []
unfolding number_of since_of legal_date_of legal_time_of day_of second_of first_day_of days_of last_day_of leap_of hour_number_of place_of codes id_of
quarter_past = refl

-- 21:00 in 24-hour mode and PM 1 in 12-hour mode share the id
pub collide :
    built 0xA1 0x00 ∷ built 0x21 0x00 ∷ []
    ≡ record { second = Some 219963600; hour = 21; id = 1 ∷ 2 ∷ 2 ∷ 0 ∷ 2 ∷ 1 ∷ 0 ∷ 0 ∷ [] }
    ∷ record { second = Some 219934800; hour = 13; id = 1 ∷ 2 ∷ 2 ∷ 0 ∷ 2 ∷ 1 ∷ 0 ∷ 0 ∷ [] }
    ∷ []
unfolding number_of since_of legal_date_of legal_time_of day_of second_of first_day_of days_of last_day_of leap_of hour_number_of place_of codes id_of
collide = refl
