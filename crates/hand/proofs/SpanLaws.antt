-- Pulses come to whole seconds: each pulse keeps what the seconds passed and the counter say of them. Assumes nothing.
use Rattle.std.proofs.Common.{◌≡◌, refl, sym, ◌∙◌, ap, ap₂, subst, Bool, true, false, ◌||◌, Some, ℕ, zero, suc, ◌+◌, ◌-◌, ◌/◌, ◌%◌, ◌≤◌, ◌<◌, add-zero, add-suc, arith, eqb, leb, leb→le, pos, ◌+ℤ◌, nat_abs, eq-eqb, ne_eqb, leb-true, leb-false}
use native.Mathlib.Decide.{dec_lt, ℕ_discrete}
use Rattle.fields.specs.Digits.{value_of}
use Rattle.fields.specs.Hours.{mode_of}
use Rattle.fields.specs.Times.{second_of}
use Rattle.fields.proofs.Below.{agree, each}
use Rattle.fields.proofs.FieldLaws.{Held}
use Rattle.fields.proofs.Picked.{picked}
use Rattle.calendar.specs.declared.time.Time.{Time}
use Rattle.calendar.specs.Advance.{advance_of}
use Rattle.calendar.specs.Numbers.{since_of, number_of, time_in, time_at_of, days_on_of, later_from, later_of}
use Rattle.calendar.specs.Repeat.{times}
use Rattle.calendar.proofs.WeekdayLaws.{on_legal}
use Rattle.calendar.proofs.MomentLaws.{number_moment, number_since, number_weekday, number_time, time_there, time_number, time_in_mode, time_weekday}
use Rattle.calendar.proofs.LaterLaws.{later_times}
use Rattle.hand.specs.Trim.{change_of, trimmed_of, length_of}
use Rattle.hand.specs.Hand.{ends_of, ticked_by, ticked_of}
use Rattle.hand.specs.Span.{trimmed_span, second_span, span_of, Most, Legal, SecondsOn, Counted}
use Rattle.hand.specs.declared.hand.Hand.{Hand}

-- the length of a trimmed second by arithmetic, over all values of F
pub trimmed_span_lem : (f : ℕ) → f < 128 → nat_abs (pos 32768 +ℤ change_of f) ≡ trimmed_span f
unfolding change_of
trimmed_span_lem = agree (λ (f : ℕ). nat_abs (pos 32768 +ℤ change_of f)) trimmed_span 128 tt

-- the shortest of them
trimmed_least : (f : ℕ) → f < 128 → 32644 ≤ trimmed_span f
trimmed_least f h = leb→le _ _ (each (λ (k : ℕ). leb 32644 (trimmed_span k)) 128 tt f h)

-- and the longest
trimmed_most : (f : ℕ) → f < 128 → trimmed_span f ≤ 32892
trimmed_most f h = leb→le _ _ (each (λ (k : ℕ). leb (trimmed_span k) 32892) 128 tt f h)

-- bytes of two digits are the same if their values are
same_value : (a s : ℕ) → a % 16 < 10 → s % 16 < 10 → eqb s a ≡ eqb (value_of s) (value_of a)
same_value a s p q =
    elim (ℕ_discrete s a) [
      | yes e ↦ eq-eqb s a e ∙ sym (eq-eqb (value_of s) (value_of a) (ap value_of e))
      | no n ↦ ne_eqb s a n ∙ sym (ne_eqb (value_of s) (value_of a) (λ e. n (omega arith)))
    ]

-- the length of a second is by arithmetic what it is by the registers
pub length_span : (trim s : ℕ) → Held 0x00 0x59 s → length_of s trim ≡ second_span trim (value_of s)
unfolding length_of second_span
length_span trim s l =
    simp (
      trimmed_span_lem (trim % 128) (omega arith),
      same_value 0x00 s (omega arith) l.units,
      same_value 0x20 s (omega arith) l.units,
      same_value 0x40 s (omega arith) l.units,
    )

-- no second has fewer than 32,644 pulses
pub span_least : (trim s : ℕ) → 32644 ≤ second_span trim s
unfolding second_span
span_least trim s = picked (λ (n : ℕ). 32644 ≤ n) (eqb s 0 || eqb s 20 || eqb s 40) (trimmed_least (trim % 128) (omega arith)) (omega arith)

-- nor has one that shows an illegal byte
pub length_least : (seconds trim : ℕ) → 32644 ≤ length_of seconds trim
unfolding length_of
length_least seconds trim =
    picked (λ (n : ℕ). 32644 ≤ n) (trimmed_of seconds) (rw (trimmed_span_lem (trim % 128) (omega arith)) (trimmed_least (trim % 128) (omega arith))) (omega arith)

-- and none has more than 32,892
pub length_most : (seconds trim : ℕ) → length_of seconds trim ≤ 32892
unfolding length_of
length_most seconds trim =
    picked (λ (n : ℕ). n ≤ 32892) (trimmed_of seconds) (rw (trimmed_span_lem (trim % 128) (omega arith)) (trimmed_most (trim % 128) (omega arith))) (omega arith)

-- a sum of seconds grows with their number
span_more : (trim s m n : ℕ) → m ≤ n → span_of trim s m ≤ span_of trim s n
unfolding span_of
span_more trim s m zero h = let z : m ≡ 0 = omega arith in rw z (omega arith)
span_more trim s m (suc n) h =
    elim (dec_lt n m) [
      | yes l ↦ let z : m ≡ suc n = omega arith in rw z (omega arith)
      | no l ↦ omega (arith, span_more trim s m n (omega arith))
    ]

-- n seconds on by the calendar is n seconds on by arithmetic
module _ (t : Time) (k : ℕ) (l : Legal t k) (n : ℕ) where
  placed : days_on_of (time_in ((k + n) % 3155760000) (mode_of t.hours) t.weekday) ((k % 86400 + n) / 86400) ≡ times advance_of n t
  unfolding later_of
  placed = let e = ap (later_from t n) (sym l.number) ∙ later_times t (number_moment t k l.number) n in cc

  days : (k + n) / 86400 - k / 86400 ≡ (k % 86400 + n) / 86400
  days = omega arith

  pub seconds_on : SecondsOn t k n (times advance_of n t)
  seconds_on =
      let c = (k + n) % 3155760000 in
      let m = mode_of t.hours in
      let w = t.weekday in
      let there = time_there c m w (omega arith) in
      rw (← placed)
      (record {
        number = number_weekday (time_in c m w) _ ∙ time_number c m w (time_in c m w) there;
        mode = time_in_mode c m w (time_in c m w) there;
        weekday = rw (time_weekday c m w (time_in c m w) there, days) (on_legal w _ l.weekday);
      })

-- the seconds of a time with number k
seconds_number : (t : Time) (k : ℕ) → number_of t ≡ Some k → value_of t.seconds ≡ k % 60
unfolding since_of second_of
seconds_number t k e = let l = (number_moment t k e).clock.seconds in omega (arith, number_since t k e)

-- the century is whole minutes
in_minute : (s k n : ℕ) → s ≡ k % 60 → (k + n) % 3155760000 % 60 ≡ (s + n) % 60
in_minute s k n e = omega arith

-- a hand whose second begins
abbrev begun : Time → ℕ → Hand
begun t trim = record { time = t; counter = 0; trim = trim }

-- after p pulses: the seconds passed, and the counter, which is still within the present second
record Stands (t : Time) (trim p : ℕ) (h : Hand) : Type 0 where
  passed : ℕ
  shown : h.time ≡ times advance_of passed t
  kept : h.trim ≡ trim
  counted : span_of trim (value_of t.seconds) passed + h.counter ≡ p
  within : h.counter < second_span trim ((value_of t.seconds + passed) % 60)

module _ (t : Time) (k : ℕ) (l : Legal t k) (trim : ℕ) where
  -- the length of the second that comes after n seconds
  length_on : (n : ℕ) → length_of (times advance_of n t).seconds trim ≡ second_span trim ((value_of t.seconds + n) % 60)
  length_on n =
      let u = times advance_of n t in
      let e = (seconds_on t k l n).number in
      let c = (k + n) % 3155760000 in
      length_span trim u.seconds (number_moment u c e).clock.seconds
      ∙ ap (second_span trim) (seconds_number u c e ∙ in_minute (value_of t.seconds) k n (seconds_number t k l.number))

  start : Stands t trim 0 (begun t trim)
  unfolding times span_of
  start = record { passed = 0; shown = refl; kept = refl; counted = refl; within = omega (arith, span_least trim ((value_of t.seconds + 0) % 60)) }

  module _ (p : ℕ) (h : Hand) (s : Stands t trim p h) where
    -- the length of the present second
    present : length_of h.time.seconds h.trim ≡ second_span trim ((value_of t.seconds + s.passed) % 60)
    present = rw (s.shown, s.kept) (length_on s.passed)

    -- a pulse fills the present second, or only counts
    pulsed_by : (ends : Bool) → ends_of h ≡ ends → Stands t trim (suc p) (ticked_by ends h)
    unfolding times span_of
    pulsed_by true e =
        let n = leb-true (length_of h.time.seconds h.trim) (h.counter + 1) e in
        record {
          passed = suc s.passed;
          shown = ap advance_of s.shown;
          kept = s.kept;
          counted = omega (arith, present, s.counted, s.within);
          within = omega (arith, span_least trim ((value_of t.seconds + suc s.passed) % 60));
        }
    pulsed_by false e =
        let n = leb-false (length_of h.time.seconds h.trim) (h.counter + 1) e in
        record {
          passed = s.passed;
          shown = s.shown;
          kept = s.kept;
          counted = omega (arith, s.counted);
          within = omega (arith, present);
        }

  stands : (p : ℕ) → Stands t trim p (times ticked_of p (begun t trim))
  unfolding times ticked_of
  stands zero = start
  stands (suc p) = let h = times ticked_of p (begun t trim) in pulsed_by p h (stands p) (ends_of h) refl

  -- the next second would not fit any more
  counts : (p : ℕ) (h : Hand) → Stands t trim p h → Counted t k trim p h.time
  unfolding span_of
  counts p h s =
      let v = value_of t.seconds in
      record {
        seconds = s.passed;
        most =
            record {
              fits = omega (arith, s.counted);
              largest =
                  λ m f.
                  elim (dec_lt s.passed m) [
                    | yes b ↦ absurd (omega (arith, s.counted, s.within, span_more trim v (suc s.passed) m b))
                    | no b ↦ omega arith
                  ];
            };
        later = rw s.shown (seconds_on t k l s.passed);
      }

  -- p pulses from the beginning of a legal time's second
  pub ticks_count : (p : ℕ) → Counted t k trim p (times ticked_of p (record { time = t; counter = 0; trim = trim })).time
  ticks_count p = counts p (times ticked_of p (begun t trim)) (stands p)

-- only one number is the most, and only one time is after it
pub one_most : {trim s p m n : ℕ} → Most trim s p m → Most trim s p n → m ≡ n
one_most {m} {n} a b = omega (arith, a.largest n b.fits, b.largest m a.fits)

pub one_later : {t u v : Time} {k n : ℕ} → SecondsOn t k n u → SecondsOn t k n v → u ≡ v
one_later {u} {v} {k} {n} a b =
    let c = (k + n) % 3155760000 in
    let same = ap₂ (time_at_of c) (a.mode ∙ sym b.mode) (a.weekday ∙ sym b.weekday) in
    let e = sym (number_time u c a.number) ∙ same ∙ number_time v c b.number in
    cc

pub one_counted : {t u v : Time} {k trim p : ℕ} → Counted t k trim p u → Counted t k trim p v → u ≡ v
one_counted {t} {u} {v} {k} a b = one_later (subst (λ (n : ℕ). SecondsOn t k n u) (one_most a.most b.most) a.later) b.later

-- a pulse that does not end the second only counts, and so do any number of them
pub counts_by : (h : Hand) (ends : Bool) → ends_of h ≡ ends → h.counter + 1 < length_of h.time.seconds h.trim → ticked_by ends h ≡ record { time = h.time; counter = h.counter + 1; trim = h.trim }
counts_by h true e small = absurd (omega (arith, leb-true (length_of h.time.seconds h.trim) (h.counter + 1) e))
counts_by h false e small = refl

pub ticks_within : (h : Hand) (k : ℕ) → h.counter + k < length_of h.time.seconds h.trim → times ticked_of k h ≡ record { time = h.time; counter = h.counter + k; trim = h.trim }
unfolding times ticked_of
ticks_within h zero small = simp add-zero
ticks_within h (suc k) small =
    let g : Hand = record { time = h.time; counter = h.counter + k; trim = h.trim } in
    let more : h.counter + k + 1 ≡ h.counter + suc k = omega arith in
    ap ticked_of (ticks_within h k (omega arith)) ∙ counts_by g (ends_of g) refl (omega arith) ∙ (λ i. record { time = h.time; counter = more i; trim = h.trim })

-- fewer than any second has, whatever the hand holds
pub few_ticks : (h : Hand) (k : ℕ) → h.counter + k < 16384 → times ticked_of k h ≡ record { time = h.time; counter = h.counter + k; trim = h.trim }
few_ticks h k small = ticks_within h k (omega (arith, length_least h.time.seconds h.trim))

-- no pulse moves the trim
pub ticks_trim : (n : ℕ) (h : Hand) → (times ticked_of n h).trim ≡ h.trim
unfolding times ticked_of
ticks_trim zero h = refl
ticks_trim (suc n) h = ticks_trim n h

-- a step taken m times and then n times more
pub times_add : {A : Type 0} (f : A → A) (m n : ℕ) (a : A) → times f n (times f m a) ≡ times f (m + n) a
unfolding times
times_add f m zero a = simp add-zero
times_add f m (suc n) a = rw add-suc (ap f (times_add f m n a))
