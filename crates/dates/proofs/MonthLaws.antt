-- The laws of the months: where each begins, and the one in which a day falls. Assumes nothing.
use mathlib.Core.Path.{◌≡◌, refl, ◌∙◌, ap}
use mathlib.Core.Bool.{Bool, ◌&&◌}
use Prim.Native.Nat.{ℕ, zero, suc, min, ◌+◌, ◌-◌, ◌*◌, ◌/◌, ◌≤◌, ◌<◌}
use native.Mathlib.Decide.{dec_lt, le_ind}
use native.Mathlib.Omega.{arith}
use lib.Dec.{leb, ltb, eqb, leb→le, ltb→lt}
use borrow.Author.Tests.{lt-ltb, le-ltb}
use Rattle.fields.proofs.Below.{both_left, both_right}
use Rattle.fields.proofs.FieldLaws.{Field, value_up}
use Rattle.fields.proofs.Picked.{picked}
use Rattle.dates.specs.Months.{leap_of, last_day_of, month_byte_of, year_byte_of, days_of, first_day_of}
use Rattle.dates.specs.Dates.{month_from, month_of}
use Rattle.dates.proofs.MonthTests.{every_month}

-- the century ends where month 1,200 would begin
pub century : first_day_of 1200 ≡ 36525
unfolding first_day_of days_of last_day_of leap_of
century = refl

pub first_zero : first_day_of 0 ≡ 0
unfolding first_day_of
first_zero = refl

pub first_suc : (k : ℕ) → first_day_of (suc k) ≡ first_day_of k + days_of k
unfolding first_day_of
first_suc k = refl

first_up : (j k : ℕ) → j ≤ k → first_day_of j ≤ first_day_of k
first_up j = le_ind (λ (k : ℕ). first_day_of j ≤ first_day_of k) (omega arith) (λ k l h. omega (arith, first_suc k))

-- no month reaches past the century
pub first_small : (k : ℕ) → k < 1200 → first_day_of k + days_of k ≤ 36525
first_small k h = omega (arith, first_suc k, first_up (suc k) 1200 h, century)

-- 487/16 days to a month: at each month's first day the guess has come to the month, and not past it the day before
near : ℕ → ℕ → Bool
near k a = leb (487 * k) (16 * a + 40) && ltb (16 * a + 24) (487 * (k + 1))

record Near (k a : ℕ) : Type 0 where
  come : 487 * k ≤ 16 * a + 40
  within : 16 * a + 24 < 487 * (k + 1)

near_first : (k : ℕ) → k < 1200 → Near k (first_day_of k)
unfolding near days_of last_day_of leap_of
near_first k h =
    let a = first_day_of k in
    let t = every_month near 1200 tt k h in
    let c = leb (487 * k) (16 * a + 40) in
    let w = ltb (16 * a + 24) (487 * (k + 1)) in
    record {
      come = leb→le (487 * k) (16 * a + 40) (both_left c w t);
      within = ltb→lt (16 * a + 24) (487 * (k + 1)) (both_right c w t);
    }

-- day n falls into month k
pub record Falls (k n : ℕ) : Type 0 where
  pub month : k < 1200
  pub from : first_day_of k ≤ n
  pub until : n < first_day_of k + days_of k

module _ (n e : ℕ) (small : n < 36525) (guessed : e ≡ min ((n * 16 + 40) / 487) 1199) where
  guess_until : n < first_day_of e + days_of e
  guess_until =
      elim (dec_lt e 1199) [
        | yes h ↦
            let a = (near_first (suc e) (omega arith)).come in
            omega (arith, first_suc e)
        | no h ↦
            let last : e ≡ 1199 = omega arith in
            rw last (omega (arith, first_suc 1199, century))
      ]

  pub guess_month : first_day_of e ≤ n → Falls e n
  guess_month h = record { month = omega arith; from = h; until = guess_until }

  pub guess_late : n < first_day_of e → 0 < e
  guess_late l =
      elim (dec_lt 0 e) [
        | yes h ↦ h
        | no h ↦
            let z : e ≡ 0 = omega arith in
            let b = rw (z, first_zero) at l in
            omega arith
      ]

  prior : (j : ℕ) → e ≡ suc j → n < first_day_of e → Falls j n
  prior j h l =
      let a = (near_first j (omega arith)).within in
      let b = rw (h, first_suc j) at l in
      record { month = omega arith; from = omega arith; until = b }

  pub guess_before : n < first_day_of e → Falls (e - 1) n
  guess_before l =
      let p = guess_late l in
      prior (e - 1) (omega arith) l

-- the month in which a day falls is the one that is found
found_from : (f j k n : ℕ) → j ≤ k → k < j + f → Falls k n → month_from f j (n - first_day_of j) ≡ k
unfolding month_from
found_from zero j k n a b h = absurd (omega arith)
found_from (suc f) j k n a b h =
    elim (dec_lt j k) [
      | yes l ↦
          let past : days_of j ≤ n - first_day_of j = omega (arith, first_suc j, first_up (suc j) k l, h.from) in
          let rest : n - first_day_of j - days_of j ≡ n - first_day_of (suc j) = omega (arith, first_suc j) in
          rw (le-ltb (n - first_day_of j) (days_of j) past, rest) (found_from f (suc j) k n l (omega arith) h)
      | no l ↦
          let here : j ≡ k = omega arith in
          rw (here, lt-ltb (n - first_day_of k) (days_of k) (omega arith))
    ]

pub found : (k n : ℕ) → Falls k n → month_of n ≡ k
found k n h =
    ap (month_from 1200 0) (rw first_zero (omega arith)) ∙ found_from 1200 0 k n (omega arith) (omega arith) h

-- every day of the century falls into the month that is found
pub falls : (n : ℕ) → n < 36525 → Falls (month_of n) n
falls n h =
    let e = min ((n * 16 + 40) / 487) 1199 in
    elim (dec_lt n (first_day_of e)) [
      | yes l ↦
          let w = guess_before n e h refl l in
          rw (found (e - 1) n w) w
      | no l ↦
          let w = guess_month n e h refl (omega arith) in
          rw (found e n w) w
    ]

-- a month ends on day 28, 29, 30 or 31
data Ends : ℕ → Type 0 where
  d28 : Ends 0x28
  d29 : Ends 0x29
  d30 : Ends 0x30
  d31 : Ends 0x31

ends : (month year : ℕ) → Ends (last_day_of month year)
unfolding last_day_of
ends month year =
    picked Ends (eqb month 0x02) (picked Ends (leap_of year) d29 d28)
    (picked Ends (eqb month 0x04) d30
    (picked Ends (eqb month 0x06) d30 (picked Ends (eqb month 0x09) d30 (picked Ends (eqb month 0x11) d30 d31))))

ends_field : {x : ℕ} → Ends x → Field 0x01 x
ends_field d28 = omega arith
ends_field d29 = omega arith
ends_field d30 = omega arith
ends_field d31 = omega arith

-- the days of every month are a field
pub day_field : (month year : ℕ) → Field 0x01 (last_day_of month year)
day_field month year = ends_field (ends month year)

ends_by : {x : ℕ} → Ends x → x ≤ 0x31
ends_by d28 = omega arith
ends_by d29 = omega arith
ends_by d30 = omega arith
ends_by d31 = omega arith

pub last_small : (month year : ℕ) → last_day_of month year ≤ 0x31
last_small month year = ends_by (ends month year)

pub days_small : (k : ℕ) → days_of k ≤ 31
unfolding days_of
days_small k = value_up (last_day_of (month_byte_of k) (year_byte_of k)) 0x31 (day_field (month_byte_of k) (year_byte_of k)).end.units (omega arith) (last_small (month_byte_of k) (year_byte_of k))
