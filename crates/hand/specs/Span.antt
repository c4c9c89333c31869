-- Whole seconds in a number of pulses, and a time some seconds on, by arithmetic alone. (rules 3.14 to 3.16, 4.2 and 4.3)
use Rattle.std.specs.Prelude.{◌≡◌, cond, ◌||◌, ℕ, zero, suc, ◌+◌, ◌-◌, ◌*◌, ◌/◌, ◌%◌, ◌≤◌, ◌<◌, ltb, eqb, Some}
use Rattle.fields.specs.Digits.{value_of}
use Rattle.fields.specs.Hours.{mode_of}
use Rattle.calendar.specs.declared.time.Time.{Time}
use Rattle.calendar.specs.Numbers.{number_of}

-- the pulses of a trimmed second for the low seven bits F of 12h
abbrev pub trimmed_span : ℕ → ℕ
trimmed_span f =
    cond (ltb f 2) 32768
    (cond (ltb f 64) (32768 + 2 * (f - 1))
    (cond (ltb f 66) 32768
    (32768 - 2 * (128 - f))))

-- the pulses of a second that shows the value s, by the trim byte: 0, 20 and 40 are trimmed
unfoldable pub second_span : ℕ → ℕ → ℕ
second_span trim s = cond (eqb s 0 || eqb s 20 || eqb s 40) (trimmed_span (trim % 128)) 32768

-- the pulses of the first n seconds that begin at the value s
unfoldable pub span_of : ℕ → ℕ → ℕ → ℕ
span_of trim s zero = 0
span_of trim s (suc n) = span_of trim s n + second_span trim ((s + n) % 60)

-- n is the most whole seconds that fit into the pulses
pub record Most (trim s pulses n : ℕ) : Type 0 where
  pub fits : span_of trim s n ≤ pulses
  pub largest : (m : ℕ) → span_of trim s m ≤ pulses → m ≤ n

-- a time with a legal weekday and the second number k
pub record Legal (t : Time) (k : ℕ) : Type 0 where
  pub number : number_of t ≡ Some k
  pub weekday : t.weekday < 7

-- u is n seconds after t, whose second number is k
pub record SecondsOn (t : Time) (k n : ℕ) (u : Time) : Type 0 where
  pub number : number_of u ≡ Some ((k + n) % 3155760000)
  pub mode : mode_of u.hours ≡ mode_of t.hours
  pub weekday : u.weekday ≡ (t.weekday + ((k + n) / 86400 - k / 86400)) % 7

-- u is after t by the whole seconds in p pulses
pub record Counted (t : Time) (k trim p : ℕ) (u : Time) : Type 0 where
  pub seconds : ℕ
  pub most : Most trim (value_of t.seconds) p seconds
  pub later : SecondsOn t k seconds u
