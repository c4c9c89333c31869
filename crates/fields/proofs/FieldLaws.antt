-- The laws of a BCD field, which hide its digits from everyone above. Assumes nothing.
use mathlib.Core.Path.{◌≡◌, refl, sym}
use mathlib.Core.Bool.{Bool, true, false, cond, ◌&&◌, true≢false}
use Prim.Native.Nat.{ℕ, ◌+◌, ◌*◌, ◌/◌, ◌%◌, ◌≤◌, ◌<◌}
use native.Mathlib.Omega.{arith}
use lib.Arith.{digits_div, digits_mod}
use native.Mathlib.Nat.{mod-eq_of_lt}
use lib.Dec.{leb, ltb, eqb}
use borrow.Author.Tests.{lt-ltb, le-leb, ltb-true, leb-true, ltb-false, ne_eqb}
use native.Mathlib.Decide.{dec_lt}
use mathlib.Core.Logic.{◌⊎◌, inl, inr}
use Rattle.fields.proofs.Below.{agree}
use Rattle.fields.specs.Digits.{value_of, byte_of, legal_of, step_of}

-- what it is to be legal, as facts
pub record Held (first last x : ℕ) : Type 0 where
  pub units : x % 16 < 10
  pub tens : x / 16 < 10
  pub low : first ≤ x
  pub high : x ≤ last

pub and_left : (a b : Bool) → a && b ≡ true → a ≡ true
and_left true b e = refl
and_left false b e = e

pub and_right : (a b : Bool) → a && b ≡ true → b ≡ true
and_right true b e = e
and_right false b e = absurd (true≢false (sym e))

pub and_false : (a b : Bool) → a ≡ true → a && b ≡ false → b ≡ false
and_false true b p e = e
and_false false b p e = absurd (true≢false (sym p))

module _ (first last x : ℕ) where
  pub held : legal_of first last x ≡ true → Held first last x
  held e =
      let a = ltb (x % 16) 10 in
      let b = ltb (x / 16) 10 in
      let l = leb first x in
      let h = leb x last in
      record {
        units = ltb-true (x % 16) 10 (and_left a b (and_left (a && b) l (and_left (a && b && l) h e)));
        tens = ltb-true (x / 16) 10 (and_right a b (and_left (a && b) l (and_left (a && b && l) h e)));
        low = leb-true first x (and_right (a && b) l (and_left (a && b && l) h e));
        high = leb-true x last (and_right (a && b && l) h e);
      }

  pub legal_held : Held first last x → legal_of first last x ≡ true
  legal_held h = simp (lt-ltb _ _ h.units, lt-ltb _ _ h.tens, le-leb _ _ h.low, le-leb _ _ h.high)

byte_digits : (q r : ℕ) → q < 10 → r < 10 → byte_of (q * 10 + r) ≡ q * 16 + r
byte_digits q r hq hr = simp (digits_div q hr, digits_mod q hr, mod-eq_of_lt hq)

pub byte_value : (x : ℕ) → x % 16 < 10 → x / 16 < 10 → byte_of (value_of x) ≡ x
byte_value x u t = omega arith

pub value_byte : (n : ℕ) → n < 100 → value_of (byte_of n) ≡ n
value_byte = agree (λ (n : ℕ). value_of (byte_of n)) (λ (n : ℕ). n) 100 tt

-- a field whose first and last values are digits, in their order
pub record Field (first last : ℕ) : Type 0 where
  pub begin : Held first last first
  pub end : Held first last last

pub sixty : Field 0x00 0x59
sixty = omega arith

pub twelve : Field 0x01 0x12
twelve = omega arith

pub hundred : Field 0x00 0x99
hundred = omega arith

-- bytes are ordered as their values
pub value_le : (x y : ℕ) → x % 16 < 10 → y % 16 < 10 → value_of x ≤ value_of y → x ≤ y
value_le x y hx hy h = omega arith

pub value_up : (x y : ℕ) → x % 16 < 10 → y % 16 < 10 → x ≤ y → value_of x ≤ value_of y
value_up x y hx hy h = omega arith

pub byte_held : (first last n : ℕ) → Field first last → value_of first ≤ n → n ≤ value_of last → Held first last (byte_of n)
byte_held first last n f low high =
    let v : value_of (byte_of n) ≡ n = value_byte n (omega arith) in
    record {
      units = omega arith;
      tens = omega arith;
      low = value_le first (byte_of n) f.begin.units (omega arith) (rw v low);
      high = value_le (byte_of n) last (omega arith) f.end.units (rw v high);
    }

-- the step's one law: up within the field, or over its end to the first value
pub data Stepped (first last x s : ℕ) : Type 0 where
  up : Held first last x → x < last → Held first last s → value_of s ≡ value_of x + 1 → eqb s first ≡ false → Stepped first last x s
  over : (Held first last x → x ≡ last) → s ≡ first → Stepped first last x s

-- the byte after x: the next one, or past the six that are no digits
Next : ℕ → ℕ → Type 0
Next x s = ((x % 16 < 9) × (s ≡ x + 1)) ⊎ ((x % 16 ≡ 9) × (s ≡ x + 7))

after : (x : ℕ) → x % 16 < 10 → x < 0x99 → Next x (byte_of (value_of x + 1))
unfolding Next
after x u b =
    elim (dec_lt (x % 16) 9) [
      | yes h ↦
          let n : value_of x + 1 ≡ x / 16 * 10 + (x % 16 + 1) = omega arith in
          inl (h, rw (n, byte_digits (x / 16) (x % 16 + 1) (omega arith) (omega arith)) (omega arith))
      | no h ↦
          let n : value_of x + 1 ≡ (x / 16 + 1) * 10 + 0 = omega arith in
          inr (omega arith, rw (n, byte_digits (x / 16 + 1) 0 (omega arith) (omega arith)) (omega arith))
    ]

module _ (first last x : ℕ) (l : Held first last last) (h : Held first last x) (b : x < last) where
  after_held : (s : ℕ) → Next x s → (Held first last s) × (first < s)
  unfolding Next
  after_held s (inl w) = (record { units = omega arith; tens = omega arith; low = omega arith; high = omega arith }, omega arith)
  after_held s (inr w) = (record { units = omega arith; tens = omega arith; low = omega arith; high = omega arith }, omega arith)

  going_up : Stepped first last x (byte_of (value_of x + 1))
  going_up =
      let n = byte_of (value_of x + 1) in
      let w = after_held n (after x h.units (omega arith)) in
      up h b w.0 (value_byte (value_of x + 1) (omega arith)) (ne_eqb n first (λ e. omega arith))

module _ (first last x : ℕ) (f : Field first last) where
  by_test : (t : Bool) → legal_of first last x && ltb x last ≡ t → Stepped first last x (cond t (byte_of (value_of x + 1)) first)
  by_test true e =
      going_up first last x f.end (held first last x (and_left (legal_of first last x) (ltb x last) e)) (ltb-true x last (and_right (legal_of first last x) (ltb x last) e))
  by_test false e =
      over
      (λ (h : Held first last x).
      let n : last ≤ x = ltb-false x last (and_false (legal_of first last x) (ltb x last) (legal_held first last x h) e) in
      omega arith)
      refl

  pub stepped : Stepped first last x (step_of first last x)
  unfolding step_of
  stepped = by_test (legal_of first last x && ltb x last) refl
