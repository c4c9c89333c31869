-- The laws of the hours: both rows of codes are one to one, and a step goes on along its row. Assumes nothing.
use mathlib.Core.Path.{◌≡◌, refl, sym, ◌∙◌, ap}
use mathlib.Core.Bool.{Bool, true, false, cond}
use mathlib.Core.List.{List, [], ◌∷◌}
use Prim.Native.Nat.{ℕ, suc, ◌+◌, ◌/◌, ◌%◌, ◌≤◌, ◌<◌}
use native.Mathlib.Decide.{dec_lt}
use native.Mathlib.Nat.{le_of_suc-le-suc, not-suc-le-zero}
use native.Mathlib.Omega.{arith}
use lib.Dec.{leb, ltb, eqb, ltb→lt, leb→le}
use lib.ListN.{length, get_or, get_or-eq_default}
use borrow.Author.Tests.{eqb-true, eq-eqb, lt-ltb, le-ltb, ne_eqb}
use Rattle.fields.specs.Hours.{mode_of, first_hour, codes, place_of, hour_number_of, hour_byte_of, next_hour_of}
use Rattle.fields.specs.declared.hours.HourMode.{HourMode}
use Rattle.fields.specs.declared.hours.HourMode.TheVariants.{Twelve, TwentyFour}
use Rattle.fields.proofs.Below.{agree, each}
use Rattle.fields.proofs.HourCodes.{codes_24}

-- what stands at the place of x is x
there : (b : Bool) (x c p d : ℕ) (cs : List ℕ) → (b ≡ true → x ≡ c) → (p < length cs → get_or cs p d ≡ x) → cond b 0 (suc p) < suc (length cs) → get_or (c ∷ cs) (cond b 0 (suc p)) d ≡ x
there true x c p d cs same rest h = sym (same refl)
there false x c p d cs same rest h = rest (le_of_suc-le-suc h)

at_place : (x d : ℕ) (l : List ℕ) → place_of x l < length l → get_or l (place_of x l) d ≡ x
unfolding place_of
at_place x d [] h = absurd (not-suc-le-zero h)
at_place x d (c ∷ cs) h = there (eqb x c) x c (place_of x cs) d cs (eqb-true x c) (at_place x d cs) h

-- the number of a code is its place
place_at : (m : HourMode) (n : ℕ) → n < 24 → place_of (hour_byte_of m n) (codes m) ≡ n
unfolding codes place_of hour_byte_of
place_at Twelve = agree (λ (n : ℕ). place_of (hour_byte_of Twelve n) (codes Twelve)) (λ (n : ℕ). n) 24 tt
place_at TwentyFour = agree (λ (n : ℕ). place_of (hour_byte_of TwentyFour n) (codes TwentyFour)) (λ (n : ℕ). n) 24 tt

past : (m : HourMode) (n : ℕ) → 24 ≤ n → hour_byte_of m n ≡ first_hour m
unfolding hour_byte_of
past m n h = get_or-eq_default (codes m) (first_hour m) (rw (codes_24 m) h)

-- bit 7 of every code is its mode's
mode_code : (m : HourMode) (n : ℕ) → n < 24 → mode_of (hour_byte_of m n) ≡ m
unfolding codes hour_byte_of
mode_code Twelve n h =
    let b = ltb→lt (hour_byte_of Twelve n) 0x80 (each (λ (k : ℕ). ltb (hour_byte_of Twelve k) 0x80) 24 tt n h) in
    simp (lt-ltb (hour_byte_of Twelve n) 0x80 b)
mode_code TwentyFour n h =
    let b = leb→le 0x80 (hour_byte_of TwentyFour n) (each (λ (k : ℕ). leb 0x80 (hour_byte_of TwentyFour k)) 24 tt n h) in
    simp (le-ltb (hour_byte_of TwentyFour n) 0x80 b)

pub mode_first : (m : HourMode) → mode_of (first_hour m) ≡ m
mode_first Twelve = refl
mode_first TwentyFour = refl

pub mode_byte : (m : HourMode) (n : ℕ) → mode_of (hour_byte_of m n) ≡ m
mode_byte m n = elim (dec_lt n 24) [ yes h ↦ mode_code m n h | no h ↦ rw (past m n (omega arith)) (mode_first m) ]

pub number_byte : (m : HourMode) (n : ℕ) → n < 24 → hour_number_of (hour_byte_of m n) ≡ n
unfolding hour_number_of
number_byte m n h = rw (mode_byte m n) (place_at m n h)

pub byte_number : (h : ℕ) → hour_number_of h < 24 → hour_byte_of (mode_of h) (hour_number_of h) ≡ h
unfolding hour_number_of hour_byte_of
byte_number h l = at_place h (first_hour (mode_of h)) (codes (mode_of h)) (rw (codes_24 (mode_of h)) l)

pub number_first : (m : HourMode) → hour_number_of (first_hour m) ≡ 0
unfolding hour_number_of codes place_of
number_first Twelve = refl
number_first TwentyFour = refl

-- the mode never changes by itself
pub mode_next : (h : ℕ) → mode_of (next_hour_of h) ≡ mode_of h
unfolding next_hour_of
mode_next h = mode_byte (mode_of h) (hour_number_of h + 1)

-- the step's one law, as a field's: on within the day, or over its end to midnight
pub data HourStepped (h s : ℕ) : Type 0 where
  later : hour_number_of h < 23 → hour_number_of s ≡ hour_number_of h + 1 → eqb s (first_hour (mode_of s)) ≡ false → HourStepped h s
  turns : (hour_number_of h < 24 → hour_number_of h ≡ 23) → s ≡ first_hour (mode_of h) → eqb s (first_hour (mode_of s)) ≡ true → HourStepped h s

module _ (h : ℕ) where
  on_code : hour_number_of h + 1 < 24 → HourStepped h (next_hour_of h)
  unfolding next_hour_of
  on_code l =
      let s = hour_byte_of (mode_of h) (hour_number_of h + 1) in
      let n = number_byte (mode_of h) (hour_number_of h + 1) l in
      later (omega arith) n
      (ne_eqb s (first_hour (mode_of s))
      (λ (e : s ≡ first_hour (mode_of s)).
      let z : hour_number_of s ≡ 0 = ap hour_number_of e ∙ number_first (mode_of s) in
      omega arith))

  over_code : 24 ≤ hour_number_of h + 1 → HourStepped h (next_hour_of h)
  unfolding next_hour_of
  over_code l =
      let s = hour_byte_of (mode_of h) (hour_number_of h + 1) in
      let e = past (mode_of h) (hour_number_of h + 1) l in
      turns (λ b. omega arith) e (eq-eqb s (first_hour (mode_of s)) (e ∙ ap first_hour (sym (mode_byte (mode_of h) (hour_number_of h + 1)))))

  pub hour_stepped : HourStepped h (next_hour_of h)
  hour_stepped = elim (dec_lt (hour_number_of h + 1) 24) [ yes l ↦ on_code l | no l ↦ over_code (omega arith) ]

-- no code has bit 6
byte_bit : (m : HourMode) (n : ℕ) → n < 24 → hour_byte_of m n / 64 % 2 ≡ 0
unfolding codes hour_byte_of
byte_bit Twelve = agree (λ (n : ℕ). hour_byte_of Twelve n / 64 % 2) (λ (n : ℕ). 0) 24 tt
byte_bit TwentyFour = agree (λ (n : ℕ). hour_byte_of TwentyFour n / 64 % 2) (λ (n : ℕ). 0) 24 tt

pub legal_hour_bit : (h : ℕ) → hour_number_of h < 24 → h / 64 % 2 ≡ 0
legal_hour_bit h l = ap (λ (x : ℕ). x / 64 % 2) (sym (byte_number h l)) ∙ byte_bit (mode_of h) (hour_number_of h) l

-- and every step ends at a code
hour_ends : (h s : ℕ) → HourStepped h s → hour_number_of s < 24
hour_ends h s (later b n t) = omega arith
hour_ends h s (turns b n t) = rw n (omega (arith, number_first (mode_of h)))

pub next_legal : (h : ℕ) → hour_number_of (next_hour_of h) < 24
next_legal h = hour_ends h (next_hour_of h) (hour_stepped h)

pub next_hour_bit : (h : ℕ) → next_hour_of h / 64 % 2 ≡ 0
next_hour_bit h = legal_hour_bit (next_hour_of h) (next_legal h)
