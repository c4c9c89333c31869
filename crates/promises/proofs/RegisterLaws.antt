-- A law of registers is proved row by row, and the bits of 0Fh and 10h are the state's own. Assumes nothing.
use Rattle.std.proofs.Common.{◌≡◌, refl, sym, subst, Bool, true, false, ℕ, ◌/◌, ◌%◌, ◌≤◌, ◌<◌, arith, eqb, eqb→eq, eqb-true}
use Rattle.std.proofs.lemmas.Grind.{common_steps}
use Rattle.control.specs.Lock.{ctr1_of, ctr2_of}
use Rattle.control.proofs.BitLaws as bits
use Rattle.control.proofs.BitLaws.{ctr2}
use Rattle.sd2068.specs.declared.clock.Clock.{Clock}
use Rattle.sd2068.specs.Controls.{ints_of}
use Rattle.sd2068.specs.Reading.{control_at_of, register_of}
use Rattle.promises.specs.Registers.{bit}
use Rattle.fields.proofs.Bits.{each_bit}

-- what holds at k and at every other number holds at each
aside_by : (P : ℕ → Type 0) (k a : ℕ) (here : Bool) → eqb a k ≡ here → P k → (eqb a k ≡ false → P a) → P a
aside_by P k a true e p q = subst P (sym (eqb-true a k e)) p
aside_by P k a false e p q = q e

pub aside : (P : ℕ → Type 0) (k : ℕ) → P k → ((a : ℕ) → eqb a k ≡ false → P a) → (a : ℕ) → P a
aside P k p q a = aside_by P k a (eqb a k) refl p (q a)

pub aside_two :
    (P : ℕ → Type 0) (j k : ℕ) → P j → P k → ((a : ℕ) → eqb a j ≡ false → eqb a k ≡ false → P a) → (a : ℕ) → P a
aside_two P j k p q f a = aside_by P j a (eqb a j) refl p (λ e. aside_by P k a (eqb a k) refl q (f a e))

-- what holds of each of the six controls holds from 0Eh to 13h
controls : (P : ℕ → Type 0) → P 0x0E → P 0x0F → P 0x10 → P 0x11 → P 0x12 → P 0x13 → (a : ℕ) → 0x0E ≤ a → a < 0x14 → P a
controls P one two three four five six a l h = grind (arith, common_steps)

-- what holds of the time, of the alarm's fields, of each control, and of the RAM and past it, holds of every register
pub by_rows :
    (P : ℕ → Type 0) → ((a : ℕ) → a < 0x07 → P a) → ((a : ℕ) → 0x07 ≤ a → a < 0x0E → P a) →
    P 0x0E → P 0x0F → P 0x10 → P 0x11 → P 0x12 → P 0x13 → ((a : ℕ) → 0x14 ≤ a → P a) → (a : ℕ) → P a
by_rows P time fields one two three four five six rest a = grind (arith, common_steps)

module _ (c : Clock) where
  -- what holds of any bits of 0Fh, and of 10h, holds of the state's
  of_ctr1 :
      {P : Bool → Bool → Bool → Bool → Bool → Type 0} → ((a b c d e : Bool) → P a b c d e)
      → P c.lock.wrtc3 c.alarm.flag c.countdown.flag c.lock.wrtc2 c.rtcf
  of_ctr1 law = law c.lock.wrtc3 c.alarm.flag c.countdown.flag c.lock.wrtc2 c.rtcf

  of_ctr2 :
      {P : Bool → Bool → Bool → Bool → Bool → Bool → Bool → Bool → Type 0} → ((a b c d e f g h : Bool) → P a b c d e f g h)
      → P c.lock.wrtc1 c.control.im c.control.ints1 c.control.ints0 c.control.fobat c.control.intde c.control.intae c.control.intfe
  of_ctr2 law = grind (arith, common_steps)

  pub wrtc3 : bit 7 (register_of c 0x0F) ≡ c.lock.wrtc3
  unfolding register_of control_at_of ctr1_of
  wrtc3 = of_ctr1 bits.wrtc3

  pub intaf : bit 5 (register_of c 0x0F) ≡ c.alarm.flag
  unfolding register_of control_at_of ctr1_of
  intaf = of_ctr1 bits.intaf

  pub intdf : bit 4 (register_of c 0x0F) ≡ c.countdown.flag
  unfolding register_of control_at_of ctr1_of
  intdf = of_ctr1 bits.intdf

  pub wrtc2 : bit 2 (register_of c 0x0F) ≡ c.lock.wrtc2
  unfolding register_of control_at_of ctr1_of
  wrtc2 = of_ctr1 bits.wrtc2

  pub rtcf : bit 0 (register_of c 0x0F) ≡ c.rtcf
  unfolding register_of control_at_of ctr1_of
  rtcf = of_ctr1 bits.rtcf

  pub wrtc1 : bit 7 (register_of c 0x10) ≡ c.lock.wrtc1
  unfolding register_of control_at_of ctr2_of
  wrtc1 = of_ctr2 bits.wrtc1

  pub im : bit 6 (register_of c 0x10) ≡ c.control.im
  unfolding register_of control_at_of ctr2_of
  im = of_ctr2 bits.im

  pub ints1 : bit 5 (register_of c 0x10) ≡ c.control.ints1
  unfolding register_of control_at_of ctr2_of
  ints1 = of_ctr2 bits.ints1

  pub ints0 : bit 4 (register_of c 0x10) ≡ c.control.ints0
  unfolding register_of control_at_of ctr2_of
  ints0 = of_ctr2 bits.ints0

  pub fobat : bit 3 (register_of c 0x10) ≡ c.control.fobat
  unfolding register_of control_at_of ctr2_of
  fobat = of_ctr2 bits.fobat

  pub intde : bit 2 (register_of c 0x10) ≡ c.control.intde
  unfolding register_of control_at_of ctr2_of
  intde = of_ctr2 bits.intde

  pub intae : bit 1 (register_of c 0x10) ≡ c.control.intae
  unfolding register_of control_at_of ctr2_of
  intae = of_ctr2 bits.intae

  pub intfe : bit 0 (register_of c 0x10) ≡ c.control.intfe
  unfolding register_of control_at_of ctr2_of
  intfe = of_ctr2 bits.intfe

  pub ints : register_of c 0x10 / 16 % 4 ≡ ints_of c.control.ints1 c.control.ints0
  unfolding register_of control_at_of ctr2_of
  ints = eqb→eq _ _ (of_ctr2 (each_bit 8 (λ a b c d e f g h. eqb (ctr2 a b c d e f g h / 16 % 4) (ints_of c d)) tt))

  pub ctr3 : register_of c 0x11 ≡ c.control.ctr3
  unfolding register_of control_at_of
  ctr3 = refl
