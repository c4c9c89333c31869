-- A written byte gives the lock bits that its rules say, so it is stored by the registers exactly if by the state. Assumes nothing.
use Rattle.std.proofs.Common.{arith, ◌≡◌, refl, sym, ap, ◌∙◌, Bool, true, false, cond, ◌&&◌, not, ◌↔◌, ℕ, eqb}
use Rattle.std.proofs.lemmas.Grind.{common_steps}
use mathlib.Core.Bool.{and-false}
use Rattle.control.specs.Lock.{open_of, written_of, ctr1_of, ctr2_of}
use Rattle.control.proofs.BitLaws.{ctr1}
use Rattle.control.proofs.LockLaws.{open_shown}
use Rattle.sd2068.specs.declared.clock.Clock.{Clock}
use Rattle.sd2068.specs.Clock.{with_lock}
use Rattle.sd2068.specs.Reading.{control_at_of, register_of}
use Rattle.sd2068.specs.Writing.{stores_of}
use Rattle.sd2068.specs.Kept.{Unlocked}
use Rattle.sd2068.proofs.TrafficLaws.{open_unlocked}
use Rattle.promises.specs.Registers.{bit, put, lock_open}
use Rattle.promises.specs.Written.{locked_at, stores_at}
use Rattle.promises.proofs.BitLaws.{put_lock, put_wrtc1}
use Rattle.promises.proofs.RegisterLaws.{aside, aside_two, wrtc1}

-- 0Fh with the lock bits that a byte there gives, and with both cleared by 10h
module _ (two three intaf intdf rtcf : Bool) where
  abbrev before : ℕ
  before = ctr1 three intaf intdf two rtcf

  given : (one high low : Bool) → ctr1 (cond one high three) intaf intdf (cond one low two) rtcf ≡ cond one (put 7 high (put 2 low before)) before
  given true high low = sym (put_lock three intaf intdf two rtcf high low)
  given false high low = refl

  taken : (high : Bool) → ctr1 (high && three) intaf intdf (high && two) rtcf ≡ cond (not high) (put 7 false (put 2 false before)) before
  taken true = refl
  taken false = sym (put_lock three intaf intdf two rtcf false false)

module _ (c : Clock) (b : ℕ) where
  -- the state with the lock after the byte
  abbrev pub locked_by : ℕ → Clock
  locked_by p = with_lock c (written_of c.lock p b)

  -- register a with it
  abbrev pub Locked : ℕ → ℕ → Type 0
  Locked p a = register_of (locked_by p) a ≡ locked_at (register_of c) p b a

  by_ctr1_lem : Locked 0x0F 0x0F
  unfolding register_of control_at_of ctr1_of written_of locked_at
  by_ctr1_lem = grind (arith, common_steps, given, wrtc1)

  by_ctr1_other : (a : ℕ) → eqb a 0x0F ≡ false → Locked 0x0F a
  unfolding register_of control_at_of ctr2_of written_of locked_at
  by_ctr1_other a e = simp (e, and-false)

  by_ctr2_low : Locked 0x10 0x0F
  unfolding register_of control_at_of ctr1_of written_of locked_at
  by_ctr2_low = taken c.lock.wrtc2 c.lock.wrtc3 c.alarm.flag c.countdown.flag c.rtcf (bit 7 b)

  by_ctr2_lem : Locked 0x10 0x10
  unfolding register_of control_at_of ctr2_of written_of locked_at
  by_ctr2_lem =
      sym (put_wrtc1 c.lock.wrtc1 c.control.im c.control.ints1 c.control.ints0
      c.control.fobat c.control.intde c.control.intae c.control.intfe (bit 7 b))

  by_ctr2_other : (a : ℕ) → eqb a 0x0F ≡ false → eqb a 0x10 ≡ false → Locked 0x10 a
  unfolding register_of control_at_of written_of locked_at
  by_ctr2_other a e f = simp (e, f)

  by_other : (p : ℕ) → eqb p 0x0F ≡ false → eqb p 0x10 ≡ false → (a : ℕ) → Locked p a
  unfolding register_of control_at_of written_of locked_at
  by_other p e f a = simp (e, f, and-false)

  pub locked : (p a : ℕ) → Locked p a
  locked = grind (arith, common_steps, aside_two, aside, by_ctr1_lem, by_ctr1_other, by_ctr2_low, by_ctr2_lem, by_ctr2_other, by_other)

  pub locked_all : (p : ℕ) → register_of (locked_by p) ≡ locked_at (register_of c) p b
  locked_all p = λ i. λ (a : ℕ). locked p a i

-- the state's lock is open exactly if its registers show it
open_law : (c : Clock) → open_of c.lock ≡ lock_open (register_of c)
unfolding register_of control_at_of
open_law c = open_shown c.lock c.alarm.flag c.countdown.flag c.rtcf c.control

pub unlocked_bits : (c : Clock) → Unlocked c ↔ (lock_open (register_of c) ≡ true)
unlocked_bits c = (λ u. sym (open_law c) ∙ simp (u.wrtc1, u.wrtc2, u.wrtc3), λ e. open_unlocked c (open_law c ∙ e))

-- so a byte is stored by the one exactly if by the others
pub stores_law : (c : Clock) (p b : ℕ) → stores_of c p b ≡ stores_at (register_of c) p b
unfolding stores_at
stores_law c p b =
    ap (λ (o : Bool). o && open_of (written_of c.lock p b)) (open_law c)
    ∙ ap (λ (o : Bool). lock_open (register_of c) && o) (open_law (locked_by c b p) ∙ ap lock_open (locked_all c b p))
