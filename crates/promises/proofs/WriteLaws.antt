-- A data byte gives its lock bits and is then stored or not: so all registers and the numbers inside are as said. Assumes nothing.
use Rattle.std.proofs.Common.{◌≡◌, ap, ◌∙◌, Bool, true, false, cond, ◌&&◌, ◌||◌, ℕ, ◌<◌, arith, eqb, ltb, length}
use Rattle.std.proofs.lemmas.Grind.{common_steps}
use Rattle.hand.specs.Hand as hand
use Rattle.alarm.specs.Alarm as alarm
use Rattle.countdown.specs.Countdown as countdown
use Rattle.control.specs.Lock.{written_of}
use Rattle.sd2068.specs.declared.clock.Clock.{Clock}
use Rattle.sd2068.specs.Reading.{register_of}
use Rattle.sd2068.specs.Writing.{stores_of, written_by, write_of}
use Rattle.promises.specs.Registers.{bit, Inner, inner_of}
use Rattle.promises.specs.Written.{locked_at, stored_at, written_at, written_inner}
use Rattle.promises.proofs.LockLaws.{locked_by, locked, locked_all, stores_law}
use Rattle.promises.proofs.StoreLaws.{stored}

-- the second counter and the prescaler after a stored byte
counter_put : (p n : ℕ) (low : Bool) → ltb p 0x07 ≡ low → cond low (hand.restarted_of n p) n ≡ cond (eqb p 0x00) 0 n
counter_put p n low e = grind (arith, common_steps)

prescaler_put : (count source : Bool) (n : ℕ) → cond count 0 (cond source 0 n) ≡ cond (source || count) 0 n
prescaler_put count source n = grind (arith, common_steps)

module _ (c : Clock) (p b : ℕ) where
  -- what the numbers inside are, by whether the byte is stored
  abbrev inner_by : Bool → Inner
  inner_by stores =
      record {
        counter = cond (stores && eqb p 0x00) 0 c.hand.counter;
        reload = cond (stores && eqb p 0x13) b c.countdown.reload;
        prescaler = cond (stores && (eqb p 0x11 || eqb p 0x13)) 0 c.countdown.prescaler;
        alarm_pulse = c.alarm.pulse;
        countdown_pulse = c.countdown.pulse;
        divider = c.divider;
      }

  inner_by_lem : (stores : Bool) → inner_of (written_by stores c p b) ≡ inner_by stores
  unfolding hand.stored_of alarm.stored_of countdown.stored_of
  inner_by_lem stores = grind (arith, common_steps, counter_put, prescaler_put)

  pub write_inner : inner_of (write_of c p b) ≡ written_inner (register_of c) p b (inner_of c)
  unfolding write_of written_inner
  write_inner = inner_by_lem (stores_of c p b) ∙ ap inner_by (stores_law c p b)

  -- WRTC1 after a byte at 10h
  highest : p ≡ 0x10 → (written_of c.lock p b).wrtc1 ≡ bit 7 b
  unfolding written_of
  highest e = ap (λ (n : ℕ). (written_of c.lock n b).wrtc1) e

  module _ (full : length c.ram ≡ 12) (s : p < 0x20) (h : b < 256) where
    write_by :
        (stores : Bool) (a : ℕ) →
        register_of (written_by stores c p b) a ≡ cond stores (stored_at (locked_at (register_of c) p b) p b a) (locked_at (register_of c) p b a)
    write_by true a = stored (locked_by c b p) p b full s h highest a ∙ ap (λ (r : ℕ → ℕ). stored_at r p b a) (locked_all c b p)
    write_by false a = locked c b p a

    pub write_at : (a : ℕ) → register_of (write_of c p b) a ≡ written_at (register_of c) p b a
    unfolding write_of written_at
    write_at a = grind (arith, common_steps, write_by, stores_law)
