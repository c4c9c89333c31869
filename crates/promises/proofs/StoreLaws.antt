-- A stored byte moves each register as its rules say, one row at a time. Assumes nothing.
use Rattle.std.proofs.Common.{◌≡◌, refl, sym, Bool, true, false, cond, List, ℕ, ◌-◌, ◌≤◌, ◌<◌, arith, eqb, ltb, length, get_or, set, eqb-true, ltb-true, ltb-false, eq-eqb, ne_eqb, lt-ltb}
use native.Mathlib.Decide.{dec_lt}
use borrow.Author.Tests.{eqb-false}
use Rattle.std.proofs.lemmas.Grind.{common_steps}
use Rattle.calendar.specs.declared.time.Time.{Time}
use Rattle.registers.specs.Fixed.{kept_control, kept_of}
use Rattle.registers.specs.Seven.{byte_at_of, with_byte_of}
use Rattle.hand.specs.Hand as hand
use Rattle.alarm.specs.Alarm as alarm
use Rattle.countdown.specs.Countdown as countdown
use Rattle.control.specs.declared.control.Control.{Control}
use Rattle.control.specs.Control as control
use Rattle.control.specs.Lock.{ctr1_of, ctr2_of}
use Rattle.control.proofs.BitLaws.{ctr2}
use Rattle.sd2068.specs.declared.clock.Clock.{Clock}
use Rattle.sd2068.specs.Reading.{control_at_of, register_of}
use Rattle.sd2068.specs.Writing.{ram_stored_of}
use Rattle.promises.specs.Registers.{bit}
use Rattle.promises.specs.Written.{stored_at}
use Rattle.promises.proofs.BitLaws.{put_intaf, put_flags, summed_same}
use Rattle.promises.proofs.RegisterLaws.{by_rows, aside_two, intaf, intdf}

-- seven bytes after one of them was replaced
seven_put : (t : Time) (j k i : ℕ) → i < 7 → byte_at_of (with_byte_of t j k) i ≡ cond (eqb j i) k (byte_at_of t i)
unfolding byte_at_of with_byte_of
seven_put t j k = grind (arith, common_steps)

-- the time, with a byte stored at p
time_put :
    (t : Time) (p k a : ℕ) → a < 0x07 → (low : Bool) → ltb p 0x07 ≡ low →
    byte_at_of (cond low (with_byte_of t p k) t) a ≡ cond (eqb p a) k (byte_at_of t a)
time_put t p k a h true e = seven_put t p k a h
time_put t p k a h false e = simp (ne_eqb p a (λ x. omega (arith, ltb-false p 0x07 e)))

-- the alarm's fields, which begin at 07h
fields_same : (p a : ℕ) → 0x07 ≤ p → 0x07 ≤ a → (same : Bool) → eqb p a ≡ same → eqb (p - 7) (a - 7) ≡ same
fields_same p a l h true e = eq-eqb (p - 7) (a - 7) (omega (arith, eqb-true p a e))
fields_same p a l h false e = ne_eqb (p - 7) (a - 7) (λ x. eqb-false p a e (omega arith))

fields_put :
    (t : Time) (p k a : ℕ) → 0x07 ≤ a → a < 0x0E → (low mid : Bool) → ltb p 0x07 ≡ low → ltb p 0x0E ≡ mid →
    byte_at_of (cond low t (cond mid (with_byte_of t (p - 7) k) t)) (a - 7) ≡ cond (eqb p a) k (byte_at_of t (a - 7))
fields_put t p k a l h low mid e f = grind (arith, common_steps, seven_put, fields_same)

-- from 13h on no register has a fixed bit
kept_whole : (p b : ℕ) → 0x13 ≤ p → kept_of p b ≡ b
unfolding kept_of kept_control
kept_whole p b h = grind (arith, common_steps)

-- the RAM, which begins at 14h
module _ (ram : List ℕ) (full : length ram ≡ 12) (p b : ℕ) (s : p < 0x20) where
  ram_set : 0x14 ≤ p → (a : ℕ) → 0x14 ≤ a → (same : Bool) → eqb p a ≡ same →
      get_or (set ram (p - 0x14) b) (a - 0x14) 0 ≡ cond same (kept_of p b) (get_or ram (a - 0x14) 0)
  ram_set l a h same e = grind (arith, common_steps, kept_whole)

  ram_put : (a : ℕ) → 0x14 ≤ a → (low : Bool) → ltb p 0x14 ≡ low →
      get_or (ram_stored_of ram p b) (a - 0x14) 0 ≡ cond (eqb p a) (kept_of p b) (get_or ram (a - 0x14) 0)
  unfolding ram_stored_of
  ram_put a l true e = simp (e, ne_eqb p a (λ x. omega (arith, ltb-true p 0x14 e)))
  ram_put a l false e = simp (e, lt-ltb p 0x20 s) (ram_set (ltb-false p 0x14 e) a l (eqb p a) refl)

-- all of the state but its lock, with byte b stored at p
abbrev pub stored_by : Clock → ℕ → ℕ → Clock
stored_by c p b =
    record {
      hand = hand.stored_of c.hand p b;
      alarm = alarm.stored_of c.alarm p b;
      countdown = countdown.stored_of c.countdown p b;
      lock = c.lock;
      control = control.stored_of c.control p b;
      rtcf = c.rtcf;
      ram = ram_stored_of c.ram p b;
      latched = c.latched;
      divider = c.divider;
      bus = c.bus;
    }

module _ (c : Clock) (p b : ℕ) where
  -- register a after the byte
  abbrev pub Stored : ℕ → Type 0
  Stored a = register_of (stored_by c p b) a ≡ stored_at (register_of c) p b a

  time_row : (a : ℕ) → a < 0x07 → Stored a
  unfolding register_of control_at_of hand.stored_of stored_at
  time_row a h =
      simp (lt-ltb a 0x07 h, ne_eqb a 0x0F (λ e. omega arith)) (time_put c.hand.time p (kept_of p b) a h (ltb p 0x07) refl)

  alarm_row : (a : ℕ) → 0x07 ≤ a → a < 0x0E → Stored a
  unfolding register_of control_at_of alarm.stored_of stored_at
  alarm_row a l h = grind (arith, common_steps, fields_put)

  enable_row : Stored 0x0E
  unfolding register_of control_at_of alarm.stored_of stored_at
  enable_row = refl

  trim_row : Stored 0x12
  unfolding register_of control_at_of hand.stored_of stored_at
  trim_row = refl

  past_row : (a : ℕ) → p < 0x20 → 0x20 ≤ a → Stored a
  unfolding register_of control_at_of stored_at
  past_row a s h = grind (arith, common_steps)

  ram_row : length c.ram ≡ 12 → p < 0x20 → (a : ℕ) → 0x14 ≤ a → a < 0x20 → Stored a
  unfolding register_of control_at_of stored_at
  ram_row full s a l h = grind (arith, common_steps, ram_put)

  count_by : (here : Bool) → eqb p 0x13 ≡ here → cond here b c.countdown.count ≡ cond here (kept_of p b) c.countdown.count
  count_by true e = sym (kept_whole p b (omega (arith, eqb-true p 0x13 e)))
  count_by false e = refl

  count_row : Stored 0x13
  unfolding register_of control_at_of countdown.stored_of stored_at
  count_row = count_by (eqb p 0x13) refl

  -- 10h and 11h, by whether the byte is at the one or at the other
  abbrev control_by : Bool → Bool → Control
  control_by ctr2 ctr3 = cond ctr2 (control.by_ctr2 c.control b) (cond ctr3 (control.by_ctr3 c.control (kept_of p b)) c.control)

  ctr3_by : (here there : Bool) → eqb p 0x11 ≡ here → eqb p 0x10 ≡ there → (control_by there here).ctr3 ≡ cond here (kept_of p b) c.control.ctr3
  ctr3_by here there e h = grind (arith, common_steps)

  ctr3_row : Stored 0x11
  unfolding register_of control_at_of control.stored_of stored_at
  ctr3_row = ctr3_by (eqb p 0x11) (eqb p 0x10) refl refl

  module _ (h : b < 256) (w : p ≡ 0x10 → c.lock.wrtc1 ≡ bit 7 b) where
    ctr2_by : (here there : Bool) → eqb p 0x10 ≡ here → ctr2_of c.lock (control_by here there) ≡ cond here (kept_of p b) (ctr2_of c.lock c.control)
    unfolding ctr2_of kept_of kept_control
    ctr2_by here there e = grind (arith, common_steps, ctr2, summed_same)

    ctr2_row : Stored 0x10
    unfolding register_of control_at_of control.stored_of stored_at
    ctr2_row = ctr2_by (eqb p 0x10) (eqb p 0x11) refl

module _ (c : Clock) (b : ℕ) where
  flags_row : Stored c 0x0F b 0x0F
  unfolding register_of control_at_of ctr1_of alarm.stored_of countdown.stored_of stored_at
  flags_row = grind (arith, common_steps, intaf, intdf, put_flags)

  intaf_row : Stored c 0x0E b 0x0F
  unfolding register_of control_at_of ctr1_of alarm.stored_of countdown.stored_of stored_at
  intaf_row = sym (put_intaf c.lock.wrtc3 c.alarm.flag c.countdown.flag c.lock.wrtc2 c.rtcf false)

  other_row : (p : ℕ) → eqb p 0x0F ≡ false → eqb p 0x0E ≡ false → Stored c p b 0x0F
  unfolding register_of control_at_of alarm.stored_of countdown.stored_of stored_at
  other_row p e f = simp (e, f)

  ctr1_row : (p : ℕ) → Stored c p b 0x0F
  ctr1_row = aside_two (λ (p : ℕ). Stored c p b 0x0F) 0x0F 0x0E flags_row intaf_row other_row

module _ (c : Clock) (p b : ℕ) (full : length c.ram ≡ 12) (s : p < 0x20) (h : b < 256) where
  rest_row : (a : ℕ) → 0x14 ≤ a → Stored c p b a
  rest_row a l = elim (dec_lt a 0x20) [ yes m ↦ ram_row c p b full s a l m | no m ↦ past_row c p b a s (omega arith) ]

  pub stored : (p ≡ 0x10 → c.lock.wrtc1 ≡ bit 7 b) → (a : ℕ) → Stored c p b a
  stored w = grind (arith, common_steps, by_rows, time_row, alarm_row, enable_row, ctr1_row, ctr2_row, ctr3_row, trim_row, count_row, rest_row)
