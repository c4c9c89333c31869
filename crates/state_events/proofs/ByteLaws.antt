-- What a read shows of a state is a byte, and every event on bytes keeps it so. Assumes nothing.
use mathlib.Core.Path.{◌≡◌, refl}
use mathlib.Core.Bool.{Bool, true, false, cond, ◌&&◌}
use mathlib.Core.List.{List, [], ◌∷◌}
use Prim.Native.Nat.{ℕ, zero, suc, ◌+◌, ◌-◌, ◌<◌}
use native.Mathlib.Omega.{arith}
use lib.Dec.{eqb, ltb, ltb→lt}
use lib.ListN.{get_or, set}
use borrow.Author.Tests.{ltb-true}
use Rattle.std.proofs.lemmas.Grind.{common_steps}
use Rattle.fields.specs.declared.hours.HourMode.{HourMode}
use Rattle.fields.specs.declared.hours.HourMode.TheVariants.{Twelve, TwentyFour}
use Rattle.fields.specs.Digits as digits
use Rattle.fields.specs.Digits.{legal_of}
use Rattle.fields.specs.Hours.{mode_of, first_hour, codes, hour_number_of, hour_byte_of, next_hour_of}
use Rattle.fields.specs.Times.{next_time_of, midnight_of}
use Rattle.fields.proofs.FieldLaws.{and_left, and_right}
use Rattle.fields.proofs.Picked.{picked}
use Rattle.fields.proofs.Bits.{each_bit}
use Rattle.dates.specs.Months.{last_day_of}
use Rattle.dates.specs.Dates.{next_date_of}
use Rattle.calendar.specs.declared.time.Time.{Time}
use Rattle.calendar.specs.Advance.{clock_of, advance_of}
use Rattle.calendar.specs.Repeat.{times}
use Rattle.calendar.specs.Weekdays.{next_weekday_of}
use Rattle.calendar.proofs.WeekdayLaws.{next_small}
use Rattle.registers.specs.Fixed.{kept_time, kept_alarm, kept_control, kept_of}
use Rattle.registers.specs.Seven.{bytes_of, byte_at_of, with_byte_of}
use Rattle.hand.specs.Hand as hand
use Rattle.alarm.specs.Alarm as alarm
use Rattle.countdown.specs.Countdown as countdown
use Rattle.control.specs.declared.control.Control.{Control}
use Rattle.control.specs.Lock.{ctr1_of, ctr2_of}
use Rattle.control.specs.Control as control
use Rattle.control.specs.Pin.{bell_of, output_of}
use Rattle.control.proofs.BitLaws.{ctr1, ctr2}
use Rattle.bus.specs.declared.phase.Bus.{Bus}
use Rattle.bus.specs.declared.bytes.Effect.{Effect}
use Rattle.bus.specs.declared.bytes.Effect.TheVariants as effect
use Rattle.std.specs.Prelude.{Option, Some, None}
use Rattle.bus.specs.Bytes.{heard_of}
use Rattle.bus.specs.Reads as reads
use Rattle.sd2068.specs.declared.clock.Clock.{Clock}
use Rattle.sd2068.specs.declared.answers.Answered.{Answered}
use Rattle.sd2068.specs.Clock.{with_latched, with_bus}
use Rattle.sd2068.specs.Controls.{ints_of, tds_of}
use Rattle.sd2068.specs.Power.{powered_of, lost_of}
use Rattle.sd2068.specs.Pin.{pin_of}
use Rattle.sd2068.specs.Pulse.{pulse_of, pulses_of}
use Rattle.sd2068.specs.Reading.{control_at_of, register_of, shown_of}
use Rattle.sd2068.specs.Writing.{ram_stored_of, stores_of, written_by, write_of}
use Rattle.sd2068.specs.Transfer.{started_of, stopped_of, effected_by, byte_of, renews_of, renewed_of, sent_by, read_of}
use Rattle.sd2068.specs.Step.{event_of, refusal_of, step_of}
use Rattle.state_bytes.specs.Decoded as decoded
use Rattle.state_events.specs.Said.{answer_byte}

abbrev pub Byte : ℕ → Type 0
Byte x = x < 256

-- every number of a list is a byte
pub data AllBytes : List ℕ → Type 0 where
  none : AllBytes []
  more : {x : ℕ} {l : List ℕ} → Byte x → AllBytes l → AllBytes (x ∷ l)

pub at : {l : List ℕ} → AllBytes l → (i d : ℕ) → Byte d → Byte (get_or l i d)
at none i d h = h
at (more b bs) zero d h = b
at (more b bs) (suc i) d h = at bs i d h

put : {l : List ℕ} → AllBytes l → (i b : ℕ) → Byte b → AllBytes (set l i b)
put none i b h = none
put (more x xs) zero b h = more h xs
put (more x xs) (suc i) b h = more x (put xs i b h)

-- numbers that are written out, by a test that antt computes
unfoldable pub below : List ℕ → Bool
below [] = true
below (x ∷ l) = ltb x 256 && below l

pub tested : (l : List ℕ) → below l ≡ true → AllBytes l
unfolding below
tested [] e = none
tested (x ∷ l) e = more (ltb-true x 256 (and_left (ltb x 256) (below l) e)) (tested l (and_right (ltb x 256) (below l) e))

-- what a register keeps of a byte
module _ (b : ℕ) (h : Byte b) where
  time_kept : (a : ℕ) → Byte (kept_time a b)
  unfolding kept_time
  time_kept a = grind (arith, common_steps)

  alarm_kept_lem : (a : ℕ) → Byte (kept_alarm a b)
  unfolding kept_alarm
  alarm_kept_lem a = grind (arith, common_steps)

  control_kept : (a : ℕ) → Byte (kept_control a b)
  unfolding kept_control
  control_kept a = grind (arith, common_steps)

  kept : (a : ℕ) → Byte (kept_of a b)
  unfolding kept_of
  kept a = grind (arith, common_steps, time_kept, alarm_kept_lem, control_kept)

-- a time one second on
stepped : (first last x : ℕ) → Byte first → Byte (digits.step_of first last x)
unfolding digits.step_of
stepped first last x h = picked Byte (legal_of first last x && ltb x last) (omega arith) h

code_bytes : (m : HourMode) → AllBytes (codes m)
unfolding codes below
code_bytes Twelve = tested _ refl
code_bytes TwentyFour = tested _ refl

first_byte : (m : HourMode) → Byte (first_hour m)
first_byte Twelve = omega arith
first_byte TwentyFour = omega arith

next_hour : (h : ℕ) → Byte (next_hour_of h)
unfolding next_hour_of hour_byte_of
next_hour h = at (code_bytes (mode_of h)) (hour_number_of h + 1) (first_hour (mode_of h)) (first_byte (mode_of h))

-- the seven bytes of a time, or of the alarm's fields
abbrev Seven : Time → Type 0
Seven t = AllBytes (bytes_of t)

module _ (t : Time) (s : Seven t) where
  byte_at : (i : ℕ) → Byte (byte_at_of t i)
  unfolding byte_at_of
  byte_at i =
      let of : (k : ℕ) → Byte (get_or (bytes_of t) k 0) = λ k. at s k 0 (omega arith) in
      picked Byte (eqb i 0) (of 0)
      (picked Byte (eqb i 1) (of 1)
      (picked Byte (eqb i 2) (of 2)
      (picked Byte (eqb i 3) (of 3) (picked Byte (eqb i 4) (of 4) (picked Byte (eqb i 5) (of 5) (of 6))))))

  with_byte : (i b : ℕ) → Byte b → Seven (with_byte_of t i b)
  unfolding with_byte_of
  with_byte i b h =
      let or : (k : ℕ) → Byte (cond (eqb i k) b (get_or (bytes_of t) k 0)) = λ k. picked Byte (eqb i k) h (at s k 0 (omega arith)) in
      more (or 0) (more (or 1) (more (or 2) (more (or 3) (more (or 4) (more (or 5) (more (or 6) none))))))

  advanced : Seven (advance_of t)
  unfolding advance_of next_time_of next_date_of
  advanced =
      let of : (k : ℕ) → Byte (get_or (bytes_of t) k 0) = λ k. at s k 0 (omega arith) in
      let second = digits.step_of 0x00 0x59 t.seconds in
      let minute = digits.step_of 0x00 0x59 t.minutes in
      let last = last_day_of t.month t.year in
      let day = digits.step_of 0x01 last t.day in
      let month = digits.step_of 0x01 0x12 t.month in
      let turns = midnight_of (next_time_of (clock_of t)) in
      let weekday : Byte (next_weekday_of t.weekday) = omega (arith, next_small t.weekday) in
      more (stepped 0x00 0x59 t.seconds (omega arith))
      (more (picked Byte (eqb second 0x00) (stepped 0x00 0x59 t.minutes (omega arith)) (of 1))
      (more (picked Byte (eqb second 0x00 && eqb minute 0x00) (next_hour t.hours) (of 2))
      (more (picked Byte turns weekday (of 3))
      (more (picked Byte turns (stepped 0x01 last t.day (omega arith)) (of 4))
      (more (picked Byte turns (picked Byte (eqb day 0x01) (stepped 0x01 0x12 t.month (omega arith)) (of 5)) (of 5))
      (more (picked Byte turns (picked Byte (eqb day 0x01 && eqb month 0x01) (stepped 0x00 0x99 t.year (omega arith)) (of 6)) (of 6))
      none))))))

-- the numbers of a state that the code has as bytes, but for the pointer
pub record Small (c : Clock) : Type 0 where
  time : Seven c.hand.time
  trim : Byte c.hand.trim
  fields : Seven c.alarm.at
  enable : Byte c.alarm.enable
  ctr3 : Byte c.control.ctr3
  count : Byte c.countdown.count
  reload : Byte c.countdown.reload
  ram : AllBytes c.ram
  latched : AllBytes c.latched

-- those of a state that bytes stand for
pub decoded_small : (s : List ℕ) → ((i : ℕ) → Byte (get_or s i 0)) → Small (decoded.clock_of s)
unfolding decoded.clock_of
decoded_small s each =
    record {
      time = more (each 0) (more (each 1) (more (each 2) (more (each 3) (more (each 4) (more (each 5) (more (each 6) none))))));
      trim = each 0x12;
      fields = more (each 7) (more (each 8) (more (each 9) (more (each 10) (more (each 11) (more (each 12) (more (each 13) none))))));
      enable = each 0x0E;
      ctr3 = each 0x11;
      count = each 0x13;
      reload = each 39;
      ram =
          more (each 20) (more (each 21) (more (each 22) (more (each 23) (more (each 24) (more (each 25)
          (more (each 26) (more (each 27) (more (each 28) (more (each 29) (more (each 30) (more (each 31) none)))))))))));
      latched = more (each 32) (more (each 33) (more (each 34) (more (each 35) (more (each 36) (more (each 37) (more (each 38) none))))));
    }

-- the registers that are put together of bits
ctr1_byte : (a b c d e : Bool) → Byte (ctr1 a b c d e)
ctr1_byte a b c d e = ltb→lt _ _ (each_bit 5 (λ a b c d e. ltb (ctr1 a b c d e) 256) tt a b c d e)

ctr2_byte : (a b c d e f g h : Bool) → Byte (ctr2 a b c d e f g h)
ctr2_byte a b c d e f g h = ltb→lt _ _ (each_bit 8 (λ a b c d e f g h. ltb (ctr2 a b c d e f g h) 256) tt a b c d e f g h)

-- what such a state shows
module _ (c : Clock) (s : Small c) where
  control_at : (a : ℕ) → Byte (control_at_of c a)
  unfolding control_at_of ctr1_of ctr2_of
  control_at a =
      picked Byte (eqb a 0x0E) s.enable
      (picked Byte (eqb a 0x0F) (ctr1_byte c.lock.wrtc3 c.alarm.flag c.countdown.flag c.lock.wrtc2 c.rtcf)
      (picked Byte (eqb a 0x10)
      (ctr2_byte c.lock.wrtc1 c.control.im c.control.ints1 c.control.ints0 c.control.fobat c.control.intde c.control.intae c.control.intfe)
      (picked Byte (eqb a 0x11) s.ctr3 (picked Byte (eqb a 0x12) s.trim s.count))))

  pub register_byte : (a : ℕ) → Byte (register_of c a)
  unfolding register_of
  register_byte a =
      picked Byte (ltb a 0x07) (byte_at c.hand.time s.time a)
      (picked Byte (ltb a 0x0E) (byte_at c.alarm.at s.fields (a - 0x07))
      (picked Byte (ltb a 0x14) (control_at a)
      (picked Byte (ltb a 0x20) (at s.ram (a - 0x14) 0 (omega arith)) (omega arith))))

  shown_byte : (a : ℕ) → Byte (shown_of c a)
  unfolding shown_of
  shown_byte a = picked Byte (ltb a 0x07) (at s.latched a 0 (omega arith)) (register_byte a)

  -- so the byte of an answer is one
  abbrev Answers : Answered → Type 0
  Answers a = Byte (answer_byte a.answer)

  sent_byte : (sent : Option ℕ) (ack : Bool) → Answers (sent_by sent c ack)
  sent_byte None ack = omega arith
  sent_byte (Some a) ack = shown_byte a

  read_byte : (ack : Bool) → Answers (read_of c ack)
  unfolding read_of
  read_byte ack = sent_byte (reads.read_of c.bus ack).sent ack

  heard_byte : (b : ℕ) → Answers (byte_of c b)
  unfolding byte_of
  heard_byte b = grind (arith, common_steps)

  pub answer_byte_lem : (kind byte count : ℕ) → Answers (event_of c kind byte count)
  unfolding event_of
  answer_byte_lem kind byte count = grind (arith, common_steps, heard_byte, read_byte)

-- a byte that is written, stored or not
abbrev Ctr3 : Control → Type 0
Ctr3 k = Byte k.ctr3

module _ (c : Clock) (s : Small c) (a b : ℕ) (h : Byte b) where
  written_by_lem : (stores : Bool) → Small (written_by stores c a b)
  unfolding hand.stored_of alarm.stored_of countdown.stored_of control.stored_of ram_stored_of
  written_by_lem true =
      let held : Byte (kept_of a b) = kept b h a in
      record {
        time = picked Seven (ltb a 0x07) (with_byte c.hand.time s.time a (kept_of a b) held) s.time;
        trim = picked Byte (eqb a 0x12) held s.trim;
        fields =
            picked Seven (ltb a 0x07) s.fields
            (picked Seven (ltb a 0x0E) (with_byte c.alarm.at s.fields (a - 7) (kept_of a b) held) s.fields);
        enable = picked Byte (eqb a 0x0E) held s.enable;
        ctr3 = picked Ctr3 (eqb a 0x10) s.ctr3 (picked Ctr3 (eqb a 0x11) held s.ctr3);
        count = picked Byte (eqb a 0x13) h s.count;
        reload = picked Byte (eqb a 0x13) h s.reload;
        ram = picked AllBytes (ltb a 0x14) s.ram (picked AllBytes (ltb a 0x20) (put s.ram (a - 0x14) b h) s.ram);
        latched = s.latched;
      }
  written_by_lem false =
      record {
        time = s.time;
        trim = s.trim;
        fields = s.fields;
        enable = s.enable;
        ctr3 = s.ctr3;
        count = s.count;
        reload = s.reload;
        ram = s.ram;
        latched = s.latched;
      }

  write_small : Small (write_of c a b)
  unfolding write_of
  write_small = written_by_lem (stores_of c a b)

-- every other event too leaves such a state
abbrev After : Answered → Type 0
After e = Small e.clock

module _ (c : Clock) (s : Small c) where
  -- with another latch and another bus
  latch_small : (latched : List ℕ) (bus : Bus) → AllBytes latched → Small (with_bus (with_latched c latched) bus)
  latch_small latched bus l =
      record {
        time = s.time;
        trim = s.trim;
        fields = s.fields;
        enable = s.enable;
        ctr3 = s.ctr3;
        count = s.count;
        reload = s.reload;
        ram = s.ram;
        latched = l;
      }

  effect_small : (e : Effect) (b : ℕ) → Byte b → Small (effected_by e c b)
  effect_small effect.None b h = s
  effect_small effect.Latch b h = latch_small (bytes_of c.hand.time) c.bus s.time
  effect_small (effect.Write a) b h = write_small c s a b h

  sent_small : (sent : Option ℕ) (ack : Bool) → After (sent_by sent c ack)
  unfolding renewed_of
  sent_small None ack = s
  sent_small (Some a) ack =
      latch_small (cond (renews_of a) (bytes_of c.hand.time) c.latched) (reads.read_of c.bus ack).bus
      (picked AllBytes (renews_of a) s.time s.latched)

  pulse_small : Small (pulse_of c)
  unfolding pulse_of hand.ticked_of alarm.rung_of countdown.counted_of
  pulse_small =
      let ticks = countdown.ticks_of (countdown.lessened_of c.countdown 1) c.control.intde (tds_of c.control.ctr3) in
      let down : Byte (c.countdown.count - 1) = omega (arith, s.count) in
      record {
        time = picked Seven (hand.ends_of c.hand) (advanced c.hand.time s.time) s.time;
        trim = s.trim;
        fields = s.fields;
        enable = s.enable;
        ctr3 = s.ctr3;
        count = picked Byte ticks (picked Byte (eqb c.countdown.count 0) s.reload down) s.count;
        reload = s.reload;
        ram = s.ram;
        latched = s.latched;
      }

  lost_small : Small (lost_of c)
  unfolding powered_of below
  lost_small =
      let zero : Byte 0 = omega arith in
      let zeros : AllBytes (0 ∷ 0 ∷ 0 ∷ 0 ∷ 0 ∷ 0 ∷ 0 ∷ []) = tested _ refl in
      record {
        time = s.time;
        trim = zero;
        fields = zeros;
        enable = zero;
        ctr3 = zero;
        count = zero;
        reload = zero;
        ram = s.ram;
        latched = zeros;
      }

  stop_small : Small (stopped_of c)
  unfolding stopped_of
  stop_small =
      record {
        time = s.time;
        trim = s.trim;
        fields = s.fields;
        enable = s.enable;
        ctr3 = s.ctr3;
        count = s.count;
        reload = s.reload;
        ram = s.ram;
        latched = s.latched;
      }

pulses_small : (c : Clock) → Small c → (n : ℕ) → Small (pulses_of c n)
unfolding times
pulses_small c s zero = s
pulses_small c s (suc n) = pulse_small (pulses_of c n) (pulses_small c s n)

module _ (c : Clock) (s : Small c) where
  byte_small : (b : ℕ) → Byte b → After (byte_of c b)
  unfolding byte_of
  byte_small b h =
      let x = effected_by (heard_of c.bus b).effect c b in
      let v = effect_small c s (heard_of c.bus b).effect b h in
      latch_small x v x.latched (heard_of c.bus b).bus v.latched

  read_small : (ack : Bool) → After (read_of c ack)
  unfolding read_of
  read_small ack = sent_small c s (reads.read_of c.bus ack).sent ack

  event_small : (kind byte count : ℕ) → Byte byte → After (event_of c kind byte count)
  unfolding event_of
  event_small kind byte count h =
      picked After (eqb kind 0) (latch_small c s c.latched (started_of c).bus s.latched)
      (picked After (eqb kind 1) (stop_small c s)
      (picked After (eqb kind 2) (byte_small byte h)
      (picked After (eqb kind 3) (read_small true)
      (picked After (eqb kind 4) (read_small false)
      (picked After (eqb kind 5) (pulses_small c s count) (lost_small c s))))))

  -- refused or not
  pub step_small : (kind byte count : ℕ) → Byte byte → Small (step_of c kind byte count).state
  unfolding step_of
  step_small kind byte count h = picked After (eqb (refusal_of c kind byte count) 0) (event_small kind byte count h) s

-- the letter of a pin is a byte
bell_byte : (im flag enabled : Bool) (pulse : ℕ) → Byte (bell_of im flag enabled pulse)
unfolding bell_of
bell_byte im flag enabled pulse = grind (arith, common_steps)

output_byte : (fs divider counter : ℕ) → Byte (output_of fs divider counter)
unfolding output_of
output_byte fs divider counter = grind (arith, common_steps)

module _ (c : Clock) where
  abbrev ints : ℕ
  ints = ints_of c.control.ints1 c.control.ints0

  pub pin_byte : Byte (pin_of c)
  unfolding pin_of
  pin_byte = grind (arith, common_steps, bell_byte, output_byte)

  -- and so is the number of a refusal
  pub refusal_byte : (kind byte count : ℕ) → Byte (refusal_of c kind byte count)
  unfolding refusal_of
  refusal_byte kind byte count = grind (arith, common_steps)
