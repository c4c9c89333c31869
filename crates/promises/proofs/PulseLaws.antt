-- A pulse moves what its view says: each group by its own stage, and the alarm by the second that ended. Assumes nothing.
use Rattle.std.proofs.Common.{◌≡◌, refl, sym, ap, ◌∙◌, Bool, true, false, cond, ◌&&◌, ◌||◌, not, ℕ, ◌+◌, ◌-◌, ◌/◌, ◌%◌, ◌≤◌, ◌<◌, arith, eqb, ltb, get_or, ne_eqb, lt-ltb, le-ltb}
use Rattle.std.proofs.lemmas.Grind.{common_steps}
use Rattle.fields.proofs.Below.{agree}
use Rattle.calendar.specs.declared.time.Time.{Time}
use Rattle.calendar.specs.Advance.{advance_of}
use Rattle.calendar.specs.Repeat.{times}
use Rattle.registers.specs.Counters.{turned_of}
use Rattle.registers.specs.Seven.{byte_at_of}
use Rattle.hand.specs.Trim.{length_of}
use Rattle.hand.specs.Hand.{ends_of, ticked_of}
use Rattle.hand.proofs.SecondLaws.{counter_tells}
use Rattle.alarm.specs.Matching.{weekday_in, matches_of}
use Rattle.alarm.specs.Alarm as alarm
use Rattle.alarm.proofs.RingLaws.{enabled_rings}
use Rattle.countdown.specs.Countdown as countdown
use Rattle.countdown.specs.Countdown.{limit_of, down_of, ticks_of}
use Rattle.control.specs.Lock.{ctr1_of}
use Rattle.bus.specs.declared.phase.Phase.{Phase}
use Rattle.bus.specs.declared.phase.Phase.TheVariants.{Closed, Open}
use Rattle.bus.specs.declared.phase.Mode.{Mode}
use Rattle.bus.specs.declared.phase.Transfer.{Transfer}
use Rattle.bus.specs.Phase.{closed_bus, older_in}
use Rattle.sd2068.specs.declared.clock.Clock.{Clock}
use Rattle.sd2068.specs.Controls.{tds_of}
use Rattle.sd2068.specs.Pulse.{pulse_of, pulses_of}
use Rattle.sd2068.specs.Reading.{control_at_of, register_of}
use Rattle.hand.proofs.SpanLaws.{trimmed_span_lem}
use Rattle.control.proofs.BitLaws.{ctr1}
use Rattle.sd2068.proofs.GroupLaws.{by_itself}
use Rattle.promises.specs.Registers.{bit, inner_of, view_of, seven_from}
use Rattle.promises.specs.Pulsed.{second_length, tick_lengths, agrees, matches_at, ends, time_after, ticks, fires, rings, pulsed_at, pulsed_inner, aged_pointer, aged_phase, after_pulse}
use Rattle.promises.proofs.BitLaws.{put_flags}
use Rattle.promises.proofs.RegisterLaws.{by_rows, intaf, intdf, intde, intae, ctr3}

-- the length of a tick, over all values of TDS
limit_same : (tds : ℕ) → tds < 4 → limit_of tds ≡ get_or tick_lengths tds 0
limit_same = agree limit_of (λ (tds : ℕ). get_or tick_lengths tds 0) 4 tt

-- the prescaler holds, turns or goes on
prescaler_by : (on full : Bool) (n : ℕ) → cond on (cond full 0 (n + 1)) n ≡ cond (on && full) 0 (cond on (n + 1) n)
prescaler_by on full n = grind (arith, common_steps)

-- a bit that is not 0 is 1, so a field that is off is one that is not enabled
field_by : (k : ℕ) → k < 2 → (same : Bool) → eqb k 0 || same ≡ agrees (eqb k 1) same
field_by k e same = grind (arith, common_steps)

weekday_by :
    (k d : ℕ) → k < 2 → d < 2 → (known set : Bool) → eqb k 0 || not (eqb d 0) || cond known set false ≡ agrees (eqb k 1 && not (eqb d 1)) (known && set)
weekday_by k d e h known set = grind (arith, common_steps)

-- the alarm's fields match as they do by the register numbers
pub matches_same : (r : ℕ → ℕ) (t : Time) → matches_of (seven_from 0x07 r) (r 0x0E) t ≡ matches_at r t
unfolding matches_of weekday_in matches_at
matches_same r t =
    λ i.
    field_by (r 0x0E / 1 % 2) (omega arith) (eqb t.seconds (r 0x07)) i
    && field_by (r 0x0E / 2 % 2) (omega arith) (eqb t.minutes (r 0x08)) i
    && field_by (r 0x0E / 4 % 2) (omega arith) (eqb (t.hours % 64) (r 0x09 % 64)) i
    && weekday_by (r 0x0E / 8 % 2) (r 0x0E / 16 % 2) (omega arith) (omega arith) (ltb t.weekday 7) (bit t.weekday (r 0x0A)) i
    && field_by (r 0x0E / 16 % 2) (omega arith) (eqb t.day (r 0x0B)) i
    && field_by (r 0x0E / 32 % 2) (omega arith) (eqb t.month (r 0x0C)) i
    && field_by (r 0x0E / 64 % 2) (omega arith) (eqb t.year (r 0x0D)) i

-- an open transfer ages, and is closed when it is too old
bus_by :
    (young : Bool) (m : Mode) (t : Transfer) (p : ℕ) →
    cond young (record { pointer = p; phase = Open m t }) closed_bus ≡ record { pointer = cond young p 0x00; phase = cond young (Open m t) Closed }
bus_by true m t p = refl
bus_by false m t p = refl

older_same : (f : Phase) (p : ℕ) → older_in f p 1 ≡ record { pointer = aged_pointer f p; phase = aged_phase f }
older_same Closed p = refl
older_same (Open m t) p = bus_by (ltb (t.age + 1) 16384) m (record { age = t.age + 1; marked = t.marked }) p

module _ (c : Clock) where
  -- the pulse ends the second
  ends_same : ends_of c.hand ≡ ends (register_of c) (inner_of c)
  unfolding ends second_length length_of register_of control_at_of byte_at_of
  ends_same = simp (trimmed_span_lem (c.hand.trim % 128) (omega arith))

  -- the countdown ticks, and fires
  abbrev ticked : Bool
  ticked = ticks_of c.countdown c.control.intde (tds_of c.control.ctr3)

  ticks_same : ticked ≡ ticks (register_of c) (inner_of c)
  unfolding ticks
  ticks_same = simp (intde c, ctr3 c, limit_same (tds_of c.control.ctr3) (omega arith))

  fires_same : ticked && eqb c.countdown.count 1 ≡ fires (register_of c) (inner_of c)
  unfolding fires register_of control_at_of
  fires_same = ap (λ (t : Bool). t && eqb c.countdown.count 1) ticks_same

  -- the time after a pulse
  time_same : (ticked_of c.hand).time ≡ time_after (register_of c) (inner_of c)
  unfolding ticked_of time_after register_of control_at_of byte_at_of
  time_same = ap (λ (e : Bool). cond e (advance_of c.hand.time) c.hand.time) ends_same

  -- the alarm is asked and rings
  abbrev pub rung : Bool
  rung = eqb (ticked_of c.hand).counter 0 && c.control.intae && alarm.rings_of c.alarm c.hand.time (ticked_of c.hand).time

  matched_same : matches_of c.alarm.at c.alarm.enable (ticked_of c.hand).time ≡ matches_at (register_of c) (time_after (register_of c) (inner_of c))
  unfolding register_of control_at_of byte_at_of
  matched_same = ap (matches_of c.alarm.at c.alarm.enable) time_same ∙ matches_same (register_of c) (time_after (register_of c) (inner_of c))

  before_same : matches_of c.alarm.at c.alarm.enable c.hand.time ≡ matches_at (register_of c) (seven_from 0x00 (register_of c))
  unfolding register_of control_at_of byte_at_of
  before_same = matches_same (register_of c) c.hand.time

  asked_same : eqb (ticked_of c.hand).counter 0 ≡ ends (register_of c) (inner_of c)
  asked_same = counter_tells c.hand ∙ ends_same

  pub rings_same : rung ≡ rings (register_of c) (inner_of c)
  unfolding rings register_of control_at_of byte_at_of
  rings_same =
      ap (λ (begins : Bool). eqb (ticked_of c.hand).counter 0 && c.control.intae && begins) (enabled_rings c.alarm c.hand.time (ticked_of c.hand).time)
      ∙ (λ i. asked_same i && sym (intae c) i && (not (eqb c.alarm.enable 0) && (matched_same i && not (before_same i))))

  -- register a after the pulse
  abbrev Pulsed : ℕ → Type 0
  Pulsed a = register_of (pulse_of c) a ≡ pulsed_at (register_of c) (inner_of c) a

  time_row : (a : ℕ) → a < 0x07 → Pulsed a
  unfolding pulse_of pulsed_at register_of
  time_row a h = simp (lt-ltb a 0x07 h) (ap (λ (t : Time). byte_at_of t a) time_same)

  fields_row : (a : ℕ) → 0x07 ≤ a → a < 0x0E → Pulsed a
  unfolding pulse_of pulsed_at register_of alarm.rung_of
  fields_row a l h =
      simp (le-ltb a 0x07 l, lt-ltb a 0x0E h, ne_eqb a 0x0F (λ e. omega arith), ne_eqb a 0x13 (λ e. omega arith))

  enable_row : Pulsed 0x0E
  unfolding pulse_of pulsed_at register_of control_at_of alarm.rung_of
  enable_row = refl

  -- 0Fh with the flags that the pulse sets
  abbrev flagged : Bool → Bool → ℕ
  flagged rings fires = ctr1 c.lock.wrtc3 (rings || c.alarm.flag) (fires || c.countdown.flag) c.lock.wrtc2 c.rtcf

  flags_same : flagged rung (ticked && eqb c.countdown.count 1) ≡ flagged (rings (register_of c) (inner_of c)) (fires (register_of c) (inner_of c))
  flags_same = λ i. flagged (rings_same i) (fires_same i)

  flags_row : Pulsed 0x0F
  unfolding pulse_of pulsed_at register_of control_at_of ctr1_of alarm.rung_of countdown.counted_of
  flags_row = grind (arith, common_steps, intaf, intdf, flags_same, put_flags)

  ctr2_row : Pulsed 0x10
  unfolding pulse_of pulsed_at register_of control_at_of
  ctr2_row = refl

  ctr3_row : Pulsed 0x11
  unfolding pulse_of pulsed_at register_of control_at_of
  ctr3_row = refl

  trim_row : Pulsed 0x12
  unfolding pulse_of pulsed_at register_of control_at_of ticked_of
  trim_row = refl

  count_row : Pulsed 0x13
  unfolding pulse_of pulsed_at register_of control_at_of countdown.counted_of
  count_row = ap (λ (t : Bool). cond t (down_of c.countdown.count c.countdown.reload) c.countdown.count) ticks_same

  rest_row : (a : ℕ) → 0x14 ≤ a → Pulsed a
  unfolding pulse_of pulsed_at register_of
  rest_row a h = grind (arith, common_steps)

  pulse_at : (a : ℕ) → Pulsed a
  pulse_at = by_rows Pulsed time_row fields_row enable_row flags_row ctr2_row ctr3_row trim_row count_row rest_row

  -- and the numbers inside
  prescaler_same :
      cond c.control.intde (turned_of c.countdown.prescaler (limit_of (tds_of c.control.ctr3))) c.countdown.prescaler
      ≡ (pulsed_inner (register_of c) (inner_of c)).prescaler
  unfolding pulsed_inner
  prescaler_same = grind (arith, common_steps, prescaler_by, intde, ctr3, ticks_same)

  pulse_inner : inner_of (pulse_of c) ≡ pulsed_inner (register_of c) (inner_of c)
  unfolding pulse_of pulsed_inner ticked_of alarm.rung_of countdown.counted_of
  pulse_inner =
      λ i.
      record {
        counter = cond (ends_same i) 0 (c.hand.counter + 1);
        reload = c.countdown.reload;
        prescaler = prescaler_same i;
        alarm_pulse = cond (rings_same i) 8192 (c.alarm.pulse - 1);
        countdown_pulse = cond (fires_same i) 8192 (c.countdown.pulse - 1);
        divider = (c.divider + 1) % 524288;
      }

  pub pulse_view : view_of (pulse_of c) ≡ after_pulse (view_of c)
  unfolding pulse_of after_pulse
  pulse_view = grind (arith, common_steps, pulse_at, pulse_inner, older_same)

-- so n pulses move the view n times
pub pulses_view : (n : ℕ) (c : Clock) → view_of (pulses_of c n) ≡ times after_pulse n (view_of c)
pulses_view = by_itself view_of after_pulse pulse_view
