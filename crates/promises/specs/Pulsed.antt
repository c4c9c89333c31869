-- One pulse, over register numbers. (rules 4.1 to 4.6, 5.1 to 5.9 and 6.12)
use Rattle.std.specs.Prelude.{Bool, true, cond, ◌&&◌, ◌||◌, not, List, [], ◌∷◌, ℕ, ◌+◌, ◌-◌, ◌/◌, ◌%◌, eqb, ltb, leb, get_or}
use Rattle.calendar.specs.declared.time.Time.{Time}
use Rattle.calendar.specs.Advance.{advance_of}
use Rattle.hand.specs.Span.{trimmed_span}
use Rattle.registers.specs.Seven.{byte_at_of}
use Rattle.bus.specs.declared.phase.Phase.{Phase}
use Rattle.bus.specs.declared.phase.Phase.TheVariants.{Closed, Open}
use Rattle.promises.specs.Registers.{bit, put, Inner, View, seven_from}

-- the pulses of the present second: the trim counts while 00h reads 00h, 20h or 40h (rules 4.2 and 4.3)
unfoldable pub second_length : (ℕ → ℕ) → ℕ
second_length r = cond (eqb (r 0x00) 0x00 || eqb (r 0x00) 0x20 || eqb (r 0x00) 0x40) (trimmed_span (r 0x12 % 128)) 32768

-- the pulses of a tick, by TDS (rule 5.7)
abbrev pub tick_lengths : List ℕ
tick_lengths = 8 ∷ 512 ∷ 32768 ∷ 1966080 ∷ []

-- a field that is enabled is the same; any other is not asked
abbrev pub agrees : Bool → Bool → Bool
agrees enabled same = cond enabled same true

-- each field that 0Eh enables matches time t: the hours by six bits; the weekday by its bit of 0Ah, and not asked where the day is enabled (rules 5.2 to 5.4)
unfoldable pub matches_at : (ℕ → ℕ) → Time → Bool
matches_at r t =
    agrees (bit 0 (r 0x0E)) (eqb t.seconds (r 0x07))
    && agrees (bit 1 (r 0x0E)) (eqb t.minutes (r 0x08))
    && agrees (bit 2 (r 0x0E)) (eqb (t.hours % 64) (r 0x09 % 64))
    && agrees (bit 3 (r 0x0E) && not (bit 4 (r 0x0E))) (ltb t.weekday 7 && bit t.weekday (r 0x0A))
    && agrees (bit 4 (r 0x0E)) (eqb t.day (r 0x0B))
    && agrees (bit 5 (r 0x0E)) (eqb t.month (r 0x0C))
    && agrees (bit 6 (r 0x0E)) (eqb t.year (r 0x0D))

-- what one pulse does to registers r and inner numbers i
module _ (r : ℕ → ℕ) (i : Inner) where
  -- it ends the present second (rule 4.1)
  unfoldable pub ends : Bool
  ends = leb (second_length r) (i.counter + 1)

  -- the time after it (rule 4.1)
  unfoldable pub time_after : Time
  time_after = cond ends (advance_of (seven_from 0x00 r)) (seven_from 0x00 r)

  -- it makes the countdown tick: INTDE is 1 and the tick is full (rule 5.7)
  unfoldable pub ticks : Bool
  ticks = bit 2 (r 0x10) && leb (get_or tick_lengths (r 0x11 / 16 % 4) 0) (i.prescaler + 1)

  -- the tick brings the count from 1 to 0 (rule 5.9)
  unfoldable pub fires : Bool
  fires = ticks && eqb (r 0x13) 1

  -- the alarm rings: a second ended, INTAE is 1, 0Eh enables some field, and those that it enables match the new time and did not match the one before (rule 5.1)
  unfoldable pub rings : Bool
  rings = ends && bit 1 (r 0x10) && (not (eqb (r 0x0E) 0) && (matches_at r time_after && not (matches_at r (seven_from 0x00 r))))

  -- the registers after it: the time; INTAF and INTDF; the count; no other moves (rules 4.1, 5.5, 5.8 and 5.9)
  unfoldable pub pulsed_at : ℕ → ℕ
  pulsed_at a =
      cond (ltb a 0x07) (byte_at_of time_after a)
      (cond (eqb a 0x0F) (put 5 (rings || bit 5 (r 0x0F)) (put 4 (fires || bit 4 (r 0x0F)) (r 0x0F)))
      (cond (eqb a 0x13) (cond ticks (cond (eqb (r 0x13) 0) i.reload (r 0x13 - 1)) (r 0x13))
      (r a)))

  -- the numbers inside after it (rules 4.1, 4.6, 5.5 to 5.7 and 5.9)
  unfoldable pub pulsed_inner : Inner
  pulsed_inner =
      record {
        counter = cond ends 0 (i.counter + 1);
        reload = i.reload;
        prescaler = cond ticks 0 (cond (bit 2 (r 0x10)) (i.prescaler + 1) i.prescaler);
        alarm_pulse = cond rings 8192 (i.alarm_pulse - 1);
        countdown_pulse = cond fires 8192 (i.countdown_pulse - 1);
        divider = (i.divider + 1) % 524288;
      }

-- an open transfer is one pulse older, and at 16,384 pulses the bus closes with the pointer at 0 (rule 6.12)
abbrev pub aged_pointer : Phase → ℕ → ℕ
aged_pointer Closed p = p
aged_pointer (Open m t) p = cond (ltb (t.age + 1) 16384) p 0x00

abbrev pub aged_phase : Phase → Phase
aged_phase Closed = Closed
aged_phase (Open m t) = cond (ltb (t.age + 1) 16384) (Open m (record { age = t.age + 1; marked = t.marked })) Closed

-- the clock after one pulse (rule 4.5)
unfoldable pub after_pulse : View → View
after_pulse v =
    record {
      register = pulsed_at v.register v.inner;
      inner = pulsed_inner v.register v.inner;
      latch = v.latch;
      pointer = aged_pointer v.phase v.pointer;
      phase = aged_phase v.phase;
    }
