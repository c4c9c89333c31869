-- Every event keeps a well-formed state well formed, so after a good start no step is refused with 1. Assumes nothing.
use Rattle.std.proofs.Common.{◌≡◌, refl, Bool, true, false, cond, ◌&&◌, List, [], ◌∷◌, ℕ, zero, suc, ◌≤◌, arith, eqb, ltb, length, le-leb, Option, Some, None}
use Rattle.std.proofs.lemmas.Bool.Decides.{nat_tests}
use Rattle.fields.proofs.Picked.{picked}
use Rattle.calendar.specs.declared.time.Time.{Time}
use Rattle.calendar.specs.Repeat.{times}
use Rattle.registers.specs.Fixed.{kept_of, kept_time, kept_alarm, kept_control, clear_of, clear_time_of}
use Rattle.registers.specs.Seven.{bytes_of}
use Rattle.hand.specs.Hand as hand
use Rattle.hand.proofs.WellLaws as hand_laws
use Rattle.alarm.specs.Alarm as alarm
use Rattle.alarm.proofs.WellLaws as alarm_laws
use Rattle.countdown.specs.Countdown as countdown
use Rattle.countdown.proofs.WellLaws as countdown_laws
use Rattle.control.specs.declared.control.Control.{Control}
use Rattle.control.specs.Lock as lock
use Rattle.control.specs.Control as control
use Rattle.control.proofs.WellLaws as control_laws
use Rattle.bus.specs.declared.phase.Bus.{Bus}
use Rattle.bus.specs.declared.bytes.Effect.{Effect}
use Rattle.bus.specs.declared.bytes.Effect.TheVariants as effect
use Rattle.bus.specs.Bytes.{heard_of}
use Rattle.bus.specs.Reads as reads
use Rattle.bus.proofs.WellLaws as bus_laws
use Rattle.sd2068.specs.declared.clock.Clock.{Clock}
use Rattle.events.specs.declared.event.Event.{Event}
use Rattle.events.specs.Refusal.{fields_of, fault_of}
use Rattle.sd2068.specs.declared.answers.Answered.{Answered}
use Rattle.sd2068.specs.Controls.{tds_of}
use Rattle.sd2068.specs.Clock.{with_latched, with_bus}
use Rattle.sd2068.specs.Power.{powered_of, lost_of, start_time, start_ram, start_of, zero_start, Power, power_on_of}
use Rattle.sd2068.specs.Writing.{stores_of, write_of}
use Rattle.sd2068.specs.Pulse.{pulse_of, pulses_of}
use Rattle.sd2068.specs.Transfer.{started_of, stopped_of, effected_by, byte_of, renews_of, renewed_of, sent_by, read_of}
use Rattle.sd2068.specs.WellFormed.{latch_well, well_formed_of}
use Rattle.sd2068.specs.Step.{event_of, refusal_of, told_of, step_of}
use Rattle.sd2068.specs.Run.{step, after}

-- the parts of a state that is well formed
pub record Well (c : Clock) : Type 0 where
  pub hand : hand_laws.Well c.hand
  pub alarm : alarm_laws.Well c.alarm
  pub countdown : countdown_laws.Well c.countdown
  pub lock : lock.well_of c.lock ≡ true
  pub control : control.well_of c.control ≡ true
  pub latched : latch_well c.latched ≡ true
  pub divider : c.divider ≤ 524287
  pub bus : bus_laws.Well c.bus

module _ (c : Clock) where
  pub parts : well_formed_of c ≡ true → Well c
  unfolding well_formed_of
  parts e =
      record {
        hand = hand_laws.parts c.hand (grind arith);
        alarm = alarm_laws.parts c.alarm (grind arith);
        countdown = countdown_laws.parts c.countdown (grind arith);
        lock = grind arith;
        control = grind arith;
        latched = grind arith;
        divider = grind (arith, nat_tests);
        bus = bus_laws.parts c.bus (grind arith);
      }

  pub whole : Well c → well_formed_of c ≡ true
  unfolding well_formed_of
  whole w =
      simp (
        hand_laws.whole c.hand w.hand,
        alarm_laws.whole c.alarm w.alarm,
        countdown_laws.whole c.countdown w.countdown,
        w.lock,
        w.control,
        w.latched,
        le-leb c.divider 524287 w.divider,
        bus_laws.whole w.bus,
      )

-- what power leaves
pub powered_well : (t : Time) (ram : List ℕ) → clear_time_of t ≡ true → Well (powered_of t ram)
unfolding powered_of clear_of kept_of kept_time kept_alarm kept_control clear_time_of lock.well_of control.well_of
powered_well t ram h =
    record {
      hand = record { time = h; trim = refl; counter = omega arith };
      alarm =
          record {
            at = record { one = refl; two = refl; three = refl; four = refl; five = refl; six = refl; seven = refl };
            enable = refl;
            pulse = omega arith;
          };
      countdown = record { count = omega arith; prescaler = omega arith; pulse = omega arith };
      lock = refl;
      control = refl;
      latched = refl;
      divider = omega arith;
      bus = bus_laws.closed_well;
    }

zero_well : Well zero_start
unfolding powered_of clear_of kept_of kept_time clear_time_of
zero_well = powered_well zero_start.hand.time zero_start.ram refl

start_by :
    (s : List ℕ) (clear : Bool) → clear_time_of (start_time s) ≡ clear →
    Well (cond {A = Power} clear (record { refusal = 0; state = start_of s }) (record { refusal = 6; state = zero_start })).state
start_by s true e = powered_well (start_time s) (start_ram s) e
start_by s false e = zero_well

pub power_on_well : (s : List ℕ) → Well (power_on_of s).state
unfolding power_on_of
power_on_well s = picked (λ (p : Power). Well p.state) (eqb (length s) 19) (start_by s (clear_time_of (start_time s)) refl) zero_well

module _ (c : Clock) (w : Well c) where
  pub lost_well : Well (lost_of c)
  lost_well = powered_well c.hand.time c.ram w.hand.time

  pub pulse_well : Well (pulse_of c)
  unfolding pulse_of
  pulse_well =
      record {
        hand = hand_laws.ticked_well c.hand w.hand;
        alarm =
            alarm_laws.rung_well (alarm.lessened_of c.alarm 1) (alarm_laws.lessened_well c.alarm w.alarm 1)
            c.hand.time (hand.ticked_of c.hand).time (eqb (hand.ticked_of c.hand).counter 0 && c.control.intae);
        countdown =
            countdown_laws.counted_well (countdown.lessened_of c.countdown 1) (countdown_laws.lessened_well c.countdown w.countdown 1)
            c.control.intde (tds_of c.control.ctr3);
        lock = w.lock;
        control = w.control;
        latched = w.latched;
        divider = omega arith;
        bus = bus_laws.older_well w.bus 1;
      }

  pub start_well : Well (started_of c)
  start_well =
      record {
        hand = w.hand;
        alarm = w.alarm;
        countdown = w.countdown;
        lock = w.lock;
        control = w.control;
        latched = w.latched;
        divider = w.divider;
        bus = bus_laws.started_well w.bus;
      }

  pub stop_well : Well (stopped_of c)
  unfolding stopped_of
  stop_well =
      record {
        hand = w.hand;
        alarm = record { at = w.alarm.at; enable = w.alarm.enable; pulse = w.alarm.pulse };
        countdown = record { count = w.countdown.count; prescaler = w.countdown.prescaler; pulse = w.countdown.pulse };
        lock = w.lock;
        control = w.control;
        latched = w.latched;
        divider = w.divider;
        bus = bus_laws.closed_well;
      }

  pub write_well : (a b : ℕ) → Well (write_of c a b)
  unfolding write_of
  write_well a b =
      let stores = stores_of c a b in
      record {
        hand = picked hand_laws.Well stores (hand_laws.stored_well c.hand w.hand a b) w.hand;
        alarm = picked alarm_laws.Well stores (alarm_laws.stored_well c.alarm w.alarm a b) w.alarm;
        countdown = picked countdown_laws.Well stores (countdown_laws.stored_well c.countdown w.countdown a b) w.countdown;
        lock = control_laws.written_well c.lock w.lock a b;
        control = picked (λ (k : Control). control.well_of k ≡ true) stores (control_laws.stored_well c.control w.control a b) w.control;
        latched = w.latched;
        divider = w.divider;
        bus = w.bus;
      }

  -- the latch renewed or not
  latch_well_lem : (renews : Bool) → latch_well (cond renews (bytes_of c.hand.time) c.latched) ≡ true
  latch_well_lem true = w.hand.time
  latch_well_lem false = w.latched

-- another bus and another latch
moved : (c : Clock) → Well c → (latched : List ℕ) → latch_well latched ≡ true → (b : Bus) → bus_laws.Well b → Well (with_bus (with_latched c latched) b)
moved c w latched l b h =
    record {
      hand = w.hand;
      alarm = w.alarm;
      countdown = w.countdown;
      lock = w.lock;
      control = w.control;
      latched = l;
      divider = w.divider;
      bus = h;
    }

abbrev After : Answered → Type 0
After e = Well e.clock

module _ (c : Clock) (w : Well c) where
  effected_by_lem : (e : Effect) (b : ℕ) → Well (effected_by e c b)
  effected_by_lem effect.None b = w
  effected_by_lem effect.Latch b = moved c w (bytes_of c.hand.time) w.hand.time c.bus w.bus
  effected_by_lem (effect.Write a) b = write_well c w a b

  pub byte_well : (b : ℕ) → Well (byte_of c b).clock
  unfolding byte_of
  byte_well b =
      let x = effected_by (heard_of c.bus b).effect c b in
      let v = effected_by_lem (heard_of c.bus b).effect b in
      moved x v x.latched v.latched (heard_of c.bus b).bus (bus_laws.heard_well w.bus b)

  sent_by_lem : (s : Option ℕ) (ack : Bool) → Well (sent_by s c ack).clock
  unfolding renewed_of
  sent_by_lem None ack = w
  sent_by_lem (Some a) ack =
      moved c w (cond (renews_of a) (bytes_of c.hand.time) c.latched) (latch_well_lem c w (renews_of a))
      (reads.read_of c.bus ack).bus (bus_laws.read_well w.bus ack)

  pub read_well : (ack : Bool) → Well (read_of c ack).clock
  unfolding read_of
  read_well ack = sent_by_lem (reads.read_of c.bus ack).sent ack

  pub pulses_well : (n : ℕ) → Well (pulses_of c n)
  unfolding times
  pulses_well zero = w
  pulses_well (suc n) = pulse_well (pulses_of c n) (pulses_well n)

  pub event_well : (kind byte count : ℕ) → Well (event_of c kind byte count).clock
  unfolding event_of
  event_well kind byte count =
      picked After (eqb kind 0) (start_well c w)
      (picked After (eqb kind 1) (stop_well c w)
      (picked After (eqb kind 2) (byte_well byte)
      (picked After (eqb kind 3) (read_well true)
      (picked After (eqb kind 4) (read_well false)
      (picked After (eqb kind 5) (pulses_well count) (lost_well c w))))))

  -- refused or not
  pub step_well : (kind byte count : ℕ) → Well (step_of c kind byte count).state
  unfolding step_of
  step_well kind byte count = picked After (eqb (refusal_of c kind byte count) 0) (event_well _ _ _) w

-- the same of the test that a step makes
pub step_keeps : (c : Clock) → well_formed_of c ≡ true → (kind byte count : ℕ) → well_formed_of (step_of c kind byte count).state ≡ true
step_keeps c e kind byte count = whole (step_of c kind byte count).state (step_well c (parts c e) kind byte count)

-- and so steps keep it, however many
pub steps_well : (c : Clock) → Well c → (es : List Event) → Well (after step c es)
unfolding after
steps_well c w [] = w
steps_well c w (e ∷ es) = steps_well (step c e).state (step_well c w e.kind e.byte e.count) es

-- refusal 1 is for states that are not well formed
first_only : (well kinds fields : Bool) → well ≡ true → ◌≡◌ {A = ℕ} (cond well (cond kinds (cond fields 0 3) 2) 1) 1 → ⊥
first_only well kinds fields e h = grind arith

pub never_first : (s : List ℕ) (es : List Event) (kind byte count : ℕ) → (step_of (after step (power_on_of s).state es) kind byte count).refusal ≡ 1 → ⊥
unfolding step_of refusal_of
never_first s es kind byte count =
    let c = after step (power_on_of s).state es in
    first_only (well_formed_of c) (ltb kind 7) (fields_of kind byte count) (whole c (steps_well (power_on_of s).state (power_on_well s) es))

-- on a well-formed state an event that is not at fault is taken, and does what its definition says
pub step_taken : (c : Clock) → Well c → (kind byte count : ℕ) → fault_of kind byte count ≡ 0 → step_of c kind byte count ≡ told_of 0 (event_of c kind byte count)
unfolding step_of refusal_of
step_taken c w kind byte count good = simp (whole c w, good)
