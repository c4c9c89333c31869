-- Each stage and event leaves alone what it does not own, and any number of pulses moves each group by itself. Assumes nothing.
use Rattle.std.proofs.Common.{◌≡◌, refl, ap, ◌∙◌, Bool, true, false, ◌&&◌, List, ◌⊎◌, ℕ, zero, suc, ◌≤◌, ◌<◌, arith, eqb, ltb, Option, Some, None}
use Rattle.std.proofs.lemmas.Bool.Decides.{nat_tests}
use Rattle.calendar.specs.declared.time.Time.{Time}
use Rattle.calendar.specs.Repeat.{times}
use Rattle.hand.specs.declared.hand.Hand.{Hand}
use Rattle.hand.specs.Hand.{ticked_of}
use Rattle.alarm.specs.declared.alarm.Alarm.{Alarm}
use Rattle.alarm.specs.Alarm as alarm
use Rattle.countdown.specs.declared.Countdown.{Countdown}
use Rattle.countdown.specs.Countdown as countdown
use Rattle.control.specs.declared.control.Control.{Control}
use Rattle.control.specs.declared.lock.Lock.{Lock}
use Rattle.control.specs.Lock as lock
use Rattle.control.specs.Control as control
use Rattle.bus.specs.declared.phase.Bus.{Bus}
use Rattle.bus.specs.declared.bytes.Effect.{Effect}
use Rattle.bus.specs.declared.bytes.Effect.TheVariants as effect
use Rattle.bus.specs.Phase.{older_of}
use Rattle.bus.specs.Bytes.{heard_of}
use Rattle.bus.specs.Reads as reads
use Rattle.sd2068.specs.declared.clock.Clock.{Clock}
use Rattle.sd2068.specs.Controls.{tds_of}
use Rattle.sd2068.specs.Clock.{with_hand, with_alarm, with_countdown, with_lock, with_latched, with_divider, with_bus}
use Rattle.sd2068.specs.Power.{powered_of, lost_of}
use Rattle.sd2068.specs.Writing.{ram_stored_of, stores_of, write_of}
use Rattle.sd2068.specs.Pulse.{aged_of, turned_by_of, divided_of, pin_pulsed_of, counted_of, advanced_of, rung_of, pulse_of, pulses_of}
use Rattle.sd2068.specs.Transfer.{started_of, stopped_of, effected_by, byte_of, renewed_of, sent_by, read_of}

-- what is left of a byte's event once the bus, and what its effect owns, are put back
abbrev pub Beside : Effect → Clock → ℕ → Clock → Type 0
Beside effect.None c b d = with_bus d c.bus ≡ c
Beside effect.Latch c b d = with_bus (with_latched d c.latched) c.bus ≡ c
Beside (effect.Write a) c b d = with_bus d c.bus ≡ write_of c a b

-- with the groups that it owns put back, the state is the one before
module _ (c : Clock) where
  pub aged_alone : with_bus (aged_of c) c.bus ≡ c
  aged_alone = refl

  pub divided_alone : with_divider (divided_of c) c.divider ≡ c
  divided_alone = refl

  pub pin_pulsed_alone : with_countdown (with_alarm (pin_pulsed_of c) c.alarm) c.countdown ≡ c
  pin_pulsed_alone = refl

  pub counted_alone : with_countdown (counted_of c) c.countdown ≡ c
  counted_alone = refl

  pub advanced_alone : with_hand (advanced_of c) c.hand ≡ c
  advanced_alone = refl

  pub rung_alone : (before : Time) → with_alarm (rung_of before c) c.alarm ≡ c
  rung_alone before = refl

  pub start_alone : with_bus (started_of c) c.bus ≡ c
  start_alone = refl

  pub stop_alone : with_bus (with_countdown (with_alarm (stopped_of c) c.alarm) c.countdown) c.bus ≡ c
  unfolding stopped_of
  stop_alone = refl

  sent_alone : (s : Option ℕ) (ack : Bool) → with_bus (with_latched (sent_by s c ack).clock c.latched) c.bus ≡ c
  unfolding renewed_of
  sent_alone None ack = refl
  sent_alone (Some a) ack = refl

  pub read_alone : (ack : Bool) → with_bus (with_latched (read_of c ack).clock c.latched) c.bus ≡ c
  unfolding read_of
  read_alone ack = sent_alone (reads.read_of c.bus ack).sent ack

  pub lost_keeps : ((lost_of c).hand.time ≡ c.hand.time) × ((lost_of c).ram ≡ c.ram)
  unfolding powered_of
  lost_keeps = (refl, refl)

-- a byte with no effect moves the bus, one that latches the latch too, and one that writes does what the write does
module _ (c : Clock) (b : ℕ) where
  effect_alone : (e : Effect) (x : Bus) → Beside e c b (with_bus (effected_by e c b) x)
  unfolding write_of
  effect_alone effect.None x = refl
  effect_alone effect.Latch x = refl
  effect_alone (effect.Write a) x = refl

  pub byte_alone : Beside (heard_of c.bus b).effect c b (byte_of c b).clock
  unfolding byte_of
  byte_alone = effect_alone (heard_of c.bus b).effect (heard_of c.bus b).bus

-- what a written byte never touches
pub record Untouched (c d : Clock) : Type 0 where
  pub rtcf : d.rtcf ≡ c.rtcf
  pub latched : d.latched ≡ c.latched
  pub divider : d.divider ≡ c.divider
  pub bus : d.bus ≡ c.bus

pub write_alone : (c : Clock) (a b : ℕ) → Untouched c (write_of c a b)
unfolding write_of
write_alone c a b = record { rtcf = refl; latched = refl; divider = refl; bus = refl }

-- and where it is not stored, it moves lock bits alone
pub unstored_alone : (c : Clock) (a b : ℕ) → stores_of c a b ≡ false → with_lock (write_of c a b) c.lock ≡ c
unfolding write_of
unstored_alone c a b e = simp e

-- a stored byte leaves the groups alone that have no register at its address
pub alarm_kept_lem : (x : Alarm) (a b : ℕ) → (a < 0x07) ⊎ (0x10 ≤ a) → alarm.stored_of x a b ≡ x
unfolding alarm.stored_of
alarm_kept_lem x a b h = grind (arith, nat_tests)

pub countdown_kept_lem : (d : Countdown) (a b : ℕ) → eqb a 0x0F ≡ false → eqb a 0x11 ≡ false → eqb a 0x13 ≡ false → countdown.stored_of d a b ≡ d
unfolding countdown.stored_of
countdown_kept_lem d a b flag source count = simp (flag, source, count)

pub control_kept : (k : Control) (a b : ℕ) → eqb a 0x10 ≡ false → eqb a 0x11 ≡ false → control.stored_of k a b ≡ k
unfolding control.stored_of
control_kept k a b ctr2 ctr3 = simp (ctr2, ctr3)

pub lock_kept : (l : Lock) (a b : ℕ) → eqb a 0x0F ≡ false → eqb a 0x10 ≡ false → lock.written_of l a b ≡ l
unfolding lock.written_of
lock_kept l a b ctr1 ctr2 = simp (ctr1, ctr2)

pub ram_kept : (ram : List ℕ) (a b : ℕ) → ltb a 0x14 ≡ true → ram_stored_of ram a b ≡ ram
unfolding ram_stored_of
ram_kept ram a b low = simp low

-- a part of the state that each pulse moves by itself is moved so n times
pub by_itself : {A : Type 0} (view : Clock → A) (f : A → A) → ((c : Clock) → view (pulse_of c) ≡ f (view c)) → (n : ℕ) (c : Clock) → view (pulses_of c n) ≡ times f n (view c)
unfolding times
by_itself view f step zero c = refl
by_itself view f step (suc n) c = step (pulses_of c n) ∙ ap f (by_itself view f step n c)

-- and one that no pulse moves stays
pub stays : {A : Type 0} (view : Clock → A) → ((c : Clock) → view (pulse_of c) ≡ view c) → (n : ℕ) (c : Clock) → view (pulses_of c n) ≡ view c
unfolding times
stays view step zero c = refl
stays view step (suc n) c = step (pulses_of c n) ∙ stays view step n c

pub pulses_hand : (n : ℕ) (c : Clock) → (pulses_of c n).hand ≡ times ticked_of n c.hand
unfolding pulse_of
pulses_hand = by_itself (λ c. c.hand) ticked_of (λ c. refl)

pub pulses_bus : (n : ℕ) (c : Clock) → (pulses_of c n).bus ≡ times (λ (b : Bus). older_of b 1) n c.bus
unfolding pulse_of
pulses_bus = by_itself (λ c. c.bus) (λ (b : Bus). older_of b 1) (λ c. refl)

pub pulses_divider : (n : ℕ) (c : Clock) → (pulses_of c n).divider ≡ times (λ (d : ℕ). turned_by_of d 1) n c.divider
unfolding pulse_of
pulses_divider = by_itself (λ c. c.divider) (λ (d : ℕ). turned_by_of d 1) (λ c. refl)

-- the countdown goes by the controls, which no pulse moves
abbrev pub countdown_turn : Control × Countdown → Control × Countdown
countdown_turn s = (s.0, countdown.counted_of (countdown.lessened_of s.1 1) s.0.intde (tds_of s.0.ctr3))

pub pulses_countdown : (n : ℕ) (c : Clock) → ((pulses_of c n).control, (pulses_of c n).countdown) ≡ times countdown_turn n (c.control, c.countdown)
unfolding pulse_of
pulses_countdown = by_itself (λ c. (c.control, c.countdown)) countdown_turn (λ c. refl)

-- the alarm goes by the controls and by the hand after its advance
pub record Watch : Type 0 where
  pub control : Control
  pub hand : Hand
  pub alarm : Alarm

abbrev pub watch_of : Clock → Watch
watch_of c = record { control = c.control; hand = c.hand; alarm = c.alarm }

abbrev pub watch_turn : Watch → Watch
watch_turn s =
    record {
      control = s.control;
      hand = ticked_of s.hand;
      alarm =
          alarm.rung_of (alarm.lessened_of s.alarm 1) s.hand.time (ticked_of s.hand).time
          (eqb (ticked_of s.hand).counter 0 && s.control.intae);
    }

pub pulses_alarm : (n : ℕ) (c : Clock) → watch_of (pulses_of c n) ≡ times watch_turn n (watch_of c)
unfolding pulse_of
pulses_alarm = by_itself watch_of watch_turn (λ c. refl)

-- what no pulse moves
module _ (n : ℕ) (c : Clock) where
  pub pulses_lock : (pulses_of c n).lock ≡ c.lock
  unfolding pulse_of
  pulses_lock = stays (λ c. c.lock) (λ c. refl) n c

  pub pulses_control : (pulses_of c n).control ≡ c.control
  unfolding pulse_of
  pulses_control = stays (λ c. c.control) (λ c. refl) n c

  pub pulses_rtcf : (pulses_of c n).rtcf ≡ c.rtcf
  unfolding pulse_of
  pulses_rtcf = stays (λ c. c.rtcf) (λ c. refl) n c

  pub pulses_ram : (pulses_of c n).ram ≡ c.ram
  unfolding pulse_of
  pulses_ram = stays (λ c. c.ram) (λ c. refl) n c

  pub pulses_latched : (pulses_of c n).latched ≡ c.latched
  unfolding pulse_of
  pulses_latched = stays (λ c. c.latched) (λ c. refl) n c
