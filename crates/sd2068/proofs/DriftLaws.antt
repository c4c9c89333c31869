-- Pulses that end no second and make no tick only count: taken at once before the next pulse they come to the same. Assumes nothing.
use Rattle.std.proofs.Common.{◌≡◌, sym, ap, ◌∙◌, true, false, ◌&&◌, ℕ, zero, suc, ◌+◌, ◌-◌, ◌≤◌, ◌<◌, add-one, arith, eqb}
use Rattle.calendar.specs.Repeat.{times}
use Rattle.hand.specs.Hand as hand
use Rattle.hand.proofs.SpanLaws.{times_add}
use Rattle.hand.proofs.DriftLaws as hand_laws
use Rattle.alarm.proofs.DriftLaws as alarm_laws
use Rattle.countdown.proofs.DriftLaws as countdown_laws
use Rattle.bus.specs.Phase.{older_of}
use Rattle.bus.proofs.AgeLaws.{older_add}
use Rattle.sd2068.specs.declared.clock.Clock.{Clock}
use Rattle.sd2068.specs.Controls.{tds_of}
use Rattle.sd2068.specs.Clock.{with_divider, with_bus}
use Rattle.sd2068.specs.Pulse.{turned_by_of, pulse_of, within_of, drifted_of}

-- one more turn of the divider
turned_more : (d k : ℕ) → turned_by_of (turned_by_of d k) 1 ≡ turned_by_of d (suc k)
turned_more d k = omega arith

module _ (c : Clock) where
  abbrev tds : ℕ
  tds = tds_of c.control.ctr3

  -- k pulses come before the end of the second and before a tick
  record Room (k : ℕ) : Type 0 where
    second : k ≤ hand_laws.room_of c.hand
    tick : c.control.intde ≡ true → k ≤ countdown_laws.room_of c.countdown tds

  -- no pulse at once: a divider or an age beyond its bound may move, which the next pulse would move too
  drifts_none : pulse_of (drifted_of c 0) ≡ pulse_of c
  unfolding pulse_of drifted_of
  drifts_none =
      ap pulse_of
      (λ i.
      record c {
        hand = hand_laws.drift_none c.hand i;
        alarm = alarm_laws.drift_none c.alarm i;
        countdown = countdown_laws.drift_none c.countdown c.control.intde i;
        divider = turned_by_of c.divider 0;
        bus = older_of c.bus 0;
      })
      ∙ (λ i. with_bus (with_divider (pulse_of c) (turned_more c.divider 0 i)) (older_add c.bus 0 1 i))

  drifts_more : (k : ℕ) → Room (suc k) → pulse_of (drifted_of c k) ≡ drifted_of c (suc k)
  unfolding pulse_of drifted_of
  drifts_more k room =
      let h = hand.ticked_of (hand.drifted_of c.hand k) in
      let unasked : eqb h.counter 0 && c.control.intae ≡ false = simp (hand_laws.drift_within c.hand k room.second) in
      λ i.
      record c {
        hand = hand_laws.drift_more c.hand k room.second i;
        alarm = alarm_laws.drift_more c.alarm k c.hand.time h.time _ unasked i;
        countdown = countdown_laws.drift_more c.countdown tds c.control.intde k room.tick i;
        divider = turned_more c.divider k i;
        bus = (older_add c.bus k 1 ∙ ap (older_of c.bus) (add-one k)) i;
      }

  drifts : (k : ℕ) → Room k → pulse_of (drifted_of c k) ≡ times pulse_of (suc k) c
  unfolding times
  drifts zero room = drifts_none
  drifts (suc k) room =
      ap pulse_of (sym (drifts_more k room))
      ∙ ap pulse_of (drifts k (record { second = omega (arith, room.second); tick = λ e. omega (arith, room.tick e) }))

  -- of n pulses, as many as only count
  module _ (n : ℕ) where
    second_asked : hand_laws.Room c.hand n (hand.within_of c.hand n)
    second_asked = hand_laws.within_asked c.hand n

    tick_asked : countdown_laws.Room c.countdown tds c.control.intde (hand.within_of c.hand n) (within_of c n)
    tick_asked = countdown_laws.within_asked c.countdown tds c.control.intde (hand.within_of c.hand n)

    pub within_asked : within_of c n ≤ n
    within_asked = omega (arith, second_asked.asked, tick_asked.asked)

    within_room : Room (within_of c n)
    within_room = record { second = omega (arith, second_asked.room, tick_asked.asked); tick = tick_asked.room }

  -- they and the pulse after them are the first of n pulses
  pub drifts_first : (n : ℕ) → 0 < n → times pulse_of (n - 1 - within_of c (n - 1)) (pulse_of (drifted_of c (within_of c (n - 1)))) ≡ times pulse_of n c
  drifts_first n some =
      let k = within_of c (n - 1) in
      let all : suc k + (n - 1 - k) ≡ n = omega (arith, within_asked (n - 1)) in
      ap (times pulse_of (n - 1 - k)) (drifts k (within_room (n - 1)))
      ∙ times_add pulse_of (suc k) (n - 1 - k) c
      ∙ ap (λ (m : ℕ). times pulse_of m c) all
