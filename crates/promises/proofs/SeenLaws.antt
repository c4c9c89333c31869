-- Each kind of event shows what is said of it, from every state that may be handed in. Assumes nothing.
use Rattle.std.proofs.Common.{◌≡◌, refl, Bool, true, false, cond, List, ℕ, ◌<◌, arith, ne_eqb}
use Rattle.std.proofs.lemmas.Grind.{common_steps}
use Rattle.events.specs.Refusal.{fault_of}
use Rattle.sd2068.specs.declared.clock.Clock.{Clock}
use Rattle.sd2068.specs.declared.answers.Answered.{Answered}
use Rattle.sd2068.specs.Power.{power_on_of}
use Rattle.sd2068.specs.Step.{quiet_of, event_of, refusal_of, told_of, step_of}
use Rattle.sd2068.proofs.WellLaws.{parts, step_taken}
use Rattle.sd2068.proofs.ListedLaws.{well_listed}
use Rattle.promises.specs.Registers.{View, view_of, Looks, State}
use Rattle.promises.specs.Seen.{Seen, Shows, quiet_text, start_seen, stop_seen, byte_seen, read_seen, pulses_seen, loss_seen, powered_view, start_at, event_seen}
use Rattle.promises.proofs.PinLaws.{pin_law}
use Rattle.promises.proofs.TransferLaws.{start_view, stop_view, seen_of, read_seen_lem, byte_seen_lem}
use Rattle.promises.proofs.PowerLaws.{lost_view, power_on_view}
use Rattle.promises.proofs.PulseLaws.{pulses_view}

-- a state whose view is v looks so
looks : (c : Clock) (v : View) → view_of c ≡ v → Looks c v
looks c v p = grind (arith, common_steps)

-- an event that is seen so shows it in its step
shown : (e : Answered) (s : Seen) → seen_of e ≡ s → Shows (told_of 0 e) s
shown e s p = grind (arith, common_steps, looks, pin_law)

-- an event is seen so; of a choice between two, the one that is chosen
record Sees (e : Answered) (s : Seen) : Type 0 where
  same : seen_of e ≡ s

chosen : (b : Bool) {x y : Answered} {s t : Seen} → Sees x s → Sees y t → Sees (cond b x y) (cond b s t)
chosen true p q = p
chosen false p q = q

-- an event that is not answered
silent : (c : Clock) (v : View) → view_of c ≡ v → Sees (quiet_of c) (record { said = quiet_text; left = v })
silent c v p = record { same = λ i. record { said = quiet_text; left = p i } }

module _ (c : Clock) (w : State c) where
  event_seen_lem : (kind byte count : ℕ) → byte < 256 → Sees (event_of c kind byte count) (event_seen (view_of c) kind byte count)
  unfolding event_of event_seen start_seen stop_seen
  event_seen_lem kind byte count small = grind (arith, common_steps, well_listed, chosen, silent, start_view, stop_view, byte_seen_lem, byte, read_seen_lem, pulses_view, lost_view)

  good : (kind byte count : ℕ) → (step_of c kind byte count).refusal ≡ 0 → fault_of kind byte count ≡ 0
  unfolding step_of refusal_of
  good kind byte count e = simp w.well at e

  -- every event that is not refused
  pub every_event : (kind byte count : ℕ) → byte < 256 → (step_of c kind byte count).refusal ≡ 0 → Shows (step_of c kind byte count) (event_seen (view_of c) kind byte count)
  every_event kind byte count small e = grind (arith, common_steps, step_taken, parts, byte, good, shown, event_seen_lem)

  -- an event that is not at fault is not refused
  taken : (kind byte count : ℕ) → fault_of kind byte count ≡ 0 → (step_of c kind byte count).refusal ≡ 0
  unfolding step_of refusal_of
  taken kind byte count e = simp (w.well, e)

  pub start : Shows (step_of c 0 0 0) (start_seen (view_of c))
  unfolding event_seen
  start = every_event 0 0 0 (omega arith) (taken 0 0 0 refl)

  pub stop : Shows (step_of c 1 0 0) (stop_seen (view_of c))
  unfolding event_seen
  stop = every_event 1 0 0 (omega arith) (taken 1 0 0 refl)

  pub byte : (b : ℕ) → b < 256 → Shows (step_of c 2 b 0) (byte_seen c.bus.phase (view_of c) b)
  unfolding event_seen
  byte b h = every_event 2 b 0 h (taken 2 b 0 refl)

  pub read_ack : Shows (step_of c 3 0 0) (read_seen c.bus.phase (view_of c) true)
  unfolding event_seen
  read_ack = every_event 3 0 0 (omega arith) (taken 3 0 0 refl)

  pub read_nak : Shows (step_of c 4 0 0) (read_seen c.bus.phase (view_of c) false)
  unfolding event_seen
  read_nak = every_event 4 0 0 (omega arith) (taken 4 0 0 refl)

  pub pulses : (n : ℕ) → 0 < n → Shows (step_of c 5 0 n) (pulses_seen (view_of c) n)
  unfolding event_seen
  pulses n h = every_event 5 0 n (omega arith) (taken 5 0 n (simp (ne_eqb n 0 (λ e. omega arith))))

  pub power_loss : Shows (step_of c 6 0 0) (loss_seen (view_of c))
  unfolding event_seen
  power_loss = every_event 6 0 0 (omega arith) (taken 6 0 0 refl)

-- a power-on that is not refused
pub power_on : (s : List ℕ) → (power_on_of s).refusal ≡ 0 → Looks (power_on_of s).state (powered_view (start_at s))
power_on s e = looks (power_on_of s).state (powered_view (start_at s)) (power_on_view s e)
