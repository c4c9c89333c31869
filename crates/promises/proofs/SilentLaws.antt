-- What pulses make of INTAF and of the pin pulse: where a match begins they are set, and while it lasts nothing moves them. Assumes nothing.
use Rattle.std.proofs.Common.{◌≡◌, refl, sym, ap, subst, ◌∙◌, ◌⊎◌, ◌↔◌, Bool, true, false, cond, ◌||◌, ℕ, zero, suc, ◌-◌, ◌≤◌, ◌<◌, arith}
use mathlib.Core.Bool.{false≢true}
use Rattle.std.proofs.lemmas.Grind.{common_steps}
use Rattle.calendar.specs.Repeat.{times}
use Rattle.alarm.specs.Alarm as alarm
use Rattle.alarm.proofs.RingLaws as laws
use Rattle.sd2068.specs.declared.clock.Clock.{Clock}
use Rattle.sd2068.specs.Pulse.{pulse_of, pulses_of}
use Rattle.sd2068.specs.Reading.{control_at_of, register_of}
use Rattle.sd2068.specs.Step.{step_of}
use Rattle.sd2068.proofs.WellLaws.{parts}
use Rattle.sd2068.proofs.StepLaws.{step_pulses}
use Rattle.promises.specs.Registers.{bit, inner_of, State}
use Rattle.promises.specs.Pulsed.{rings}
use Rattle.promises.specs.Ring.{time_before, Begins, Matching, Silent}
use Rattle.promises.proofs.RegisterLaws.{intaf}
use Rattle.promises.proofs.PulseLaws.{matches_same, rings_same}
use Rattle.promises.proofs.RingLaws.{alarm_at, rings_begins, begins_rings, lasts_unrung}

-- a flag that was set or is set now, by a test that says P
module _ (P : Type 0) where
  flag_set : (x y : Bool) → (x ≡ true → P) → (P → x ≡ true) → (x || y ≡ true) ↔ ((y ≡ true) ⊎ P)
  flag_set x y e h = grind (arith, common_steps)

  whole_pulse : (x : Bool) (p : ℕ) → p ≤ 8192 → (x ≡ true → P) → (P → x ≡ true) → (cond x 8192 (p - 1) ≡ 8192) ↔ P
  whole_pulse true p h f g = (λ e. f refl, λ q. refl)
  whole_pulse false p h f g = (λ e. absurd (omega arith), λ q. absurd (false≢true (g q)))

-- what one pulse makes of INTAF and of the pin pulse
module _ (c : Clock) where
  intaf_after : bit 5 (register_of (pulse_of c) 0x0F) ≡ (rings (register_of c) (inner_of c) || bit 5 (register_of c 0x0F))
  unfolding pulse_of alarm.rung_of
  intaf_after = intaf (pulse_of c) ∙ (λ x. rings_same c x || sym (intaf c) x)

  pulse_after : (inner_of (pulse_of c)).alarm_pulse ≡ cond (rings (register_of c) (inner_of c)) 8192 ((inner_of c).alarm_pulse - 1)
  unfolding pulse_of alarm.rung_of
  pulse_after = ap (λ (b : Bool). cond b 8192 (c.alarm.pulse - 1)) (rings_same c)

  intaf_by : (bit 5 (register_of (pulse_of c) 0x0F) ≡ true) ↔ ((bit 5 (register_of c 0x0F) ≡ true) ⊎ Begins (register_of c) (inner_of c))
  intaf_by = grind (arith, common_steps, intaf_after, flag_set, rings_begins, begins_rings)

  pulse_by : (inner_of c).alarm_pulse ≤ 8192 → ((inner_of (pulse_of c)).alarm_pulse ≡ 8192) ↔ Begins (register_of c) (inner_of c)
  pulse_by h = grind (arith, common_steps, pulse_after, whole_pulse, rings_begins, begins_rings)

  -- inside a match it makes nothing of them
  one_silent : Matching c → Silent c (pulse_of c) 1
  one_silent e = grind (arith, common_steps, lasts_unrung, intaf, intaf_after, pulse_after)

-- so while the match lasts, pulse after pulse
less_more : (p q s n : ℕ) → q ≡ p - n → s ≡ q - 1 → s ≡ p - suc n
less_more p q s n e f = omega arith

module _ (c : Clock) where
  silent_pulses : (n : ℕ) → ((m : ℕ) → m < n → Matching (pulses_of c m)) → Silent c (pulses_of c n) n
  unfolding times
  silent_pulses zero lasts = record { intaf = refl; pulse = omega arith }
  silent_pulses (suc n) lasts =
      let before = silent_pulses n (λ m h. lasts m (omega arith)) in
      let now = one_silent (pulses_of c n) (lasts n (omega arith)) in
      record {
        intaf = now.intaf ∙ before.intaf;
        pulse = less_more c.alarm.pulse (pulses_of c n).alarm.pulse (pulses_of c (suc n)).alarm.pulse n before.pulse now.pulse;
      }

-- an empty 0Eh stays so, and matches every time
enable_kept : (c : Clock) (n : ℕ) → register_of (pulses_of c n) 0x0E ≡ register_of c 0x0E
unfolding times register_of control_at_of pulse_of alarm.rung_of
enable_kept c zero = refl
enable_kept c (suc n) = enable_kept c n

empty_matching : (c : Clock) → register_of c 0x0E ≡ 0 → Matching c
empty_matching c e =
    let r = register_of c in
    sym (matches_same r (time_before r)) ∙ laws.empty_meets (alarm_at r) (time_before r) e

-- and by steps
module _ (c : Clock) (w : State c) where
  stepped_pulses : (n : ℕ) → (step_of c 5 0 n).state ≡ pulses_of c n
  stepped_pulses = step_pulses c (parts c w.well)

  one_pulse : (step_of c 5 0 1).state ≡ pulse_of c
  unfolding times
  one_pulse = stepped_pulses 1

  abbrev Ring : Type 0
  Ring = Begins (register_of c) (inner_of c)

  pub intaf_set : (bit 5 (register_of (step_of c 5 0 1).state 0x0F) ≡ true) ↔ ((bit 5 (register_of c 0x0F) ≡ true) ⊎ Ring)
  intaf_set = subst (λ (d : Clock). (bit 5 (register_of d 0x0F) ≡ true) ↔ ((bit 5 (register_of c 0x0F) ≡ true) ⊎ Ring)) (sym one_pulse) (intaf_by c)

  pub pulse_begun : ((inner_of (step_of c 5 0 1).state).alarm_pulse ≡ 8192) ↔ Ring
  pulse_begun =
      subst (λ (d : Clock). ((inner_of d).alarm_pulse ≡ 8192) ↔ Ring) (sym one_pulse) (pulse_by c (parts c w.well).alarm.pulse)

  pub match_lasts : (n : ℕ) → ((m : ℕ) → m < n → Matching (step_of c 5 0 m).state) → Silent c (step_of c 5 0 n).state n
  match_lasts n lasts =
      subst (λ (d : Clock). Silent c d n) (sym (stepped_pulses n))
      (silent_pulses c n (λ m h. subst Matching (stepped_pulses m) (lasts m h)))

  pub empty_silent : register_of c 0x0E ≡ 0 → (n : ℕ) → Silent c (step_of c 5 0 n).state n
  empty_silent e n =
      subst (λ (d : Clock). Silent c d n) (sym (stepped_pulses n))
      (silent_pulses c n (λ m h. empty_matching (pulses_of c m) (enable_kept c m ∙ e)))
