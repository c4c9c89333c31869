-- What is told of a pulse from the states on both sides of it is what its stages did. Assumes nothing.
use Rattle.std.proofs.Common.{◌≡◌, refl, ap, ◌∙◌, Bool, true, false, cond, ◌&&◌, not, ℕ, zero, suc, ◌-◌, ◌≤◌, arith, eqb}
use Rattle.std.proofs.lemmas.Bool.Decides.{nat_tests}
use Rattle.calendar.specs.Repeat.{times}
use Rattle.hand.specs.Hand.{ticked_of}
use Rattle.hand.proofs.SecondLaws.{counter_tells}
use Rattle.alarm.specs.Alarm as alarm
use Rattle.countdown.specs.Countdown as countdown
use Rattle.bus.specs.declared.phase.Phase.{Phase}
use Rattle.bus.specs.declared.phase.Phase.TheVariants.{Closed, Open}
use Rattle.bus.specs.Phase.{older_in}
use Rattle.sd2068.specs.declared.clock.Clock.{Clock}
use Rattle.sd2068.specs.Step.{step_of}
use Rattle.sd2068.specs.Pulse.{pulse_of, pulses_of}
use Rattle.sd2068.proofs.WellLaws.{Well, pulses_well}
use Rattle.sd2068.proofs.StepLaws.{step_pulses}
use Rattle.facts.specs.Moments.{open_of, moment_of, ended_of, rang_of, zeroed_of, timed_out_of, pulse_moment}

-- a pin pulse is whole only where it has just begun
whole : (begun : Bool) (p : ℕ) → p ≤ 8192 → eqb (cond begun 8192 (p - 1)) 8192 ≡ begun
whole true p h = refl
whole false p h = grind (arith, nat_tests)

-- an open transfer is closed by a pulse only at its age
closing : (f : Phase) (p : ℕ) → open_of f && not (open_of (older_in f p 1).phase) ≡ timed_out_of f
closing Closed p = refl
closing (Open m t) p = grind (arith, nat_tests)

module _ (c : Clock) (w : Well c) where
  timeout : (moment_of c (pulse_of c)).timeout ≡ timed_out_of c.bus.phase
  unfolding moment_of pulse_of
  timeout = closing c.bus.phase c.bus.pointer

  zeroed : (moment_of c (pulse_of c)).zero ≡ zeroed_of c
  unfolding moment_of pulse_of countdown.counted_of
  zeroed = whole (zeroed_of c) c.countdown.pulse w.countdown.pulse

  second : (moment_of c (pulse_of c)).second ≡ ended_of c
  unfolding moment_of pulse_of
  second = counter_tells c.hand

  rang : (moment_of c (pulse_of c)).alarm ≡ rang_of c
  unfolding moment_of pulse_of alarm.rung_of
  rang =
      let begins = alarm.rings_of c.alarm c.hand.time (ticked_of c.hand).time in
      whole ((eqb (ticked_of c.hand).counter 0 && c.control.intae) && begins) c.alarm.pulse w.alarm.pulse
      ∙ ap (λ (ended : Bool). (ended && c.control.intae) && begins) (counter_tells c.hand)

  -- from a well-formed state, a pulse's moment is what the rules of its stages say
  pub moment_told : moment_of c (pulse_of c) ≡ pulse_moment c
  unfolding pulse_moment
  moment_told = λ i. record { timeout = timeout i; zero = zeroed i; second = second i; alarm = rang i }

-- steps of one pulse, as many as an event has, come to what the event leaves
abbrev single : Clock → Clock
single c = (step_of c 5 0 1).state

pub one_by_one : (n : ℕ) (c : Clock) → Well c → times single n c ≡ pulses_of c n
unfolding times
one_by_one zero c w = refl
one_by_one (suc n) c w = ap single (one_by_one n c w) ∙ step_pulses (pulses_of c n) (pulses_well c w n) 1
