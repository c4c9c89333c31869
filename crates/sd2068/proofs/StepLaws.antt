-- What a step of pulses leaves, for any number of them. Assumes nothing.
use Rattle.std.proofs.Common.{◌≡◌, ap, ℕ, zero, suc, arith}
use Rattle.std.proofs.lemmas.Bool.Decides.{nat_tests}
use Rattle.calendar.specs.Repeat.{times}
use Rattle.sd2068.specs.declared.clock.Clock.{Clock}
use Rattle.sd2068.specs.Pulse.{pulses_of}
use Rattle.sd2068.specs.Step.{Told, event_of, refusal_of, step_of}
use Rattle.sd2068.proofs.WellLaws.{Well, whole, step_taken}

-- a step of n pulses leaves what n pulses leave; one of none is refused and leaves the state
pub step_pulses : (c : Clock) → Well c → (n : ℕ) → (step_of c 5 0 n).state ≡ pulses_of c n
unfolding step_of refusal_of event_of times
step_pulses c w zero = simp (whole c w)
step_pulses c w (suc n) = ap (λ (t : Told). t.state) (step_taken c w 5 0 (suc n) (grind (arith, nat_tests)))
