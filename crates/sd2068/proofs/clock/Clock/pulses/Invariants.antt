-- What is left to do from here comes to what was to be done. Assumes nothing.
use Rattle.std.proofs.Common.{◌≡◌}
use Rattle.calendar.specs.Repeat.{times}
use Rattle.sd2068.specs.Pulse.{pulse_of}
use Rattle.sd2068.proofs.clock.Clock.pulses.Given as goal

abbrev pub invariant-loop-left : goal.invariant-loop-left
invariant-loop-left l = times pulse_of l.left l.c ≡ times pulse_of l.n l.initial.c

abbrev pub decreases-loop-left : goal.decreases-loop-left
decreases-loop-left l = l.left
