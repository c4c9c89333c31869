-- What is still to be searched gives what the whole gives. Assumes nothing.
use Rattle.std.proofs.Common.{◌≡◌}
use Rattle.script.specs.Event.{events_in}
use Rattle.script.specs.Checks.{first_of}
use Rattle.script.proofs.SearchLaws.{left_of}
use Rattle.script.proofs.checks.first_fault.Given as goal

abbrev pub invariant-loop-index : goal.invariant-loop-index
invariant-loop-index l = first_of (left_of l.events l.index) l.index ≡ first_of (events_in l.events) 0
