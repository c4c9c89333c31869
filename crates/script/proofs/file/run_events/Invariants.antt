-- Each turn keeps where the run stands. Assumes nothing.
use Rattle.state_bytes.specs.Decoded.{clock_of}
use Rattle.script.proofs.TurnLaws.{Turn}
use Rattle.script.proofs.file.run_events.Given as goal

abbrev pub invariant-loop-index : goal.invariant-loop-index
invariant-loop-index l = Turn l.events l.initial.out (clock_of l.initial.state) l.out l.state l.index
