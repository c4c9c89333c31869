-- At the end nothing is left. Assumes nothing.
use Rattle.std.proofs.Common.{arith}
use Rattle.script.proofs.LineLaws.{ended}
use Rattle.script.proofs.file.run_events.Goals as goal

pub returns : goal.returns
returns c = ended (omega (arith, c.as_chunks.ensures.front_len)) c.loop-index.invariant.stage
