-- A run counts no more events than its output has room for lines. Assumes nothing.
use Rattle.std.proofs.Common.{arith}
use Rattle.script.proofs.RunLaws.{run_room}
use Rattle.explain.proofs.explain.Goals as goal

pub overflow_cast-ran : goal.overflow_cast-ran
overflow_cast-ran g c = record { fits = omega (arith, c.requires, run_room _ _ _ _ c.in-Ok.ensures) }
