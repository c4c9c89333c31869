-- A run counts no more events than its output has room for lines. Assumes nothing.
use Rattle.std.proofs.Common.{arith, length-take-le, sym}
use Rattle.script.proofs.RunLaws.{run_room}
use Rattle.clock.proofs.run_file.Goals as goal

pub overflow_mul-ran : goal.overflow_mul-ran
overflow_mul-ran g c = omega (arith, run_room _ _ _ _ c.in-Ok.ensures)

pub slice_bounds-write_all-end : goal.slice_bounds-write_all-end
slice_bounds-write_all-end g c = omega (arith, run_room _ _ _ _ c.in-Ok.ensures)

pub slice_bounds-write_all-end-in-Ok : goal.slice_bounds-write_all-end-in-Ok
slice_bounds-write_all-end-in-Ok g c = sym (length-take-le _ _ (omega (arith, run_room _ _ _ _ c.in-Ok.ensures)))
