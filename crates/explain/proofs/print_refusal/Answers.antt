-- Every line fits in twelve bytes and has more than its newline. Assumes nothing.
use Rattle.std.proofs.Common.{arith, length-take-le, sym}
use Rattle.script.proofs.RefusedLaws.{refused_some, refused_size}
use Rattle.explain.proofs.print_refusal.Goals as goal

pub unwrap-size-requires : goal.unwrap-size-requires
unwrap-size-requires g c = refused_some _ _ _ _ c.put_refused.ensures (omega arith)

pub slice_bounds-line-count : goal.slice_bounds-line-count
slice_bounds-line-count g c = omega (arith, refused_size _ _ _ _ c.put_refused.ensures (omega arith) _ c.unwrap-size.ensures)

pub slice_bounds-line-end : goal.slice_bounds-line-end
slice_bounds-line-end g c = omega (arith, refused_size _ _ _ _ c.put_refused.ensures (omega arith) _ c.unwrap-size.ensures)

pub slice_bounds-write_all-length : goal.slice_bounds-write_all-length
slice_bounds-write_all-length g c = sym (length-take-le _ _ (omega (arith, refused_size _ _ _ _ c.put_refused.ensures (omega arith) _ c.unwrap-size.ensures)))
