-- At the end the bytes before the index are all. Assumes nothing.
use Rattle.std.proofs.Common.{◌≡◌, ℕ, ◌+◌, get_or, arith, ap, ◌∙◌}
use Rattle.state_bytes.proofs.PlaceLaws.{together}
use Rattle.state_bytes.proofs.places.bytes_at.Goals as goal

pub returns : goal.returns
returns g c =
    let all : c.loop-k.k ≡ g.row.N = omega arith in
    together c.args.s.now c.loop-k.byte-items c.args.i 0 g.row.N c.loop-k.invariant.long
    (λ j h. let place : c.args.i + j ≡ c.args.i + (0 + j) = omega arith in c.loop-k.invariant.copied j (omega arith) ∙ ap (λ (m : ℕ). get_or c.args.s.now m 0) place)
