-- The bytes before the index are those from the place on. Assumes nothing.
use Rattle.std.proofs.Common.{◌≡◌, get_or, ℕ, ◌+◌, ◌<◌, length}
use Rattle.state_bytes.proofs.places.bytes_at.Given as goal

abbrev pub invariant-loop-k : goal.invariant-loop-k
invariant-loop-k g l =
    record { long : length l.byte-items ≡ g.row.N; copied : (j : ℕ) → j < l.k → get_or l.byte-items j 0 ≡ get_or l.s (l.i + j) 0 }
