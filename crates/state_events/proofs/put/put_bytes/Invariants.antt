-- What is left to write leaves what all of them leave. Assumes nothing.
use Rattle.std.proofs.Common.{◌≡◌, drop}
use Rattle.state_events.specs.Put.{put_bytes}
use Rattle.state_events.proofs.put.put_bytes.Given as goal

abbrev pub invariant-loop-k : goal.invariant-loop-k
invariant-loop-k l = put_bytes l.s l.i l.k (drop l.k l.bytes) ≡ put_bytes l.initial.s l.i 0 l.bytes
