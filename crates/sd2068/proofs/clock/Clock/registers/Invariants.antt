-- After a turns the first a registers stand in the array. Assumes nothing.
use Rattle.std.proofs.Common.{◌≡◌, length, take}
use Rattle.sd2068.specs.Reading.{registers_to}
use Rattle.sd2068.proofs.clock.Clock.registers.Given as goal

abbrev pub invariant-loop-a : goal.invariant-loop-a
invariant-loop-a l = (length l.byte-items ≡ 32) × (take l.a l.byte-items ≡ registers_to l.self l.a)
