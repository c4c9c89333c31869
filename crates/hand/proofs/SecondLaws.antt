-- A second's end can be told by the counter: it is 0 after that pulse and after no other. Assumes nothing.
use Rattle.std.proofs.Common.{◌≡◌, arith, eqb}
use Rattle.std.proofs.lemmas.Bool.Decides.{nat_tests}
use Rattle.hand.specs.Hand.{ends_of, ticked_of}
use Rattle.hand.specs.declared.hand.Hand.{Hand}

pub counter_tells : (h : Hand) → eqb (ticked_of h).counter 0 ≡ ends_of h
unfolding ticked_of
counter_tells h = grind (arith, nat_tests)
