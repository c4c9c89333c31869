-- Every public contract of this crate settles its result. Assumes nothing.
use Rattle.std.proofs.Common.{refl}
use Rattle.fields.proofs.Settles.{Settles, settled}
use Rattle.hand.proofs.hand.Hand.ticked.Kinds as ticked_kinds
use Rattle.hand.proofs.hand.Hand.ticked.Reads as ticked_reads
use Rattle.hand.proofs.hand.Hand.within.Kinds as within_kinds
use Rattle.hand.proofs.hand.Hand.within.Reads as within_reads
use Rattle.hand.proofs.hand.Hand.drifted.Kinds as drifted_kinds
use Rattle.hand.proofs.hand.Hand.drifted.Reads as drifted_reads
use Rattle.hand.proofs.hand.Hand.stored.Kinds as stored_kinds
use Rattle.hand.proofs.hand.Hand.stored.Reads as stored_reads
use Rattle.hand.proofs.hand.Hand.well_formed.Kinds as well_formed_kinds
use Rattle.hand.proofs.hand.Hand.well_formed.Reads as well_formed_reads

pub ticked_settles : Settles 0 ticked_kinds.ps ticked_kinds.r ticked_reads.Post
ticked_settles κs a e f x y = settled (λ z. z) (λ z. z) (λ z. refl)

pub within_settles : Settles 0 within_kinds.ps within_kinds.r within_reads.Post
within_settles κs a e f x y = settled (λ z. z) (λ z. z) (λ z. refl)

pub drifted_settles : Settles 0 drifted_kinds.ps drifted_kinds.r drifted_reads.Post
drifted_settles κs a e f x y = settled (λ z. z) (λ z. z) (λ z. refl)

pub stored_settles : Settles 0 stored_kinds.ps stored_kinds.r stored_reads.Post
stored_settles κs a e f x y = settled (λ z. z) (λ z. z) (λ z. refl)

pub well_formed_settles : Settles 0 well_formed_kinds.ps well_formed_kinds.r well_formed_reads.Post
well_formed_settles κs a e f x y = settled (λ z. z) (λ z. z) (λ z. refl)
