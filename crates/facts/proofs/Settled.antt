-- Every public contract of this crate settles its result. Assumes nothing.
use Rattle.std.proofs.Common.{refl}
use Rattle.fields.proofs.Settles.{Settles, settled}
use Rattle.facts.proofs.deeds.deed_of.Kinds as deed_kinds
use Rattle.facts.proofs.deeds.deed_of.Reads as deed_reads
use Rattle.facts.proofs.moments.moment_of.Kinds as moment_kinds
use Rattle.facts.proofs.moments.moment_of.Reads as moment_reads

-- what is said of each, for crates above
abbrev pub DeedSettles : Type 0
DeedSettles = Settles 0 deed_kinds.ps deed_kinds.r deed_reads.Post

abbrev pub MomentSettles : Type 0
MomentSettles = Settles 0 moment_kinds.ps moment_kinds.r moment_reads.Post

pub deed_settles : DeedSettles
deed_settles κs a e f x y = settled (λ z. z) (λ z. z) (λ z. refl)

pub moment_settles : MomentSettles
moment_settles κs a e f x y = settled (λ z. z) (λ z. z) (λ z. refl)
