-- Every public contract of this crate settles its result. Assumes nothing.
use Rattle.std.proofs.Common.{refl}
use Rattle.fields.proofs.Settles.{Settles, settled}
use Rattle.countdown.proofs.Countdown.counted.Kinds as counted_kinds
use Rattle.countdown.proofs.Countdown.counted.Reads as counted_reads
use Rattle.countdown.proofs.Countdown.lessened.Kinds as lessened_kinds
use Rattle.countdown.proofs.Countdown.lessened.Reads as lessened_reads
use Rattle.countdown.proofs.Countdown.within.Kinds as within_kinds
use Rattle.countdown.proofs.Countdown.within.Reads as within_reads
use Rattle.countdown.proofs.Countdown.drifted.Kinds as drifted_kinds
use Rattle.countdown.proofs.Countdown.drifted.Reads as drifted_reads
use Rattle.countdown.proofs.Countdown.stored.Kinds as stored_kinds
use Rattle.countdown.proofs.Countdown.stored.Reads as stored_reads
use Rattle.countdown.proofs.Countdown.well_formed.Kinds as well_formed_kinds
use Rattle.countdown.proofs.Countdown.well_formed.Reads as well_formed_reads

pub counted_settles : Settles 0 counted_kinds.ps counted_kinds.r counted_reads.Post
counted_settles κs a e f x y = settled (λ z. z) (λ z. z) (λ z. refl)

pub lessened_settles : Settles 0 lessened_kinds.ps lessened_kinds.r lessened_reads.Post
lessened_settles κs a e f x y = settled (λ z. z) (λ z. z) (λ z. refl)

pub within_settles : Settles 0 within_kinds.ps within_kinds.r within_reads.Post
within_settles κs a e f x y = settled (λ z. z) (λ z. z) (λ z. refl)

pub drifted_settles : Settles 0 drifted_kinds.ps drifted_kinds.r drifted_reads.Post
drifted_settles κs a e f x y = settled (λ z. z) (λ z. z) (λ z. refl)

pub stored_settles : Settles 0 stored_kinds.ps stored_kinds.r stored_reads.Post
stored_settles κs a e f x y = settled (λ z. z) (λ z. z) (λ z. refl)

pub well_formed_settles : Settles 0 well_formed_kinds.ps well_formed_kinds.r well_formed_reads.Post
well_formed_settles κs a e f x y = settled (λ z. z) (λ z. z) (λ z. refl)
