-- Every public contract of this crate settles its result. Assumes nothing.
use Rattle.std.proofs.Common.{refl}
use Rattle.fields.proofs.Settles.{Settles, settled}
use Rattle.alarm.proofs.alarm.Alarm.rung.Kinds as rung_kinds
use Rattle.alarm.proofs.alarm.Alarm.rung.Reads as rung_reads
use Rattle.alarm.proofs.alarm.Alarm.lessened.Kinds as lessened_kinds
use Rattle.alarm.proofs.alarm.Alarm.lessened.Reads as lessened_reads
use Rattle.alarm.proofs.alarm.Alarm.stored.Kinds as stored_kinds
use Rattle.alarm.proofs.alarm.Alarm.stored.Reads as stored_reads
use Rattle.alarm.proofs.alarm.Alarm.well_formed.Kinds as well_formed_kinds
use Rattle.alarm.proofs.alarm.Alarm.well_formed.Reads as well_formed_reads

pub rung_settles : Settles 0 rung_kinds.ps rung_kinds.r rung_reads.Post
rung_settles κs a e f x y = settled (λ z. z) (λ z. z) (λ z. refl)

pub lessened_settles : Settles 0 lessened_kinds.ps lessened_kinds.r lessened_reads.Post
lessened_settles κs a e f x y = settled (λ z. z) (λ z. z) (λ z. refl)

pub stored_settles : Settles 0 stored_kinds.ps stored_kinds.r stored_reads.Post
stored_settles κs a e f x y = settled (λ z. z) (λ z. z) (λ z. refl)

pub well_formed_settles : Settles 0 well_formed_kinds.ps well_formed_kinds.r well_formed_reads.Post
well_formed_settles κs a e f x y = settled (λ z. z) (λ z. z) (λ z. refl)
