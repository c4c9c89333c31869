-- Every public contract of this crate settles its result. Assumes nothing.
use mathlib.Core.Path.{refl}
use Rattle.fields.proofs.Settles.{Settles, settled}
use Rattle.dates.proofs.date.Date.legal_date.Kinds as legal_date_kinds
use Rattle.dates.proofs.date.Date.legal_date.Reads as legal_date_reads
use Rattle.dates.proofs.date.Date.next.Kinds as next_kinds
use Rattle.dates.proofs.date.Date.next.Reads as next_reads
use Rattle.dates.proofs.date.Date.number.Kinds as number_kinds
use Rattle.dates.proofs.date.Date.number.Reads as number_reads
use Rattle.dates.proofs.date.Date.number_in.Kinds as number_in_kinds
use Rattle.dates.proofs.date.Date.number_in.Reads as number_in_reads
use Rattle.dates.proofs.date.date_at.Kinds as date_at_kinds
use Rattle.dates.proofs.date.date_at.Reads as date_at_reads
use Rattle.dates.proofs.lent.date_in.Kinds as date_in_kinds
use Rattle.dates.proofs.lent.date_in.Reads as date_in_reads
use Rattle.dates.proofs.table.first_days.Kinds as first_days_kinds
use Rattle.dates.proofs.table.first_days.Reads as first_days_reads

pub legal_date_settles : Settles 0 legal_date_kinds.ps legal_date_kinds.r legal_date_reads.Post
legal_date_settles κs a e f x y = settled (λ z. z) (λ z. z) (λ z. refl)

pub next_settles : Settles 0 next_kinds.ps next_kinds.r next_reads.Post
next_settles κs a e f x y = settled (λ z. z) (λ z. z) (λ z. refl)

pub number_settles : Settles 0 number_kinds.ps number_kinds.r number_reads.Post
number_settles κs a e f x y = settled (λ z. z) (λ z. z) (λ z. refl)

pub number_in_settles : Settles 1 number_in_kinds.ps number_in_kinds.r number_in_reads.Post
number_in_settles κs a e f x y = settled (λ z. z) (λ z. z) (λ z. refl)

pub date_at_settles : Settles 0 date_at_kinds.ps date_at_kinds.r date_at_reads.Post
date_at_settles κs a e f x y = settled (λ z. z) (λ z. z) (λ z. refl)

pub date_in_settles : Settles 1 date_in_kinds.ps date_in_kinds.r date_in_reads.Post
date_in_settles κs a e f x y = settled (λ z. z) (λ z. z) (λ z. refl)

pub first_days_settles : Settles 0 first_days_kinds.ps first_days_kinds.r first_days_reads.Post
first_days_settles κs a e f x y = settled (λ z. z) (λ z. z) (λ z. refl)
