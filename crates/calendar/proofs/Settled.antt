-- Every public contract of this crate settles its result. Assumes nothing.
use mathlib.Core.Path.{refl}
use Rattle.fields.proofs.Settles.{Settles, settled}
use Rattle.calendar.proofs.time.Time.clock.Kinds as clock_kinds
use Rattle.calendar.proofs.time.Time.clock.Reads as clock_reads
use Rattle.calendar.proofs.time.Time.date.Kinds as date_kinds
use Rattle.calendar.proofs.time.Time.date.Reads as date_reads
use Rattle.calendar.proofs.time.ArrayU87FromTime.from.Kinds as to_bytes_kinds
use Rattle.calendar.proofs.time.ArrayU87FromTime.from.Reads as to_bytes_reads
use Rattle.calendar.proofs.time.TimeFromArrayU87.from.Kinds as from_bytes_kinds
use Rattle.calendar.proofs.time.TimeFromArrayU87.from.Reads as from_bytes_reads
use Rattle.calendar.proofs.time.Time.legal_weekday.Kinds as legal_weekday_kinds
use Rattle.calendar.proofs.time.Time.legal_weekday.Reads as legal_weekday_reads
use Rattle.calendar.proofs.time.Time.advanced.Kinds as advanced_kinds
use Rattle.calendar.proofs.time.Time.advanced.Reads as advanced_reads
use Rattle.calendar.proofs.time.Time.number.Kinds as number_kinds
use Rattle.calendar.proofs.time.Time.number.Reads as number_reads
use Rattle.calendar.proofs.numbers.time_at.Kinds as time_at_kinds
use Rattle.calendar.proofs.numbers.time_at.Reads as time_at_reads
use Rattle.calendar.proofs.time.Time.number_in.Kinds as number_in_kinds
use Rattle.calendar.proofs.time.Time.number_in.Reads as number_in_reads
use Rattle.calendar.proofs.lent.time_in.Kinds as time_in_kinds
use Rattle.calendar.proofs.lent.time_in.Reads as time_in_reads
use Rattle.calendar.proofs.time.Time.later.Kinds as later_kinds
use Rattle.calendar.proofs.time.Time.later.Reads as later_reads

pub clock_settles : Settles 0 clock_kinds.ps clock_kinds.r clock_reads.Post
clock_settles κs a e f x y = settled (λ z. z) (λ z. z) (λ z. refl)

pub date_settles : Settles 0 date_kinds.ps date_kinds.r date_reads.Post
date_settles κs a e f x y = settled (λ z. z) (λ z. z) (λ z. refl)

-- the seven bytes of a time, and the time of seven bytes
pub to_bytes_settles : Settles 0 to_bytes_kinds.ps to_bytes_kinds.r to_bytes_reads.Post
to_bytes_settles κs a e f x y = settled (λ z. z) (λ z. z) (λ z. refl)

pub from_bytes_settles : Settles 0 from_bytes_kinds.ps from_bytes_kinds.r from_bytes_reads.Post
from_bytes_settles κs a e f x y = settled (λ z. z) (λ z. z) (λ z. refl)

pub legal_weekday_settles : Settles 0 legal_weekday_kinds.ps legal_weekday_kinds.r legal_weekday_reads.Post
legal_weekday_settles κs a e f x y = settled (λ z. z) (λ z. z) (λ z. refl)

pub advanced_settles : Settles 0 advanced_kinds.ps advanced_kinds.r advanced_reads.Post
advanced_settles κs a e f x y = settled (λ z. z) (λ z. z) (λ z. refl)

pub number_settles : Settles 0 number_kinds.ps number_kinds.r number_reads.Post
number_settles κs a e f x y = settled (λ z. z) (λ z. z) (λ z. refl)

pub number_in_settles : Settles 1 number_in_kinds.ps number_in_kinds.r number_in_reads.Post
number_in_settles κs a e f x y = settled (λ z. z) (λ z. z) (λ z. refl)

pub time_at_settles : Settles 0 time_at_kinds.ps time_at_kinds.r time_at_reads.Post
time_at_settles κs a e f x y = settled (λ z. z) (λ z. z) (λ z. refl)

pub time_in_settles : Settles 1 time_in_kinds.ps time_in_kinds.r time_in_reads.Post
time_in_settles κs a e f x y = settled (λ z. z) (λ z. z) (λ z. refl)

pub later_settles : Settles 0 later_kinds.ps later_kinds.r later_reads.Post
later_settles κs a e f x y = settled (λ z. z) (λ z. z) (λ z. refl)
