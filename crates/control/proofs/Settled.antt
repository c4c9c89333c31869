-- Every public contract of this crate settles its result. Assumes nothing.
use Rattle.std.proofs.Common.{◌≡◌, refl, cond, ℕ, eqb}
use Rattle.fields.proofs.Settles.{Settles, settled}
use Rattle.control.specs.Pin.{letter_of}
use Rattle.control.specs.declared.pin.Level.{Level}
use Rattle.control.specs.declared.pin.Level.TheVariants.{High, Low, Crystal}
use Rattle.control.proofs.control.Control.from_bytes.Kinds as from_bytes_kinds
use Rattle.control.proofs.control.Control.from_bytes.Reads as from_bytes_reads
use Rattle.control.proofs.control.Control.stored.Kinds as stored_kinds
use Rattle.control.proofs.control.Control.stored.Reads as stored_reads
use Rattle.control.proofs.control.Control.well_formed.Kinds as control_well_formed_kinds
use Rattle.control.proofs.control.Control.well_formed.Reads as control_well_formed_reads
use Rattle.control.proofs.lock.Lock.is_open.Kinds as is_open_kinds
use Rattle.control.proofs.lock.Lock.is_open.Reads as is_open_reads
use Rattle.control.proofs.lock.Lock.written.Kinds as written_kinds
use Rattle.control.proofs.lock.Lock.written.Reads as written_reads
use Rattle.control.proofs.lock.Lock.well_formed.Kinds as lock_well_formed_kinds
use Rattle.control.proofs.lock.Lock.well_formed.Reads as lock_well_formed_reads
use Rattle.control.proofs.lock.ctr1.Kinds as ctr1_kinds
use Rattle.control.proofs.lock.ctr1.Reads as ctr1_reads
use Rattle.control.proofs.lock.ctr2.Kinds as ctr2_kinds
use Rattle.control.proofs.lock.ctr2.Reads as ctr2_reads
use Rattle.control.proofs.pin.Level.letter.Kinds as letter_kinds
use Rattle.control.proofs.pin.Level.letter.Reads as letter_reads
use Rattle.control.proofs.pin.bell.Kinds as bell_kinds
use Rattle.control.proofs.pin.bell.Reads as bell_reads
use Rattle.control.proofs.pin.frequency.Kinds as frequency_kinds
use Rattle.control.proofs.pin.frequency.Reads as frequency_reads

-- a level can be had back from its letter
abbrev pub level_back : ℕ → Level
level_back n = cond (eqb n 72) High (cond (eqb n 76) Low Crystal)

pub level_again : (x : Level) → level_back (letter_of x) ≡ x
level_again High = refl
level_again Low = refl
level_again Crystal = refl

pub from_bytes_settles : Settles 0 from_bytes_kinds.ps from_bytes_kinds.r from_bytes_reads.Post
from_bytes_settles κs a e f x y = settled (λ z. z) (λ z. z) (λ z. refl)

pub stored_settles : Settles 0 stored_kinds.ps stored_kinds.r stored_reads.Post
stored_settles κs a e f x y = settled (λ z. z) (λ z. z) (λ z. refl)

pub control_well_formed_settles : Settles 0 control_well_formed_kinds.ps control_well_formed_kinds.r control_well_formed_reads.Post
control_well_formed_settles κs a e f x y = settled (λ z. z) (λ z. z) (λ z. refl)

pub is_open_settles : Settles 0 is_open_kinds.ps is_open_kinds.r is_open_reads.Post
is_open_settles κs a e f x y = settled (λ z. z) (λ z. z) (λ z. refl)

pub written_settles : Settles 0 written_kinds.ps written_kinds.r written_reads.Post
written_settles κs a e f x y = settled (λ z. z) (λ z. z) (λ z. refl)

pub lock_well_formed_settles : Settles 0 lock_well_formed_kinds.ps lock_well_formed_kinds.r lock_well_formed_reads.Post
lock_well_formed_settles κs a e f x y = settled (λ z. z) (λ z. z) (λ z. refl)

pub ctr1_settles : Settles 0 ctr1_kinds.ps ctr1_kinds.r ctr1_reads.Post
ctr1_settles κs a e f x y = settled (λ z. z) (λ z. z) (λ z. refl)

pub ctr2_settles : Settles 0 ctr2_kinds.ps ctr2_kinds.r ctr2_reads.Post
ctr2_settles κs a e f x y = settled (λ z. z) (λ z. z) (λ z. refl)

pub letter_settles : Settles 0 letter_kinds.ps letter_kinds.r letter_reads.Post
letter_settles κs a e f x y = settled (λ z. z) (λ z. z) (λ z. refl)

pub bell_settles : Settles 0 bell_kinds.ps bell_kinds.r bell_reads.Post
bell_settles κs a e f x y = settled letter_of level_back level_again

pub frequency_settles : Settles 0 frequency_kinds.ps frequency_kinds.r frequency_reads.Post
frequency_settles κs a e f x y = settled letter_of level_back level_again
