-- Every public contract of this crate settles its result. Assumes nothing.
use mathlib.Core.Path.{refl}
use Rattle.fields.proofs.Settles.{Settles, settled}
use Rattle.bus.proofs.phase.next.Kinds as next_kinds
use Rattle.bus.proofs.phase.next.Reads as next_reads
use Rattle.bus.proofs.phase.Bus.started.Kinds as started_kinds
use Rattle.bus.proofs.phase.Bus.started.Reads as started_reads
use Rattle.bus.proofs.phase.Bus.older.Kinds as older_kinds
use Rattle.bus.proofs.phase.Bus.older.Reads as older_reads
use Rattle.bus.proofs.phase.Bus.marked.Kinds as marked_kinds
use Rattle.bus.proofs.phase.Bus.marked.Reads as marked_reads
use Rattle.bus.proofs.phase.Bus.well_formed.Kinds as well_formed_kinds
use Rattle.bus.proofs.phase.Bus.well_formed.Reads as well_formed_reads
use Rattle.bus.proofs.phase.Bus.heard.Kinds as heard_kinds
use Rattle.bus.proofs.phase.Bus.heard.Reads as heard_reads
use Rattle.bus.proofs.phase.Bus.read.Kinds as read_kinds
use Rattle.bus.proofs.phase.Bus.read.Reads as read_reads

pub next_settles : Settles 0 next_kinds.ps next_kinds.r next_reads.Post
next_settles κs a e f x y = settled (λ z. z) (λ z. z) (λ z. refl)

pub started_settles : Settles 0 started_kinds.ps started_kinds.r started_reads.Post
started_settles κs a e f x y = settled (λ z. z) (λ z. z) (λ z. refl)

pub older_settles : Settles 0 older_kinds.ps older_kinds.r older_reads.Post
older_settles κs a e f x y = settled (λ z. z) (λ z. z) (λ z. refl)

pub marked_settles : Settles 0 marked_kinds.ps marked_kinds.r marked_reads.Post
marked_settles κs a e f x y = settled (λ z. z) (λ z. z) (λ z. refl)

pub well_formed_settles : Settles 0 well_formed_kinds.ps well_formed_kinds.r well_formed_reads.Post
well_formed_settles κs a e f x y = settled (λ z. z) (λ z. z) (λ z. refl)

pub heard_settles : Settles 0 heard_kinds.ps heard_kinds.r heard_reads.Post
heard_settles κs a e f x y = settled (λ z. z) (λ z. z) (λ z. refl)

pub read_settles : Settles 0 read_kinds.ps read_kinds.r read_reads.Post
read_settles κs a e f x y = settled (λ z. z) (λ z. z) (λ z. refl)
