-- Every public contract of this crate settles its result. Assumes nothing.
use Rattle.std.proofs.Common.{refl}
use Rattle.fields.proofs.Settles.{Settles, settled}
use Rattle.registers.proofs.bits.bit_at.Kinds as bit_at_kinds
use Rattle.registers.proofs.bits.bit_at.Reads as bit_at_reads
use Rattle.registers.proofs.counters.less.Kinds as less_kinds
use Rattle.registers.proofs.counters.less.Reads as less_reads
use Rattle.registers.proofs.counters.more.Kinds as more_kinds
use Rattle.registers.proofs.counters.more.Reads as more_reads
use Rattle.registers.proofs.counters.reached.Kinds as reached_kinds
use Rattle.registers.proofs.counters.reached.Reads as reached_reads
use Rattle.registers.proofs.counters.turned.Kinds as turned_kinds
use Rattle.registers.proofs.counters.turned.Reads as turned_reads
use Rattle.registers.proofs.counters.within.Kinds as within_kinds
use Rattle.registers.proofs.counters.within.Reads as within_reads
use Rattle.registers.proofs.fixed.clear.Kinds as clear_kinds
use Rattle.registers.proofs.fixed.clear.Reads as clear_reads
use Rattle.registers.proofs.fixed.clear_time.Kinds as clear_time_kinds
use Rattle.registers.proofs.fixed.clear_time.Reads as clear_time_reads
use Rattle.registers.proofs.fixed.kept.Kinds as kept_kinds
use Rattle.registers.proofs.fixed.kept.Reads as kept_reads
use Rattle.registers.proofs.seven.byte_at.Kinds as byte_at_kinds
use Rattle.registers.proofs.seven.byte_at.Reads as byte_at_reads
use Rattle.registers.proofs.seven.with_byte.Kinds as with_byte_kinds
use Rattle.registers.proofs.seven.with_byte.Reads as with_byte_reads

pub bit_at_settles : Settles 0 bit_at_kinds.ps bit_at_kinds.r bit_at_reads.Post
bit_at_settles κs a e f x y = settled (λ z. z) (λ z. z) (λ z. refl)

pub less_settles : Settles 0 less_kinds.ps less_kinds.r less_reads.Post
less_settles κs a e f x y = settled (λ z. z) (λ z. z) (λ z. refl)

pub more_settles : Settles 0 more_kinds.ps more_kinds.r more_reads.Post
more_settles κs a e f x y = settled (λ z. z) (λ z. z) (λ z. refl)

pub reached_settles : Settles 0 reached_kinds.ps reached_kinds.r reached_reads.Post
reached_settles κs a e f x y = settled (λ z. z) (λ z. z) (λ z. refl)

pub turned_settles : Settles 0 turned_kinds.ps turned_kinds.r turned_reads.Post
turned_settles κs a e f x y = settled (λ z. z) (λ z. z) (λ z. refl)

pub within_settles : Settles 0 within_kinds.ps within_kinds.r within_reads.Post
within_settles κs a e f x y = settled (λ z. z) (λ z. z) (λ z. refl)

pub clear_settles : Settles 0 clear_kinds.ps clear_kinds.r clear_reads.Post
clear_settles κs a e f x y = settled (λ z. z) (λ z. z) (λ z. refl)

pub clear_time_settles : Settles 0 clear_time_kinds.ps clear_time_kinds.r clear_time_reads.Post
clear_time_settles κs a e f x y = settled (λ z. z) (λ z. z) (λ z. refl)

pub kept_settles : Settles 0 kept_kinds.ps kept_kinds.r kept_reads.Post
kept_settles κs a e f x y = settled (λ z. z) (λ z. z) (λ z. refl)

pub byte_at_settles : Settles 0 byte_at_kinds.ps byte_at_kinds.r byte_at_reads.Post
byte_at_settles κs a e f x y = settled (λ z. z) (λ z. z) (λ z. refl)

pub with_byte_settles : Settles 0 with_byte_kinds.ps with_byte_kinds.r with_byte_reads.Post
with_byte_settles κs a e f x y = settled (λ z. z) (λ z. z) (λ z. refl)
