-- Every public contract of this crate settles its result. Assumes nothing.
use mathlib.Core.Path.{refl}
use Rattle.fields.proofs.Settles.{Settles, settled}
use Rattle.control.specs.Pin.{letter_of}
use Rattle.control.proofs.Settled.{level_back, level_again}
use Rattle.state_bytes.proofs.places.at.Kinds as at_kinds
use Rattle.state_bytes.proofs.places.at.Reads as at_reads
use Rattle.state_bytes.proofs.places.time_at.Kinds as time_at_kinds
use Rattle.state_bytes.proofs.places.time_at.Reads as time_at_reads
use Rattle.state_bytes.proofs.phases.number_in.Kinds as number_in_kinds
use Rattle.state_bytes.proofs.phases.number_in.Reads as number_in_reads
use Rattle.state_bytes.proofs.phases.mark_in.Kinds as mark_in_kinds
use Rattle.state_bytes.proofs.phases.mark_in.Reads as mark_in_reads
use Rattle.state_bytes.proofs.phases.age_in.Kinds as age_in_kinds
use Rattle.state_bytes.proofs.phases.age_in.Reads as age_in_reads
use Rattle.state_bytes.proofs.decoded.hand_of.Kinds as hand_of_kinds
use Rattle.state_bytes.proofs.decoded.hand_of.Reads as hand_of_reads
use Rattle.state_bytes.proofs.decoded.alarm_of.Kinds as alarm_of_kinds
use Rattle.state_bytes.proofs.decoded.alarm_of.Reads as alarm_of_reads
use Rattle.state_bytes.proofs.decoded.countdown_of.Kinds as countdown_of_kinds
use Rattle.state_bytes.proofs.decoded.countdown_of.Reads as countdown_of_reads
use Rattle.state_bytes.proofs.decoded.lock_of.Kinds as lock_of_kinds
use Rattle.state_bytes.proofs.decoded.lock_of.Reads as lock_of_reads
use Rattle.state_bytes.proofs.decoded.control_of.Kinds as control_of_kinds
use Rattle.state_bytes.proofs.decoded.control_of.Reads as control_of_reads
use Rattle.state_bytes.proofs.decoded.rtcf_of.Kinds as rtcf_of_kinds
use Rattle.state_bytes.proofs.decoded.rtcf_of.Reads as rtcf_of_reads
use Rattle.state_bytes.proofs.decoded.bus_of.Kinds as bus_of_kinds
use Rattle.state_bytes.proofs.decoded.bus_of.Reads as bus_of_reads
use Rattle.state_bytes.proofs.decoded.clock_of.Kinds as clock_of_kinds
use Rattle.state_bytes.proofs.decoded.clock_of.Reads as clock_of_reads
use Rattle.state_bytes.proofs.decoded.plain.Kinds as plain_kinds
use Rattle.state_bytes.proofs.decoded.plain.Reads as plain_reads
use Rattle.state_bytes.proofs.encoded.bytes_of.Kinds as bytes_of_kinds
use Rattle.state_bytes.proofs.encoded.bytes_of.Reads as bytes_of_reads
use Rattle.state_bytes.proofs.judged.is_state.Kinds as is_state_kinds
use Rattle.state_bytes.proofs.judged.is_state.Reads as is_state_reads
use Rattle.state_bytes.proofs.judged.pin_of.Kinds as pin_of_kinds
use Rattle.state_bytes.proofs.judged.pin_of.Reads as pin_of_reads

pub at_settles : Settles 1 at_kinds.ps at_kinds.r at_reads.Post
at_settles κs a e f x y = settled (λ z. z) (λ z. z) (λ z. refl)

pub time_at_settles : Settles 1 time_at_kinds.ps time_at_kinds.r time_at_reads.Post
time_at_settles κs a e f x y = settled (λ z. z) (λ z. z) (λ z. refl)

pub number_in_settles : Settles 0 number_in_kinds.ps number_in_kinds.r number_in_reads.Post
number_in_settles κs a e f x y = settled (λ z. z) (λ z. z) (λ z. refl)

pub mark_in_settles : Settles 0 mark_in_kinds.ps mark_in_kinds.r mark_in_reads.Post
mark_in_settles κs a e f x y = settled (λ z. z) (λ z. z) (λ z. refl)

pub age_in_settles : Settles 0 age_in_kinds.ps age_in_kinds.r age_in_reads.Post
age_in_settles κs a e f x y = settled (λ z. z) (λ z. z) (λ z. refl)

pub hand_of_settles : Settles 1 hand_of_kinds.ps hand_of_kinds.r hand_of_reads.Post
hand_of_settles κs a e f x y = settled (λ z. z) (λ z. z) (λ z. refl)

pub alarm_of_settles : Settles 1 alarm_of_kinds.ps alarm_of_kinds.r alarm_of_reads.Post
alarm_of_settles κs a e f x y = settled (λ z. z) (λ z. z) (λ z. refl)

pub countdown_of_settles : Settles 1 countdown_of_kinds.ps countdown_of_kinds.r countdown_of_reads.Post
countdown_of_settles κs a e f x y = settled (λ z. z) (λ z. z) (λ z. refl)

pub lock_of_settles : Settles 1 lock_of_kinds.ps lock_of_kinds.r lock_of_reads.Post
lock_of_settles κs a e f x y = settled (λ z. z) (λ z. z) (λ z. refl)

pub control_of_settles : Settles 1 control_of_kinds.ps control_of_kinds.r control_of_reads.Post
control_of_settles κs a e f x y = settled (λ z. z) (λ z. z) (λ z. refl)

pub rtcf_of_settles : Settles 1 rtcf_of_kinds.ps rtcf_of_kinds.r rtcf_of_reads.Post
rtcf_of_settles κs a e f x y = settled (λ z. z) (λ z. z) (λ z. refl)

pub bus_of_settles : Settles 1 bus_of_kinds.ps bus_of_kinds.r bus_of_reads.Post
bus_of_settles κs a e f x y = settled (λ z. z) (λ z. z) (λ z. refl)

pub clock_of_settles : Settles 1 clock_of_kinds.ps clock_of_kinds.r clock_of_reads.Post
clock_of_settles κs a e f x y = settled (λ z. z) (λ z. z) (λ z. refl)

pub plain_settles : Settles 1 plain_kinds.ps plain_kinds.r plain_reads.Post
plain_settles κs a e f x y = settled (λ z. z) (λ z. z) (λ z. refl)

pub bytes_of_settles : Settles 0 bytes_of_kinds.ps bytes_of_kinds.r bytes_of_reads.Post
bytes_of_settles κs a e f x y = settled (λ z. z) (λ z. z) (λ z. refl)

pub is_state_settles : Settles 1 is_state_kinds.ps is_state_kinds.r is_state_reads.Post
is_state_settles κs a e f x y = settled (λ z. z) (λ z. z) (λ z. refl)

pub pin_of_settles : Settles 1 pin_of_kinds.ps pin_of_kinds.r pin_of_reads.Post
pin_of_settles κs a e f x y = settled letter_of level_back level_again
