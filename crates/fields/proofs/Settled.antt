-- Every public contract of this crate settles its result. Assumes nothing.
use mathlib.Core.Path.{refl}
use denote.RattleType.{RattleType}
use mir.Syntax.{Dict}
use Rattle.std.specs.declared.clone.Clone
use denote.Param.Laws.{Laws, IsCopy}
use Rattle.fields.proofs.Settles.{Settles, settled}
use Rattle.fields.proofs.digits.value.Kinds as value_kinds
use Rattle.fields.proofs.digits.value.Reads as value_reads
use Rattle.fields.proofs.digits.byte.Kinds as byte_kinds
use Rattle.fields.proofs.digits.byte.Reads as byte_reads
use Rattle.fields.proofs.digits.Field.legal.Kinds as legal_kinds
use Rattle.fields.proofs.digits.Field.legal.Reads as legal_reads
use Rattle.fields.proofs.digits.Field.step.Kinds as step_kinds
use Rattle.fields.proofs.digits.Field.step.Reads as step_reads
use Rattle.fields.proofs.digits.pick.Kinds as pick_kinds
use Rattle.fields.proofs.digits.pick.Reads as pick_reads
use Rattle.fields.proofs.hours.mode.Kinds as mode_kinds
use Rattle.fields.proofs.hours.mode.Reads as mode_reads
use Rattle.fields.proofs.times.TimeOfDay.legal_time.Kinds as legal_time_kinds
use Rattle.fields.proofs.times.TimeOfDay.legal_time.Reads as legal_time_reads
use Rattle.fields.proofs.times.TimeOfDay.second.Kinds as second_kinds
use Rattle.fields.proofs.times.TimeOfDay.second.Reads as second_reads
use Rattle.fields.proofs.times.TimeOfDay.next.Kinds as next_kinds
use Rattle.fields.proofs.times.TimeOfDay.next.Reads as next_reads
use Rattle.fields.proofs.times.TimeOfDay.midnight.Kinds as midnight_kinds
use Rattle.fields.proofs.times.TimeOfDay.midnight.Reads as midnight_reads
use Rattle.fields.proofs.times.time_of_day.Kinds as time_of_day_kinds
use Rattle.fields.proofs.times.time_of_day.Reads as time_of_day_reads

pub value_settles : Settles 0 value_kinds.ps value_kinds.r value_reads.Post
value_settles κs a e f x y = settled (λ z. z) (λ z. z) (λ z. refl)

pub byte_settles : Settles 0 byte_kinds.ps byte_kinds.r byte_reads.Post
byte_settles κs a e f x y = settled (λ z. z) (λ z. z) (λ z. refl)

pub legal_settles : Settles 0 legal_kinds.ps legal_kinds.r legal_reads.Post
legal_settles κs a e f x y = settled (λ z. z) (λ z. z) (λ z. refl)

pub step_settles : Settles 0 step_kinds.ps step_kinds.r step_reads.Post
step_settles κs a e f x y = settled (λ z. z) (λ z. z) (λ z. refl)

-- whatever the type of what is picked
pub pick_settles : (t : RattleType) (l : Laws t) (c : IsCopy t) (g : Clone.Ghosts t.Denot) (d : Dict) → Settles 1 (pick_kinds.ps t l c) (pick_kinds.r t l c) (pick_reads.Post t l c g d)
pick_settles t l c g d κs a e f x y = settled (λ z. z) (λ z. z) (λ z. refl)

pub mode_settles : Settles 0 mode_kinds.ps mode_kinds.r mode_reads.Post
mode_settles κs a e f x y = settled (λ z. z) (λ z. z) (λ z. refl)

pub legal_time_settles : Settles 0 legal_time_kinds.ps legal_time_kinds.r legal_time_reads.Post
legal_time_settles κs a e f x y = settled (λ z. z) (λ z. z) (λ z. refl)

pub second_settles : Settles 0 second_kinds.ps second_kinds.r second_reads.Post
second_settles κs a e f x y = settled (λ z. z) (λ z. z) (λ z. refl)

pub next_settles : Settles 0 next_kinds.ps next_kinds.r next_reads.Post
next_settles κs a e f x y = settled (λ z. z) (λ z. z) (λ z. refl)

pub midnight_settles : Settles 0 midnight_kinds.ps midnight_kinds.r midnight_reads.Post
midnight_settles κs a e f x y = settled (λ z. z) (λ z. z) (λ z. refl)

pub time_of_day_settles : Settles 0 time_of_day_kinds.ps time_of_day_kinds.r time_of_day_reads.Post
time_of_day_settles κs a e f x y = settled (λ z. z) (λ z. z) (λ z. refl)
