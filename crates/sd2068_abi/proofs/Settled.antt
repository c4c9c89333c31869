-- Every public contract of this crate settles its result and what it leaves in the bytes that it is lent. Assumes nothing.
use mathlib.Core.Path.{◌≡◌, refl, sym, ap, ◌∙◌}
use mathlib.Core.List.{List}
use Prim.Native.Nat.{ℕ}
use contract.Lifetimes.{Lfts}
use denote.Triple.Clauses.{AtExit}
use borrow.Fn.Kinds.{Dens, res_t, ended_of}
use Rattle.fields.proofs.Settles.{Settles, settled}
use Rattle.state_events.specs.Event.{Lent, lent}
use Rattle.sd2068_abi.specs.Abi.{LentRun}
use Rattle.sd2068_abi.proofs.tallowreed_state_size.Kinds as size_kinds
use Rattle.sd2068_abi.proofs.tallowreed_state_size.Reads as size_reads
use Rattle.sd2068_abi.proofs.tallowreed_power_on.Kinds as power_kinds
use Rattle.sd2068_abi.proofs.tallowreed_power_on.Reads as power_reads
use Rattle.sd2068_abi.proofs.tallowreed_step.Kinds as step_kinds
use Rattle.sd2068_abi.proofs.tallowreed_step.Reads as step_reads
use Rattle.sd2068_abi.proofs.tallowreed_pin.Kinds as pin_kinds
use Rattle.sd2068_abi.proofs.tallowreed_pin.Reads as pin_reads
use Rattle.sd2068_abi.proofs.tallowreed_register.Kinds as register_kinds
use Rattle.sd2068_abi.proofs.tallowreed_register.Reads as register_reads
use Rattle.sd2068_abi.proofs.tallowreed_run.Kinds as run_kinds
use Rattle.sd2068_abi.proofs.tallowreed_run.Reads as run_reads

-- what is said of each, for crates above
abbrev pub PinSettles : Type 0
PinSettles = Settles 1 pin_kinds.ps pin_kinds.r pin_reads.Post

abbrev pub RegisterSettles : Type 0
RegisterSettles = Settles 1 register_kinds.ps register_kinds.r register_reads.Post

abbrev pub PowerSettles : Type 0
PowerSettles = (κs : Lfts 2) (a : Dens κs power_kinds.ps) (e f : AtExit (ended_of 2 power_kinds.ps power_kinds.r) κs) (x y : (res_t power_kinds.r κs).Denot) → power_reads.Post κs a x e → power_reads.Post κs a y f → (x ≡ y) × (e.1.0.now ≡ f.1.0.now)

abbrev pub StepSettles : Type 0
StepSettles = (κs : Lfts 1) (a : Dens κs step_kinds.ps) (e f : AtExit (ended_of 1 step_kinds.ps step_kinds.r) κs) (x y : (res_t step_kinds.r κs).Denot) → step_reads.Post κs a x e → step_reads.Post κs a y f → (x ≡ y) × (e.0.now ≡ f.0.now)

abbrev pub RunSettles : Type 0
RunSettles = (κs : Lfts 3) (a : Dens κs run_kinds.ps) (e f : AtExit (ended_of 3 run_kinds.ps run_kinds.r) κs) (x y : (res_t run_kinds.r κs).Denot) → run_reads.Post κs a x e → run_reads.Post κs a y f → (x ≡ y) × ((e.1.0.now ≡ f.1.0.now) × (e.1.1.0.now ≡ f.1.1.0.now))

pub size_settles : Settles 0 size_kinds.ps size_kinds.r size_reads.Post
size_settles κs a e f x y = settled (λ z. z) (λ z. z) (λ z. refl)

pub pin_settles : PinSettles
pin_settles κs a e f x y = settled (λ z. z) (λ z. z) (λ z. refl)

pub register_settles : RegisterSettles
register_settles κs a e f x y = settled (λ z. z) (λ z. z) (λ z. refl)

-- what is told and left, from what is said of both
module _ {m : Lent} {x y : ℕ} {l k : List ℕ} where
  both : lent x l ≡ m → lent y k ≡ m → (x ≡ y) × (l ≡ k)
  both p q = let same = p ∙ sym q in (ap (λ (z : Lent). z.told) same, ap (λ (z : Lent). z.state) same)

pub power_settles : PowerSettles
power_settles κs a e f x y p q = both p q

pub step_settles : StepSettles
step_settles κs a e f x y p q = both p q

pub run_settles : RunSettles
run_settles κs a e f x y p q =
    let same = p ∙ sym q in
    (ap (λ (z : LentRun). z.told) same, (ap (λ (z : LentRun). z.output) same, ap (λ (z : LentRun). z.state) same))
