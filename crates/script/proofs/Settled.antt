-- Every public contract of this crate settles its result, and the output where it is lent one. Assumes nothing.
use mathlib.Core.Path.{◌≡◌, refl, sym, ap, ◌∙◌}
use mathlib.Core.List.{List}
use Prim.Native.Nat.{ℕ}
use lib.Dec.{eqb}
use Rattle.std.specs.Prelude.{cond, Result, Ok, Err}
use contract.Lifetimes.{Lfts}
use denote.Triple.Clauses.{AtExit}
use borrow.Fn.Kinds.{Dens, res_t, ended_of}
use Rattle.fields.proofs.Settles.{Settles, settled}
use Rattle.events.proofs.Settled.{refusal_back, refusal_again, number_not0}
use Rattle.sd2068.specs.Step.{started}
use Rattle.sd2068.proofs.Settled.{started_back, started_again}
use Rattle.script.specs.declared.file.Ran.{Ran}
use Rattle.script.specs.declared.file.Refused.{Refused}
use Rattle.script.specs.File.{Run, ran}
use Rattle.script.specs.Refused.{Put, has_put}
use Rattle.script.proofs.contents.listed.Kinds as listed_kinds
use Rattle.script.proofs.contents.listed.Reads as listed_reads
use Rattle.script.proofs.contents.start.Kinds as start_kinds
use Rattle.script.proofs.contents.start.Reads as start_reads
use Rattle.script.proofs.file.RefusedFromFault.from.Kinds as from_kinds
use Rattle.script.proofs.file.RefusedFromFault.from.Reads as from_reads
use Rattle.script.proofs.file.run.Kinds as run_kinds
use Rattle.script.proofs.file.run.Reads as run_reads
use Rattle.script.proofs.refused.put_refused.Kinds as refused_kinds
use Rattle.script.proofs.refused.put_refused.Reads as refused_reads

-- a result can be had back from what it says
abbrev ran_back : Run → Result Ran Refused
ran_back m =
    cond (eqb m.refusal 0) (Ok (record { count = m.count; clock = m.state }))
    (Err (record { refusal = refusal_back m.refusal; index = m.index; clock = m.state }))

output_of : (x : Result Ran Refused) (out : List ℕ) → (ran x out).output ≡ out
output_of (Ok r) out = refl
output_of (Err r) out = refl

ran_again : (x : Result Ran Refused) (out : List ℕ) → ran_back (ran x out) ≡ x
ran_again (Ok r) out = refl
ran_again (Err r) out = simp (number_not0 r.refusal, refusal_again r.refusal)

-- any two results and outputs that the contract of a run allows at the same arguments are equal
abbrev pub RunSettles : Type 0
RunSettles =
    (κs : Lfts 2) (a : Dens κs run_kinds.ps) (e f : AtExit (ended_of 2 run_kinds.ps run_kinds.r) κs) (x y : (res_t run_kinds.r κs).Denot) → run_reads.Post κs a x e
    → run_reads.Post κs a y f → (x ≡ y) × (e.1.0.now ≡ f.1.0.now)

pub run_settles : RunSettles
run_settles κs a e f x y p q =
    let same : ran x e.1.0.now ≡ ran y f.1.0.now = p ∙ sym q in
    (sym (ran_again x e.1.0.now) ∙ ap ran_back same ∙ ran_again y f.1.0.now, sym (output_of x e.1.0.now) ∙ ap (λ (m : Run). m.output) same ∙ output_of y f.1.0.now)

pub refused_settles : (κs : Lfts 1) (a : Dens κs refused_kinds.ps) (e f : AtExit (ended_of 1 refused_kinds.ps refused_kinds.r) κs) (x y : (res_t refused_kinds.r κs).Denot) → refused_reads.Post κs a x e → refused_reads.Post κs a y f → (x ≡ y) × (e.0.now ≡ f.0.now)
refused_settles κs a e f x y p q =
    let same : has_put x e.0.now ≡ has_put y f.0.now = p ∙ sym q in
    (ap (λ (m : Put). m.size) same, ap (λ (m : Put). m.output) same)

pub listed_settles : Settles 1 listed_kinds.ps listed_kinds.r listed_reads.Post
listed_settles κs a e f x y = settled (λ z. z) (λ z. z) (λ z. refl)

pub start_settles : Settles 1 start_kinds.ps start_kinds.r start_reads.Post
start_settles κs a e f x y = settled started started_back started_again

pub from_settles : Settles 0 from_kinds.ps from_kinds.r from_reads.Post
from_settles κs a e f x y = settled (λ z. z) (λ z. z) (λ z. refl)
