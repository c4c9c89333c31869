-- Every public contract of this crate settles its result and what it leaves in the bytes that it is lent. Assumes nothing.
use mathlib.Core.Path.{◌≡◌, refl, sym, ap, ◌∙◌}
use contract.Lifetimes.{Lfts}
use denote.Triple.Clauses.{AtExit}
use borrow.Fn.Kinds.{Dens, res_t, ended_of}
use Rattle.fields.proofs.Settles.{Settles, settled}
use Rattle.state_events.specs.Event.{Lent}
use Rattle.state_events.proofs.lent.put_state.Kinds as put_state_kinds
use Rattle.state_events.proofs.lent.put_state.Reads as put_state_reads
use Rattle.state_events.proofs.event.tell.Kinds as tell_kinds
use Rattle.state_events.proofs.event.tell.Reads as tell_reads
use Rattle.state_events.proofs.said.told.Kinds as told_kinds
use Rattle.state_events.proofs.said.told.Reads as told_reads

pub put_state_settles : (κs : Lfts 1) (a : Dens κs put_state_kinds.ps) (e f : AtExit (ended_of 1 put_state_kinds.ps put_state_kinds.r) κs) (x y : (res_t put_state_kinds.r κs).Denot) → put_state_reads.Post κs a x e → put_state_reads.Post κs a y f → e.0.now ≡ f.0.now
put_state_settles κs a e f x y p q = p ∙ sym q

pub tell_settles : (κs : Lfts 1) (a : Dens κs tell_kinds.ps) (e f : AtExit (ended_of 1 tell_kinds.ps tell_kinds.r) κs) (x y : (res_t tell_kinds.r κs).Denot) → tell_reads.Post κs a x e → tell_reads.Post κs a y f → (x ≡ y) × (e.0.now ≡ f.0.now)
tell_settles κs a e f x y p q =
    let same = p ∙ sym q in
    (ap (λ (l : Lent). l.told) same, ap (λ (l : Lent). l.state) same)

pub told_settles : Settles 0 told_kinds.ps told_kinds.r told_reads.Post
told_settles κs a e f x y = settled (λ z. z) (λ z. z) (λ z. refl)
