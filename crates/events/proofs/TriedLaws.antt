-- What a try at an event tells of its refusal and of its kind. Assumes nothing.
use Rattle.std.proofs.Common.{◌≡◌, sym, ap, ◌∙◌, cond, eqb, Some, None, Result, Ok, Err, IfOk}
use Rattle.std.proofs.lemmas.Option.{same_Some}
use Rattle.events.specs.declared.event.Event.{Event}
use Rattle.events.specs.declared.kind.Kind.{Kind}
use Rattle.events.specs.declared.refusal.Refusal.{Refusal}
use Rattle.events.specs.Refusal.{result_number, fault_in}
use Rattle.events.specs.Kind.{event_of, Tried, tried, tried_of}

pub tried_number : (r : Result Kind Refusal) (e : Event) → tried r ≡ tried_of e → result_number r ≡ fault_in e
tried_number (Ok k) e p = ap (λ (t : Tried). t.refusal) p
tried_number (Err x) e p = ap (λ (t : Tried). t.refusal) p

pub tried_kind : (r : Result Kind Refusal) (e : Event) → tried r ≡ tried_of e → IfOk r (λ k. event_of k ≡ e)
tried_kind (Ok k) e p =
    let none : fault_in e ≡ 0 = sym (ap (λ (t : Tried). t.refusal) p) in
    same_Some _ _ (ap (λ (t : Tried). t.event) p ∙ ap (λ n. cond (eqb n 0) (Some e) None) none)
tried_kind (Err x) e p = tt
