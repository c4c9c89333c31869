-- What it is for a contract to settle its result, and the one lemma for it. Assumes nothing.
use mathlib.Core.Path.{◌≡◌, sym, ap, ◌∙◌}
use mathlib.Core.List.{List}
use Prim.Native.Nat.{ℕ}
use contract.Lifetimes.{Lfts}
use denote.Triple.Clauses.{AtExit}
use borrow.Fn.Kinds.{ParamKind, ResultKind, Dens, res_t, ended_of, Out}

-- any two results that the contract allows at the same arguments are equal
abbrev pub Settles : (n : ℕ) (ps : List (ParamKind n)) (r : ResultKind n) → Out n ps r → Type 0
Settles n ps r post =
    (κs : Lfts n) (a : Dens κs ps) (e f : AtExit (ended_of n ps r) κs) (x y : (res_t r κs).Denot) → post κs a x e → post κs a y f → x ≡ y

-- two answers that say the same m are equal, where the answer can be had back from what it says
pub settled : {A B : Type 0} (say : A → B) (back : B → A) → ((x : A) → back (say x) ≡ x) → {m : B} {x y : A} → say x ≡ m → say y ≡ m → x ≡ y
settled say back again {x = x} {y = y} p q = sym (again x) ∙ ap back (p ∙ sym q) ∙ again y
