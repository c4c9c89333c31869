-- Where it is known what the input has left, every public contract of this crate settles what a read gives. Assumes nothing.
use denote.RattleType.{RattleType}
use denote.Param.Laws.{Laws}
use denote.Triple.Clauses.{AtExit}
use contract.Lifetimes.{Lfts}
use borrow.Fn.Kinds.{Dens, res_t, ended_of}
use mir.Syntax.{Dict, w64}
use mir.Val.{Fits}
use Rattle.std.proofs.Common.{◌≡◌, ℕ, ◌+◌, ◌<◌, ◌≤◌, List, Option, Some, None, IfSome, IsNone, Result, Ok, Err, IfOk, length, take, take_at, length-take-le, min, arith, ap, sym, subst, ◌∙◌, cond, ltb, refl}
use Rattle.std.proofs.lemmas.Bool.{cond_above, cond_below}
use Rattle.std.proofs.lemmas.List.{length-append}
use Rattle.std.specs.Io.KnownBytes.{Consumes, IsAtEnd}
use Rattle.std.specs.declared.io.traits.Read as reader
use Rattle.input.proofs.read_full.Kinds as full_kinds
use Rattle.input.proofs.read_full.Reads as full_reads
use Rattle.input.proofs.read_array.Kinds as array_kinds
use Rattle.input.proofs.read_array.Reads as array_reads

-- as many bytes as there is room for, or all that there are, and the first of them
pub full_by : (xs : List ℕ) (rest : Option (List ℕ)) (n : ℕ) (buf : List ℕ) → n ≤ length buf → Consumes (Some xs) rest (take n buf) → (n < length buf → IsAtEnd rest) → (n ≡ min (length xs) (length buf)) × (take n buf ≡ take n xs)
full_by xs None n buf within read end = absurd read
full_by xs (Some ys) n buf within read end =
    let got : length (take n buf) ≡ n = length-take-le n buf within in
    let size : length xs ≡ length (take n buf) + length ys = ap length read ∙ length-append (take n buf) ys in
    let none : n < length buf → length ys ≡ 0 = λ short. ap length (end short) in
    (grind arith, sym (ap (take n) read ∙ take_at (take n buf) ys n got))

full_of : {E : Type 0} (x : Result ℕ E) (xs : List ℕ) (start rest : Option (List ℕ)) (buf : List ℕ) → start ≡ Some xs → IfOk x (λ n. n ≤ length buf) → IfOk x (λ n. Consumes start rest (take n buf)) → IfOk x (λ n. n < length buf → IsAtEnd rest) → IfOk x (λ n. (n ≡ min (length xs) (length buf)) × (take n buf ≡ take n xs))
full_of (Ok n) xs start rest buf known within read end = full_by xs rest n buf within (subst (λ s. Consumes s rest (take n buf)) known read) end
full_of (Err z) xs start rest buf known within read end = tt

pub read_full_settles : (t : RattleType) (l : Laws t) (g : reader.Ghosts t.Denot) (d : Dict) (κs : Lfts 3) (a : Dens κs (full_kinds.ps t l)) (e : AtExit (ended_of 3 (full_kinds.ps t l) (full_kinds.r t l)) κs) (x : (res_t (full_kinds.r t l) κs).Denot) → full_reads.Post t l g d κs a x e
    → (xs : List ℕ) → g.remaining a.0.now ≡ Some xs → IfOk x (λ n. (n ≡ min (length xs) (length e.1.0.now)) × (take n e.1.0.now ≡ take n xs))
read_full_settles t l g d κs a e x p xs known = full_of x xs _ _ _ known p.0 p.1.0 p.1.1

-- the first N bytes, or nothing where there are fewer
pub array_by : (xs : List ℕ) (rest : Option (List ℕ)) (N : ℕ) (r : Option (List ℕ)) → IfSome r (λ bytes. length bytes ≡ N) → IfSome r (λ bytes. Consumes (Some xs) rest bytes) → (IsNone r → IfSome (Some xs) (λ bytes. length bytes < N)) → r ≡ cond (ltb (length xs) N) None (Some (take N xs))
array_by xs rest N None size read short = cond_below _ _ _ _ (short refl)
array_by xs None N (Some bytes) size read short = absurd read
array_by xs (Some ys) N (Some bytes) size read short =
    let sum : length xs ≡ length bytes + length ys = ap length read ∙ length-append bytes ys in
    let enough : N ≤ length xs = omega arith in
    cond_above _ _ _ _ _ enough (ap Some (sym (ap (take N) read ∙ take_at bytes ys N size)))

array_of : {E : Type 0} (x : Result (Option (List ℕ)) E) (xs : List ℕ) (start rest : Option (List ℕ)) (N : ℕ) → start ≡ Some xs → IfOk x (λ r. IfSome r (λ bytes. length bytes ≡ N)) → IfOk x (λ r. IfSome r (λ bytes. Consumes start rest bytes)) → IfOk x (λ r. IsNone r → IfSome start (λ bytes. length bytes < N)) → IfOk x (λ r. r ≡ cond (ltb (length xs) N) None (Some (take N xs)))
array_of (Ok r) xs start rest N known size read short =
    array_by xs rest N r size (subst (λ s. IfSome r (λ bytes. Consumes s rest bytes)) known read) (subst (λ s. IsNone r → IfSome s (λ bytes. length bytes < N)) known short)
array_of (Err z) xs start rest N known size read short = tt

pub read_array_settles : (t : RattleType) (N : ℕ) (l : Laws t) (f : Fits w64 N) (g : reader.Ghosts t.Denot) (d : Dict) (κs : Lfts 3) (a : Dens κs (array_kinds.ps t N l f)) (e : AtExit (ended_of 3 (array_kinds.ps t N l f) (array_kinds.r t N l f)) κs) (x : (res_t (array_kinds.r t N l f) κs).Denot) → array_reads.Post t N l f g d κs a x e
    → (xs : List ℕ) → g.remaining a.0.now ≡ Some xs → IfOk x (λ r. IfSome r (λ bytes. length bytes ≡ N)) → IfOk x (λ r. r ≡ cond (ltb (length xs) N) None (Some (take N xs)))
read_array_settles t N l f g d κs a e x p xs known size = array_of x xs _ _ N known size p.0 p.1.0
