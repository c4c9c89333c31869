-- What a read gives stands behind what was read before it. Assumes nothing.
use Rattle.std.proofs.Common.{◌≡◌, ℕ, ◌+◌, ◌≤◌, List, ◌++◌, length, take, length-take-le, ap, subst, sym, ◌∙◌, rules}
use Rattle.std.proofs.lemmas.List.{take-append-le}
use Rattle.std.proofs.Math.Seq.{take-append-add}
use Rattle.std.proofs.KnownBytes.{Consumes-trans}
use Rattle.std.specs.Io.KnownBytes.{Consumes}
use borrow.Rule.Slice.PartMut.{put_mid, post_of}
use Rattle.input.proofs.read_full.Goals as goal

-- ys in the place of the k bytes from a on: the first n of them are the next behind the first a
put_next : (a k n : ℕ) (xs ys : List ℕ) → a ≤ length xs → n ≤ length ys → take (a + n) (put_mid a k xs ys) ≡ take a xs ++ take n ys
put_next a k n xs ys within fits =
    let front = take a xs in
    subst (λ m. take (m + n) (put_mid a k xs ys) ≡ front ++ take n ys) (length-take-le a xs within) (take-append-add front (ys ++ post_of a k xs) n ∙ ap (λ l. front ++ l) (take-append-le n ys _ fits))

pub loop-done-preserved : goal.loop-done-preserved
loop-done-preserved g c =
    let next = put_next c.loop-done.done _ c.in_ok-n.n c.loop-done.buf c.read.new.buf c.loop-done.invariant.1 c.in_ok-n.ensures.bound.0 in
    let joined = Consumes-trans _ _ _ _ _ c.loop-done.invariant.3 c.in_ok-n.ensures.bytes.0 in
    (search rules, search rules, search rules, subst (Consumes _ _) (sym next) joined)
