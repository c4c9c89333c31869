-- Start bytes cut after the seventh are the time and the RAM. Assumes nothing.
use Rattle.std.proofs.Common.{◌≡◌, ℕ, ◌+◌, ◌<◌, List, ◌∷◌, length, get_or, take, drop, ap, ◌∙◌, add-one, arith}
use Rattle.std.proofs.Math.Seq.{drop-cons}
use Rattle.std.proofs.lemmas.List.{drop_all, get_or-take}
use Rattle.calendar.specs.Bytes.{time_of}
use Rattle.sd2068.specs.Power.{start_time, start_ram}

pub time_cut : (s : List ℕ) → time_of (take 7 s) ≡ start_time s
time_cut s = grind (arith, get_or-take)

-- what is left from place i on is the byte there and what is left after it
next : (s : List ℕ) (i : ℕ) (rest : List ℕ) → i < length s → drop (i + 1) s ≡ rest → drop i s ≡ get_or s i 0 ∷ rest
next s i rest h e = drop-cons s i 0 h ∙ ap (λ (l : List ℕ). get_or s i 0 ∷ l) (rw add-one at e)

pub ram_left : (s : List ℕ) → length s ≡ 19 → drop 7 s ≡ start_ram s
ram_left s e =
    next s 7 _ (omega arith) (next s 8 _ (omega arith) (next s 9 _ (omega arith) (next s 10 _ (omega arith)
    (next s 11 _ (omega arith) (next s 12 _ (omega arith) (next s 13 _ (omega arith) (next s 14 _ (omega arith)
    (next s 15 _ (omega arith) (next s 16 _ (omega arith) (next s 17 _ (omega arith) (next s 18 _ (omega arith)
    (drop_all 19 s (omega arith)))))))))))))
