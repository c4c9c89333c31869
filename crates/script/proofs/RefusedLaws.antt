-- The line of a refusal has its word, its digits and its newline, and stands at the beginning of the output. Assumes nothing.
use mathlib.Core.Path.{◌≡◌, ap, ◌∙◌}
use mathlib.Core.List.{List, [], ◌∷◌, ◌++◌}
use Prim.Native.Nat.{ℕ, ◌+◌, ◌-◌, ◌*◌, ◌≤◌, ◌<◌}
use native.Mathlib.Omega.{arith}
use lib.ListN.{length, get_or, drop}
use Rattle.std.specs.Prelude.{Option, Some, None, IsSome, is_some}
use lib.Seq.{paste, take-length, drop-append-add, drop-drop}
use borrow.Author.Tests.{lt-ltb, le-ltb}
use Rattle.fields.proofs.Below.{agree}
use Rattle.events.proofs.Telling.{less, either}
use Rattle.script.specs.Refused.{decimal_of, refused_word, refused_number, refused_line, Put, has_put, refused_put}

-- of a number with one digit: ten bytes, the word with its space, the digit and the newline
pub refused_ten : (n : ℕ) → n < 10 → refused_line n ≡ 114 ∷ 101 ∷ 102 ∷ 117 ∷ 115 ∷ 101 ∷ 100 ∷ 32 ∷ (48 + n) ∷ 10 ∷ []
refused_ten n h = simp (lt-ltb n 10 h)

-- what decimal digits say behind those that say v
abbrev pub read_on : ℕ → List ℕ → ℕ
read_on v [] = v
read_on v (d ∷ ds) = read_on (v * 10 + (d - 48)) ds

-- the digits say the number, and the first of several is not 0
pub decimal_back : (n : ℕ) → n < 1000 → read_on 0 (decimal_of n) ≡ n
decimal_back = agree (λ (n : ℕ). read_on 0 (decimal_of n)) (λ (n : ℕ). n) 1000 tt

pub decimal_first : (n : ℕ) → 10 ≤ n → n < 1000 → 48 < get_or (decimal_of n) 0 0
decimal_first n l h =
    either (less n 100) (λ two. simp (le-ltb n 10 l, lt-ltb n 100 two) (omega arith))
    (λ three. simp (le-ltb n 10 l, le-ltb n 100 three) (omega arith))

-- the line by how many digits its number has
module _ (n : ℕ) where
  pub ten_long : n < 10 → length (refused_line n) ≡ 10
  ten_long h = simp (lt-ltb n 10 h)

  pub eleven_long : 10 ≤ n → n < 100 → length (refused_line n) ≡ 11
  eleven_long l h = simp (le-ltb n 10 l, lt-ltb n 100 h)

  pub twelve_long : 100 ≤ n → length (refused_line n) ≡ 12
  twelve_long l = simp (le-ltb n 10 (omega arith), le-ltb n 100 l)

-- the number put behind the word: the whole line, and behind it what stood there
line_put : (number out : List ℕ) → paste (paste out 0 refused_word 8) 8 number (length number) ≡ (refused_word ++ number) ++ drop (length (refused_word ++ number)) out
line_put number out =
    let k = length number in
    let behind : 8 + k ≡ length (refused_word ++ number) = omega arith in
    let rest = drop-append-add refused_word (drop 8 out) k ∙ drop-drop k 8 out ∙ ap (λ (m : ℕ). drop m out) behind in
    λ i. refused_word ++ (take-length number i ++ rest i)

-- what is put goes by the room for the line
module _ (n size : ℕ) (out : List ℕ) (long : size ≡ length (refused_line n)) where
  pub put_short : length out < size → has_put None out ≡ refused_put n out
  unfolding refused_put
  put_short h = simp (lt-ltb (length out) (length (refused_line n)) (omega arith))

  pub put_whole : size ≤ length out → (last : List ℕ) → last ≡ paste (paste out 0 refused_word 8) 8 (refused_number n) (length (refused_number n)) → has_put (Some size) last ≡ refused_put n out
  unfolding refused_put
  put_whole h last e =
      simp (le-ltb (length out) (length (refused_line n)) (omega arith)) (λ i. has_put (Some (long i)) ((e ∙ line_put (refused_number n) out) i))

-- an output of twelve bytes has room for every line
line_length : (n : ℕ) → (10 ≤ length (refused_line n)) × (length (refused_line n) ≤ 12)
line_length n =
    either (less n 10) (λ one. let e = ten_long n one in (omega arith, omega arith))
    (λ more.
    either (less n 100) (λ two. let e = eleven_long n more two in (omega arith, omega arith))
    (λ three. let e = twelve_long n three in (omega arith, omega arith)))

pub refused_room : (n : ℕ) (size : Option ℕ) (out last : List ℕ) → has_put size last ≡ refused_put n out → 12 ≤ length out → (k : ℕ) × ((size ≡ Some k) × ((10 ≤ k) × (k ≤ 12)))
unfolding refused_put
refused_room n size out last e h =
    let l = line_length n in
    (length (refused_line n), (simp (le-ltb (length out) (length (refused_line n)) (omega arith)) at (ap (λ (p : Put). p.size) e), l))

-- so there the line is put, and has as many bytes as are told
module _ (n : ℕ) (size : Option ℕ) (out last : List ℕ) (e : has_put size last ≡ refused_put n out) (h : 12 ≤ length out) where
  pub refused_some : IsSome size
  refused_some = ap is_some (refused_room n size out last e h).1.0

  pub refused_size : (k : ℕ) → size ≡ Some k → (10 ≤ k) × (k ≤ 12)
  refused_size k p =
      let r = refused_room n size out last e h in
      let same : k ≡ r.0 = cc in
      (omega arith, omega arith)
