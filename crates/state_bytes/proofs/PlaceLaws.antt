-- Bytes that stand at a place and those behind it, one by one, are the bytes from there. Assumes nothing.
use Rattle.std.proofs.Common.{◌≡◌, refl, get_or, ℕ, zero, suc, ◌+◌, ◌<◌, length, List, [], ◌∷◌, ap, ◌∙◌, arith}
use Rattle.state_bytes.specs.Places.{bytes_at}

pub together : (s bytes : List ℕ) (i k n : ℕ) → length bytes ≡ n → ((j : ℕ) → j < n → get_or bytes j 0 ≡ get_or s (i + (k + j)) 0) → bytes ≡ bytes_at s i k n
together s [] i k zero e f = refl
together s [] i k (suc n) e f = absurd (omega arith)
together s (x ∷ xs) i k zero e f = absurd (omega arith)
together s (x ∷ xs) i k (suc n) e f =
    let place : i + (k + 0) ≡ i + k = omega arith in
    let first : x ≡ get_or s (i + k) 0 = f 0 (omega arith) ∙ ap (λ (m : ℕ). get_or s m 0) place in
    let rest : xs ≡ bytes_at s i (suc k) n =
    together s xs i (suc k) n (omega arith)
    (λ j h. let next : i + (k + suc j) ≡ i + (suc k + j) = omega arith in f (suc j) (omega arith) ∙ ap (λ (m : ℕ). get_or s m 0) next) in
    λ m. first m ∷ rest m

-- a list is its bytes from the first on
pub whole : (s : List ℕ) (n : ℕ) → length s ≡ n → s ≡ bytes_at s 0 0 n
whole s n e = together s s 0 0 n e (λ j h. let place : j ≡ 0 + (0 + j) = omega arith in ap (λ (k : ℕ). get_or s k 0) place)
