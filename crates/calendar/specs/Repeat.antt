-- A step taken any number of times.
use Rattle.std.specs.Prelude.{ℕ, zero, suc}

unfoldable pub times : {A : Type 0} → (A → A) → ℕ → A → A
times f zero a = a
times f (suc n) a = f (times f n a)
