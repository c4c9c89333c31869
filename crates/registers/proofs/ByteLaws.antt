-- A byte has eight bits. Assumes nothing.
use Rattle.std.proofs.Common.{◌≡◌, ℕ, ◌/◌, ◌^◌, ◌<◌, ◌≤◌, arith}
use Rattle.std.proofs.Math.Nat.{pow-le-pow_right, div-eq_of_lt}

pub none_past : (b n : ℕ) → b < 256 → 8 ≤ n → b / 2 ^ n ≡ 0
none_past b n h k = let p : 2 ^ 8 ≤ 2 ^ n = pow-le-pow_right (omega arith) k in div-eq_of_lt (omega arith)
