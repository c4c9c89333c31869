-- Counters that return to 0 at a limit, and those that run down; by one step or by several. (rules 4.1, 5.6 and 5.7)
use Rattle.std.specs.Prelude.{Bool, cond, ℕ, ◌+◌, ◌-◌, leb, ltb}

-- one more comes to the limit or is beyond it
abbrev pub reached_of : ℕ → ℕ → Bool
reached_of x limit = leb limit (x + 1)

-- one more, or 0 where that comes to the limit or is beyond it
abbrev pub turned_of : ℕ → ℕ → ℕ
turned_of x limit = cond (reached_of x limit) 0 (x + 1)

-- n less, down to 0
abbrev pub less_of : ℕ → ℕ → ℕ
less_of x n = x - n

-- n more, or x as it is where 32 bits do not hold that
abbrev pub more_of : ℕ → ℕ → ℕ
more_of x n = cond (ltb (x + n) 0x100000000) (x + n) x

-- of n, as many as can be added and leave x below the limit
abbrev pub within_of : ℕ → ℕ → ℕ → ℕ
within_of x limit n = cond (ltb (limit - 1 - x) n) (limit - 1 - x) n
