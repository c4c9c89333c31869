-- The weekday. (rules 3.7 and 3.16)
use Rattle.std.specs.Prelude.{Bool, cond, ℕ, ◌+◌, ◌%◌, ltb, eqb}

-- 0 to 6
abbrev pub legal_weekday_of : ℕ → Bool
legal_weekday_of w = ltb w 7

-- after 6, and from an illegal one, 0
abbrev pub next_weekday_of : ℕ → ℕ
next_weekday_of w = cond (ltb w 6) (w + 1) 0

-- an illegal weekday counts as its last value
abbrev pub as_weekday : ℕ → ℕ
as_weekday w = cond (ltb w 7) w 6

-- d days on; with none passed it stays as held (rule 3.16)
unfoldable pub weekday_on_of : ℕ → ℕ → ℕ
weekday_on_of w d = cond (eqb d 0) w ((as_weekday w + d) % 7)
