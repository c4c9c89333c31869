-- The lines of the output. (rule 9.5)
use Rattle.std.specs.Prelude.{List, [], ◌∷◌, ◌++◌, ℕ, ◌+◌, take, drop}
use Rattle.events.specs.declared.event.Event.{Event}
use Rattle.sd2068.specs.declared.clock.Clock.{Clock}
use Rattle.sd2068.specs.Run.{told_by}

-- two characters, a space, a letter, a newline
abbrev pub line_of : List ℕ → ℕ → List ℕ
line_of answer pin = answer ++ (32 ∷ pin ∷ 10 ∷ [])

-- a line's five bytes in the output, from a place on
abbrev pub put_of : List ℕ → ℕ → List ℕ → List ℕ
put_of out at line = take at out ++ (line ++ drop (at + 5) out)

-- the lines of events, each told from the state that the one before it left
unfoldable pub lines_of : Clock → List Event → List ℕ
lines_of c [] = []
lines_of c (e ∷ es) = line_of (told_by c e).answer (told_by c e).pin ++ lines_of (told_by c e).state es
