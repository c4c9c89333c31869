-- Parts of a state written over their bytes. (rule 10.2)
use Rattle.std.specs.Prelude.{cond, List, [], ◌∷◌, ℕ, suc, ◌+◌, eqb, length, set}
use Rattle.calendar.specs.declared.time.Time.{Time}
use Rattle.countdown.specs.declared.Countdown.{Countdown}
use Rattle.bus.specs.declared.phase.Bus.{Bus}
use Rattle.state_bytes.specs.Words.{low_of, second_of, third_of, high_of}
use Rattle.state_bytes.specs.Phases.{number_in, mark_in, age_in}

-- bytes one behind another, the first at place i + k
abbrev pub put_bytes : List ℕ → ℕ → ℕ → List ℕ → List ℕ
put_bytes s i k [] = s
put_bytes s i k (b ∷ bs) = put_bytes (set s (i + k) b) i (suc k) bs

abbrev pub put_time : List ℕ → ℕ → Time → List ℕ
put_time s i t =
    let hours = set (set (set s i t.seconds) (i + 1) t.minutes) (i + 2) t.hours in
    set (set (set (set hours (i + 3) t.weekday) (i + 4) t.day) (i + 5) t.month) (i + 6) t.year

abbrev pub put_word : List ℕ → ℕ → ℕ → List ℕ
put_word s i v = set (set s i (low_of v)) (i + 1) (second_of v)

abbrev pub put_long : List ℕ → ℕ → ℕ → List ℕ
put_long s i v = set (set (set (set s i (low_of v)) (i + 1) (second_of v)) (i + 2) (third_of v)) (i + 3) (high_of v)

-- but for the flag
abbrev pub put_countdown : List ℕ → Countdown → List ℕ
put_countdown s d = put_long (put_word (set (set s 0x13 d.count) 39 d.reload) 47 d.pulse) 57 d.prescaler

abbrev pub put_bus : List ℕ → Bus → List ℕ
put_bus s b =
    put_word (set (set (set s 40 b.pointer) 41 (number_in b.phase)) 42 (mark_in b.phase)) 43 (age_in b.phase)

-- all of them; a list of another length stays
abbrev pub put_state : List ℕ → List ℕ → List ℕ
put_state s bytes = cond (eqb (length s) 61) bytes s
