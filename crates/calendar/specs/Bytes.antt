-- A time as seven bytes, in the order of their registers. (rule 2.1)
use Rattle.std.specs.Prelude.{List, [], ◌∷◌, ℕ, get_or}
use Rattle.calendar.specs.declared.time.Time.{Time}

-- all seven
abbrev pub bytes_of : Time → List ℕ
bytes_of t = t.seconds ∷ t.minutes ∷ t.hours ∷ t.weekday ∷ t.day ∷ t.month ∷ t.year ∷ []

-- the time that they say
abbrev pub time_of : List ℕ → Time
time_of l =
    record {
      seconds = get_or l 0 0;
      minutes = get_or l 1 0;
      hours = get_or l 2 0;
      weekday = get_or l 3 0;
      day = get_or l 4 0;
      month = get_or l 5 0;
      year = get_or l 6 0;
    }
