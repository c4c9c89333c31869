-- A script that sets the time and reads it back, and what its output shows. (rules 9.1 to 9.5)
use Rattle.std.specs.Prelude.{◌≡◌, cond, List, [], ◌∷◌, ◌++◌, ℕ, ◌*◌, length, take, drop}
use Rattle.calendar.specs.declared.time.Time.{Time}
use Rattle.events.specs.declared.event.Event.{Event}
use Rattle.sd2068.specs.Power.{power_on_of}
use Rattle.sd2068.specs.Reading.{register_of}
use Rattle.sd2068.specs.Run.{byte, step, after, read_by}
use Rattle.sd2068.specs.Kept.{pulses_since, Kept, until_address, reading_of, ReadsBack}
use Rattle.script.specs.Rows.{listed_of, starts_of}

-- of the five bytes of each event's line, the first two where the event is a read
unfoldable pub reads_in : List Event → List ℕ → List (List ℕ)
reads_in [] out = []
reads_in (e ∷ es) out = cond (read_by e) (take 2 out ∷ reads_in es (drop 5 out)) (reads_in es (drop 5 out))

-- somewhere among the file's events a time is set, and after any traffic read back
pub record Scripted (file : List ℕ) (t : Time) : Type 0 where
  pub before : List Event
  pub run : Kept step (after step (power_on_of (starts_of file)).state before) t
  pub behind : List Event
  pub events :
      listed_of file ≡ (before ++ until_address run) ++ (byte 0x65 ∷ (reading_of run ++ behind))

-- the output from the line of that reading's 65h on
abbrev pub from_address : {file : List ℕ} {t : Time} → Scripted file t → List ℕ → List ℕ
from_address s out = drop (length (s.before ++ until_address s.run) * 5) out

-- what is promised of it: the line of 65h and those of the reads behind it show what the steps would
abbrev pub KeepsTimeIn : {file : List ℕ} {t : Time} → ℕ → Scripted file t → List ℕ → Type 0
KeepsTimeIn {file} {t} k s out =
    ReadsBack t k (register_of (after step (power_on_of (starts_of file)).state s.before) 0x12) (pulses_since s.run.setting s.run.traffic)
    (take 2 (from_address s out)) (reads_in (reading_of s.run) (drop 5 (from_address s out)))
