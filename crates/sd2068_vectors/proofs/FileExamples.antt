-- The worked example and a few refusals of files, as the definitions of `script` compute them. Assumes nothing.
use Rattle.std.proofs.Common.{◌≡◌, refl, List, [], ◌∷◌, ◌++◌, ℕ, replicate, drop}
use Rattle.registers.specs.Fixed.{kept_of, kept_time, kept_alarm, kept_control, clear_of, clear_time_of}
use Rattle.hand.specs.Hand as hand
use Rattle.alarm.specs.Alarm as alarm
use Rattle.countdown.specs.Countdown as countdown
use Rattle.control.specs.Lock as lock
use Rattle.control.specs.Control as control
use Rattle.bus.specs.Bytes.{heard_of}
use Rattle.bus.specs.Reads as reads
use Rattle.sd2068.specs.Power.{powered_of}
use Rattle.sd2068.specs.Reading.{register_of, shown_of}
use Rattle.sd2068.specs.Pin.{pin_of}
use Rattle.sd2068.specs.Transfer.{stopped_of, byte_of, renewed_of, read_of}
use Rattle.sd2068.specs.WellFormed.{well_formed_of}
use Rattle.sd2068.specs.Step.{event_of, refusal_of, step_of}
use Rattle.script.specs.Sections.{sections_of}
use Rattle.script.specs.Event.{events_in}
use Rattle.script.specs.Checks.{first_of, placed_of, checked_of}
use Rattle.script.specs.Lines.{lines_of}
use Rattle.script.specs.File.{Run, good_of, refused_of, run_of}

-- START, 65h, a read with ACK, a read with NAK, STOP
events : List ℕ
events =
    0 ∷ 0 ∷ 0 ∷ 0 ∷ 2 ∷ 0x65 ∷ 0 ∷ 0 ∷ 3 ∷ 0 ∷ 0 ∷ 0 ∷ 4 ∷ 0 ∷ 0 ∷ 0 ∷ 1 ∷ 0 ∷ 0 ∷ 0 ∷ []

-- 98h:19:20, weekday 3, 20-12-06, and an empty RAM
starts : List ℕ
starts = 0x20 ∷ 0x19 ∷ 0x98 ∷ 0x03 ∷ 0x20 ∷ 0x12 ∷ 0x06 ∷ replicate 12 0

-- n events at an offset, and the start bytes from 8 on
script : ℕ → ℕ → List ℕ → List ℕ
script n offset es = (n ∷ 0 ∷ offset ∷ 0 ∷ 19 ∷ 0 ∷ 8 ∷ 0 ∷ []) ++ (starts ++ es)

-- an output of n dots
dots : ℕ → List ℕ
dots n = replicate n 46

record Told : Type 0 where
  refusal : ℕ
  index : ℕ
  count : ℕ
  output : List ℕ

told : Run → Told
told r = record { refusal = r.refusal; index = r.index; count = r.count; output = r.output }

-- the five lines, and two dots behind them
worked : told (run_of (script 5 27 events) (dots 27)) ≡ record { refusal = 0; index = 0; count = 5; output = 45 ∷ 45 ∷ 32 ∷ 72 ∷ 10 ∷ 65 ∷ 75 ∷ 32 ∷ 72 ∷ 10 ∷ 50 ∷ 48 ∷ 32 ∷ 72 ∷ 10 ∷ 49 ∷ 57 ∷ 32 ∷ 72 ∷ 10 ∷ 45 ∷ 45 ∷ 32 ∷ 72 ∷ 10 ∷ dots 2 }
unfolding told events starts script dots run_of checked_of placed_of sections_of first_of events_in good_of lines_of step_of event_of refusal_of well_formed_of hand.well_of alarm.well_of countdown.well_of lock.well_of control.well_of kept_of kept_time kept_alarm kept_control clear_of clear_time_of powered_of stopped_of byte_of heard_of read_of reads.read_of renewed_of shown_of register_of pin_of
worked = refl

-- a file that is refused leaves the dots
abbrev refusal : ℕ → ℕ → ℕ → Told
refusal n i room = record { refusal = n; index = i; count = 0; output = dots room }

-- no bytes; an output one byte short; events over the last start byte; the third event's byte not 0; the same with no output
record Refused : Type 0 where
  empty : told (run_of [] (dots 3)) ≡ refusal 4 0 3
  room : told (run_of (script 5 27 events) (dots 24)) ≡ refusal 7 0 24
  overlap : told (run_of (script 5 26 events) (dots 25)) ≡ refusal 5 0 25
  field : told (run_of (script 5 27 (0 ∷ 0 ∷ 0 ∷ 0 ∷ 2 ∷ 0x65 ∷ 0 ∷ 0 ∷ 3 ∷ 1 ∷ drop 10 events)) (dots 25)) ≡ refusal 3 2 25
  order : told (run_of (script 5 27 (0 ∷ 0 ∷ 0 ∷ 0 ∷ 2 ∷ 0x65 ∷ 0 ∷ 0 ∷ 9 ∷ 1 ∷ drop 10 events)) []) ≡ refusal 2 2 0
  none : told (run_of (script 0 27 []) []) ≡ refusal 0 0 0

refused : Refused
unfolding told events starts script dots run_of checked_of placed_of sections_of first_of events_in refused_of good_of lines_of clear_time_of clear_of kept_of kept_time
refused = record { empty = refl; room = refl; overlap = refl; field = refl; order = refl; none = refl }
