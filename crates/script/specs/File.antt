-- The run of a file, for good and bad files alike. (rules 9.4 and 9.5)
use Rattle.std.specs.Prelude.{◌≡◌, true, cond, List, ◌++◌, ℕ, ◌*◌, ◌≤◌, eqb, length, drop, Result, Ok, Err}
use Rattle.events.specs.declared.event.Event.{Event}
use Rattle.events.specs.Refusal.{number_of}
use Rattle.sd2068.specs.declared.clock.Clock.{Clock}
use Rattle.sd2068.specs.Power as power
use Rattle.sd2068.specs.Power.{zero_start}
use Rattle.sd2068.specs.Run.{after_of}
use Rattle.sd2068.specs.WellFormed.{well_formed_of}
use Rattle.state_bytes.specs.Decoded.{clock_of}
use Rattle.state_bytes.specs.Encoded.{bytes_of}
use Rattle.script.specs.declared.header.Header.{Header}
use Rattle.script.specs.declared.file.Ran.{Ran}
use Rattle.script.specs.declared.file.Refused.{Refused}
use Rattle.script.specs.Header.{header_of}
use Rattle.script.specs.Checks.{Found, first_of, start_bytes_of, events_of, checked_of}
use Rattle.script.specs.Lines.{lines_of}

-- what running n events on a state's bytes asks for: room for a line of each, none of them at fault, and bytes of a well-formed state
abbrev pub can_run : List ℕ → List Event → ℕ → ℕ → Type 0
can_run s es n room = (n * 5 ≤ room) × (((first_of es 0).refusal ≡ 0) × ((well_formed_of (clock_of s) ≡ true) × (bytes_of (clock_of s) ≡ s)))

-- what running events into an output leaves: the last state, and the lines with the output's rest
abbrev pub EventsRun : Clock → List Event → List ℕ → Clock → List ℕ → Type 0
EventsRun c es out last exit = (last ≡ after_of c es) × (exit ≡ lines_of c es ++ drop (length es * 5) out)

-- what a run says: refusal, index, events, state, output
pub record Run : Type 0 where
  pub refusal : ℕ
  pub index : ℕ
  pub count : ℕ
  pub state : Clock
  pub output : List ℕ

-- from the start bytes through all events
unfoldable pub good_of : List ℕ → Header → List ℕ → Run
good_of file h out =
    let c = power.start_of (start_bytes_of file h) in
    record {
      refusal = 0;
      index = 0;
      count = h.count;
      state = after_of c (events_of file h);
      output = lines_of c (events_of file h) ++ drop (h.count * 5) out;
    }

-- nothing has run: the output stays, and the state is what 19 zero bytes give
unfoldable pub refused_of : Found → List ℕ → Run
refused_of f out = record { refusal = f.refusal; index = f.index; count = 0; state = zero_start; output = out }

unfoldable pub run_of : List ℕ → List ℕ → Run
run_of file out =
    let f = checked_of file (length out) in
    cond (eqb f.refusal 0) (good_of file (header_of file) out) (refused_of f out)

-- what a result and its output say
abbrev pub ran : Result Ran Refused → List ℕ → Run
ran (Ok r) out = record { refusal = 0; index = 0; count = r.count; state = r.clock; output = out }
ran (Err r) out = record { refusal = number_of r.refusal; index = r.index; count = 0; state = r.clock; output = out }
