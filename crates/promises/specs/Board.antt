-- A board's calls: a time set and read back by what they tell, and the id by the bytes that they tell. (rules 10.3 to 10.5)
use Rattle.std.specs.Prelude.{◌≡◌, true, cond, List, [], ◌∷◌, ◌++◌, map, ℕ, ◌<◌, length, get_or, drop}
use Rattle.calendar.specs.declared.time.Time.{Time}
use Rattle.events.specs.declared.event.Event.{Event}
use Rattle.sd2068.specs.declared.clock.Clock.{Clock}
use Rattle.sd2068.specs.Reading.{register_of}
use Rattle.sd2068.specs.WellFormed.{well_formed_of}
use Rattle.sd2068.specs.Run.{byte, step, after, read_by}
use Rattle.sd2068.specs.Kept.{pulses_since, Kept, until_address, reading_of, ReadsBack}
use Rattle.state_bytes.specs.Decoded.{clock_of}
use Rattle.sd2068_abi.specs.Abi.{accepted_of, told_in}
use Rattle.state_events.specs.Said.{byte_in, text_in, said_in}
use Rattle.sd2068_abi.specs.Said.{reads_said, EventBytes}
use Rattle.promises.specs.Ledger.{id_of}

-- a time is set from a state on, and after any traffic a board reads it back by calls. It lends the bytes of the state after some of these events, made before by calls or by the run of a file; its calls are the others, one for each
pub record OnBoard (t : Time) : Type 0 where
  pub begun : Clock
  pub well : well_formed_of begun ≡ true
  pub run : Kept step begun t
  pub made : List Event
  pub calls : List Event
  pub events : until_address run ≡ made ++ calls
  pub state : List ℕ
  pub each : (i : ℕ) → get_or state i 0 < 256
  pub accepted : accepted_of state ≡ true
  pub stands : clock_of state ≡ after step begun made
  pub bytes : EventBytes (calls ++ (byte 0x65 ∷ reading_of run))

module _ {t : Time} (b : OnBoard t) where
  -- the numbers that the calls tell, from that of 65h on
  abbrev pub from_address : List ℕ
  from_address = drop (length b.calls) (told_in b.state (b.calls ++ (byte 0x65 ∷ reading_of b.run)))

  -- what is promised: 65h is acknowledged, and the reads show the time
  abbrev pub KeepsTimeOn : ℕ → Type 0
  KeepsTimeOn k =
      ReadsBack t k (register_of b.begun 0x12) (pulses_since b.run.setting b.run.traffic) (text_in (get_or from_address 0 0))
      (reads_said (reading_of b.run) (map said_in (drop 1 from_address)))

-- the bytes that the calls for the reads among events tell
unfoldable pub bytes_in : List Event → List ℕ → List ℕ
bytes_in [] ns = []
bytes_in (e ∷ es) [] = []
bytes_in (e ∷ es) (n ∷ ns) = cond (read_by e) (byte_in n ∷ bytes_in es ns) (bytes_in es ns)

-- the bytes that a board reads, and the eight digits by them, as it takes its id
abbrev pub bytes_read : {t : Time} → OnBoard t → List ℕ
bytes_read b = bytes_in (reading_of b.run) (drop 1 (from_address b))

unfoldable pub digits_told : {t : Time} → OnBoard t → List ℕ
digits_told b = id_of (get_or (bytes_read b) 5 0) (get_or (bytes_read b) 4 0) (get_or (bytes_read b) 2 0) (get_or (bytes_read b) 1 0)
