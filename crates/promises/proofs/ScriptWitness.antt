-- A script can meet the hypotheses of promise 3: a file in bytes, and what its run comes to, computed. Assumes nothing.
use Rattle.std.proofs.Common.{◌≡◌, refl, false, List, [], ◌∷◌, ◌++◌, inr, ℕ, ◌*◌, ◌/◌, ◌%◌, arith, ltb→lt, length, drop, replicate}
use Rattle.calendar.specs.declared.time.Time.{Time}
use Rattle.calendar.specs.Numbers.{since_of, number_of}
use Rattle.calendar.specs.Repeat.{times}
use Rattle.fields.specs.Hours.{codes, place_of, hour_number_of}
use Rattle.fields.specs.Times.{legal_time_of, second_of}
use Rattle.dates.specs.Months.{leap_of, last_day_of, days_of, first_day_of}
use Rattle.dates.specs.Dates.{legal_date_of, day_of}
use Rattle.registers.specs.Fixed.{kept_of, kept_time, kept_alarm, kept_control, clear_of, clear_time_of}
use Rattle.registers.specs.Seven.{with_byte_of}
use Rattle.hand.specs.Trim.{length_of, change_of}
use Rattle.hand.specs.Hand as hand
use Rattle.hand.specs.Span.{Legal}
use Rattle.alarm.specs.Alarm as alarm
use Rattle.countdown.specs.Countdown as countdown
use Rattle.control.specs.Lock as lock
use Rattle.control.specs.Control as control
use Rattle.bus.specs.Bytes.{heard_of}
use Rattle.bus.specs.Reads as reads
use Rattle.events.specs.declared.event.Event.{Event}
use Rattle.sd2068.specs.Power.{powered_of, power_on_of}
use Rattle.sd2068.specs.Reading.{register_of, shown_of}
use Rattle.sd2068.specs.Writing.{ram_stored_of, write_of}
use Rattle.sd2068.specs.Pulse.{pulse_of}
use Rattle.sd2068.specs.Transfer.{stopped_of, byte_of, renewed_of, read_of}
use Rattle.sd2068.specs.WellFormed.{well_formed_of}
use Rattle.sd2068.specs.Step.{event_of, refusal_of, step_of}
use Rattle.sd2068.specs.Run.{start, stop, byte, ack, nak, pulses, step, after, pulses_in, spoken}
use Rattle.script.specs.Sections.{sections_of}
use Rattle.script.specs.Event.{events_in}
use Rattle.script.specs.Checks.{first_of, placed_of, checked_of}
use Rattle.script.specs.Rows.{listed_from}
use Rattle.script.specs.Lines.{lines_of}
use Rattle.script.specs.File.{good_of, run_of}
use Rattle.promises.specs.Script.{reads_in, Scripted, from_address, KeepsTimeIn}
use Rattle.promises.specs.Marked.{writes, unlocks}
use Rattle.promises.proofs.ScriptLaws.{script_kept}
use Rattle.promises.proofs.Witness.{started, spared, spares}

-- a word, low byte first
abbrev word : ℕ → List ℕ
word n = n % 256 ∷ n / 256 ∷ []

-- four bytes for each event
abbrev pub bytes_by : List Event → List ℕ
bytes_by [] = []
bytes_by (e ∷ es) = e.kind ∷ e.byte ∷ (word e.count ++ bytes_by es)

-- 29h:15:00, which is 9:15 PM, weekday 3, 20-12-06
abbrev pub set : Time
set = record { seconds = 0x00; minutes = 0x15; hours = 0x29; weekday = 0x03; day = 0x20; month = 0x12; year = 0x06 }

-- START, 64h and 00h
abbrev pointing : List Event
pointing = start ∷ byte 0x64 ∷ byte 0x00 ∷ []

-- the bytes after the seconds
abbrev sending : List Event
sending = byte 0x15 ∷ byte 0x29 ∷ byte 0x03 ∷ byte 0x20 ∷ byte 0x12 ∷ byte 0x06 ∷ []

-- STOP, a byte stored in the RAM, 300 pulses, and the START of the reading
abbrev traffic : List Event
traffic = stop ∷ writes 0x14 (0x5A ∷ []) ++ (pulses 300 ∷ start ∷ [])

-- six reads with ACK
abbrev pub reading : List Event
reading = ack ∷ ack ∷ ack ∷ ack ∷ ack ∷ ack ∷ []

-- the whole script: unlocked, set, other traffic, read back
abbrev listed : List Event
listed = (unlocks ++ pointing) ++ (byte 0x00 ∷ sending) ++ traffic ++ (byte 0x65 ∷ reading) ++ (nak ∷ stop ∷ [])

-- the header, the start bytes from 8 on, the events from 27 on
abbrev pub file : List ℕ
file = word (length listed) ++ word 27 ++ word 19 ++ word 8 ++ started ++ bytes_by listed

-- an output of five bytes for each event
abbrev pub out : List ℕ
out = replicate (length listed * 5) 0

-- the file is not refused
pub accepted : (run_of file out).refusal ≡ 0
unfolding unlocks writes run_of checked_of placed_of sections_of events_in first_of good_of clear_time_of clear_of kept_of kept_time
accepted = refl

-- everything that promise 3 asks of a script
pub scripted : Scripted file set
unfolding unlocks writes listed_from spared after pulses_in spoken step_of event_of refusal_of well_formed_of hand.well_of alarm.well_of countdown.well_of lock.well_of control.well_of kept_of kept_time kept_alarm kept_control clear_of clear_time_of power_on_of powered_of stopped_of byte_of heard_of write_of lock.written_of hand.stored_of alarm.stored_of countdown.stored_of control.stored_of with_byte_of times pulse_of hand.ticked_of alarm.rung_of countdown.counted_of length_of change_of
scripted =
    record {
      before = unlocks ++ pointing;
      run =
          record {
            setting =
                record {
                  pointed =
                      record {
                        transfer = record { age = 0; marked = false };
                        writes = refl;
                        pointer = refl;
                        unlocked = record { wrtc1 = refl; wrtc2 = refl; wrtc3 = refl };
                      };
                  sent = set;
                  kept = refl;
                  rest = sending;
                  six = refl;
                  timely = ltb→lt _ _ tt;
                };
            traffic = traffic;
            spares = spares step _ traffic tt;
            reading =
                record {
                  transfer = record { age = 0; marked = false };
                  awaits = refl;
                  pointer = refl;
                  reads = reading;
                  six = refl;
                  last = nak;
                  seventh = inr refl;
                  timely = ltb→lt _ _ tt;
                };
          };
      behind = stop ∷ [];
      events = refl;
    }

-- the reads' lines show 00 15 29 03 20 12 06
pub scripted_read :
    reads_in (reading ++ (nak ∷ [])) (drop 5 (from_address scripted (run_of file out).output))
    ≡ (48 ∷ 48 ∷ []) ∷ (49 ∷ 53 ∷ []) ∷ (50 ∷ 57 ∷ []) ∷ (48 ∷ 51 ∷ []) ∷ (50 ∷ 48 ∷ []) ∷ (49 ∷ 50 ∷ []) ∷ (48 ∷ 54 ∷ []) ∷ []
unfolding scripted reads_in lines_of run_of checked_of placed_of sections_of events_in first_of good_of read_of reads.read_of renewed_of shown_of
scripted_read = refl

-- and 14h has the byte that was stored
pub scripted_stored : register_of (run_of file out).state 0x14 ≡ 0x5A
unfolding scripted run_of checked_of placed_of sections_of events_in first_of good_of read_of reads.read_of renewed_of ram_stored_of register_of
scripted_stored = refl

-- 20-12-06 21:15:00 is this second of the century
legal : Legal set 219964500
unfolding number_of since_of legal_date_of legal_time_of day_of second_of first_day_of days_of last_day_of leap_of hour_number_of codes place_of
legal = record { number = refl; weekday = omega arith }

-- and what is promised of the script is what its output shows
pub scripted_kept : KeepsTimeIn 219964500 scripted (run_of file out).output
scripted_kept = script_kept file out accepted set 219964500 legal scripted
