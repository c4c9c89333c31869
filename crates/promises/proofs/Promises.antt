-- Everything that is promised of the clock, in one place: each promise is stated here, and its proof is the law that it cites. Assumes nothing.
use Rattle.std.proofs.Common.{◌≡◌, sym, ap, subst, ◌∙◌, ◌⊎◌, ◌↔◌, Bool, true, false, cond, ◌&&◌, not, List, [], ◌∷◌, ◌++◌, map, Some, ℕ, ◌+◌, ◌*◌, ◌%◌, ◌<◌, length, get_or, drop}
use Rattle.fields.specs.Digits.{value_of, legal_of}
use Rattle.fields.specs.Hours.{mode_of, hour_number_of}
use Rattle.fields.specs.Times.{midnight_of}
use Rattle.calendar.specs.declared.time.Time.{Time}
use Rattle.calendar.specs.Advance as advance
use Rattle.calendar.specs.Numbers.{number_of}
use Rattle.calendar.specs.Repeat.{times}
use Rattle.registers.specs.Fixed.{kept_of, clear_of}
use Rattle.hand.specs.Span.{Legal}
use Rattle.bus.specs.declared.phase.Mode.TheVariants.{Writing, Reading}
use Rattle.bus.specs.declared.phase.Transfer.{Transfer}
use Rattle.bus.specs.declared.phase.Phase.TheVariants.{Open}
use Rattle.events.specs.declared.event.Event.{Event}
use Rattle.events.specs.declared.answer.Answer.TheVariants.{Byte}
use Rattle.events.specs.Answer.{text_of}
use Rattle.events.specs.Refusal.{fault_in}
use Rattle.sd2068.specs.declared.clock.Clock.{Clock}
use Rattle.sd2068.specs.Power.{zero_start, power_on_of}
use Rattle.sd2068.specs.Reading.{register_of, registers_of}
use Rattle.sd2068.specs.Pin.{pin_of}
use Rattle.sd2068.specs.WellFormed.{well_formed_of, Listed}
use Rattle.sd2068.specs.declared.answers.Answered.{Answered}
use Rattle.sd2068.specs.Pulse.{pulse_of, pulses_of}
use Rattle.sd2068.specs.Step.{Told, told_of, event_of, step_of}
use Rattle.sd2068.specs.Rows.{StepDue, PowerDue}
use Rattle.sd2068.specs.Run as Run
use Rattle.sd2068.specs.Run.{nak, step, event, after, pulses_in, read_by, byte_by, spoken}
use Rattle.sd2068.specs.Kept.{Unlocked, kept_time_of, Pointed, Setting, age_of, Pointing, pulses_since, Kept, until_address, reading_of, read_back, shown_by, ReadsBack, KeepsTime}
use Rattle.sd2068.proofs.WellLaws.{parts, whole, power_on_well, steps_well}
use Rattle.sd2068.proofs.RowLaws as rows
use Rattle.sd2068.proofs.ListedLaws.{well_listed, listed_well}
use Rattle.sd2068.proofs.RegisterLaws as registers
use Rattle.sd2068.proofs.SettingLaws as setting
use Rattle.sd2068.proofs.StillLaws as still
use Rattle.sd2068.proofs.KeptLaws.{event_kept, step_kept, one_reading, same_reading}
use Rattle.sd2068.proofs.Settled as chip
use Rattle.script.specs.Rows.{header_word, listed_of, starts_of, Due}
use Rattle.script.specs.Lines.{lines_of}
use Rattle.script.specs.File.{Run, run_of}
use Rattle.script.proofs.RunLaws as script
use Rattle.script.proofs.Settled as scripts
use Rattle.facts.specs.declared.deeds.Deed.{Deed}
use Rattle.facts.specs.declared.deeds.Deed.TheVariants as deed
use Rattle.facts.specs.Deeds.{deed_of}
use Rattle.facts.specs.Done.{Done}
use Rattle.facts.specs.Moments.{moment_of, pulse_moment}
use Rattle.facts.proofs.DeedLaws as deeds
use Rattle.facts.proofs.RowLaws as rows_of_deeds
use Rattle.facts.proofs.MomentLaws as moments
use Rattle.facts.proofs.Settled as told_deeds
use Rattle.state_bytes.specs.Decoded.{clock_of}
use Rattle.state_bytes.specs.Encoded.{bytes_of}
use Rattle.state_bytes.specs.Shapes.{Arrays}
use Rattle.sd2068_abi.specs.Abi as abi
use Rattle.state_events.specs.Event.{lent}
use Rattle.sd2068_abi.specs.Abi.{accepted_of, power_of, after_in, told_in, lent_run}
use Rattle.state_events.specs.Said.{refusal_in, Said, said_in, said_of}
use Rattle.sd2068_abi.specs.Said.{run_refusal_in, run_index_in, run_count_in, said_by, EventBytes}
use Rattle.sd2068_abi.proofs.BoundaryLaws as board
use Rattle.sd2068_abi.proofs.SaidLaws as said
use Rattle.sd2068_abi.proofs.RefusedLaws as refused
use Rattle.sd2068_abi.proofs.RunLaws as runs
use Rattle.sd2068_abi.proofs.Settled as boards
use Rattle.promises.specs.Fixed.{fixed}
use Rattle.promises.specs.Registers.{bit, Inner, inner_of, view_of, Looks, State, lock_open}
use Rattle.promises.specs.Ring.{time_before, time_next, Judged, Matched, Begins, Matching, Silent, Evening}
use Rattle.promises.specs.Seen.{Seen, Shows, start_seen, stop_seen, byte_seen, read_seen, pulses_seen, loss_seen, powered_view, start_at, event_seen}
use Rattle.promises.specs.Script.{reads_in, Scripted, from_address, KeepsTimeIn}
use Rattle.promises.specs.Board.{OnBoard, KeepsTimeOn, digits_told}
use Rattle.promises.specs.Ledger.{digits_of, digits_read, SameMinute, built}
use Rattle.promises.specs.Marked.{Marked}
use Rattle.promises.proofs.FixedLaws as bits
use Rattle.promises.proofs.LockLaws as lock
use Rattle.promises.proofs.SeenLaws as seen
use Rattle.promises.proofs.RingLaws as ring
use Rattle.promises.proofs.SilentLaws as pulsed
use Rattle.promises.proofs.StateLaws as state
use Rattle.promises.proofs.ViewLaws as view
use Rattle.promises.proofs.ScriptLaws.{script_kept}
use Rattle.promises.proofs.LedgerLaws as ledger
use Rattle.promises.proofs.BoardLaws as on_boards
use Rattle.promises.proofs.MarkedCases as cases
use Rattle.promises.proofs.Witness as run
use Rattle.promises.proofs.ScriptWitness as file
use Rattle.promises.proofs.BoardWitness as on_a_board

-- Promise 1: refusals come when their rows say and never else, and then nothing has changed.

-- a fixed bit is one of rule 2.2's table: it is what a register does not keep of a byte, and what a clear byte does not have
pub kept_bits : (a n b : ℕ) → a < 32 → n < 8 → b < 256 → bit n (kept_of a b) ≡ (bit n b && not (fixed a n))
kept_bits = bits.kept_bits

pub clear_bits : (a b : ℕ) → a < 32 → b < 256 → (clear_of a b ≡ true) ↔ ((n : ℕ) → n < 8 → fixed a n ≡ true → bit n b ≡ false)
clear_bits = bits.clear_bits

-- a state is well formed exactly if it is as rule 8.2 lists
pub well_formed : (c : Clock) → (well_formed_of c ≡ true) ↔ Listed c
well_formed c = (well_listed c, listed_well c)

module _ (c : Clock) (kind byte count : ℕ) where
  abbrev told : Told
  told = step_of c kind byte count

  -- a step is refused with n exactly if n is due; 0 is due where no row holds
  pub step_refusal : (n : ℕ) → (told.refusal ≡ n) ↔ StepDue c kind byte count n
  step_refusal n = (λ e. subst (StepDue c kind byte count) e (rows.step_due c kind byte count), rows.step_only)

  -- refused, it hands back its state, answers -- and shows that state's pin
  pub step_unchanged : (told.refusal ≡ 0 → ⊥) → told ≡ record { refusal = told.refusal; state = c; answer = 45 ∷ 45 ∷ []; pin = pin_of c }
  step_unchanged = rows.step_refused c kind byte count

-- the same of a power-on, which gives what 19 zero bytes would have
pub power_refusal : (s : List ℕ) (n : ℕ) → ((power_on_of s).refusal ≡ n) ↔ PowerDue s n
power_refusal s n = (λ e. subst (PowerDue s) e (rows.power_due s), rows.power_only)

pub power_unchanged : (s : List ℕ) → ((power_on_of s).refusal ≡ 0 → ⊥) → (power_on_of s).state ≡ zero_start
power_unchanged = rows.power_refused

module _ (file out : List ℕ) where
  abbrev ran : Run
  ran = run_of file out

  -- a file is refused with n and an index i exactly if they are due
  pub file_refusal : (n i : ℕ) → ((ran.refusal ≡ n) × (ran.index ≡ i)) ↔ Due file (length out) n i
  file_refusal n i = (script.run_given file out, script.run_only file out)

  -- refused, no byte of the output has changed, no event has run, and the state is what 19 zero bytes give
  pub file_unchanged : (ran.refusal ≡ 0 → ⊥) → ran ≡ record { refusal = ran.refusal; index = ran.index; count = 0; state = zero_start; output = out }
  file_unchanged = script.run_untouched file out

-- whatever steps follow a power-on, the state may be handed in again
pub always_well_formed : (s : List ℕ) (es : List Event) → Listed (after step (power_on_of s).state es)
always_well_formed s es =
    let c = after step (power_on_of s).state es in
    well_listed c (whole c (steps_well (power_on_of s).state (power_on_well s) es))

-- A board lends bytes: they are exactly those of a well-formed state, or nothing happens.

module _ (c : Clock) (a : Arrays c) (w : well_formed_of c ≡ true) where
  pub encoded_accepted : accepted_of (bytes_of c) ≡ true
  encoded_accepted = board.encoded_accepted c a w

  pub encoded_decoded : clock_of (bytes_of c) ≡ c
  encoded_decoded = board.encoded_decoded c a w

module _ (s : List ℕ) (each : (i : ℕ) → get_or s i 0 < 256) (accepted : accepted_of s ≡ true) where
  pub accepted_well : well_formed_of (clock_of s) ≡ true
  accepted_well = board.accepted_well s each accepted

  pub accepted_encoded : bytes_of (clock_of s) ≡ s
  accepted_encoded = board.accepted_encoded s each accepted

  -- a step on them is refused with n exactly if n is due of their state, and what it leaves is accepted by the next call
  pub board_step_due : (kind byte count n : ℕ) → (refusal_in (abi.step_of s kind byte count).told ≡ n) ↔ StepDue (clock_of s) kind byte count n
  board_step_due kind byte count n =
      subst (λ (m : ℕ). (m ≡ n) ↔ StepDue (clock_of s) kind byte count n) (ap (λ (x : Said). x.refusal) (sym (said.told_says s each accepted kind byte count)))
      (step_refusal (clock_of s) kind byte count n)

  pub step_accepted : (kind byte count : ℕ) → accepted_of (abi.step_of s kind byte count).state ≡ true
  step_accepted = board.step_accepted s each accepted

module _ (s : List ℕ) (kind byte count : ℕ) where
  -- bytes that are no state's a step refuses with 1, and no others
  pub no_state_refused : (refusal_in (abi.step_of s kind byte count).told ≡ 1) ↔ (accepted_of s ≡ false)
  no_state_refused = refused.no_state_refused s kind byte count

  -- a step that is refused leaves every byte
  pub refused_stays : ((i : ℕ) → get_or s i 0 < 256) → (refusal_in (abi.step_of s kind byte count).told ≡ 0 → ⊥) → (abi.step_of s kind byte count).state ≡ s
  refused_stays each = refused.refused_stays s each kind byte count

  -- the pin and a register are refused with 1 exactly if a step is, and then 1 is all that is told
  pub pin_refused : (refusal_in (abi.pin_of s) ≡ 1) ↔ (refusal_in (abi.step_of s kind byte count).told ≡ 1)
  pin_refused = refused.pin_refused s kind byte count

  pub register_refused : (a : ℕ) → (refusal_in (abi.register_of s a) ≡ 1) ↔ (refusal_in (abi.step_of s kind byte count).told ≡ 1)
  register_refused = refused.register_refused s kind byte count

  pub refused_alone :
      refusal_in (abi.step_of s kind byte count).told ≡ 1
      → (abi.step_of s kind byte count ≡ lent 1 s) × ((abi.pin_of s ≡ 1) × ((a : ℕ) → abi.register_of s a ≡ 1))
  refused_alone = refused.refused_alone s kind byte count

-- a power-on tells 255 exactly if the lent state has another length, and then leaves it; else it is refused as the table says
module _ (start s : List ℕ) where
  pub power_no_place : ((power_of start s).told ≡ 255) ↔ (length s ≡ 61 → ⊥)
  power_no_place = runs.power_no_place start s

  pub power_stays : (length s ≡ 61 → ⊥) → power_of start s ≡ lent 255 s
  power_stays = runs.power_stays start s

  pub board_power_due : length s ≡ 61 → (n : ℕ) → ((power_of start s).told ≡ n) ↔ PowerDue start n
  board_power_due = runs.board_power_due start s

  pub power_accepted : length s ≡ 61 → accepted_of (power_of start s).state ≡ true
  power_accepted = runs.power_accepted start s

-- and so does a run; refused, it leaves every byte of the output and hands back the state of 19 zero bytes
module _ (file out s : List ℕ) where
  pub run_no_place : (run_refusal_in (abi.run_of file out s).told ≡ 255) ↔ (length s ≡ 61 → ⊥)
  run_no_place = runs.run_no_place file out s

  pub run_stays : (length s ≡ 61 → ⊥) → abi.run_of file out s ≡ lent_run 255 out s
  run_stays = runs.run_stays file out s

  pub board_run_due :
      length s ≡ 61 → (n i : ℕ) → let told = (abi.run_of file out s).told in ((run_refusal_in told ≡ n) × (run_index_in told ≡ i)) ↔ Due file (length out) n i
  board_run_due = runs.board_run_due file out s

  pub run_refused :
      length s ≡ 61 → let told = (abi.run_of file out s).told in
      (run_refusal_in told ≡ 0 → ⊥) → abi.run_of file out s ≡ lent_run (run_refusal_in told + 65536 * run_index_in told) out (bytes_of zero_start)
  run_refused = runs.run_refused file out s

  pub run_accepted : length s ≡ 61 → accepted_of (abi.run_of file out s).state ≡ true
  run_accepted = runs.run_accepted file out s

-- Promise 2: what is not refused does what the rules say, with nothing left free.

module _ (c : Clock) (w : State c) where
  -- every event, from every state that may be handed in: the answer, all registers, what is inside, the pin
  pub every_event :
      (kind byte count : ℕ) → byte < 256 → (step_of c kind byte count).refusal ≡ 0 → Shows (step_of c kind byte count) (event_seen (view_of c) kind byte count)
  every_event = seen.every_event c w

  -- and kind by kind
  pub start : Shows (step_of c 0 0 0) (start_seen (view_of c))
  start = seen.start c w

  pub stop : Shows (step_of c 1 0 0) (stop_seen (view_of c))
  stop = seen.stop c w

  pub byte : (b : ℕ) → b < 256 → Shows (step_of c 2 b 0) (byte_seen c.bus.phase (view_of c) b)
  byte = seen.byte c w

  pub read_with_ack : Shows (step_of c 3 0 0) (read_seen c.bus.phase (view_of c) true)
  read_with_ack = seen.read_ack c w

  pub read_with_nak : Shows (step_of c 4 0 0) (read_seen c.bus.phase (view_of c) false)
  read_with_nak = seen.read_nak c w

  pub pulses : (n : ℕ) → 0 < n → Shows (step_of c 5 0 n) (pulses_seen (view_of c) n)
  pulses = seen.pulses c w

  pub power_loss : Shows (step_of c 6 0 0) (loss_seen (view_of c))
  power_loss = seen.power_loss c w

  -- every step leaves such a state
  pub step_state : (kind byte count : ℕ) → State (step_of c kind byte count).state
  step_state = state.step_state c w

-- what a power-on leaves, which is such a state too
pub power_on : (s : List ℕ) → (power_on_of s).refusal ≡ 0 → Looks (power_on_of s).state (powered_view (start_at s))
power_on = seen.power_on

pub power_state : (s : List ℕ) → State (power_on_of s).state
power_state = state.power_state

-- what the public function of all registers hands back is each of the 32, at its number
pub all_registers : (c : Clock) → (length (registers_of c) ≡ 32) × ((a : ℕ) → a < 32 → get_or (registers_of c) a 0 ≡ register_of c a)
all_registers c = (registers.registers_length c 32, registers.registers_listed c 32)

-- what a step shows leaves one result and no other
pub one_step : (r q : Told) (s : Seen) → State r.state → State q.state → Shows r s → Shows q s → r ≡ q
one_step = view.one_step

-- INTAF is set, and the pin pulse begun, only by an advance of the time after which the enabled fields match and just before which they did not, both judged with the registers as they stand then.

module _ (c : Clock) (w : State c) where
  -- INTAF after one pulse is 1 exactly if it was 1 or a match begins, and the pin pulse is 8,192 exactly if a match begins
  pub intaf_set :
      (bit 5 (register_of (step_of c 5 0 1).state 0x0F) ≡ true) ↔ ((bit 5 (register_of c 0x0F) ≡ true) ⊎ Begins (register_of c) (inner_of c))
  intaf_set = pulsed.intaf_set c w

  pub pin_pulse_begun : ((inner_of (step_of c 5 0 1).state).alarm_pulse ≡ 8192) ↔ Begins (register_of c) (inner_of c)
  pin_pulse_begun = pulsed.pulse_begun c w

  -- while a match lasts nothing rings
  pub match_lasts : (n : ℕ) → ((m : ℕ) → m < n → Matching (step_of c 5 0 m).state) → Silent c (step_of c 5 0 n).state n
  match_lasts = pulsed.match_lasts c w

  -- so a flag that is cleared inside it stays clear until it has ended
  pub cleared_stays :
      bit 5 (register_of c 0x0F) ≡ false → (n : ℕ) → ((m : ℕ) → m < n → Matching (step_of c 5 0 m).state)
      → bit 5 (register_of (step_of c 5 0 n).state 0x0F) ≡ false
  cleared_stays clear n lasts = (match_lasts n lasts).intaf ∙ clear

  -- however it was entered: by any step, whether it stored a byte of the time, of the alarm, at 0Eh or at 10h
  pub match_entered :
      (kind byte count : ℕ) → let d = (step_of c kind byte count).state in
      (n : ℕ) → ((m : ℕ) → m < n → Matching (step_of d 5 0 m).state) → Silent d (step_of d 5 0 n).state n
  match_entered kind byte count = pulsed.match_lasts (step_of c kind byte count).state (step_state c w kind byte count)

  -- an empty 0Eh never rings
  pub empty_silent : register_of c 0x0E ≡ 0 → (n : ℕ) → Silent c (step_of c 5 0 n).state n
  empty_silent = pulsed.empty_silent c w

module _ (r : ℕ → ℕ) (i : Inner) where
  -- the registers as they stand decide, and INTAF is not asked
  pub judged_alike : (q : ℕ → ℕ) (k : Inner) → ((a : ℕ) → (a ≡ 0x0F → ⊥) → r a ≡ q a) → i.counter ≡ k.counter → Begins r i → Begins q k
  judged_alike = ring.judged_alike r i

  -- an alarm that compares the seconds rings at each match, as often as it did without the second condition
  pub seconds_compared : r 0x00 < 256 → bit 0 (r 0x0E) ≡ true → (Begins r i) ↔ (Matched r i)
  seconds_compared = ring.seconds_begins r i

  -- without the seconds a ring comes only as they come to 00h, without the minutes only as both do, and with date fields alone only at a midnight
  module _ (b : Begins r i) where
    pub by_minute : bit 0 (r 0x0E) ≡ false → (time_next r).seconds ≡ 0x00
    by_minute = ring.minute_begins r i b

    pub by_hour : bit 0 (r 0x0E) ≡ false → bit 1 (r 0x0E) ≡ false → ((time_next r).seconds ≡ 0x00) × ((time_next r).minutes ≡ 0x00)
    by_hour = ring.hour_begins r i b

    pub by_date : bit 0 (r 0x0E) ≡ false → bit 1 (r 0x0E) ≡ false → bit 2 (r 0x0E) ≡ false → midnight_of (advance.clock_of (time_next r)) ≡ true
    by_date = ring.date_begins r i b

  module _ (j : Judged r i) where
    -- a seconds-only alarm rings once in each minute
    pub once_a_minute :
        r 0x0E ≡ 0x01 → legal_of 0x00 0x59 (r 0x07) ≡ true → (k : ℕ) → number_of (time_before r) ≡ Some k → (Begins r i) ↔ ((k + 1) % 60 ≡ value_of (r 0x07))
    once_a_minute = ring.minutely r i j

    -- a weekday-only alarm for Monday with Tuesday rings at the midnight into Monday, and at no other second
    pub monday_with_tuesday :
        r 0x0E ≡ 0x08 → r 0x0A ≡ 0x06 → r 0x03 < 8 → (Begins r i) ↔ ((midnight_of (advance.clock_of (time_next r)) ≡ true) × ((time_next r).weekday ≡ 1))
    monday_with_tuesday = ring.mondays r i j

    -- the sheet's alarm by year, month, day and hour rings once in the whole century
    pub once_a_century : Evening r → (k : ℕ) → number_of (time_before r) ≡ Some k → (Begins r i) ↔ ((k + 1) % 3155760000 ≡ 271540800)
    once_a_century = ring.evening r i j

  -- its 20h is no hour of a 12-hour clock, and never rings there
  pub twelve_hour_silent : bit 2 (r 0x0E) ≡ true → r 0x09 % 64 ≡ 0x20 → r 0x02 < 0x80 → (k : ℕ) → number_of (time_before r) ≡ Some k → Begins r i → ⊥
  twelve_hour_silent = ring.no_such_hour r i

-- the second of that ring, in both hour modes
pub evening_number :
    (twelve : Bool) (w : ℕ)
    → number_of (record { seconds = 0x00; minutes = 0x00; hours = cond twelve 0x28 0xA0; weekday = w; day = 0x08; month = 0x08; year = 0x08 }) ≡ Some 271540800
evening_number = ring.games_number

-- a file that is not refused is run: all E events that its bytes list, from its start bytes, a line for each, and the output behind them stays
module _ (file out : List ℕ) (accepted : (run_of file out).refusal ≡ 0) where
  abbrev begun : Clock
  begun = (power_on_of (starts_of file)).state

  pub file_run :
      run_of file out
      ≡ record {
        refusal = 0;
        index = 0;
        count = header_word file 0;
        state = after step begun (listed_of file);
        output = lines_of begun (listed_of file) ++ drop (header_word file 0 * 5) out;
      }
  file_run = script.run_whole file out accepted

-- a board's calls say what the chip's steps say, one by one and in a row, and leave the bytes of the states that these leave
module _ (s : List ℕ) (each : (i : ℕ) → get_or s i 0 < 256) (accepted : accepted_of s ≡ true) where
  pub told_says : (kind byte count : ℕ) → said_in (abi.step_of s kind byte count).told ≡ said_of (step_of (clock_of s) kind byte count)
  told_says = said.told_says s each accepted

  pub calls_tell : {es : List Event} → EventBytes es → map said_in (told_in s es) ≡ said_by (clock_of s) es
  calls_tell bytes = said.calls_tell s each accepted bytes

  -- the pin and a register are the chip's
  pub pin_shown : said_in (abi.pin_of s) ≡ record { refusal = 0; answer = 45 ∷ 45 ∷ []; pin = pin_of (clock_of s) }
  pin_shown = refused.pin_shown s accepted

  pub register_shown : (a : ℕ) → said_in (abi.register_of s a) ≡ record { refusal = 0; answer = text_of (Byte (register_of (clock_of s) a)); pin = pin_of (clock_of s) }
  register_shown = refused.register_shown s accepted each

pub board_steps : (c : Clock) → Arrays c → well_formed_of c ≡ true → (es : List Event) → after_in (bytes_of c) es ≡ bytes_of (after step c es)
board_steps = board.board_steps

-- its power-on and its run are the chip's and the script's
pub board_power : (start s : List ℕ) → length s ≡ 61 → power_of start s ≡ lent (power_on_of start).refusal (bytes_of (power_on_of start).state)
board_power = runs.board_power

pub board_run :
    (file out s : List ℕ) → length s ≡ 61 → let r = run_of file out in
    abi.run_of file out s ≡ lent_run (r.refusal + 65536 * r.index + 4294967296 * r.count) r.output (bytes_of r.state)
board_run = runs.board_run

-- and the count that is told of a run is the file's
pub run_counts :
    (file out s : List ℕ) → length s ≡ 61 → let told = (abi.run_of file out s).told in
    run_refusal_in told ≡ 0 → run_count_in told ≡ header_word file 0
run_counts = runs.run_counts

-- Promise 3: a time that was set reads back as many seconds on as the pulses since make.

-- the lock that a setting finds open is open by the bits of 10h and 0Fh
pub unlocked_bits : (c : Clock) → Unlocked c ↔ (lock_open (register_of c) ≡ true)
unlocked_bits = lock.unlocked_bits

-- START, 64h and 00h, with the lock open, lead to where a time is set
module _ (c : Clock) (s : Pointing c) where
  pub start_points :
      let there = after event c (Run.start ∷ s.pointing) in
      (p : Pointed there) × ((p.transfer.age ≡ age_of c.bus.phase + pulses_in s.pointing) × (register_of there 0x12 ≡ register_of c 0x12))
  start_points = setting.start_points c s

  -- and the seven bytes after them, sent in time, are a setting
  pub start_sets :
      (t sent : Time) → kept_time_of sent ≡ t → (rest : List Event)
      → spoken read_by rest
      ≡ Run.byte sent.minutes ∷ Run.byte sent.hours ∷ Run.byte sent.weekday ∷ Run.byte sent.day ∷ Run.byte sent.month ∷ Run.byte sent.year ∷ []
      → age_of c.bus.phase + (pulses_in s.pointing + pulses_in rest) < 16384 → Setting (after event c (Run.start ∷ s.pointing)) t
  start_sets = setting.start_sets c s

-- what may stand between the bytes of a setting and between the reads of a reading: beside pulses every event that changes nothing, and these are all
module _ (c : Clock) (e : Event) (t : Transfer) where
  pub still_writing : c.bus.phase ≡ Open Writing t → ((event c e).state ≡ c) ↔ ((fault_in e ≡ 0 → ⊥) ⊎ (read_by e ≡ true))
  still_writing = still.still_writing c e t

  pub still_reading : c.bus.phase ≡ Open Reading t → ((event c e).state ≡ c) ↔ ((fault_in e ≡ 0 → ⊥) ⊎ (byte_by e ≡ true))
  still_reading = still.still_reading c e t

module _ (t : Time) (k : ℕ) (l : Legal t k) where
  -- for events on any state whatever
  pub time_kept : (c : Clock) (r : Kept event c t) → KeepsTime k r
  time_kept c r = event_kept c t k l r

  -- for steps on a well-formed state
  pub time_kept_by_steps : (c : Clock) → well_formed_of c ≡ true → (r : Kept step c t) → KeepsTime k r
  time_kept_by_steps c w r = step_kept c w t k l r

  -- for the output of a script
  pub time_kept_in_scripts : (file out : List ℕ) → (run_of file out).refusal ≡ 0 → (s : Scripted file t) → KeepsTimeIn k s (run_of file out).output
  time_kept_in_scripts file out accepted s = script_kept file out accepted t k l s

  -- for the numbers that a board's calls tell
  pub time_kept_on_boards : (b : OnBoard t) → KeepsTimeOn b k
  time_kept_on_boards b = on_boards.board_kept t k l b

  -- two runs under one trim, with as many pulses, read the same bytes, whatever else was said on the bus
  pub other_traffic :
      (c d : Clock) (r : Kept event c t) (s : Kept event d t)
      → register_of c 0x12 ≡ register_of d 0x12 → pulses_since r.setting r.traffic ≡ pulses_since s.setting s.traffic → read_back r ≡ read_back s
  other_traffic c d r s trim pulses = same_reading trim pulses (time_kept c r) (time_kept d s)

  -- and any two readings, of events, of steps, of scripts or of boards
  pub other_reading : {f p : ℕ} {a b : List ℕ} {x y : List (List ℕ)} → ReadsBack t k f p a x → ReadsBack t k f p b y → x ≡ y
  other_reading = one_reading

-- the promise is not empty: a run that meets every hypothesis, what happened on its way, and the bytes that it reads; by steps they are the same
pub witness : Kept event run.ready run.set
witness = run.witness

pub witness_computed : run.Computed
witness_computed = run.witness_computed

pub witness_read : read_back witness ≡ shown_by run.later
unfolding witness
witness_read = run.witness_read

pub stepped_read : read_back run.stepped ≡ read_back witness
unfolding witness
stepped_read = run.stepped_read

-- a script file that sets 9:15 PM and reads it back
pub scripted : Scripted file.file file.set
scripted = file.scripted

pub scripted_read :
    reads_in (file.reading ++ (nak ∷ [])) (drop 5 (from_address scripted (run_of file.file file.out).output))
    ≡ (48 ∷ 48 ∷ []) ∷ (49 ∷ 53 ∷ []) ∷ (50 ∷ 57 ∷ []) ∷ (48 ∷ 51 ∷ []) ∷ (50 ∷ 48 ∷ []) ∷ (49 ∷ 50 ∷ []) ∷ (48 ∷ 54 ∷ []) ∷ []
unfolding scripted
scripted_read = file.scripted_read

pub scripted_stored : register_of (run_of file.file file.out).state 0x14 ≡ 0x5A
scripted_stored = file.scripted_stored

pub scripted_kept : KeepsTimeIn 219964500 scripted (run_of file.file file.out).output
unfolding scripted
scripted_kept = file.scripted_kept

-- a run by steps from a well-formed state is one by calls on its bytes
pub lent_run_lem :
    (c : Clock) → Arrays c → well_formed_of c ≡ true → ((i : ℕ) → get_or (bytes_of c) i 0 < 256) → {t : Time} (r : Kept step c t)
    → EventBytes (until_address r ++ (Run.byte 0x65 ∷ reading_of r)) → OnBoard t
lent_run_lem = on_a_board.lent_run_lem

-- such bytes are left by calls and by the run of a file
pub calls_stand :
    (s : List ℕ) → ((i : ℕ) → get_or s i 0 < 256) → accepted_of s ≡ true → (es : List Event) → clock_of (after_in s es) ≡ after step (clock_of s) es
calls_stand = on_boards.calls_stand

pub run_stands :
    (file out s : List ℕ) → length s ≡ 61 → (run_of file out).refusal ≡ 0
    → clock_of (abi.run_of file out s).state ≡ after step (power_on_of (starts_of file)).state (listed_of file)
run_stands = on_boards.run_stands

-- and the witness is one, on the bytes of its state

pub boarded : OnBoard run.set
boarded = on_a_board.boarded

pub boarded_bytes : boarded.state ≡ bytes_of run.ready
unfolding boarded
boarded_bytes = on_a_board.boarded_bytes

-- The ledger: two readings that show the same eight digits, in one hour mode, were read in the same minute of a year.
pub one_id :
    {t u : Time} {k l f g p q : ℕ} {a b : List ℕ} {x y : List (List ℕ)} → mode_of t.hours ≡ mode_of u.hours
    → (r : ReadsBack t k f p a x) (s : ReadsBack u l g q b y) → digits_read x ≡ digits_read y → SameMinute r.time s.time
one_id = ledger.one_id

-- two legal times of one mode with different hours of the day never share the digits
pub hours_apart :
    (t u : Time) (k l : ℕ) → Legal t k → Legal u l → mode_of t.hours ≡ mode_of u.hours
    → (hour_number_of t.hours ≡ hour_number_of u.hours → ⊥) → digits_of t ≡ digits_of u → ⊥
hours_apart t u k l a b = ledger.apart t u k l a.number b.number

-- a board's id by the bytes that its calls tell is that of the time that it reads, so two boards in one hour mode with one id were read in the same minute of a year
pub board_digits : (t : Time) (k : ℕ) (b : OnBoard t) (r : KeepsTimeOn b k) → digits_told b ≡ digits_of r.time
board_digits = on_boards.board_digits

pub board_id :
    {t u : Time} {k l : ℕ} (a : OnBoard t) (b : OnBoard u) → mode_of t.hours ≡ mode_of u.hours
    → (r : KeepsTimeOn a k) (s : KeepsTimeOn b l) → digits_told a ≡ digits_told b → SameMinute r.time s.time
board_id = on_boards.board_id

-- the answers of a reading of a legal time show its digits
pub read_digits : (t : Time) (k : ℕ) → number_of t ≡ Some k → digits_read (shown_by t) ≡ digits_of t
read_digits = ledger.read_digits

-- both ids of a quarter past nine, in 24-hour mode and in 12-hour mode
pub quarter_past :
    built 0x89 0x15 ∷ built 0xA1 0x15 ∷ built 0x09 0x15 ∷ built 0x29 0x15 ∷ []
    ≡ record { second = Some 219921300; hour = 9; id = 1 ∷ 2 ∷ 2 ∷ 0 ∷ 0 ∷ 9 ∷ 1 ∷ 5 ∷ [] }
    ∷ record { second = Some 219964500; hour = 21; id = 1 ∷ 2 ∷ 2 ∷ 0 ∷ 2 ∷ 1 ∷ 1 ∷ 5 ∷ [] }
    ∷ record { second = Some 219921300; hour = 9; id = 1 ∷ 2 ∷ 2 ∷ 0 ∷ 0 ∷ 9 ∷ 1 ∷ 5 ∷ [] }
    ∷ record { second = Some 219964500; hour = 21; id = 1 ∷ 2 ∷ 2 ∷ 0 ∷ 2 ∷ 9 ∷ 1 ∷ 5 ∷ [] }
    ∷ []
quarter_past = ledger.quarter_past

-- across hour modes digits do collide: 21:00 in 24-hour mode and 1 PM in 12-hour mode
pub collide :
    built 0xA1 0x00 ∷ built 0x21 0x00 ∷ []
    ≡ record { second = Some 219963600; hour = 21; id = 1 ∷ 2 ∷ 2 ∷ 0 ∷ 2 ∷ 1 ∷ 0 ∷ 0 ∷ [] }
    ∷ record { second = Some 219934800; hour = 13; id = 1 ∷ 2 ∷ 2 ∷ 0 ∷ 2 ∷ 1 ∷ 0 ∷ 0 ∷ [] }
    ∷ []
collide = ledger.collide

-- A run explained: what is told of an event is what the step did.

module _ (c : Clock) (kind byte count : ℕ) where
  -- the row of its deed says of which kind the event is, what was before it, what it answers and what it leaves
  pub deed_done :
      (step_of c kind byte count).refusal ≡ 0
      → (step_of c kind byte count ≡ told_of 0 (event_of c kind byte count)) × Done c kind byte count (deed_of c kind byte count) (event_of c kind byte count)
  deed_done = deeds.deed_done c kind byte count

  -- an event is told as refused exactly if it is refused, and then the state is as it was
  pub deed_refused : ((step_of c kind byte count).refusal ≡ 0 → ⊥) → (deed_of c kind byte count ≡ deed.Refused) × ((step_of c kind byte count).state ≡ c)
  deed_refused = deeds.deed_refused c kind byte count

  pub taken_deed : {e : Answered} → Done c kind byte count deed.Refused e → ⊥
  taken_deed = deeds.taken_deed

  -- no event has two deeds
  pub one_deed : {d e : Deed} {v w : Answered} → Done c kind byte count d v → Done c kind byte count e w → (d ≡ e) × (v ≡ w)
  one_deed = rows_of_deeds.one_deed

-- the moments of a pulse are those that the rules of its stages say, and an event's pulses one by one come to its state
module _ (c : Clock) (w : well_formed_of c ≡ true) where
  pub moment_told : moment_of c (pulse_of c) ≡ pulse_moment c
  moment_told = moments.moment_told c (parts c w)

  pub one_by_one : (n : ℕ) → times (λ (d : Clock). (step_of d 5 0 1).state) n c ≡ pulses_of c n
  one_by_one n = moments.one_by_one n c (parts c w)

-- The marked cases 1 to 9.
pub marked_cases : Marked
marked_cases = cases.marked

-- The contracts of the public functions that the promises speak of leave one result and no other, those of the boundary one for every lent byte too.
pub step_settles : chip.StepSettles
step_settles = chip.step_settles

pub power_on_settles : chip.PowerOnSettles
power_on_settles = chip.power_on_settles

pub registers_settle : chip.RegistersSettles
registers_settle = chip.registers_settles

pub run_settles : scripts.RunSettles
run_settles = scripts.run_settles

pub board_step_settles : boards.StepSettles
board_step_settles = boards.step_settles

pub board_power_settles : boards.PowerSettles
board_power_settles = boards.power_settles

pub board_run_settles : boards.RunSettles
board_run_settles = boards.run_settles

pub pin_settles : boards.PinSettles
pin_settles = boards.pin_settles

pub register_settles : boards.RegisterSettles
register_settles = boards.register_settles

pub deed_settles : told_deeds.DeedSettles
deed_settles = told_deeds.deed_settles

pub moment_settles : told_deeds.MomentSettles
moment_settles = told_deeds.moment_settles
