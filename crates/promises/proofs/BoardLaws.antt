-- What a board's calls tell is what the chip's steps answer, so what holds of steps holds of the numbers told. Assumes nothing.
use Rattle.std.proofs.Common.{◌≡◌, refl, sym, ap, ◌∙◌, true, List, [], ◌∷◌, ◌++◌, map, ℕ, zero, suc, ◌+◌, ◌%◌, ◌<◌, arith, length, get_or, drop}
use Rattle.std.proofs.lemmas.Grind.{common_steps}
use Rattle.fields.specs.Hours.{mode_of}
use Rattle.calendar.specs.declared.time.Time.{Time}
use Rattle.registers.specs.Seven as seven
use Rattle.hand.specs.Span.{Legal}
use Rattle.events.specs.declared.event.Event.{Event}
use Rattle.sd2068.specs.declared.clock.Clock.{Clock}
use Rattle.sd2068.specs.Power.{power_on_of}
use Rattle.sd2068.specs.Run.{byte, told_by, step, after}
use Rattle.sd2068.specs.Kept.{set_by, reading_of, ReadsBack}
use Rattle.sd2068.proofs.WellLaws.{parts, whole, power_on_well, steps_well}
use Rattle.sd2068.proofs.SettingLaws.{after_add}
use Rattle.sd2068.proofs.KeptLaws.{step_kept}
use Rattle.script.specs.Rows.{starts_of, listed_of}
use Rattle.script.specs.File as script
use Rattle.script.specs.File.{Run}
use Rattle.script.proofs.RunLaws.{run_whole}
use Rattle.state_bytes.specs.Decoded.{clock_of}
use Rattle.state_bytes.specs.Encoded.{bytes_of}
use Rattle.state_events.proofs.ArrayLaws.{decoded_arrays, power_on_arrays, steps_arrays}
use Rattle.sd2068_abi.specs.Abi.{accepted_of, after_in, LentRun, run_of}
use Rattle.state_events.specs.Said.{text_in, Said, said_in, said_of}
use Rattle.sd2068_abi.specs.Said.{said_by, reads_said}
use Rattle.sd2068_abi.proofs.BoundaryLaws.{encoded_decoded, accepted_well, accepted_encoded, board_steps}
use Rattle.sd2068_abi.proofs.SaidLaws.{calls_tell, reads_said_lem}
use Rattle.sd2068_abi.proofs.RunLaws.{board_run}
use Rattle.promises.specs.Ledger.{id_of, digits_of, SameMinute}
use Rattle.promises.specs.Board.{OnBoard, from_address, KeepsTimeOn, bytes_read, digits_told}
use Rattle.promises.proofs.DigitLaws.{time_small, reads_bytes}
use Rattle.promises.proofs.LedgerLaws.{same_minute}

-- what is said of numbers further on
said_drop : (n : ℕ) (l : List ℕ) → map said_in (drop n l) ≡ drop n (map said_in l)
said_drop zero l = refl
said_drop (suc n) [] = refl
said_drop (suc n) (x ∷ l) = said_drop n l

-- what the steps of one list after the other say
said_add : (c : Clock) (es fs : List Event) → said_by c (es ++ fs) ≡ said_by c es ++ said_by (after step c es) fs
unfolding said_by after
said_add c [] fs = refl
said_add c (e ∷ es) fs = ap (λ (l : List Said). said_of (told_by c e) ∷ l) (said_add (step c e).state es fs)

said_length : (c : Clock) (es : List Event) → length (said_by c es) ≡ length es
unfolding said_by
said_length c [] = refl
said_length c (e ∷ es) = ap suc (said_length (step c e).state es)

-- the first of some numbers, by what they say
first_text : (l : List ℕ) (x : Said) (xs : List Said) → map said_in l ≡ x ∷ xs → text_in (get_or l 0 0) ≡ x.answer
first_text l x xs e = grind (arith, common_steps)

-- promise 3 for a board
module _ (t : Time) (k : ℕ) (l : Legal t k) (b : OnBoard t) where
  abbrev asked : Clock
  asked = after step (after step b.begun (set_by b.run.setting)) b.run.traffic

  -- the calls lead where the whole run does
  same_asked : after step (clock_of b.state) b.calls ≡ asked
  same_asked =
      ap (λ (d : Clock). after step d b.calls) b.stands
      ∙ sym (after_add step b.begun b.made b.calls)
      ∙ ap (after step b.begun) (sym b.events)
      ∙ after_add step b.begun (set_by b.run.setting) b.run.traffic

  -- what the numbers from 65h on say
  from_said : map said_in (from_address b) ≡ said_of (told_by asked (byte 0x65)) ∷ said_by (step asked (byte 0x65)).state (reading_of b.run)
  unfolding said_by
  from_said = grind (arith, common_steps, said_drop, calls_tell, said_add, said_length, same_asked)

  pub board_kept : KeepsTimeOn b k
  board_kept =
      let kept = step_kept b.begun b.well t k l b.run in
      let reads =
      ap (reads_said (reading_of b.run)) (said_drop 1 (from_address b) ∙ ap (drop 1) from_said)
      ∙ reads_said_lem (step asked (byte 0x65)).state (reading_of b.run) in
      record {
        acknowledged = first_text (from_address b) _ _ from_said ∙ kept.acknowledged;
        time = kept.time;
        counted = kept.counted;
        shown = reads ∙ kept.shown;
      }

-- where a board's bytes come from: calls leave those of the state after their steps, and a run those of the state after its file's
pub calls_stand :
    (s : List ℕ) → ((i : ℕ) → get_or s i 0 < 256) → accepted_of s ≡ true → (es : List Event) → clock_of (after_in s es) ≡ after step (clock_of s) es
calls_stand s each accepted es =
    let c = clock_of s in
    let well = accepted_well s each accepted in
    ap (λ (x : List ℕ). clock_of (after_in x es)) (sym (accepted_encoded s each accepted))
    ∙ ap clock_of (board_steps c (decoded_arrays s) well es)
    ∙ encoded_decoded (after step c es) (steps_arrays c (decoded_arrays s) es) (whole (after step c es) (steps_well c (parts c well) es))

pub run_stands :
    (file out s : List ℕ) → length s ≡ 61 → (script.run_of file out).refusal ≡ 0
    → clock_of (run_of file out s).state ≡ after step (power_on_of (starts_of file)).state (listed_of file)
run_stands file out s full taken =
    let c = (power_on_of (starts_of file)).state in
    let last = after step c (listed_of file) in
    ap (λ (l : LentRun). clock_of l.state) (board_run file out s full)
    ∙ ap (λ (r : Run). clock_of (bytes_of r.state)) (run_whole file out taken)
    ∙ encoded_decoded last (steps_arrays c (power_on_arrays (starts_of file)) (listed_of file)) (whole last (steps_well c (power_on_well (starts_of file)) (listed_of file)))

-- a time that is read back is legal
module _ {t : Time} {k f p : ℕ} {a : List ℕ} {x : List (List ℕ)} (r : ReadsBack t k f p a x) where
  read_legal : Legal r.time ((k + r.counted.seconds) % 3155760000)
  read_legal = record { number = r.counted.later.number; weekday = omega (arith, r.counted.later.weekday) }

-- the bytes that are told are those of the time that is read, and the id is its own
module _ (t : Time) (k : ℕ) (b : OnBoard t) (r : KeepsTimeOn b k) where
  pub board_bytes : bytes_read b ≡ seven.bytes_of r.time
  board_bytes = reads_bytes (reading_of b.run) (drop 1 (from_address b)) (seven.bytes_of r.time) (time_small r.time _ (read_legal r)) r.shown

  pub board_digits : digits_told b ≡ digits_of r.time
  unfolding digits_told
  board_digits = ap (λ (l : List ℕ). id_of (get_or l 5 0) (get_or l 4 0) (get_or l 2 0) (get_or l 1 0)) board_bytes

-- so two boards in one hour mode with one id were read in the same minute of a year
pub board_id :
    {t u : Time} {k l : ℕ} (a : OnBoard t) (b : OnBoard u) → mode_of t.hours ≡ mode_of u.hours
    → (r : KeepsTimeOn a k) (s : KeepsTimeOn b l) → digits_told a ≡ digits_told b → SameMinute r.time s.time
board_id {t} {u} {k} {l} a b mode r s e = same_minute mode r s (sym (board_digits t k a r) ∙ e ∙ board_digits u l b s)
