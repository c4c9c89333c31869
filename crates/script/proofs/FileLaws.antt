-- What the checks of a file come to, and what a run from a good one does. Assumes nothing.
use mathlib.Core.Path.{◌≡◌, refl, sym, ap, ◌∙◌, subst}
use mathlib.Core.Bool.{Bool, true, false, cond}
use mathlib.Core.List.{List, ◌++◌}
use Prim.Native.Nat.{ℕ, ◌+◌, ◌*◌, ◌/◌, ◌≤◌, ◌<◌}
use native.Mathlib.Omega.{arith}
use lib.Dec.{ltb}
use Rattle.std.specs.Prelude.{Some, None, Err}
use lib.ListN.{length, drop, replicate}
use borrow.Author.Tests.{eq-eqb, ne_eqb, lt-ltb, le-ltb}
use Rattle.registers.specs.Fixed.{clear_time_of, clear_of, kept_of, kept_time}
use Rattle.events.specs.declared.refusal.Refusal.{Refusal}
use Rattle.events.specs.Refusal.{number_of, option_number}
use Rattle.events.proofs.Settled.{number_not0}
use Rattle.events.proofs.Telling.{less, either, is_true}
use Rattle.sd2068.specs.declared.clock.Clock.{Clock}
use Rattle.sd2068.specs.declared.answers.Started.{Started}
use Rattle.sd2068.specs.Power as power
use Rattle.sd2068.specs.Power.{Power, start_time, powered_of, zero_start, power_on_of}
use Rattle.sd2068.specs.Step.{started}
use Rattle.sd2068.specs.Run.{after_of}
use Rattle.sd2068.specs.WellFormed.{well_formed_of}
use Rattle.sd2068.proofs.WellLaws.{whole, power_on_well}
use Rattle.state_bytes.specs.Decoded.{clock_of}
use Rattle.state_bytes.specs.Encoded.{bytes_of}
use Rattle.state_bytes.specs.Shapes.{Arrays}
use Rattle.state_bytes.proofs.RoundLaws.{encoded_back}
use Rattle.state_events.proofs.ArrayLaws.{power_on_arrays}
use Rattle.state_events.proofs.TellLaws.{Stands, encoded_stands}
use Rattle.script.specs.declared.checks.Fault.{Fault}
use Rattle.script.specs.declared.file.Refused.{Refused}
use Rattle.script.specs.declared.header.Header.{Header}
use Rattle.script.specs.Header.{header_of}
use Rattle.script.specs.Sections.{sections_of, section_of}
use Rattle.script.specs.Event.{events_in}
use Rattle.script.specs.Checks.{Found, found_at, none, or_else, first_of, start_bytes_of, events_of, placed_of, checked_of}
use Rattle.script.specs.Lines.{lines_of}
use Rattle.script.specs.File.{Run, can_run, EventsRun, good_of, refused_of, ran, run_of}
use Rattle.script.proofs.SearchLaws.{not_none, events_length}
use Rattle.script.proofs.PartLaws.{ends, section_length}
use Rattle.script.proofs.SectionLaws.{row5}
use Rattle.script.proofs.StartLaws.{row6}
use Rattle.script.proofs.EventLaws.{First, first, one_first}
use Rattle.script.proofs.RowLaws.{given, not_zero, clean}

-- a power-on from 19 bytes is refused for the time alone
module _ (s : List ℕ) where
  abbrev powered : Bool → Power
  powered t = cond t (record { refusal = 0; state = power.start_of s }) (record { refusal = 6; state = zero_start })

  power_on : length s ≡ 19 → power_on_of s ≡ powered (clear_time_of (start_time s))
  unfolding power_on_of
  power_on long = simp (eq-eqb (length s) 19 long)

  refused_by : (t : Bool) (n : ℕ) → (powered t).refusal ≡ n → (n ≡ 0 → ⊥) → (t ≡ false) × (n ≡ 6)
  refused_by true n e bad = absurd (bad (sym e))
  refused_by false n e bad = (refl, sym e)

  taken_by : (t : Bool) → (powered t).refusal ≡ 0 → t ≡ true
  taken_by true e = refl
  taken_by false e = absurd (not_zero 6 (omega arith) e)

-- 19 zero bytes are not refused
pub zeros_on : power_on_of (replicate 19 0) ≡ record { refusal = 0; state = zero_start }
unfolding power_on_of powered_of clear_time_of clear_of kept_of kept_time
zeros_on = refl

-- what the checks after the sections come to, test by test
module _ (file : List ℕ) (h : Header) (room : ℕ) (e : sections_of h (length file) ≡ true) where
  start_nineteen : length (start_bytes_of file h) ≡ 19
  start_nineteen = section_length file h.start 19 (ends h (length file) e).start

  module _ {start : List ℕ} (starts : start ≡ start_bytes_of file h) (r : Started) (on : started r ≡ power_on_of start) where
    start_on : started r ≡ powered (start_bytes_of file h) (clear_time_of (start_time (start_bytes_of file h)))
    start_on = on ∙ ap power_on_of starts ∙ power_on (start_bytes_of file h) start_nineteen

    pub start_bad : (x : Refusal) → r.refusal ≡ Some x → found_at (number_of x) 0 ≡ placed_of file h room
    unfolding placed_of
    start_bad x said =
        let number = ap option_number (sym said) ∙ ap (λ (p : Power). p.refusal) start_on in
        let f = refused_by (start_bytes_of file h) (clear_time_of (start_time (start_bytes_of file h))) (number_of x) (sym number) (not_none x) in
        simp (f.0, f.1)

    -- the time is clear, and the events have been searched
    module _ (good : r.refusal ≡ None) {part : List ℕ} (taken : part ≡ section_of file h.events (h.count * 4)) where
      start_good : clear_time_of (start_time (start_bytes_of file h)) ≡ true
      start_good =
          taken_by (start_bytes_of file h) (clear_time_of (start_time (start_bytes_of file h))) (sym (ap (λ (p : Power). p.refusal) start_on) ∙ ap option_number good)

      searched : {f : Found} → f ≡ first_of (events_in part) 0 → or_else f (cond (ltb room (h.count * 5)) (found_at 7 0) none) ≡ placed_of file h room
      unfolding placed_of
      searched first =
          simp (start_good, ← first ∙ ap (λ (s : List ℕ). first_of (events_in s) 0) taken)

      pub event_bad : (x : Fault) → found_at (number_of x.refusal) x.index ≡ first_of (events_in part) 0 → found_at (number_of x.refusal) x.index ≡ placed_of file h room
      event_bad x first = simp (number_not0 x.refusal) at (searched first)

      pub room_bad : none ≡ first_of (events_in part) 0 → room < h.count * 5 → found_at 7 0 ≡ placed_of file h room
      room_bad first small = simp (lt-ltb room (h.count * 5) small) at (searched first)

      pub room_good : none ≡ first_of (events_in part) 0 → h.count * 5 ≤ room → none ≡ placed_of file h room
      room_good first enough = simp (le-ltb room (h.count * 5) enough) at (searched first)

-- what a file that is not refused has
pub record Good (file : List ℕ) (h : Header) (room : ℕ) : Type 0 where
  pub header : 8 ≤ length file
  pub sections : sections_of h (length file) ≡ true
  pub clear : clear_time_of (start_time (start_bytes_of file h)) ≡ true
  pub events : (first_of (events_of file h) 0).refusal ≡ 0
  pub enough : h.count * 5 ≤ room

-- no row holds of it
pub good : (file : List ℕ) (room : ℕ) → (checked_of file room).refusal ≡ 0 → Good file (header_of file) room
good file room n =
    let c = clean (given file room) n in
    let w = c.before in
    record {
      header = either (less (length file) 8) (λ short. absurd (w.not4 short)) (λ long. long);
      sections = is_true (row5 file) w.not5;
      clear = is_true (row6 file) w.not6;
      events = ap (λ (f : Found). f.refusal) (one_first (first file w.not5) (First.clean c.sound));
      enough = either (less room ((header_of file).count * 5)) (λ (small : room < (header_of file).count * 5). absurd (c.enough (omega arith))) (λ enough. enough);
    }

pub good_by : (file : List ℕ) (h : Header) (room : ℕ) → h ≡ header_of file → (checked_of file room).refusal ≡ 0 → Good file h room
good_by file h room e n = subst (λ (k : Header). Good file k room) (sym e) (good file room n)

-- from the start bytes through all events
module _ (file : List ℕ) (h : Header) (room : ℕ) (g : Good file h room) where
  events_end : h.events + h.count * 4 ≤ length file
  events_end = (ends h (length file) g.sections).events

  pub events_count : length (events_of file h) ≡ h.count
  unfolding events_in
  events_count =
      let s = section_of file h.events (h.count * 4) in
      let l = section_length file h.events (h.count * 4) events_end in
      let n : length s / 4 ≡ h.count = omega arith in
      events_length s 0 (length s / 4) ∙ n

  events_room : length (section_of file h.events (h.count * 4)) / 4 * 5 ≤ room
  events_room = omega (arith, section_length file h.events (h.count * 4) events_end, g.enough)

  pub start_state : (power_on_of (start_bytes_of file h)).state ≡ power.start_of (start_bytes_of file h)
  start_state =
      let s = start_bytes_of file h in
      ap (λ (p : Power). p.state) (power_on s (start_nineteen file h room g.sections))
      ∙ ap (λ (t : Bool). (powered s t).state) g.clear

  pub start_taken : (r : Started) → started r ≡ power_on_of (start_bytes_of file h) → r.clock ≡ power.start_of (start_bytes_of file h)
  start_taken r on = ap (λ (p : Power). p.state) on ∙ start_state

  -- what is asked of a run on the bytes of the first state
  module _ (c : Clock) (state : List ℕ) (begun : c ≡ power.start_of (start_bytes_of file h)) (encoded : state ≡ bytes_of c) where
    powered_on : c ≡ (power_on_of (start_bytes_of file h)).state
    powered_on = begun ∙ sym start_state

    c_well : well_formed_of c ≡ true
    c_well = subst (λ (d : Clock). well_formed_of d ≡ true) (sym powered_on) (whole (power_on_of (start_bytes_of file h)).state (power_on_well (start_bytes_of file h)))

    c_arrays : Arrays c
    c_arrays = subst Arrays (sym powered_on) (power_on_arrays (start_bytes_of file h))

    back : clock_of state ≡ power.start_of (start_bytes_of file h)
    back = ap clock_of encoded ∙ encoded_back c c_arrays c_well ∙ begun

    pub good_run : can_run state (events_of file h) (length (section_of file h.events (h.count * 4)) / 4) room
    good_run =
        let stands = subst Stands (sym encoded) (encoded_stands c c_arrays c_well) in
        (events_room, (g.events, (stands.well, stands.again)))

    pub ran_good :
        (out : List ℕ) (last d : Clock) (exit : List ℕ) → EventsRun (clock_of state) (events_of file h) out last exit → d ≡ last →
        ◌≡◌ {A = Run} (record { refusal = 0; index = 0; count = h.count; state = d; output = exit }) (good_of file h out)
    unfolding good_of
    ran_good out last d exit run decoded =
        let es = events_of file h in
        let c₀ = power.start_of (start_bytes_of file h) in
        let state : d ≡ after_of c₀ es = decoded ∙ run.0 ∙ (λ i. after_of (back i) es) in
        let output : exit ≡ lines_of c₀ es ++ drop (h.count * 5) out =
        run.1
        ∙ (λ i. lines_of (back i) es ++ drop (length es * 5) out)
        ∙ ap (λ (n : ℕ). lines_of c₀ es ++ drop (n * 5) out) events_count in
        λ i. record { refusal = 0; index = 0; count = h.count; state = state i; output = output i }

-- the same by the parts of the file that a run takes
module _
    (file : List ℕ) (room : ℕ) {h : Header} (header : h ≡ header_of file) (sound : (checked_of file room).refusal ≡ 0)
    {start : List ℕ} (starts : start ≡ start_bytes_of file h) (r : Started) (on : started r ≡ power_on_of start)
    {state : List ℕ} (encoded : state ≡ bytes_of r.clock) {part : List ℕ} (taken : part ≡ section_of file h.events (h.count * 4))
  where
    sound_file : Good file h room
    sound_file = good_by file h room header sound

    begun : r.clock ≡ power.start_of (start_bytes_of file h)
    begun = start_taken file h room sound_file r (on ∙ ap power_on_of starts)

    pub events_run : can_run state (events_in part) (length part / 4) room
    events_run =
        subst (λ (s : List ℕ). can_run state (events_in s) (length s / 4) room) (sym taken)
        (good_run file h room sound_file r.clock state begun encoded)

    pub run_done :
        (out : List ℕ) (last d : Clock) (exit : List ℕ) → EventsRun (clock_of state) (events_in part) out last exit → d ≡ last →
        ◌≡◌ {A = Run} (record { refusal = 0; index = 0; count = h.count; state = d; output = exit }) (good_of file (header_of file) out)
    run_done out last d exit run decoded =
        ran_good file h room sound_file r.clock state begun encoded out last d exit
        (subst (λ (s : List ℕ). EventsRun (clock_of state) (events_in s) out last exit) taken run) decoded
        ∙ ap (λ (k : Header). good_of file k out) header

-- the run goes by the checks
pub checks_good : (file : List ℕ) (room : ℕ) → none ≡ checked_of file room → (checked_of file room).refusal ≡ 0
checks_good file room e = ap (λ (f : Found). f.refusal) (sym e)

pub run_bad : (file out : List ℕ) (x : Fault) → found_at (number_of x.refusal) x.index ≡ checked_of file (length out) → (r : Refused) → r ≡ record { refusal = x.refusal; index = x.index; clock = zero_start } → ran (Err r) out ≡ run_of file out
unfolding run_of refused_of
run_bad file out x found r e = ap (λ (y : Refused). ran (Err y) out) e ∙ simp (← found, number_not0 x.refusal)

pub run_accepted : (file out : List ℕ) → (checked_of file (length out)).refusal ≡ 0 → run_of file out ≡ good_of file (header_of file) out
unfolding run_of
run_accepted file out n = simp (eq-eqb (checked_of file (length out)).refusal 0 n)

pub run_refused : (file out : List ℕ) → ((checked_of file (length out)).refusal ≡ 0 → ⊥) → run_of file out ≡ refused_of (checked_of file (length out)) out
unfolding run_of
run_refused file out n = simp (ne_eqb (checked_of file (length out)).refusal 0 n)

-- what the checks behind the sections go by, and what a run goes by
pub ruleset placed_steps = (start_bad, event_bad, room_bad, room_good)

pub ruleset run_steps = (checks_good, run_accepted, run_bad)
