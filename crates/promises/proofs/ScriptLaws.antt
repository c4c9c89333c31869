-- A script's output shows what its steps answer, so what holds of steps holds of the lines. Assumes nothing.
use Rattle.std.proofs.Common.{◌≡◌, refl, sym, ap, ap₂, ◌∙◌, true, cond, List, [], ◌∷◌, ◌++◌, append_assoc, ℕ, ◌*◌, eqb, length, take, drop, arith}
use Rattle.std.proofs.lemmas.Grind.{common_steps}
use Rattle.calendar.specs.declared.time.Time.{Time}
use Rattle.hand.specs.Span.{Legal}
use Rattle.events.specs.declared.event.Event.{Event}
use Rattle.events.specs.declared.answer.Answer.{Answer}
use Rattle.events.specs.Answer.{text_of}
use Rattle.sd2068.specs.declared.clock.Clock.{Clock}
use Rattle.sd2068.specs.declared.answers.Answered.{Answered}
use Rattle.sd2068.specs.Power.{power_on_of}
use Rattle.sd2068.specs.WellFormed.{well_formed_of}
use Rattle.sd2068.specs.Step.{quiet_of, event_of, refusal_of, step_of}
use Rattle.sd2068.specs.Run.{byte, told_by, step, after, read_by, reads_of}
use Rattle.sd2068.specs.Kept.{set_by}
use Rattle.sd2068.proofs.WellLaws.{whole, power_on_well, steps_well}
use Rattle.sd2068.proofs.SettingLaws.{after_add}
use Rattle.sd2068.proofs.KeptLaws.{step_kept}
use Rattle.script.specs.Rows.{header_word, starts_of}
use Rattle.script.specs.Lines.{line_of, lines_of}
use Rattle.script.specs.File.{Run, run_of}
use Rattle.script.proofs.LineLaws.{lines_length}
use Rattle.script.proofs.RunLaws.{run_whole}
use Rattle.promises.specs.Script.{reads_in, Scripted, from_address, KeepsTimeIn}

-- a line's first two characters, and what comes behind it
line_two : (x : Answer) (pin : ℕ) (l rest : List ℕ) → take 2 ((line_of (text_of x) pin ++ l) ++ rest) ≡ text_of x
line_two x pin l rest = grind (arith, common_steps)

line_behind : (x : Answer) (pin : ℕ) (l rest : List ℕ) → drop 5 ((line_of (text_of x) pin ++ l) ++ rest) ≡ l ++ rest
line_behind x pin l rest = grind (arith, common_steps)

module _ (c : Clock) (e : Event) where
  abbrev answer : Answer
  answer = (cond {A = Answered} (eqb (refusal_of c e.kind e.byte e.count) 0) (event_of c e.kind e.byte e.count) (quiet_of c)).answer

  told_two : (l rest : List ℕ) → take 2 ((line_of (told_by c e).answer (told_by c e).pin ++ l) ++ rest) ≡ (step c e).answer
  unfolding step_of
  told_two l rest = line_two answer (told_by c e).pin l rest

  told_behind : (l rest : List ℕ) → drop 5 ((line_of (told_by c e).answer (told_by c e).pin ++ l) ++ rest) ≡ l ++ rest
  unfolding step_of
  told_behind l rest = line_behind answer (told_by c e).pin l rest

-- the lines of events show what their reads answer, whatever stands behind them
lines_read : (c : Clock) (es : List Event) (rest : List ℕ) → reads_in es (lines_of c es ++ rest) ≡ reads_of step c es
unfolding reads_in lines_of reads_of
lines_read c [] rest = refl
lines_read c (e ∷ es) rest =
    let next = lines_of (step c e).state es in
    ap₂ (λ (x : List ℕ) (l : List ℕ). cond (read_by e) (x ∷ reads_in es l) (reads_in es l)) (told_two c e next rest) (told_behind c e next rest)
    ∙ ap (λ (l : List (List ℕ)). cond (read_by e) ((step c e).answer ∷ l) l) (lines_read (step c e).state es rest)

lines_add : (c : Clock) (es fs : List Event) → lines_of c (es ++ fs) ≡ lines_of c es ++ lines_of (after step c es) fs
unfolding lines_of after
lines_add c [] fs = refl
lines_add c (e ∷ es) fs =
    ap (λ (l : List ℕ). line_of (told_by c e).answer (told_by c e).pin ++ l) (lines_add (step c e).state es fs)
    ∙ sym (append_assoc (line_of (told_by c e).answer (told_by c e).pin) (lines_of (step c e).state es) (lines_of (after step (step c e).state es) fs))

-- the output of events, from the line of event q on
module _ (c : Clock) (es : List Event) (q : Event) (fs more : List Event) (rest : List ℕ) where
  abbrev output : List ℕ
  output = lines_of c (es ++ (q ∷ (fs ++ more))) ++ rest

  abbrev reached : Clock
  reached = after step c es

  from_q : drop (length es * 5) output ≡ lines_of reached (q ∷ (fs ++ more)) ++ rest
  from_q = grind (arith, common_steps, lines_add, lines_length)

  q_answer : take 2 (drop (length es * 5) output) ≡ (step reached q).answer
  unfolding lines_of
  q_answer = ap (take 2) from_q ∙ told_two reached q (lines_of (step reached q).state (fs ++ more)) rest

  behind_q : drop 5 (drop (length es * 5) output) ≡ lines_of (step reached q).state fs ++ (lines_of (after step (step reached q).state fs) more ++ rest)
  unfolding lines_of
  behind_q = grind (arith, common_steps, from_q, told_behind, lines_add)

  reads_behind : reads_in fs (drop 5 (drop (length es * 5) output)) ≡ reads_of step (step reached q).state fs
  reads_behind = ap (reads_in fs) behind_q ∙ lines_read (step reached q).state fs (lines_of (after step (step reached q).state fs) more ++ rest)

-- promise 3 for the output of a script
module _ (file out : List ℕ) (accepted : (run_of file out).refusal ≡ 0) (t : Time) (k : ℕ) (l : Legal t k) (s : Scripted file t) where
  abbrev begun : Clock
  begun = (power_on_of (starts_of file)).state

  abbrev ready : Clock
  ready = after step begun s.before

  abbrev until : List Event
  until = s.before ++ (set_by s.run.setting ++ s.run.traffic)

  abbrev reading : List Event
  reading = s.run.reading.reads ++ (s.run.reading.last ∷ [])

  abbrev rest : List ℕ
  rest = drop (header_word file 0 * 5) out

  written : (run_of file out).output ≡ lines_of begun (until ++ (byte 0x65 ∷ (reading ++ s.behind))) ++ rest
  written = ap (λ (r : Run). r.output) (run_whole file out accepted) ∙ ap (λ (es : List Event). lines_of begun es ++ rest) s.events

  same_state : after step begun until ≡ after step (after step ready (set_by s.run.setting)) s.run.traffic
  same_state = after_add step begun s.before (set_by s.run.setting ++ s.run.traffic) ∙ after_add step ready (set_by s.run.setting) s.run.traffic

  ready_well : well_formed_of ready ≡ true
  ready_well = whole ready (steps_well begun (power_on_well (starts_of file)) s.before)

  pub script_kept : KeepsTimeIn k s (run_of file out).output
  script_kept =
      let kept = step_kept ready ready_well t k l s.run in
      let answer =
      ap (λ (o : List ℕ). take 2 (from_address s o)) written
      ∙ q_answer begun until (byte 0x65) reading s.behind rest
      ∙ ap (λ (c : Clock). (step c (byte 0x65)).answer) same_state in
      let reads =
      ap (λ (o : List ℕ). reads_in reading (drop 5 (from_address s o))) written
      ∙ reads_behind begun until (byte 0x65) reading s.behind rest
      ∙ ap (λ (c : Clock). reads_of step (step c (byte 0x65)).state reading) same_state in
      record { acknowledged = answer ∙ kept.acknowledged; time = kept.time; counted = kept.counted; shown = reads ∙ kept.shown }
