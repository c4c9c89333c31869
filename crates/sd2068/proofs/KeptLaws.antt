-- A time set reads back as many seconds on as the pulses since make: the setting leaves it, traffic adds its pulses, the reading shows it. Assumes nothing.
use Rattle.std.proofs.Common.{◌≡◌, refl, sym, ap, ◌∙◌, subst, true, cond, List, [], ◌∷◌, ◌++◌, ℕ, ◌+◌, arith}
use Rattle.calendar.specs.declared.time.Time.{Time}
use Rattle.calendar.specs.Repeat.{times}
use Rattle.hand.specs.declared.hand.Hand.{Hand}
use Rattle.hand.specs.Hand.{ticked_of}
use Rattle.hand.specs.Span.{Legal, Counted}
use Rattle.hand.proofs.SpanLaws.{few_ticks, times_add, ticks_count, one_counted}
use Rattle.events.specs.declared.event.Event.{Event}
use Rattle.sd2068.specs.declared.clock.Clock.{Clock}
use Rattle.sd2068.specs.Reading.{control_at_of, register_of}
use Rattle.sd2068.specs.Step.{step_of, refusal_of}
use Rattle.sd2068.specs.WellFormed.{well_formed_of}
use Rattle.sd2068.proofs.WellLaws.{Well, parts, whole, step_well, steps_well}
use Rattle.sd2068.specs.Run.{Outcome, Machine, byte, step, event, after, pulses_in, read_by, reads_of}
use Rattle.sd2068.specs.Kept.{Spares, Spares.none as none, Spares.more as more, Setting, set_by, pulses_since, Reading, Kept, shown_by, ReadsBack, KeepsTime}
use Rattle.sd2068.proofs.TrafficLaws.{traffic_hand}
use Rattle.sd2068.proofs.SettingLaws.{set_hand}
use Rattle.sd2068.proofs.ReadBackLaws.{read_acknowledged, read_shown}

module _ (c : Clock) (t : Time) (k : ℕ) (l : Legal t k) (s : Setting c t) (es : List Event) (spares : Spares event (after event c (set_by s)) es) where
  abbrev begun : Hand
  begun = record { time = t; counter = 0; trim = c.hand.trim }

  abbrev asked : Clock
  asked = after event (after event c (set_by s)) es

  -- the hand at 65h: all pulses since the seconds byte, one after the other
  asked_hand : asked.hand ≡ times ticked_of (pulses_since s es) begun
  asked_hand =
      let n = pulses_in s.rest in
      let more : n ≡ 0 + n = omega arith in
      let set = set_hand c t s ∙ ap (λ (x : ℕ). record { time = t; counter = x; trim = c.hand.trim }) more ∙ sym (few_ticks begun n (omega (arith, s.timely))) in
      traffic_hand spares ∙ ap (times ticked_of (pulses_in es)) set ∙ times_add ticked_of n (pulses_in es) begun

  -- a reading of the state that they come to
  read_back :
      (d : Clock) → asked ≡ d → (r : Reading d)
      → ReadsBack t k (register_of c 0x12) (pulses_since s es) (event d (byte 0x65)).answer (reads_of event (event d (byte 0x65)).state (r.reads ++ (r.last ∷ [])))
  unfolding register_of control_at_of
  read_back d e r =
      record {
        acknowledged = read_acknowledged d r;
        time = d.hand.time;
        counted =
            subst (λ (h : Hand). Counted t k c.hand.trim (pulses_since s es) h.time) (sym asked_hand ∙ ap (λ (x : Clock). x.hand) e)
            (ticks_count t k l c.hand.trim (pulses_since s es));
        shown = read_shown d r;
      }

-- for events on any state
pub event_kept : (c : Clock) (t : Time) (k : ℕ) → Legal t k → (r : Kept event c t) → KeepsTime k r
event_kept c t k l r = read_back c t k l r.setting r.traffic r.spares (asked c t k l r.setting r.traffic r.spares) refl r.reading

-- the step on a well-formed state is the event
module _ (c : Clock) (w : Well c) (e : Event) where
  pub step_event : step c e ≡ event c e
  unfolding step_of refusal_of
  step_event = simp (whole c w)

  pub step_after : Well (step c e).state
  step_after = step_well c w e.kind e.byte e.count

  pub event_after : Well (event c e).state
  event_after = subst (λ (o : Outcome). Well o.state) step_event step_after

-- two machines that agree on well-formed states, of which the first keeps them so
module _ (m n : Machine) (agree : (c : Clock) → Well c → (e : Event) → m c e ≡ n c e) (keeps : (c : Clock) → Well c → (e : Event) → Well (m c e).state) where
  pub same_after : (c : Clock) → Well c → (es : List Event) → after m c es ≡ after n c es
  unfolding after
  same_after c w [] = refl
  same_after c w (e ∷ es) = same_after (m c e).state (keeps c w e) es ∙ ap (λ (o : Outcome). after n o.state es) (agree c w e)

  same_reads : (c : Clock) → Well c → (es : List Event) → reads_of m c es ≡ reads_of n c es
  unfolding reads_of
  same_reads c w [] = refl
  same_reads c w (e ∷ es) =
      let b = read_by e in
      ap (λ (l : List (List ℕ)). cond b ((m c e).answer ∷ l) l) (same_reads (m c e).state (keeps c w e) es)
      ∙ ap (λ (o : Outcome). cond b (o.answer ∷ reads_of n o.state es) (reads_of n o.state es)) (agree c w e)

  pub same_spares : {c : Clock} {es : List Event} → Spares m c es → Well c → Spares n c es
  same_spares none w = none
  same_spares (more {c} {e} {es} loss stores rest) w =
      more loss stores (subst (λ (o : Outcome). Spares n o.state es) (agree c w e) (same_spares rest (keeps c w e)))

-- for steps on a well-formed state
pub step_kept : (c : Clock) → well_formed_of c ≡ true → (t : Time) (k : ℕ) → Legal t k → (r : Kept step c t) → KeepsTime k r
step_kept c good t k l r =
    let w = parts c good in
    let s = set_by r.setting in
    let es = r.traffic in
    let d = after step (after step c s) es in
    let p = pulses_since r.setting es in
    let f = register_of c 0x12 in
    let read = r.reading.reads ++ (r.reading.last ∷ []) in
    let set = same_after step event step_event step_after c w s in
    let well_set = steps_well c w s in
    let well_asked = steps_well (after step c s) well_set es in
    let same = sym (same_after step event step_event step_after (after step c s) well_set es ∙ ap (λ (x : Clock). after event x es) set) in
    let spares = subst (λ (x : Clock). Spares event x es) set (same_spares step event step_event step_after r.spares well_set) in
    subst (λ (x : List (List ℕ)). ReadsBack t k f p (step d (byte 0x65)).answer x) (sym (same_reads step event step_event step_after (step d (byte 0x65)).state (step_after d well_asked (byte 0x65)) read))
    (subst (λ (o : Outcome). ReadsBack t k f p o.answer (reads_of event o.state read)) (sym (step_event d well_asked (byte 0x65)))
    (read_back c t k l r.setting es spares d same r.reading))

-- from a well-formed state what events do, steps do
unfoldable pub by_steps : (c : Clock) → well_formed_of c ≡ true → {t : Time} → Kept event c t → Kept step c t
by_steps c good r =
    let w = parts c good in
    let s = set_by r.setting in
    let es = r.traffic in
    let set = same_after step event step_event step_after c w s in
    let well_set = subst Well set (steps_well c w s) in
    let asked = ap (λ (x : Clock). after step x es) set ∙ same_after step event step_event step_after (after event c s) well_set es in
    record {
      setting = r.setting;
      traffic = es;
      spares =
          subst (λ (x : Clock). Spares step x es) (sym set)
          (same_spares event step (λ x v e. sym (step_event x v e)) event_after r.spares well_set);
      reading = subst Reading (sym asked) r.reading;
    }

-- what is read goes by the time set, the trim and the pulses alone
pub one_reading : {t : Time} {k trim p : ℕ} {a b : List ℕ} {x y : List (List ℕ)} → ReadsBack t k trim p a x → ReadsBack t k trim p b y → x ≡ y
one_reading r s = r.shown ∙ ap shown_by (one_counted r.counted s.counted) ∙ sym s.shown

pub same_reading :
    {t : Time} {k f g p q : ℕ} {a b : List ℕ} {x y : List (List ℕ)} → f ≡ g → p ≡ q → ReadsBack t k f p a x → ReadsBack t k g q b y → x ≡ y
same_reading {t} {k} {f} {g} {p} {a} {x} trim pulses r s =
    one_reading (subst (λ (n : ℕ). ReadsBack t k g n a x) pulses (subst (λ (n : ℕ). ReadsBack t k n p a x) trim r)) s
