-- Events with pulses between them lead from stage to stage as they would without, as long as the transfer does not time out. Assumes nothing.
use Rattle.std.proofs.Common.{◌≡◌, refl, sym, ap, ap₂, ◌∙◌, subst, Bool, true, false, cond, ◌||◌, not, List, [], ◌∷◌, ◌++◌, ℕ, ◌+◌, ◌<◌, arith, eqb, eqb-true}
use Rattle.std.proofs.lemmas.Bool.Decides.{nat_tests}
use borrow.Author.Tests.{eqb-false}
use Rattle.events.specs.declared.event.Event.{Event}
use Rattle.events.specs.Refusal.{fault_in}
use Rattle.sd2068.specs.declared.clock.Clock.{Clock}
use Rattle.sd2068.specs.declared.answers.Answered.{Answered}
use Rattle.sd2068.specs.Pulse.{pulses_of}
use Rattle.sd2068.specs.Step.{event_of}
use Rattle.sd2068.proofs.KindLaws.{refused_state, refused_pulses, refused_read, good_taken}
use Rattle.sd2068.specs.Run.{taken_of, event, after, pulses_by, pulses_in, spoken, read_by, reads_of}

-- pulses make pulses and are no read
module _ (e : Event) (good : fault_in e ≡ 0) (five : e.kind ≡ 5) where
  pub waited_state : (c : Clock) → (taken_of c e).clock ≡ pulses_of c e.count
  unfolding event_of
  waited_state c = ap (λ (r : Answered). r.clock) (good_taken e good c) ∙ ap (λ (k : ℕ). (event_of c k e.byte e.count).clock) five

  pub waited_pulses : pulses_by e ≡ e.count
  waited_pulses = grind (arith, nat_tests)

  pub waited_read : read_by e ≡ false
  waited_read = grind (arith, nat_tests)

-- the events qs, with pulses, refused events and unheard ones among them
pub data Spaced (unheard : Event → Bool) : List Event → List Event → Type 0 where
  done : Spaced unheard [] []
  said : {q : Event} {qs es : List Event} → pulses_by q ≡ 0 → Spaced unheard qs es → Spaced unheard (q ∷ qs) (q ∷ es)
  waited : {e : Event} {qs es : List Event} → fault_in e ≡ 0 → e.kind ≡ 5 → Spaced unheard qs es → Spaced unheard qs (e ∷ es)
  refused : {e : Event} {qs es : List Event} → (fault_in e ≡ 0 → ⊥) → Spaced unheard qs es → Spaced unheard qs (e ∷ es)
  ignored : {e : Event} {qs es : List Event} → pulses_by e ≡ 0 → unheard e ≡ true → Spaced unheard qs es → Spaced unheard qs (e ∷ es)

module _ (unheard : Event → Bool) where
  -- an event by whether it is refused, pulses, or unheard
  spaced_by :
      (e : Event) (qs es : List Event) (b f u : Bool) → eqb (fault_in e) 0 ≡ b → eqb e.kind 5 ≡ f → unheard e ≡ u
      → cond ((not b || f) || u) (spoken unheard es) (e ∷ spoken unheard es) ≡ qs → Spaced unheard (spoken unheard es) es → Spaced unheard qs (e ∷ es)
  spaced_by e qs es false f u p q r h x = Spaced.refused (eqb-false (fault_in e) 0 p) (subst (λ (l : List Event). Spaced unheard l es) h x)
  spaced_by e qs es true true u p q r h x = Spaced.waited (eqb-true (fault_in e) 0 p) (eqb-true e.kind 5 q) (subst (λ (l : List Event). Spaced unheard l es) h x)
  spaced_by e qs es true false true p q r h x =
      Spaced.ignored (ap₂ (λ (b : Bool) (f : Bool). cond b (cond f e.count 0) 0) p q) r (subst (λ (l : List Event). Spaced unheard l es) h x)
  spaced_by e qs es true false false p q r h x =
      subst (λ (l : List Event). Spaced unheard l (e ∷ es)) h (Spaced.said (ap₂ (λ (b : Bool) (f : Bool). cond b (cond f e.count 0) 0) p q) x)

  -- events are those that are spoken, with others among them
  pub spaced : (qs es : List Event) → spoken unheard es ≡ qs → Spaced unheard qs es
  unfolding spoken
  spaced qs [] h = subst (λ (x : List Event). Spaced unheard x []) h Spaced.done
  spaced qs (e ∷ es) h =
      spaced_by e qs es (eqb (fault_in e) 0) (eqb e.kind 5) (unheard e) refl refl refl h (spaced (spoken unheard es) es refl)

-- what holds in a stage of a transfer, of its age and of the state; pulses that do not end the transfer leave it in its stage, and unheard events leave the state
pub record Stage (unheard : Event → Bool) : Type 1 where
  pub Holds : ℕ → Clock → Type 0
  pub waits : (a n : ℕ) (c : Clock) → Holds a c → a + n < 16384 → Holds (a + n) (pulses_of c n)
  pub ignores : (a : ℕ) (c : Clock) (e : Event) → Holds a c → unheard e ≡ true → (taken_of c e).clock ≡ c

-- an event leads from one stage to the next, and a read answers
pub record Leads (unheard : Event → Bool) (s : Stage unheard) (q : Event) (out : List (List ℕ)) (t : Stage unheard) : Type 0 where
  pub goes : (a : ℕ) (c : Clock) → s.Holds a c → t.Holds a (taken_of c q).clock
  pub says : (a : ℕ) (c : Clock) (rest : List (List ℕ)) → s.Holds a c → cond (read_by q) ((event c q).answer ∷ rest) rest ≡ out ++ rest

pub data Path (unheard : Event → Bool) : Stage unheard → List Event → List (List ℕ) → Stage unheard → Type 1 where
  here : {s : Stage unheard} → Path unheard s [] [] s
  then :
      {s t u : Stage unheard} {q : Event} {qs : List Event} {out outs : List (List ℕ)} → Leads unheard s q out t → Path unheard t qs outs u
      → Path unheard s (q ∷ qs) (out ++ outs) u

-- no read is unheard
abbrev pub Attended : (Event → Bool) → Type 0
Attended unheard = (e : Event) → unheard e ≡ true → read_by e ≡ false

module _ {unheard : Event → Bool} where
  -- where the events lead, and, if no read is unheard, what is read on the way
  pub record Arrives (t : Stage unheard) (a : ℕ) (c : Clock) (es : List Event) (outs : List (List ℕ)) : Type 0 where
    pub holds : t.Holds (a + pulses_in es) (after event c es)
    pub reads : Attended unheard → reads_of event c es ≡ outs

  -- one event, and then the others
  one_more :
      {t : Stage unheard} {a b : ℕ} {c d : Clock} {e : Event} {es : List Event} {outs : List (List ℕ)} (out : List (List ℕ)) → (taken_of c e).clock ≡ d → a + pulses_by e ≡ b
      → (Attended unheard → (rest : List (List ℕ)) → cond (read_by e) ((event c e).answer ∷ rest) rest ≡ out ++ rest) → Arrives t b d es outs → Arrives t a c (e ∷ es) (out ++ outs)
  unfolding after pulses_in reads_of
  one_more {t} {a} {b} {c} {d} {e} {es} {outs} out state age says r =
      let sum : b + pulses_in es ≡ a + (pulses_by e + pulses_in es) = omega arith in
      record {
        holds = subst (λ (n : ℕ). t.Holds n (after event (taken_of c e).clock es)) sum (subst (λ (x : Clock). t.Holds (b + pulses_in es) (after event x es)) (sym state) r.holds);
        reads = λ all. says all (reads_of event (taken_of c e).clock es) ∙ ap (λ (x : Clock). out ++ reads_of event x es) state ∙ ap (λ (l : List (List ℕ)). out ++ l) (r.reads all);
      }

  pub walk : {s t : Stage unheard} {qs es : List Event} {outs : List (List ℕ)} → Spaced unheard qs es → Path unheard s qs outs t → (a : ℕ) (c : Clock) → s.Holds a c → a + pulses_in es < 16384 → Arrives t a c es outs
  unfolding after pulses_in reads_of
  walk {s} Spaced.done Path.here a c h l = record { holds = subst (λ (n : ℕ). s.Holds n c) (omega arith) h; reads = λ all. refl }
  walk {s = s} {t = u} (Spaced.said {q} {qs} {es} none x) (Path.then {t} {out} {outs} f p) a c h l =
      one_more out refl (omega (arith, none)) (λ all rest. f.says a c rest h) (walk {s = t} {t = u} x p a (taken_of c q).clock (f.goes a c h) (omega (arith, none, l)))
  walk {s} {t} (Spaced.waited {e} {qs} {es} good five x) p a c h l =
      let n = waited_pulses e good five in
      one_more [] (waited_state e good five c) (omega (arith, n)) (λ all rest. rw (waited_read e good five) refl)
      (walk x p (a + e.count) (pulses_of c e.count) (s.waits a e.count c h (omega (arith, n, l))) (omega (arith, n, l)))
  walk {s} {t} (Spaced.refused {e} {qs} {es} bad x) p a c h l =
      let n = refused_pulses e bad in
      one_more [] (refused_state e bad c) (omega (arith, n)) (λ all rest. rw (refused_read e bad) refl) (walk x p a c h (omega (arith, n, l)))
  walk {s} {t} (Spaced.ignored {e} {qs} {es} n unheard x) p a c h l =
      one_more [] (s.ignores a c e h unheard) (omega (arith, n)) (λ all rest. rw (all e unheard) refl) (walk x p a c h (omega (arith, n, l)))
