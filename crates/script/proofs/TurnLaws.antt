-- The turns of a run on a state's bytes: each is the chip's step, and no event is refused. Assumes nothing.
use mathlib.Core.Path.{◌≡◌, refl, sym, ap, ◌∙◌, subst}
use mathlib.Core.Bool.{Bool, true, false, cond, true≢false}
use mathlib.Core.List.{List, [], ◌∷◌}
use Prim.Native.Nat.{ℕ, ◌+◌, ◌-◌, ◌*◌, ◌/◌, ◌<◌}
use native.Mathlib.Omega.{arith}
use lib.Dec.{eqb}
use lib.ListN.{length, get_or}
use borrow.Author.Tests.{eq-eqb, eqb-true}
use Rattle.events.specs.declared.event.Event.{Event}
use Rattle.events.specs.Refusal.{fault_in}
use Rattle.sd2068.specs.declared.clock.Clock.{Clock}
use Rattle.sd2068.specs.WellFormed.{well_formed_of}
use Rattle.sd2068.specs.Run.{told_by}
use Rattle.state_bytes.specs.Decoded.{clock_of}
use Rattle.state_bytes.specs.Encoded.{bytes_of}
use Rattle.state_events.specs.Said.{Said, pin_in, text_in}
use Rattle.state_events.specs.Event.{Lent, lent, tell_in, done_of}
use Rattle.state_events.proofs.ByteLaws.{decoded_small}
use Rattle.state_events.proofs.SaidLaws.{done_says}
use Rattle.state_events.proofs.TellLaws.{Stands, tell_done, tell_stands, tell_clock}
use Rattle.script.specs.Event.{event_at, events_in}
use Rattle.script.specs.Checks.{Found, found_at, first_of}
use Rattle.script.specs.Lines.{line_of, put_of}
use Rattle.script.specs.File.{can_run}
use Rattle.script.proofs.SearchLaws.{left_of, left_all, left_first, chunk_at}
use Rattle.script.proofs.LineLaws.{Stage, begins, told_line, turns, line_put}

-- no event is at fault
data Sound : List Event → Type 0 where
  none : Sound []
  more : {e : Event} {es : List Event} → fault_in e ≡ 0 → Sound es → Sound (e ∷ es)

-- what is found first has no refusal: then neither the first event nor what stands behind it has one
first_sound : (b : Bool) (n i : ℕ) (rest : Found) → eqb n 0 ≡ b → (cond b rest (found_at n i)).refusal ≡ 0 → n ≡ 0
first_sound true n i rest e h = eqb-true n 0 e
first_sound false n i rest e h = h

rest_sound : (b : Bool) (n i : ℕ) (rest : Found) → eqb n 0 ≡ b → n ≡ 0 → (cond b rest (found_at n i)).refusal ≡ 0 → rest.refusal ≡ 0
rest_sound true n i rest e z h = h
rest_sound false n i rest e z h = absurd (true≢false (sym (eq-eqb n 0 z) ∙ e))

sound : (es : List Event) (i : ℕ) → (first_of es i).refusal ≡ 0 → Sound es
unfolding first_of
sound [] i h = none
sound (e ∷ es) i h =
    let rest = first_of es (i + 1) in
    let z = first_sound (eqb (fault_in e) 0) (fault_in e) i rest refl h in
    more z (sound es (i + 1) (rest_sound (eqb (fault_in e) 0) (fault_in e) i rest refl z h))

-- of the events that are left
head_sound : {e : Event} {es : List Event} → Sound (e ∷ es) → fault_in e ≡ 0
head_sound (more z x) = z

tail_sound : {e : Event} {es : List Event} → Sound (e ∷ es) → Sound es
tail_sound (more z x) = x

-- what is asked of the bytes
pub run_stands : {s : List ℕ} → (well_formed_of (clock_of s) ≡ true) × (bytes_of (clock_of s) ≡ s) → Stands s
run_stands r = record { well = r.0; again = r.1 }

-- where a run stands at the event with index i
abbrev pub At : List ℕ → List ℕ → Clock → List ℕ → Clock → ℕ → Type 0
At s out₀ c₀ out c i = Stage s out₀ c₀ out c (length s / 4 - i) (4 * i) (5 * i)

-- where a run on bytes stands: as far as one on their state, and they are that state's
pub record Turn (s out₀ : List ℕ) (c₀ : Clock) (out state : List ℕ) (i : ℕ) : Type 0 where
  pub stage : At s out₀ c₀ out (clock_of state) i
  pub each : (k : ℕ) → get_or state k 0 < 256
  stands : Stands state
  sound : Sound (left_of s i)

pub starts :
    (s out state : List ℕ) → ((k : ℕ) → get_or state k 0 < 256) → can_run state (events_in s) (length s / 4) (length out) →
    Turn s out (clock_of state) out state 0
starts s out state each r =
    let all : length s / 4 ≡ length s / 4 - 0 = omega arith in
    record {
      stage = subst (λ (n : ℕ). Stage s out (clock_of state) out (clock_of state) n 0 0) all (begins s out (clock_of state) r.0);
      each = each;
      stands = run_stands r.1.1;
      sound = subst Sound (sym (left_all s)) (sound (events_in s) 0 r.1.0);
    }

-- behind the event with index i comes the next one
next_at : (s out₀ : List ℕ) (c₀ : Clock) (out : List ℕ) (c : Clock) (i : ℕ) → Stage s out₀ c₀ out c (length s / 4 - i - 1) (4 * i + 4) (5 * i + 5) → At s out₀ c₀ out c (i + 1)
next_at s out₀ c₀ out c i g =
    let less : length s / 4 - i - 1 ≡ length s / 4 - (i + 1) = omega arith in
    let event : 4 * i + 4 ≡ 4 * (i + 1) = omega arith in
    let line : 5 * i + 5 ≡ 5 * (i + 1) = omega arith in
    subst (λ (n : ℕ). Stage s out₀ c₀ out c n (4 * (i + 1)) (5 * (i + 1))) less
    (subst (λ (n : ℕ). Stage s out₀ c₀ out c (length s / 4 - i - 1) n (5 * (i + 1))) event
    (subst (λ (n : ℕ). Stage s out₀ c₀ out c (length s / 4 - i - 1) (4 * i + 4) n) line g))

module _ {s out₀ : List ℕ} {c₀ : Clock} {out state : List ℕ} {i : ℕ} (g : Turn s out₀ c₀ out state i) (more : i < length s / 4) where
  abbrev first : Event
  first = event_at s (4 * i)

  left_sound : Sound (first ∷ left_of s (i + 1))
  left_sound = subst Sound (left_first s i more) g.sound

  -- one event is told: what it leaves are the bytes of its step's state, and the line by it is the step's
  module _ (e : Event) (event : e ≡ first) (n : ℕ) (next : List ℕ) (tells : lent n next ≡ tell_in state 0 e.kind e.byte e.count) where
    abbrev after : Lent
    after = done_of (clock_of state) first.kind first.byte first.count

    told : lent n next ≡ after
    told =
        tells
        ∙ ap (λ (x : Event). tell_in state 0 x.kind x.byte x.count) event
        ∙ ap (λ (k : ℕ). tell_in state k first.kind first.byte first.count) (sym (head_sound left_sound))
        ∙ tell_done state g.stands first.kind first.byte first.count

    line_told : line_of (text_in n) (pin_in n) ≡ told_line (told_by (clock_of state) first)
    line_told =
        ap (λ (l : Lent). line_of (text_in l.told) (pin_in l.told)) told
        ∙ ap (λ (x : Said). line_of x.answer x.pin)
        (done_says (clock_of state) (decoded_small state g.each) first.kind first.byte first.count)

    next_is : next ≡ after.state
    next_is = ap (λ (l : Lent). l.state) told

    pub goes_on :
        (lines : List ℕ) → ((k : ℕ) → get_or next k 0 < 256) → lines ≡ put_of out (5 * i) (line_of (text_in n) (pin_in n)) →
        Turn s out₀ c₀ lines next (i + 1)
    goes_on lines each put =
        record {
          stage =
              next_at s out₀ c₀ lines (clock_of next) i
              (turns g.stage (omega arith) lines (clock_of next) (put ∙ ap (put_of out (5 * i)) line_told)
              (ap clock_of next_is ∙ tell_clock state g.stands first.kind first.byte first.count));
          each = each;
          stands = subst Stands (sym next_is) (tell_stands state g.stands first.kind first.byte first.count);
          sound = tail_sound left_sound;
        }

-- what a run of events goes by
pub ruleset turn_steps = (starts, goes_on, line_put, chunk_at)
