-- Each deed says what the step does: its case is the step's case. Assumes nothing.
use Rattle.std.proofs.Common.{◌≡◌, refl, sym, ◌∙◌, Bool, true, false, cond, ◌&&◌, not, true≢false, ℕ, ◌≤◌, ◌<◌, arith, eqb, ltb, eqb-true, ltb-true, ltb-false, ne_eqb}
use Rattle.std.proofs.lemmas.Bool.{eqb-false}
use Rattle.std.proofs.lemmas.Bool.Decides.{nat_tests}
use Rattle.fields.proofs.FieldLaws.{and_left, and_right, and_false}
use Rattle.bus.specs.declared.phase.Mode.{Mode}
use Rattle.bus.specs.declared.phase.Mode.TheVariants.{Address, Pointer, Writing, Reading, Deaf}
use Rattle.bus.specs.declared.phase.Transfer.{Transfer}
use Rattle.bus.specs.declared.phase.Phase.{Phase}
use Rattle.bus.specs.declared.phase.Phase.TheVariants as phase
use Rattle.bus.specs.declared.bytes.Heard.{Heard}
use Rattle.bus.specs.Phase.{next_of, closed_bus}
use Rattle.bus.specs.Bytes.{addressed_of, pointed_of, heard_of}
use Rattle.bus.specs.Reads as reading
use Rattle.bus.specs.Reads.{moved_of}
use Rattle.events.specs.declared.answer.Answer.TheVariants.{Ack, Byte}
use Rattle.events.specs.Refusal.{fields_of}
use Rattle.events.proofs.Telling.{Tells, Tells.holds, Tells.fails, less, equal}
use Rattle.sd2068.specs.declared.clock.Clock.{Clock}
use Rattle.sd2068.specs.declared.answers.Answered.{Answered}
use Rattle.sd2068.specs.Clock.{with_bus}
use Rattle.sd2068.specs.Controls.{arst_of}
use Rattle.sd2068.specs.Reading.{shown_of}
use Rattle.sd2068.specs.Step.{told_of, quiet_of, event_of, refusal_of, step_of}
use Rattle.sd2068.specs.Transfer.{started_of, clears_of, stopped_of, acknowledged, effected_by, byte_of, renewed_of, read_of}
use Rattle.sd2068.specs.WellFormed.{well_formed_of}
use Rattle.sd2068.specs.Writing.{stores_of, written_by, write_of}
use Rattle.facts.specs.declared.deeds.Deed.{Deed}
use Rattle.facts.specs.declared.deeds.Deed.TheVariants as deed
use Rattle.facts.specs.Deeds.{start_deed, stop_deed, address_deed, pointer_deed, byte_deed, register_deed, read_deed, event_deed, deed_of}
use Rattle.facts.specs.Done.{Done, Done.opened, Done.repeated, Done.idle, Done.closed, Done.cleared, Done.to_write, Done.to_read, Done.elsewhere, Done.pointed, Done.beyond, Done.stored, Done.lost, Done.unheard, Done.latched, Done.sent, Done.renewed, Done.silent, Done.passed, Done.power_lost, ReadKind, ReadKind.with_ack, ReadKind.with_nak, Shut, In, at, answering, led, flags_kept}

-- behind the time the pointer has not come to 00h
pub goes_on : (p : ℕ) → p < 0x07 → eqb (next_of p) 0x00 ≡ false
goes_on p h = grind (arith, nat_tests)

-- a read's kind, by whether the master acknowledges
read_kind : (kind : ℕ) (ack : Bool) → kind ≡ cond ack 3 4 → ReadKind kind ack
read_kind kind true k = rw k with_ack
read_kind kind false k = rw k with_nak

module _ (kind b n : ℕ) where
  -- START, on a state whose bus is spelled out
  start_done : kind ≡ 0 → (c : Clock) (p : ℕ) (f : Phase) → let d = with_bus c (record { pointer = p; phase = f }) in Done d kind b n (start_deed f) (quiet_of (started_of d))
  start_done k c p phase.Closed = opened k refl
  start_done k c p (phase.Open m t) = repeated k refl

  -- STOP, by whether the flags clear
  idle_by : kind ≡ 1 → (c : Clock) (arst : Bool) → Shut c → Done c kind b n deed.Idle (quiet_of (with_bus (flags_kept (not (arst && false)) c) closed_bus))
  idle_by k c true o = idle k o
  idle_by k c false o = idle k o

  stop_by : kind ≡ 1 → (c : Clock) {m : Mode} {t : Transfer} (x : Bool) → In c m t → arst_of c.control.ctr3 && t.marked ≡ x → Done c kind b n (cond x deed.Cleared deed.Closed) (quiet_of (with_bus (flags_kept (not x) c) closed_bus))
  stop_by k c {t = t} true o e = cleared k o (and_left (arst_of c.control.ctr3) t.marked e, and_right (arst_of c.control.ctr3) t.marked e)
  stop_by k c {t = t} false o e = closed k o (λ both. true≢false (sym both.1 ∙ and_false (arst_of c.control.ctr3) t.marked both.0 e))

  stop_done : kind ≡ 1 → (c : Clock) (p : ℕ) (f : Phase) → let d = with_bus c (record { pointer = p; phase = f }) in Done d kind b n (stop_deed f (clears_of d)) (quiet_of (stopped_of d))
  unfolding stopped_of
  stop_done k c p phase.Closed = idle_by k (with_bus c (record { pointer = p; phase = phase.Closed })) (arst_of c.control.ctr3) refl
  stop_done k c p (phase.Open m t) = stop_by k (with_bus c (record { pointer = p; phase = phase.Open m t })) (arst_of c.control.ctr3 && t.marked) refl refl

  -- what the chip makes of what the bus heard
  abbrev heard_by_lem : Clock → Heard → Answered
  heard_by_lem c h = answering (acknowledged h.ack) (with_bus (effected_by h.effect c b) h.bus)

  address_done : kind ≡ 2 → (c : Clock) {t : Transfer} (x y : Bool) → In c Address t → eqb b 0x64 ≡ x → eqb b 0x65 ≡ y → Done c kind b n (address_deed b) (heard_by_lem c (addressed_of (at c) t b))
  address_done k c true y o e f = simp e (to_write k o (eqb-true b 0x64 e))
  address_done k c false true o e f = simp (e, f) (to_read k o (eqb-true b 0x65 f))
  address_done k c false false o e f = simp (e, f) (elsewhere k o (eqb-false b 0x64 e) (eqb-false b 0x65 f))

  pointer_done : kind ≡ 2 → (c : Clock) {t : Transfer} (x : Bool) → In c Pointer t → ltb b 0x20 ≡ x → Done c kind b n (pointer_deed b) (heard_by_lem c (pointed_of (at c) t b))
  pointer_done k c true o e = simp e (pointed k o (ltb-true b 0x20 e))
  pointer_done k c false o e = simp e (beyond k o (ltb-false b 0x20 e))

  data_done : kind ≡ 2 → (c : Clock) {t : Transfer} (x : Bool) → In c Writing t → stores_of c (at c) b ≡ x → Done c kind b n (cond x (deed.Stored (at c)) (deed.Lost (at c))) (answering Ack (led (written_by x c (at c) b) (next_of (at c)) Writing t))
  data_done k c true o e = stored k o e
  data_done k c false o e = lost k o e

  byte_done : kind ≡ 2 → (c : Clock) (p : ℕ) (f : Phase) → let d = with_bus c (record { pointer = p; phase = f }) in Done d kind b n (byte_deed d b) (byte_of d b)
  unfolding byte_of heard_of write_of
  byte_done k c p phase.Closed = unheard k refl
  byte_done k c p (phase.Open Address t) = address_done k (led c p Address t) (eqb b 0x64) (eqb b 0x65) refl refl refl
  byte_done k c p (phase.Open Pointer t) = pointer_done k (led c p Pointer t) (ltb b 0x20) refl refl
  byte_done k c p (phase.Open Writing t) = data_done k (led c p Writing t) (stores_of c p b) refl refl
  byte_done k c p (phase.Open Reading t) = unheard k refl
  byte_done k c p (phase.Open Deaf t) = unheard k refl

  -- a register that is sent, by where it is and where the pointer goes
  register_done : {ack : Bool} → ReadKind kind ack → (c : Clock) {t : Transfer} (x y : Bool) → In c Reading t → ltb (at c) 0x07 ≡ x → eqb (next_of (at c)) 0x00 ≡ y → Done c kind b n (register_deed (at c)) (answering (Byte (shown_of c (at c))) (with_bus (renewed_of c (at c)) (moved_of (at c) t ack)))
  unfolding shown_of renewed_of
  register_done k c true y o e f =
      let h = ltb-true (at c) 0x07 e in
      simp (e, goes_on (at c) h) (latched k o h)
  register_done k c false true o e f = simp (e, f) (renewed k o (ltb-false (at c) 0x07 e) (eqb-true (next_of (at c)) 0x00 f))
  register_done k c false false o e f = simp (e, f) (sent k o (ltb-false (at c) 0x07 e) (eqb-false (next_of (at c)) 0x00 f))

  read_done : {ack : Bool} → ReadKind kind ack → (c : Clock) (p : ℕ) (f : Phase) → let d = with_bus c (record { pointer = p; phase = f }) in Done d kind b n (read_deed d.bus) (read_of d ack)
  unfolding read_of reading.read_of
  read_done k c p phase.Closed = silent k refl
  read_done k c p (phase.Open Address t) = silent k refl
  read_done k c p (phase.Open Pointer t) = silent k refl
  read_done k c p (phase.Open Writing t) = silent k refl
  read_done k c p (phase.Open Reading t) = register_done k (led c p Reading t) (ltb p 0x07) (eqb (next_of p) 0x00) refl refl refl
  read_done k c p (phase.Open Deaf t) = silent k refl

  -- of a choice of deed and result by one test, what either side has
  either_done : {c : Clock} {d e : Deed} {v w : Answered} {P Q : Type 0} {t : Bool} → Tells P Q t → (P → Done c kind b n d v) → (Q → Done c kind b n e w) → Done c kind b n (cond t d e) (cond t v w)
  either_done (holds p) f g = f p
  either_done (fails q) f g = g q

  event_done : kind < 7 → (c : Clock) → Done c kind b n (event_deed c kind b) (event_of c kind b n)
  unfolding event_deed event_of
  event_done h c =
      let p = c.bus.pointer in
      let f = c.bus.phase in
      either_done (equal kind 0) (λ k. start_done k c p f)
      (λ n0. either_done (equal kind 1) (λ k. stop_done k c p f)
      (λ n1. either_done (equal kind 2) (λ k. byte_done k c p f)
      (λ n2. either_done (equal kind 3) (λ k. read_done (read_kind kind true k) c p f)
      (λ n3. either_done (equal kind 4) (λ k. read_done (read_kind kind false k) c p f)
      (λ n4. either_done (equal kind 5) passed (λ n5. power_lost (omega arith)))))))

-- a kind over 6 is refused
kind_by : {kind : ℕ} (well : Bool) {small : Bool} (v : ℕ) → Tells (kind < 7) (7 ≤ kind) small → cond well (cond small v 2) 1 ≡ 0 → kind < 7
kind_by true v (holds h) e = h
kind_by true v (fails h) e = omega arith
kind_by false v t e = omega arith

module _ (c : Clock) (kind byte count : ℕ) where
  taken_kind : refusal_of c kind byte count ≡ 0 → kind < 7
  unfolding refusal_of
  taken_kind = kind_by (well_formed_of c) (cond (fields_of kind byte count) 0 3) (less kind 7)

  -- of an event that is not refused the deed says what the step answers and leaves
  pub deed_done : (step_of c kind byte count).refusal ≡ 0 → (step_of c kind byte count ≡ told_of 0 (event_of c kind byte count)) × Done c kind byte count (deed_of c kind byte count) (event_of c kind byte count)
  unfolding deed_of step_of
  deed_done e = (simp e, simp e (event_done kind byte count (taken_kind e) c))

  -- and of one that is refused, that it was
  pub deed_refused : ((step_of c kind byte count).refusal ≡ 0 → ⊥) → (deed_of c kind byte count ≡ deed.Refused) × ((step_of c kind byte count).state ≡ c)
  unfolding deed_of step_of
  deed_refused n = (simp (ne_eqb (refusal_of c kind byte count) 0 n), simp (ne_eqb (refusal_of c kind byte count) 0 n))

-- no event that is taken has the deed of a refused one
pub taken_deed : {c : Clock} {kind b n : ℕ} {e : Answered} → Done c kind b n deed.Refused e → ⊥
taken_deed = elim [ ]
