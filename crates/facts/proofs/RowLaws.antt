-- A row fits an event only with the event's deed and result, so no two deeds fit one event. Assumes nothing.
use Rattle.std.proofs.Common.{◌≡◌, refl, sym, ◌∙◌, Bool, true, false, ◌&&◌, true≢false, ℕ, lt-ltb, le-ltb, ne_eqb}
use Rattle.bus.specs.declared.phase.Mode.TheVariants.{Address, Pointer, Writing, Reading, Deaf}
use Rattle.bus.specs.declared.phase.Phase.{Phase}
use Rattle.bus.specs.declared.phase.Phase.TheVariants as phase
use Rattle.bus.specs.Phase.{next_of}
use Rattle.bus.specs.Bytes.{heard_of}
use Rattle.bus.specs.Reads as reading
use Rattle.events.specs.declared.answer.Answer.TheVariants.{Nak, Byte}
use Rattle.sd2068.specs.declared.clock.Clock.{Clock}
use Rattle.sd2068.specs.declared.answers.Answered.{Answered}
use Rattle.sd2068.specs.Clock.{with_bus}
use Rattle.sd2068.specs.Controls.{arst_of}
use Rattle.sd2068.specs.Reading.{shown_of}
use Rattle.sd2068.specs.Step.{event_of}
use Rattle.sd2068.specs.Transfer.{stopped_of, byte_of, renewed_of, read_of}
use Rattle.sd2068.specs.Writing.{write_of}
use Rattle.facts.specs.declared.deeds.Deed.{Deed}
use Rattle.facts.specs.declared.deeds.Deed.TheVariants as deed
use Rattle.facts.specs.Deeds.{byte_deed, read_deed, event_deed}
use Rattle.facts.specs.Done.{Done, Done.opened, Done.repeated, Done.idle, Done.closed, Done.cleared, Done.to_write, Done.to_read, Done.elsewhere, Done.pointed, Done.beyond, Done.stored, Done.lost, Done.unheard, Done.latched, Done.sent, Done.renewed, Done.silent, Done.passed, Done.power_lost, ReadKind, ReadKind.with_ack, ReadKind.with_nak, at, hears, reads, answering}
use Rattle.facts.proofs.DeedLaws.{goes_on}

-- a byte that is not awaited, and a read that is not: nothing moves
unheard_fits : (c : Clock) (p b : ℕ) (f : Phase) → hears f ≡ false → let d = with_bus c (record { pointer = p; phase = f }) in (deed.Unheard ≡ byte_deed d b) × (answering Nak d ≡ byte_of d b)
unfolding byte_of heard_of
unheard_fits c p b phase.Closed e = (refl, refl)
unheard_fits c p b (phase.Open Address t) e = cc
unheard_fits c p b (phase.Open Pointer t) e = cc
unheard_fits c p b (phase.Open Writing t) e = cc
unheard_fits c p b (phase.Open Reading t) e = (refl, refl)
unheard_fits c p b (phase.Open Deaf t) e = (refl, refl)

silent_fits : (c : Clock) (p : ℕ) (ack : Bool) (f : Phase) → reads f ≡ false → let d = with_bus c (record { pointer = p; phase = f }) in (deed.Silent ≡ read_deed d.bus) × (answering (Byte 0xFF) d ≡ read_of d ack)
unfolding read_of reading.read_of
silent_fits c p ack phase.Closed e = (refl, refl)
silent_fits c p ack (phase.Open Address t) e = (refl, refl)
silent_fits c p ack (phase.Open Pointer t) e = (refl, refl)
silent_fits c p ack (phase.Open Writing t) e = (refl, refl)
silent_fits c p ack (phase.Open Reading t) e = cc
silent_fits c p ack (phase.Open Deaf t) e = (refl, refl)

-- a read's deed and result are those of its kind
read_fits : (c : Clock) {kind : ℕ} (b n : ℕ) {ack : Bool} {d : Deed} {a : Answered} → ReadKind kind ack → (d ≡ read_deed c.bus) × (a ≡ read_of c ack) → (d ≡ event_deed c kind b) × (a ≡ event_of c kind b n)
unfolding event_deed event_of
read_fits c b n with_ack x = x
read_fits c b n with_nak x = x

not_both : (x y : Bool) → ((x ≡ true) × (y ≡ true) → ⊥) → x && y ≡ false
not_both true true h = absurd (h (refl, refl))
not_both true false h = refl
not_both false y h = refl

-- a row's deed and result are the event's
row_fits : {c : Clock} {kind b n : ℕ} {d : Deed} {a : Answered} → Done c kind b n d a → (d ≡ event_deed c kind b) × (a ≡ event_of c kind b n)
unfolding event_deed event_of stopped_of byte_of heard_of write_of read_of reading.read_of shown_of renewed_of
row_fits (opened k o) = simp (k, o) (refl, refl)
row_fits (repeated k o) = simp (k, o) (refl, refl)
row_fits {c} (idle k o) = simp (k, o, not_both (arst_of c.control.ctr3) false (λ both. true≢false (sym both.1))) (refl, refl)
row_fits {c} (closed {t = t} k o x) = simp (k, o, not_both (arst_of c.control.ctr3) t.marked x) (refl, refl)
row_fits (cleared k o x) = simp (k, o, x.0, x.1) (refl, refl)
row_fits (to_write k o e) = simp (k, o, e) (refl, refl)
row_fits (to_read k o e) = simp (k, o, e) (refl, refl)
row_fits {b = b} (elsewhere k o e f) = simp (k, o, ne_eqb b 0x64 e, ne_eqb b 0x65 f) (refl, refl)
row_fits {b = b} (pointed k o h) = simp (k, o, lt-ltb b 0x20 h) (refl, refl)
row_fits {b = b} (beyond k o h) = simp (k, o, le-ltb b 0x20 h) (refl, refl)
row_fits (stored k o e) = simp (k, o, e) (refl, refl)
row_fits (lost k o e) = simp (k, o, e) (refl, refl)
row_fits {c} {b = b} (unheard k e) = simp k (unheard_fits c (at c) b c.bus.phase e)
row_fits {c} {b = b} {n = n} (latched k o h) = read_fits c b n k (simp (o, lt-ltb (at c) 0x07 h, goes_on (at c) h) (refl, refl))
row_fits {c} {b = b} {n = n} (sent k o h e) = read_fits c b n k (simp (o, le-ltb (at c) 0x07 h, ne_eqb (next_of (at c)) 0x00 e) (refl, refl))
row_fits {c} {b = b} {n = n} (renewed k o h e) = read_fits c b n k (simp (o, le-ltb (at c) 0x07 h, e) (refl, refl))
row_fits {c} {b = b} {n = n} (silent {ack} k e) = read_fits c b n k (silent_fits c (at c) ack c.bus.phase e)
row_fits (passed k) = simp k (refl, refl)
row_fits (power_lost k) = simp k (refl, refl)

-- one event has one deed and one result
pub one_deed : {c : Clock} {kind b n : ℕ} {d e : Deed} {v w : Answered} → Done c kind b n d v → Done c kind b n e w → (d ≡ e) × (v ≡ w)
one_deed x y = ((row_fits x).0 ∙ sym (row_fits y).0, (row_fits x).1 ∙ sym (row_fits y).1)
