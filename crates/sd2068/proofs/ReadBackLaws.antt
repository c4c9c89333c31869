-- Seven reads show the latched bytes one after the other, whatever the time does meanwhile. Assumes nothing.
use Rattle.std.proofs.Common.{◌≡◌, refl, sym, ap, ◌∙◌, subst, Bool, true, false, cond, ◌||◌, List, [], ◌∷◌, ◌++◌, ◌⊎◌, inl, inr, ℕ, ◌+◌, ◌<◌, arith, get_or, ne_eqb, lt-ltb}
use Rattle.std.proofs.lemmas.Bool.Decides.{nat_tests}
use Rattle.calendar.specs.declared.time.Time.{Time}
use Rattle.registers.specs.Seven.{bytes_of}
use Rattle.bus.specs.declared.phase.Mode.TheVariants.{Reading}
use Rattle.bus.specs.declared.phase.Transfer.{Transfer}
use Rattle.bus.specs.Phase.{next_of}
use Rattle.bus.specs.Reads.{marks_of}
use Rattle.bus.proofs.UnheardLaws.{at}
use Rattle.events.specs.declared.event.Event.{Event}
use Rattle.events.specs.declared.answer.Answer.TheVariants.{Ack, Byte}
use Rattle.events.specs.Answer.{text_of}
use Rattle.sd2068.specs.declared.clock.Clock.{Clock}
use Rattle.sd2068.specs.declared.answers.Answered.{Answered}
use Rattle.sd2068.specs.Clock.{with_bus}
use Rattle.sd2068.specs.Reading.{shown_of}
use Rattle.sd2068.specs.Transfer.{latched_of, renewed_of, read_of}
use Rattle.sd2068.specs.Step.{event_of}
use Rattle.sd2068.proofs.GroupLaws.{pulses_latched}
use Rattle.sd2068.specs.Kept as kept
use Rattle.sd2068.specs.Run.{Machine, byte, ack, nak, taken_of, event, after, pulses_in, read_by, byte_by, reads_of}
use Rattle.sd2068.specs.Kept.{shown_by}
use Rattle.sd2068.proofs.PhaseLaws.{hears_read, sends}
use Rattle.sd2068.proofs.UnheardLaws.{byte_unheard, no_read}
use Rattle.sd2068.proofs.SpeechLaws.{Stage, Leads, Path, Path.here as here, Path.then as then, Arrives, spaced, walk}
use Rattle.sd2068.proofs.SettingLaws.{Listening, transfer_of, listening_on}

-- the chip reads at register i, and u is latched
record Latched (u : Time) (i a : ℕ) (c : Clock) : Type 0 where
  listening : Listening Reading i a c
  latched : c.latched ≡ bytes_of u

abbrev latched : Time → ℕ → Stage byte_by
latched u i =
    record {
      Holds = Latched u i;
      waits = λ a n c h l. record { listening = listening_on h.listening n l; latched = pulses_latched n c ∙ h.latched };
      ignores = λ a c e h r. byte_unheard c i (transfer_of h.listening) e h.listening.bus r;
    }

-- the two characters of byte i
abbrev character : Time → ℕ → List ℕ
character u i = text_of (Byte (get_or (bytes_of u) i 0))

module _ (u : Time) (i : ℕ) (low : i < 7) where
  next_one : next_of i ≡ i + 1
  next_one = grind (arith, nat_tests)

  latch_kept : (c : Clock) → (renewed_of c i).latched ≡ c.latched
  unfolding renewed_of
  latch_kept c = rw next_one (simp (ne_eqb (i + 1) 0x00 (λ e. omega arith)))

  shown_latched : (c : Clock) → c.latched ≡ bytes_of u → shown_of c i ≡ get_or (bytes_of u) i 0
  unfolding shown_of
  shown_latched c e = simp (lt-ltb i 0x07 low, e)

  -- either kind of read answers with the latched byte
  read_answer : (more : Bool) (a : ℕ) (c : Clock) → Latched u i a c → text_of (read_of c more).answer ≡ character u i
  read_answer more a c h =
      let t : Transfer = record { age = a; marked = h.listening.marked } in
      ap (λ (r : Answered). text_of r.answer) (sends c i t more h.listening.bus) ∙ ap (λ (b : ℕ). text_of (Byte b)) (shown_latched c h.latched)

  -- and one with ACK goes on to the next
  next_read : Leads byte_by (latched u i) ack (character u i ∷ []) (latched u (i + 1))
  unfolding event_of
  next_read =
      record {
        goes = λ a c h.
            let t : Transfer = record { age = a; marked = h.listening.marked } in
            subst (Latched u (i + 1) a) (sym (ap (λ (r : Answered). r.clock) (sends c i t true h.listening.bus)))
            (record {
              listening =
                  record {
                    marked = marks_of i || h.listening.marked;
                    bus = ap (λ (p : ℕ). at p Reading (record { age = a; marked = marks_of i || h.listening.marked })) next_one;
                  };
              latched = latch_kept c ∙ h.latched;
            });
        says = λ a c rest h. ap (λ (x : List ℕ). x ∷ rest) (read_answer true a c h);
      }

-- reads of one list after the other
with_read : (b : Bool) (x : List ℕ) (l k f : List (List ℕ)) → l ≡ k ++ f → cond b (x ∷ l) l ≡ cond b (x ∷ k) k ++ f
with_read true x l k f e = ap (λ (y : List (List ℕ)). x ∷ y) e
with_read false x l k f e = e

pub reads_add : (m : Machine) (c : Clock) (es fs : List Event) → reads_of m c (es ++ fs) ≡ reads_of m c es ++ reads_of m (after m c es) fs
unfolding after reads_of
reads_add m c [] fs = refl
reads_add m c (e ∷ es) fs =
    with_read (read_by e) (m c e).answer (reads_of m (m c e).state (es ++ fs)) (reads_of m (m c e).state es) (reads_of m (after m (m c e).state es) fs)
    (reads_add m (m c e).state es fs)

-- six reads with ACK, and what they show
abbrev first_six : Time → List (List ℕ)
first_six u = character u 0 ∷ character u 1 ∷ character u 2 ∷ character u 3 ∷ character u 4 ∷ character u 5 ∷ []

six_read : (u : Time) → Path byte_by (latched u 0) (ack ∷ ack ∷ ack ∷ ack ∷ ack ∷ ack ∷ []) (first_six u) (latched u 6)
six_read u =
    then (next_read u 0 (omega arith))
    (then (next_read u 1 (omega arith))
    (then (next_read u 2 (omega arith))
    (then (next_read u 3 (omega arith)) (then (next_read u 4 (omega arith)) (then (next_read u 5 (omega arith)) here)))))

-- and one more with ACK or NAK
last_read : (u : Time) (a : ℕ) (c : Clock) (e : Event) → (e ≡ ack) ⊎ (e ≡ nak) → Latched u 6 a c → reads_of event c (e ∷ []) ≡ character u 6 ∷ []
unfolding reads_of event_of
last_read u a c e (inl x) h = rw x (ap (λ (y : List ℕ). y ∷ []) (read_answer u 6 (omega arith) true a c h))
last_read u a c e (inr x) h = rw x (ap (λ (y : List ℕ). y ∷ []) (read_answer u 6 (omega arith) false a c h))

module _ (c : Clock) (r : kept.Reading c) where
  abbrev u : Time
  u = c.hand.time

  abbrev listens : Clock
  listens = with_bus (latched_of c) (at 0x00 Reading r.transfer)

  heard : taken_of c (byte 0x65) ≡ record { clock = listens; answer = Ack }
  unfolding event_of
  heard = hears_read c 0x00 r.transfer (λ i. record { pointer = r.pointer i; phase = r.awaits i })

  arrives : Arrives (latched u 6) r.transfer.age listens r.reads (first_six u)
  arrives =
      walk (spaced byte_by _ r.reads r.six) (six_read u) r.transfer.age listens
      (record { listening = record { marked = r.transfer.marked; bus = refl }; latched = refl }) r.timely

  pub read_acknowledged : (event c (byte 0x65)).answer ≡ text_of Ack
  read_acknowledged = ap (λ (x : Answered). text_of x.answer) heard

  -- the reading shows the time as it is at 65h
  pub read_shown : reads_of event (event c (byte 0x65)).state (r.reads ++ (r.last ∷ [])) ≡ shown_by u
  read_shown =
      ap (λ (x : Answered). reads_of event x.clock (r.reads ++ (r.last ∷ []))) heard
      ∙ reads_add event listens r.reads (r.last ∷ [])
      ∙ ap (λ (l : List (List ℕ)). l ++ reads_of event (after event listens r.reads) (r.last ∷ [])) (arrives.reads no_read)
      ∙ ap (λ (l : List (List ℕ)). first_six u ++ l)
      (last_read u (r.transfer.age + pulses_in r.reads) (after event listens r.reads) r.last r.seventh arrives.holds)
