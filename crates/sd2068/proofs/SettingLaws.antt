-- A setting leaves what the registers keep of the bytes sent, and a counter that began anew with the seconds. Assumes nothing.
use Rattle.std.proofs.Common.{◌≡◌, refl, sym, ap, ap₂, ◌∙◌, subst, Bool, true, false, cond, List, [], ◌∷◌, ◌++◌, ℕ, zero, suc, ◌+◌, ◌≤◌, ◌<◌, add-zero, arith, ltb, lt-ltb}
use Rattle.std.proofs.lemmas.Bool.Decides.{nat_tests}
use Rattle.calendar.specs.declared.time.Time.{Time}
use Rattle.calendar.specs.Repeat.{times}
use Rattle.registers.specs.Fixed.{kept_of}
use Rattle.registers.specs.Seven.{with_byte_of}
use Rattle.hand.specs.declared.hand.Hand.{Hand}
use Rattle.hand.specs.Hand as hand
use Rattle.hand.specs.Hand.{ticked_of}
use Rattle.hand.proofs.StoredLaws.{stored_second, stored_later}
use Rattle.hand.proofs.SpanLaws.{few_ticks, ticks_trim}
use Rattle.control.specs.Lock.{written_of}
use Rattle.bus.specs.declared.phase.Mode.{Mode}
use Rattle.bus.specs.declared.phase.Mode.TheVariants.{Address, Pointer, Writing}
use Rattle.bus.specs.declared.phase.Transfer.{Transfer}
use Rattle.bus.specs.declared.phase.Phase.{Phase}
use Rattle.bus.specs.declared.phase.Phase.TheVariants.{Closed, Open}
use Rattle.bus.specs.declared.phase.Bus.{Bus}
use Rattle.bus.specs.Phase.{started_in, older_of}
use Rattle.bus.proofs.AgeLaws.{stays_open}
use Rattle.bus.proofs.UnheardLaws.{at, sends}
use Rattle.events.specs.declared.event.Event.{Event}
use Rattle.sd2068.specs.declared.clock.Clock.{Clock}
use Rattle.sd2068.specs.declared.answers.Answered.{Answered}
use Rattle.sd2068.specs.Reading.{control_at_of, register_of}
use Rattle.sd2068.specs.Writing.{stores_of, write_of}
use Rattle.sd2068.specs.Pulse.{pulses_of}
use Rattle.sd2068.specs.Transfer.{started_of}
use Rattle.sd2068.specs.Step.{event_of}
use Rattle.sd2068.proofs.GroupLaws.{pulses_hand, pulses_bus, pulses_lock}
use Rattle.sd2068.specs.Run.{Machine, start, byte, taken_of, event, after, pulses_in, read_by, spoken}
use Rattle.sd2068.specs.Kept.{Unlocked, kept_time_of, Pointed, Setting, age_of, Pointing, set_by}
use Rattle.sd2068.proofs.PhaseLaws.{hears_write, hears_pointer, hears_data}
use Rattle.sd2068.proofs.UnheardLaws.{read_unheard}
use Rattle.sd2068.proofs.SpeechLaws.{Stage, Leads, Path, Path.here as here, Path.then as then, spaced, walk}

-- pulses within the time that a transfer has age it, and do nothing else to the bus
older_many :
    (p : ℕ) (m : Mode) (a : ℕ) (marked : Bool) (n : ℕ) → a + n < 16384
    → times (λ (b : Bus). older_of b 1) n (at p m (record { age = a; marked = marked })) ≡ at p m (record { age = a + n; marked = marked })
unfolding times
older_many p m a marked zero h = ap (λ (x : ℕ). at p m (record { age = x; marked = marked })) (sym (add-zero a))
older_many p m a marked (suc n) h =
    ap (λ (b : Bus). older_of b 1) (older_many p m a marked n (omega arith)) ∙ stays_open p m (record { age = a + n; marked = marked }) 1 (omega arith)
    ∙ ap (λ (x : ℕ). at p m (record { age = x; marked = marked })) (omega arith)

-- a transfer of age a, in a mode, at a pointer
pub record Listening (m : Mode) (p a : ℕ) (c : Clock) : Type 0 where
  pub marked : Bool
  pub bus : c.bus ≡ at p m (record { age = a; marked = marked })

abbrev pub transfer_of : {m : Mode} {p a : ℕ} {c : Clock} → Listening m p a c → Transfer
transfer_of {a} h = record { age = a; marked = h.marked }

pub listening_on : {m : Mode} {p a : ℕ} {c : Clock} → Listening m p a c → (n : ℕ) → a + n < 16384 → Listening m p (a + n) (pulses_of c n)
listening_on {m} {p} {a} {c} h n l =
    record { marked = h.marked; bus = pulses_bus n c ∙ ap (times (λ (b : Bus). older_of b 1) n) h.bus ∙ older_many p m a h.marked n l }

same_lock : {c d : Clock} → d.lock ≡ c.lock → Unlocked c → Unlocked d
same_lock e u =
    record {
      wrtc1 = ap (λ l. l.wrtc1) e ∙ u.wrtc1;
      wrtc2 = ap (λ l. l.wrtc2) e ∙ u.wrtc2;
      wrtc3 = ap (λ l. l.wrtc3) e ∙ u.wrtc3;
    }

-- before the seconds byte
record Before (trim : ℕ) (m : Mode) (p a : ℕ) (c : Clock) : Type 0 where
  listening : Listening m p a c
  unlocked : Unlocked c
  trimmed : c.hand.trim ≡ trim

abbrev before : (trim : ℕ) (m : Mode) → sends m ≡ false → ℕ → Stage read_by
before trim m quiet p =
    record {
      Holds = Before trim m p;
      waits = λ a n c h l.
          record {
            listening = listening_on h.listening n l;
            unlocked = same_lock (pulses_lock n c) h.unlocked;
            trimmed = ap (λ (x : Hand). x.trim) (pulses_hand n c) ∙ ticks_trim n c.hand ∙ h.trimmed;
          };
      ignores = λ a c e h r. read_unheard c p (transfer_of h.listening) e m quiet h.listening.bus r;
    }

-- the time t as far as its first i bytes are set, over an older one
abbrev mixed : ℕ → Time → Time → Time
mixed i t old =
    record {
      seconds = cond (ltb 0 i) t.seconds old.seconds;
      minutes = cond (ltb 1 i) t.minutes old.minutes;
      hours = cond (ltb 2 i) t.hours old.hours;
      weekday = cond (ltb 3 i) t.weekday old.weekday;
      day = cond (ltb 4 i) t.day old.day;
      month = cond (ltb 5 i) t.month old.month;
      year = cond (ltb 6 i) t.year old.year;
    }

-- after i bytes, the first of which came at the age s
record Set (t : Time) (trim s i a : ℕ) (c : Clock) : Type 0 where
  listening : Listening Writing i a c
  unlocked : Unlocked c
  old : Time
  passed : ℕ
  hand : c.hand ≡ record { time = mixed i t old; counter = passed; trim = trim }
  since : s + passed ≡ a

abbrev set : Time → ℕ → ℕ → ℕ → Stage read_by
set t trim s i =
    record {
      Holds = Set t trim s i;
      waits = λ a n c h l.
          record {
            listening = listening_on h.listening n l;
            unlocked = same_lock (pulses_lock n c) h.unlocked;
            old = h.old;
            passed = h.passed + n;
            hand =
                pulses_hand n c ∙ ap (times ticked_of n) h.hand
                ∙ few_ticks (record { time = mixed i t h.old; counter = h.passed; trim = trim }) n (omega (arith, h.since));
            since = omega (arith, h.since);
          };
      ignores = λ a c e h r. read_unheard c i (transfer_of h.listening) e Writing refl h.listening.bus r;
    }

-- a byte at a register below 0Fh, with the lock open, is stored there and leaves the lock
module _ (c : Clock) (a b : ℕ) (low : a < 0x0F) (u : Unlocked c) where
  same : written_of c.lock a b ≡ c.lock
  unfolding written_of
  same = grind (arith, nat_tests)

  is_stored : stores_of c a b ≡ true
  is_stored = rw same (simp (u.wrtc1, u.wrtc2, u.wrtc3))

  stored_hand : (write_of c a b).hand ≡ hand.stored_of c.hand a b
  unfolding write_of
  stored_hand = ap (λ (s : Bool). cond s (hand.stored_of c.hand a b) c.hand) is_stored

  stored_lock : (write_of c a b).lock ≡ c.lock
  unfolding write_of
  stored_lock = same

clock_of_lem : {r s : Answered} → r ≡ s → r.clock ≡ s.clock
clock_of_lem e = ap (λ (r : Answered). r.clock) e

-- 64h and then 00h lead to the first register
to_pointer : (trim p : ℕ) → Leads read_by (before trim Address refl p) (byte 0x64) [] (before trim Pointer refl p)
unfolding event_of
to_pointer trim p =
    record {
      goes = λ a c h.
          subst (Before trim Pointer p a) (sym (clock_of_lem (hears_write c p (transfer_of h.listening) h.listening.bus)))
          (record { listening = record { marked = h.listening.marked; bus = refl }; unlocked = same_lock refl h.unlocked; trimmed = h.trimmed });
      says = λ a c rest h. refl;
    }

to_writing : (trim p : ℕ) → Leads read_by (before trim Pointer refl p) (byte 0x00) [] (before trim Writing refl 0)
unfolding event_of
to_writing trim p =
    record {
      goes = λ a c h.
          subst (Before trim Writing 0 a) (sym (clock_of_lem (hears_pointer c p (transfer_of h.listening) h.listening.bus)))
          (record { listening = record { marked = h.listening.marked; bus = refl }; unlocked = same_lock refl h.unlocked; trimmed = h.trimmed });
      says = λ a c rest h. refl;
    }

module _ (t : Time) (trim : ℕ) where
  -- the seconds begin the second anew
  seconds_set : (b : ℕ) → kept_of 0x00 b ≡ t.seconds → (a : ℕ) (c : Clock) → Before trim Writing 0 a c → Set t trim a 1 a (taken_of c (byte b)).clock
  unfolding event_of with_byte_of
  seconds_set b kept a c h =
      subst (Set t trim a 1 a) (sym (clock_of_lem (hears_data c 0 (transfer_of h.listening) b h.listening.bus)))
      (record {
        listening = record { marked = h.listening.marked; bus = refl };
        unlocked = same_lock (stored_lock c 0 b (omega arith) h.unlocked) h.unlocked;
        old = c.hand.time;
        passed = 0;
        hand =
            stored_hand c 0 b (omega arith) h.unlocked
            ∙ stored_second c.hand b
            ∙ ap₂ (λ (x : ℕ) (f : ℕ). record { time = with_byte_of c.hand.time 0 x; counter = 0; trim = f }) kept h.trimmed;
        since = omega arith;
      })

  -- each byte after them leaves the counter
  module _ (s i b : ℕ) (from : 1 ≤ i) (to : i < 7) (mix : (old : Time) → with_byte_of (mixed i t old) i (kept_of i b) ≡ mixed (i + 1) t old) where
    stored_next : (h : Hand) (old : Time) (n : ℕ) → h ≡ record { time = mixed i t old; counter = n; trim = trim } → hand.stored_of h i b ≡ record { time = mixed (i + 1) t old; counter = n; trim = trim }
    stored_next h old n e =
        ap (λ (x : Hand). hand.stored_of x i b) e ∙ stored_later (record { time = mixed i t old; counter = n; trim = trim }) i b from to
        ∙ ap (λ (x : Time). record { time = x; counter = n; trim = trim }) (mix old)

    next_set : Leads read_by (set t trim s i) (byte b) [] (set t trim s (i + 1))
    unfolding event_of
    next_set =
        record {
          goes = λ a c h.
              subst (Set t trim s (i + 1) a) (sym (clock_of_lem (hears_data c i (transfer_of h.listening) b h.listening.bus)))
              (record {
                listening =
                    record {
                      marked = h.listening.marked;
                      bus = ap (λ (p : ℕ). at p Writing (transfer_of h.listening)) (simp (lt-ltb i 0x1F (omega arith)));
                    };
                unlocked = same_lock (stored_lock c i b (omega arith) h.unlocked) h.unlocked;
                old = h.old;
                passed = h.passed;
                hand = stored_hand c i b (omega arith) h.unlocked ∙ stored_next c.hand h.old h.passed h.hand;
                since = h.since;
              });
          says = λ a c rest h. refl;
        }

-- the six bytes after the seconds, of which the registers keep those of the time
six_set :
    (sent : Time) (trim s : ℕ)
    → Path read_by (set (kept_time_of sent) trim s 1)
    (byte sent.minutes ∷ byte sent.hours ∷ byte sent.weekday ∷ byte sent.day ∷ byte sent.month ∷ byte sent.year ∷ []) [] (set (kept_time_of sent) trim s 7)
unfolding with_byte_of
six_set sent trim s =
    let t = kept_time_of sent in
    then (next_set t trim s 1 sent.minutes (omega arith) (omega arith) (λ old. refl))
    (then (next_set t trim s 2 sent.hours (omega arith) (omega arith) (λ old. refl))
    (then (next_set t trim s 3 sent.weekday (omega arith) (omega arith) (λ old. refl))
    (then (next_set t trim s 4 sent.day (omega arith) (omega arith) (λ old. refl))
    (then (next_set t trim s 5 sent.month (omega arith) (omega arith) (λ old. refl))
    (then (next_set t trim s 6 sent.year (omega arith) (omega arith) (λ old. refl)) here)))))

-- events one list after the other
pub after_add : (m : Machine) (c : Clock) (es fs : List Event) → after m c (es ++ fs) ≡ after m (after m c es) fs
unfolding after
after_add m c [] fs = refl
after_add m c (e ∷ es) fs = after_add m (m c e).state es fs

-- the hand that a setting leaves
module _ (c : Clock) (t : Time) (s : Setting c t) where
  abbrev age : ℕ
  age = s.pointed.transfer.age

  first : Before c.hand.trim Writing 0 age c
  first =
      record {
        listening =
            record {
              marked = s.pointed.transfer.marked;
              bus = λ i. record { pointer = s.pointed.pointer i; phase = s.pointed.writes i };
            };
        unlocked = s.pointed.unlocked;
        trimmed = refl;
      }

  all_set : Set (kept_time_of s.sent) c.hand.trim age 7 (age + pulses_in s.rest) (after event c (set_by s))
  unfolding after
  all_set =
      (walk (spaced read_by _ s.rest s.six) (six_set s.sent c.hand.trim age) age (taken_of c (byte s.sent.seconds)).clock
      (seconds_set (kept_time_of s.sent) c.hand.trim s.sent.seconds refl age c first) s.timely).holds

  pub set_hand : (after event c (set_by s)).hand ≡ record { time = t; counter = pulses_in s.rest; trim = c.hand.trim }
  set_hand =
      all_set.hand
      ∙ (λ i. record { time = s.kept i; counter = all_set.passed; trim = c.hand.trim })
      ∙ ap (λ (n : ℕ). record { time = t; counter = n; trim = c.hand.trim }) (omega (arith, all_set.since))

-- START goes on with an open transfer, or opens a new one
started_in_lem : (f : Phase) → (marked : Bool) × (started_in f ≡ Open Address (record { age = age_of f; marked = marked }))
started_in_lem Closed = (false, refl)
started_in_lem (Open m t) = (t.marked, refl)

begun : (c : Clock) → Unlocked c → Before c.hand.trim Address c.bus.pointer (age_of c.bus.phase) (started_of c)
begun c u =
    let f = started_in_lem c.bus.phase in
    record {
      listening = record { marked = f.0; bus = ap (λ (x : Phase). record { pointer = c.bus.pointer; phase = x }) f.1 };
      unlocked = same_lock refl u;
      trimmed = refl;
    }

-- START, 64h and 00h lead to where a time is set
module _ (c : Clock) (s : Pointing c) where
  abbrev there : Clock
  there = after event c (start ∷ s.pointing)

  arrives : Before c.hand.trim Writing 0 (age_of c.bus.phase + pulses_in s.pointing) there
  unfolding after event_of
  arrives =
      (walk (spaced read_by _ s.pointing s.points) (then (to_pointer c.hand.trim c.bus.pointer) (then (to_writing c.hand.trim c.bus.pointer) here))
      (age_of c.bus.phase) (started_of c) (begun c s.unlocked) s.timely).holds

  -- as old as it was and the pulses on the way, and the trim as it was
  pub start_points : (p : Pointed there) × ((p.transfer.age ≡ age_of c.bus.phase + pulses_in s.pointing) × (register_of there 0x12 ≡ register_of c 0x12))
  unfolding register_of control_at_of
  start_points = (
    record {
      transfer = transfer_of arrives.listening;
      writes = ap (λ (b : Bus). b.phase) arrives.listening.bus;
      pointer = ap (λ (b : Bus). b.pointer) arrives.listening.bus;
      unlocked = arrives.unlocked;
    },
    (refl, arrives.trimmed),
  )

  -- and the seven bytes after them, sent in time, are a setting
  pub start_sets :
      (t sent : Time) → kept_time_of sent ≡ t → (rest : List Event)
      → spoken read_by rest ≡ byte sent.minutes ∷ byte sent.hours ∷ byte sent.weekday ∷ byte sent.day ∷ byte sent.month ∷ byte sent.year ∷ []
      → age_of c.bus.phase + (pulses_in s.pointing + pulses_in rest) < 16384 → Setting there t
  start_sets t sent kept rest six timely =
      record { pointed = start_points.0; sent = sent; kept = kept; rest = rest; six = six; timely = omega (arith, start_points.1.0, timely) }
