-- In a transfer that writes nothing stands still but refused events and reads, in one that reads nothing but refused events and a master's bytes. Assumes nothing.
use Rattle.std.proofs.Common.{◌≡◌, refl, sym, ap, subst, ◌∙◌, Bool, true, false, true≢false, ◌⊎◌, inl, inr, ◌↔◌, ℕ, zero, suc, ◌+◌, ◌≤◌, ◌<◌, add-zero, arith, ltb, cond, eqb, ◌&&◌}
use Rattle.std.proofs.lemmas.Bool.Decides.{nat_tests}
use native.Mathlib.Decide.{ℕ_discrete}
use Rattle.fields.proofs.Picked.{picked}
use Rattle.calendar.specs.Repeat.{times}
use Rattle.bus.specs.declared.phase.Mode.{Mode}
use Rattle.bus.specs.declared.phase.Mode.TheVariants.{Address, Pointer, Writing, Reading, Deaf}
use Rattle.bus.specs.declared.phase.Transfer.{Transfer}
use Rattle.bus.specs.declared.phase.Phase.{Phase}
use Rattle.bus.specs.declared.phase.Phase.TheVariants.{Closed, Open}
use Rattle.bus.specs.declared.phase.Bus.{Bus}
use Rattle.bus.specs.Phase.{next_of, started_in, older_in, older_of}
use Rattle.bus.proofs.UnheardLaws.{at}
use Rattle.events.specs.declared.event.Event.{Event}
use Rattle.events.specs.Refusal.{fault_of, fault_in}
use Rattle.sd2068.specs.declared.clock.Clock.{Clock}
use Rattle.sd2068.specs.declared.answers.Answered.{Answered}
use Rattle.sd2068.specs.Power.{powered_of}
use Rattle.sd2068.specs.Transfer.{stopped_of, read_of}
use Rattle.sd2068.specs.Step.{event_of}
use Rattle.sd2068.specs.Run.{event, read_by, byte_by}
use Rattle.sd2068.proofs.GroupLaws.{pulses_bus}
use Rattle.sd2068.proofs.KindLaws.{each_kind, small_kind, refused_state, good_taken}
use Rattle.sd2068.proofs.PhaseLaws.{hears_data, sends}
use Rattle.sd2068.proofs.UnheardLaws.{read_unheard, byte_unheard}

-- a transfer is open, and awaits its address
abbrev is_open : Phase → Bool
is_open Closed = false
is_open (Open m t) = true

abbrev awaits : Phase → Bool
awaits Closed = false
awaits (Open Address t) = true
awaits (Open Pointer t) = false
awaits (Open Writing t) = false
awaits (Open Reading t) = false
awaits (Open Deaf t) = false

-- a closed bus, or an open transfer that is as old as this
abbrev AsOld : ℕ → Phase → Type 0
AsOld a Closed = Unit {0}
AsOld a (Open m t) = a ≤ t.age

as_old : (a p : ℕ) (f : Phase) → AsOld a f → AsOld (a + 1) (older_in f p 1).phase
as_old a p Closed h = tt
as_old a p (Open m t) h = picked (λ (b : Bus). AsOld (a + 1) b.phase) (ltb (t.age + 1) 16384) (omega arith) tt

as_old_many : (a n : ℕ) (b : Bus) → AsOld a b.phase → AsOld (a + n) (times (λ (x : Bus). older_of x 1) n b).phase
unfolding times
as_old_many a zero b h = subst (λ (x : ℕ). AsOld x b.phase) (sym (add-zero a)) h
as_old_many a (suc n) b h =
    let x = times (λ (x : Bus). older_of x 1) n b in
    let sum : a + n + 1 ≡ a + suc n = omega arith in
    subst (λ (k : ℕ). AsOld k (older_of x 1).phase) sum (as_old (a + n) x.pointer x.phase (as_old_many a n b h))

-- the pointer never stays
steps : (p : ℕ) → next_of p ≡ p → ⊥
steps p e = grind (arith, nat_tests)

-- pulses that are not refused are some
no_pulse : (x : Bool) → cond {A = ℕ} (x && false) 0 3 ≡ 0 → ⊥
no_pulse x e = grind arith

counted : (b n : ℕ) → fault_of 5 b n ≡ 0 → 0 < n
counted b zero good = absurd (no_pulse (eqb b 0) good)
counted b (suc n) good = omega arith

-- in an open transfer that awaits no address
module _ (c : Clock) (p : ℕ) (m : Mode) (t : Transfer) (bus : c.bus ≡ at p m t) (b n : ℕ) where
  abbrev left : ℕ → Clock
  left kind = (event_of c kind b n).clock

  -- an event that leaves a closed bus has changed it
  closes : (d : Clock) → d.bus.phase ≡ Closed → d ≡ c → ⊥
  closes d shut e = true≢false (sym (ap (λ (x : Bus). is_open x.phase) bus) ∙ sym (ap (λ (x : Clock). is_open x.bus.phase) e) ∙ ap is_open shut)

  start_moves : awaits (Open m t) ≡ false → left 0 ≡ c → ⊥
  unfolding event_of
  start_moves other e =
      true≢false (sym (ap (λ (x : Bus). awaits (started_in x.phase)) bus) ∙ ap (λ (x : Clock). awaits x.bus.phase) e ∙ ap (λ (x : Bus). awaits x.phase) bus ∙ other)

  stop_moves : left 1 ≡ c → ⊥
  unfolding event_of stopped_of
  stop_moves = closes (left 1) refl

  pulses_move : 0 < n → left 5 ≡ c → ⊥
  unfolding event_of
  pulses_move some e =
      let old = as_old_many t.age n (at p m t) (omega arith) in
      let same = sym (ap (times (λ (x : Bus). older_of x 1) n) bus) ∙ sym (pulses_bus n c) ∙ ap (λ (x : Clock). x.bus) e ∙ bus in
      let late : t.age + n ≤ t.age = subst (λ (x : Bus). AsOld (t.age + n) x.phase) same old in
      omega (arith, late)

  loss_moves : left 6 ≡ c → ⊥
  unfolding event_of powered_of
  loss_moves = closes (left 6) refl

  -- what a read and a byte of the master do is left to the mode; no other event leaves the state
  module _ (other : awaits (Open m t) ≡ false) (P : ℕ → Type 0) (byte : left 2 ≡ c → P 2) (read : left 3 ≡ c → P 3) (last : left 4 ≡ c → P 4) where
    still_kind : (kind : ℕ) → fault_of kind b n ≡ 0 → left kind ≡ c → P kind
    still_kind =
        each_kind (λ (k : ℕ). fault_of k b n ≡ 0 → left k ≡ c → P k) (λ good e. absurd (start_moves other e)) (λ good e. absurd (stop_moves e))
        (λ good e. byte e) (λ good e. read e) (λ good e. last e) (λ good e. absurd (pulses_move (counted b n good) e))
        (λ k six good e. let small = small_kind k b n good in let is : k ≡ 6 = omega (arith, small) in absurd (loss_moves (ap left (sym is) ∙ e)))

-- an event by its fields
module _ (c : Clock) (e : Event) where
  abbrev Stays : Type 0
  Stays = (event c e).state ≡ c

  by_kind : fault_in e ≡ 0 → Stays → (event_of c e.kind e.byte e.count).clock ≡ c
  by_kind good stays = sym (ap (λ (r : Answered). r.clock) (good_taken e good c)) ∙ stays

  refused_or : {A : Type 0} → (Stays → fault_in e ≡ 0 → A) → Stays → (fault_in e ≡ 0 → ⊥) ⊎ A
  refused_or f stays = elim (ℕ_discrete (fault_in e) 0) [ yes good ↦ inr (f stays good) | no bad ↦ inl bad ]

  three_or_four : fault_in e ≡ 0 → (e.kind ≡ 3) ⊎ (e.kind ≡ 4) → read_by e ≡ true
  three_or_four good kind = grind (arith, nat_tests)

  -- in a transfer that writes
  module _ (t : Transfer) (writes : c.bus.phase ≡ Open Writing t) where
    abbrev p : ℕ
    p = c.bus.pointer

    there : c.bus ≡ at p Writing t
    there = ap (λ (f : Phase). record { pointer = p; phase = f }) writes

    data_moves : (event_of c 2 e.byte e.count).clock ≡ c → ⊥
    unfolding event_of
    data_moves s =
        steps p (sym (ap (λ (r : Answered). r.clock.bus.pointer) (hears_data c p t e.byte there)) ∙ ap (λ (d : Clock). d.bus.pointer) s)

    stays_read : Stays → fault_in e ≡ 0 → read_by e ≡ true
    stays_read stays good =
        three_or_four good
        (still_kind c p Writing t there e.byte e.count refl (λ (k : ℕ). (k ≡ 3) ⊎ (k ≡ 4)) (λ s. absurd (data_moves s)) (λ s. inl refl) (λ s. inr refl)
        e.kind good (by_kind good stays))

    pub still_writing : Stays ↔ ((fault_in e ≡ 0 → ⊥) ⊎ (read_by e ≡ true))
    still_writing = (refused_or stays_read, back)
      where
        back : (fault_in e ≡ 0 → ⊥) ⊎ (read_by e ≡ true) → Stays
        back (inl bad) = refused_state e bad c
        back (inr read) = read_unheard c p t e Writing refl there read

  -- in one that reads
  module _ (t : Transfer) (reads : c.bus.phase ≡ Open Reading t) where
    abbrev q : ℕ
    q = c.bus.pointer

    here : c.bus ≡ at q Reading t
    here = ap (λ (f : Phase). record { pointer = q; phase = f }) reads

    read_moves : (ack : Bool) → (read_of c ack).clock ≡ c → ⊥
    read_moves ack s =
        steps q (sym (ap (λ (r : Answered). r.clock.bus.pointer) (sends c q t ack here)) ∙ ap (λ (d : Clock). d.bus.pointer) s)

    stays_byte : Stays → fault_in e ≡ 0 → byte_by e ≡ true
    unfolding event_of
    stays_byte stays good =
        let two : e.kind ≡ 2 =
        still_kind c q Reading t here e.byte e.count refl (λ (k : ℕ). k ≡ 2) (λ s. refl) (λ s. absurd (read_moves true s)) (λ s. absurd (read_moves false s))
        e.kind good (by_kind good stays) in
        grind (arith, nat_tests)

    pub still_reading : Stays ↔ ((fault_in e ≡ 0 → ⊥) ⊎ (byte_by e ≡ true))
    still_reading = (refused_or stays_byte, back)
      where
        back : (fault_in e ≡ 0 → ⊥) ⊎ (byte_by e ≡ true) → Stays
        back (inl bad) = refused_state e bad c
        back (inr byte) = byte_unheard c q t e here byte
