-- Traffic moves the hand by its pulses alone: a write elsewhere, or one that the lock keeps out, leaves it. Assumes nothing.
use Rattle.std.proofs.Common.{◌≡◌, refl, sym, ap, ◌∙◌, Bool, true, false, cond, List, ◌⊎◌, inl, inr, ℕ, ◌<◌, arith, eqb, ltb, eq-eqb}
use native.Mathlib.Decide.{ℕ_discrete, dec_lt}
use Rattle.fields.proofs.Picked.{picked}
use Rattle.calendar.specs.Repeat.{times}
use Rattle.hand.specs.Hand as hand
use Rattle.hand.specs.Hand.{ticked_of}
use Rattle.hand.proofs.SpanLaws.{times_add}
use Rattle.hand.proofs.StoredLaws.{hand_kept}
use Rattle.control.specs.Lock.{open_of}
use Rattle.bus.specs.declared.phase.Mode.TheVariants.{Address, Pointer, Writing, Reading, Deaf}
use Rattle.bus.specs.declared.phase.Transfer.{Transfer}
use Rattle.bus.specs.declared.phase.Phase.{Phase}
use Rattle.bus.specs.declared.phase.Phase.TheVariants.{Closed, Open}
use Rattle.bus.specs.declared.bytes.Heard.{Heard}
use Rattle.bus.specs.Bytes.{heard_by, heard_of}
use Rattle.events.specs.declared.event.Event.{Event}
use Rattle.events.specs.Refusal.{fault_of, fault_in}
use Rattle.sd2068.specs.declared.clock.Clock.{Clock}
use Rattle.sd2068.specs.declared.answers.Answered.{Answered}
use Rattle.sd2068.specs.Writing.{stores_of, write_of}
use Rattle.sd2068.specs.Transfer.{stopped_of, effected_by, byte_of}
use Rattle.sd2068.specs.Step.{event_of}
use Rattle.sd2068.proofs.GroupLaws.{read_alone, pulses_hand}
use Rattle.sd2068.specs.Run.{taken_of, event, after, pulses_by, pulses_in}
use Rattle.sd2068.specs.Kept.{Unlocked, PowerLoss, Stores, Spares, Spares.none as none, Spares.more as more}
use Rattle.sd2068.proofs.KindLaws.{each_kind, small_kind, refused_state, refused_pulses, good_taken}

-- the lock is open by its three bits
pub open_unlocked : (c : Clock) → open_of c.lock ≡ true → Unlocked c
open_unlocked c o = record { wrtc1 = grind arith; wrtc2 = grind arith; wrtc3 = grind arith }

-- a byte that is stored finds it open
unlocked : (c : Clock) (a b : ℕ) → stores_of c a b ≡ true → Unlocked c
unlocked c a b e = open_unlocked c (grind arith)

-- a byte written at a that is neither the time's nor the trim's, or that finds the lock closed
module _ (c : Clock) (a b : ℕ) (spared : Unlocked c → (a < 0x07) ⊎ (a ≡ 0x12) → ⊥) where
  elsewhere : Unlocked c → hand.stored_of c.hand a b ≡ c.hand
  elsewhere u =
      elim (dec_lt a 0x07) [
        | yes l ↦ absurd (spared u (inl l))
        | no l ↦ hand_kept c.hand a b (omega arith) (λ e. spared u (inr e))
      ]

  stored_by_lem : (stores : Bool) → stores_of c a b ≡ stores → cond stores (hand.stored_of c.hand a b) c.hand ≡ c.hand
  stored_by_lem true e = elsewhere (unlocked c a b e)
  stored_by_lem false e = refl

  write_hand : (write_of c a b).hand ≡ c.hand
  unfolding write_of
  write_hand = stored_by_lem (stores_of c a b) refl

-- a byte, by the phase in which it comes
module _ (c : Clock) (b : ℕ) where
  abbrev Leaves : Heard → Type 0
  Leaves h = (effected_by h.effect c b).hand ≡ c.hand

  heard_hand : (f : Phase) → ((t : Transfer) → f ≡ Open Writing t → Unlocked c → (c.bus.pointer < 0x07) ⊎ (c.bus.pointer ≡ 0x12) → ⊥) → Leaves (heard_by f c.bus.pointer b)
  heard_hand Closed spared = refl
  heard_hand (Open Address t) spared = picked Leaves (eqb b 0x64) refl (picked Leaves (eqb b 0x65) refl refl)
  heard_hand (Open Pointer t) spared = picked Leaves (ltb b 0x20) refl refl
  heard_hand (Open Writing t) spared = write_hand c c.bus.pointer b (spared t refl)
  heard_hand (Open Reading t) spared = refl
  heard_hand (Open Deaf t) spared = refl

module _ (c : Clock) (byte count : ℕ) where
  -- a byte of the master that may come to a stored one at 00h to 06h or 12h does not
  abbrev Spared : Type 0
  Spared = (t : Transfer) → c.bus.phase ≡ Open Writing t → Unlocked c → (c.bus.pointer < 0x07) ⊎ (c.bus.pointer ≡ 0x12) → ⊥

  abbrev Moves : ℕ → Type 0
  Moves kind =
      fault_of kind byte count ≡ 0 → (kind ≡ 6 → ⊥) → (kind ≡ 2 → Spared) → (event_of c kind byte count).clock.hand ≡ times ticked_of (cond (eqb kind 5) count 0) c.hand

  byte_hand : Spared → (byte_of c byte).clock.hand ≡ c.hand
  unfolding byte_of heard_of
  byte_hand spared = heard_hand c byte c.bus.phase spared

  moves : (kind : ℕ) → Moves kind
  unfolding event_of stopped_of times
  moves =
      each_kind Moves (λ good loss spared. refl) (λ good loss spared. refl)
      (λ good loss spared. byte_hand (spared refl))
      (λ good loss spared. ap (λ (d : Clock). d.hand) (read_alone c true))
      (λ good loss spared. ap (λ (d : Clock). d.hand) (read_alone c false))
      (λ good loss spared. pulses_hand count c)
      (λ k six good loss spared. absurd (loss (omega (arith, small_kind k byte count good))))

-- an event, refused or not
pub event_hand : (c : Clock) (e : Event) → (PowerLoss e → ⊥) → (Stores c e → ⊥) → (taken_of c e).clock.hand ≡ times ticked_of (pulses_by e) c.hand
unfolding times
event_hand c e loss stores =
    elim (ℕ_discrete (fault_in e) 0) [
      | yes good ↦
          ap (λ (r : Answered). r.clock.hand) (good_taken e good c)
          ∙ moves c e.byte e.count e.kind good (λ six. loss (record { good = good; kind = six }))
          (λ two t f u p. stores (record { good = good; kind = two; transfer = t; writes = f; unlocked = u; place = p }))
          ∙ ap (λ (b : Bool). times ticked_of (cond b (cond (eqb e.kind 5) e.count 0) 0) c.hand) (sym (eq-eqb (fault_in e) 0 good))
      | no bad ↦
          ap (λ (d : Clock). d.hand) (refused_state e bad c) ∙ ap (λ (n : ℕ). times ticked_of n c.hand) (sym (refused_pulses e bad))
    ]

-- all of the traffic
pub traffic_hand : {c : Clock} {es : List Event} → Spares event c es → (after event c es).hand ≡ times ticked_of (pulses_in es) c.hand
unfolding after pulses_in times
traffic_hand none = refl
traffic_hand (more {c} {e} {es} loss stores rest) =
    traffic_hand rest ∙ ap (times ticked_of (pulses_in es)) (event_hand c e loss stores) ∙ times_add ticked_of (pulses_by e) (pulses_in es) c.hand
