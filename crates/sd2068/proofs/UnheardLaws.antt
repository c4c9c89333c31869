-- Which events change nothing in an open transfer: refused ones, reads where the chip does not read, and a master's bytes where it does. Assumes nothing.
use Rattle.std.proofs.Common.{◌≡◌, refl, sym, ap, ◌∙◌, Bool, true, false, ◌||◌, ℕ, arith, eqb, eqb-true}
use Rattle.std.proofs.lemmas.Bool.Decides.{nat_tests}
use Rattle.bus.specs.declared.phase.Mode.{Mode}
use Rattle.bus.specs.declared.phase.Mode.TheVariants.{Reading}
use Rattle.bus.specs.declared.phase.Transfer.{Transfer}
use Rattle.bus.proofs.UnheardLaws as bus
use Rattle.bus.proofs.UnheardLaws.{at, sends}
use Rattle.events.specs.declared.event.Event.{Event}
use Rattle.events.specs.declared.answer.Answer.TheVariants.{Nak}
use Rattle.events.specs.Refusal.{fault_in}
use Rattle.sd2068.specs.declared.clock.Clock.{Clock}
use Rattle.sd2068.specs.declared.answers.Answered.{Answered}
use Rattle.sd2068.specs.Clock.{with_bus}
use Rattle.sd2068.specs.Transfer.{byte_of, read_of}
use Rattle.sd2068.specs.Step.{event_of}
use Rattle.sd2068.specs.Run.{taken_of, read_by, byte_by}
use Rattle.sd2068.proofs.KindLaws.{good_taken}

module _ (c : Clock) (p : ℕ) (t : Transfer) where
  -- where the chip does not send, a read leaves the state
  unread : (m : Mode) → sends m ≡ false → (ack : Bool) → c.bus ≡ at p m t → (read_of c ack).clock ≡ c
  unfolding read_of
  unread m quiet ack e = simp (e, bus.unread p t m quiet ack)

  -- where it sends, a master's byte does
  not_heard : (b : ℕ) → c.bus ≡ at p Reading t → byte_of c b ≡ record { clock = with_bus c (at p Reading t); answer = Nak }
  unfolding byte_of
  not_heard b e = simp (e, bus.not_heard p t b)

  unheard : (b : ℕ) → c.bus ≡ at p Reading t → (byte_of c b).clock ≡ c
  unheard b e = ap (λ (r : Answered). r.clock) (not_heard b e) ∙ ap (with_bus c) (sym e)

module _ (c : Clock) (p : ℕ) (t : Transfer) (e : Event) where
  read_by_lem : (three : Bool) → eqb e.kind 3 ≡ three → (m : Mode) → sends m ≡ false → c.bus ≡ at p m t → fault_in e ≡ 0 → three || eqb e.kind 4 ≡ true → (taken_of c e).clock ≡ c
  unfolding event_of
  read_by_lem true k m quiet at good x =
      ap (λ (r : Answered). r.clock) (good_taken e good c ∙ ap (λ (n : ℕ). event_of c n e.byte e.count) (eqb-true e.kind 3 k)) ∙ unread c p t m quiet true at
  read_by_lem false k m quiet at good x =
      ap (λ (r : Answered). r.clock) (good_taken e good c ∙ ap (λ (n : ℕ). event_of c n e.byte e.count) (eqb-true e.kind 4 x)) ∙ unread c p t m quiet false at

  pub read_unheard : (m : Mode) → sends m ≡ false → c.bus ≡ at p m t → read_by e ≡ true → (taken_of c e).clock ≡ c
  read_unheard m quiet at r =
      read_by_lem (eqb e.kind 3) refl m quiet at (grind (arith, nat_tests)) (grind (arith, nat_tests))

  pub byte_unheard : c.bus ≡ at p Reading t → byte_by e ≡ true → (taken_of c e).clock ≡ c
  unfolding event_of
  byte_unheard at r =
      let good : fault_in e ≡ 0 = grind (arith, nat_tests) in
      let two : e.kind ≡ 2 = grind (arith, nat_tests) in
      ap (λ (x : Answered). x.clock) (good_taken e good c ∙ ap (λ (n : ℕ). event_of c n e.byte e.count) two) ∙ unheard c p t e.byte at

-- a master's byte is no read
pub no_read : (e : Event) → byte_by e ≡ true → read_by e ≡ false
no_read e r = grind (arith, nat_tests)
