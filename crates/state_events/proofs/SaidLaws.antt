-- The number that is told of an event, read back, says what the chip's step says. Assumes nothing.
use mathlib.Core.Path.{◌≡◌, refl, ◌∙◌}
use Prim.Native.Nat.{ℕ, ◌<◌}
use native.Mathlib.Omega.{arith}
use lib.Dec.{eqb}
use Rattle.fields.proofs.Picked.{picked}
use Rattle.events.specs.declared.answer.Answer.{Answer}
use Rattle.events.specs.declared.answer.Answer.TheVariants.{Quiet, Ack, Nak, Byte}
use Rattle.events.specs.Answer.{text_of}
use Rattle.sd2068.specs.declared.clock.Clock.{Clock}
use Rattle.sd2068.specs.declared.answers.Answered.{Answered}
use Rattle.sd2068.specs.Pin.{pin_of}
use Rattle.sd2068.specs.Step.{refusal_of, step_of}
use Rattle.state_events.specs.Said.{answer_byte, answer_number, told_of, refusal_in, pin_in, byte_in, answer_in, text_by, text_in, said_in, said_of}
use Rattle.state_events.specs.Event.{answered_of, done_of}
use Rattle.state_events.proofs.ByteLaws.{Small, answer_byte_lem, pin_byte, refusal_byte}

-- the parts of what is told are had back from it
pub told_refusal : (n p : ℕ) (a : Answer) → n < 256 → refusal_in (told_of n p a) ≡ n
told_refusal n p a h = omega arith

-- its answer and byte stand for the two characters of the answer
pub text_back : (a : Answer) → text_by (answer_number a) (answer_byte a) ≡ text_of a
text_back Quiet = refl
text_back Ack = refl
text_back Nak = refl
text_back (Byte b) = refl

module _ (n p : ℕ) (a : Answer) (hn : n < 256) (hp : p < 256) (ha : answer_byte a < 256) where
  pub told_byte : byte_in (told_of n p a) ≡ answer_byte a
  told_byte = omega arith

  pub said_back : said_in (told_of n p a) ≡ record { refusal = n; answer = text_of a; pin = p }
  said_back =
      let answer : answer_in (told_of n p a) ≡ answer_number a = omega arith in
      let pin : pin_in (told_of n p a) ≡ p = omega arith in
      let text : text_in (told_of n p a) ≡ text_of a = (λ i. text_by (answer i) (told_byte i)) ∙ text_back a in
      λ i. record { refusal = told_refusal n p a hn i; answer = text i; pin = pin i }

-- so what is told of an event says what the chip's step says
answered_byte : (c : Clock) → Small c → (kind byte count : ℕ) → answer_byte (answered_of c kind byte count).answer < 256
answered_byte c s kind byte count =
    picked (λ (a : Answered). answer_byte a.answer < 256) (eqb (refusal_of c kind byte count) 0) (answer_byte_lem c s kind byte count) (omega arith)

pub done_says : (c : Clock) → Small c → (kind byte count : ℕ) → said_in (done_of c kind byte count).told ≡ said_of (step_of c kind byte count)
unfolding done_of step_of
done_says c s kind byte count =
    let a = answered_of c kind byte count in
    said_back (refusal_of c kind byte count) (pin_of a.clock) a.answer (refusal_byte c kind byte count) (pin_byte a.clock) (answered_byte c s kind byte count)
