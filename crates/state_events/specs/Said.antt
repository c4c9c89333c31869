-- What is told of an event in one number, and how it is read back. (rule 10.5)
use Rattle.std.specs.Prelude.{cond, List, [], ◌∷◌, ℕ, ◌+◌, ◌*◌, ◌/◌, ◌%◌, eqb}
use Rattle.events.specs.declared.answer.Answer.{Answer}
use Rattle.events.specs.declared.answer.Answer.TheVariants.{Quiet, Ack, Nak, Byte}
use Rattle.events.specs.Answer.{digit_of}
use Rattle.sd2068.specs.Step.{Told}

-- the answer by its number: none, acknowledged, not acknowledged, a byte that was read
abbrev pub answer_number : Answer → ℕ
answer_number Quiet = 0
answer_number Ack = 1
answer_number Nak = 2
answer_number (Byte b) = 3

-- the byte that was read; 0 where none was
abbrev pub answer_byte : Answer → ℕ
answer_byte Quiet = 0
answer_byte Ack = 0
answer_byte Nak = 0
answer_byte (Byte b) = b

-- four bytes from the low one
abbrev pub four_of : ℕ → ℕ → ℕ → ℕ → ℕ
four_of a b c d = a + 256 * b + 65536 * c + 16777216 * d

-- refusal, pin, byte and answer
abbrev pub told_of : ℕ → ℕ → Answer → ℕ
told_of refusal pin answer = four_of refusal pin (answer_byte answer) (answer_number answer)

-- the parts of what is told
abbrev pub refusal_in : ℕ → ℕ
refusal_in n = n % 256

abbrev pub pin_in : ℕ → ℕ
pin_in n = n / 256 % 256

abbrev pub byte_in : ℕ → ℕ
byte_in n = n / 65536 % 256

abbrev pub answer_in : ℕ → ℕ
answer_in n = n / 16777216

-- the two characters that an answer with its byte stands for: none, ACK, NAK, or the digits of the byte
abbrev pub text_by : ℕ → ℕ → List ℕ
text_by answer byte =
    cond (eqb answer 0) (45 ∷ 45 ∷ [])
    (cond (eqb answer 1) (65 ∷ 75 ∷ [])
    (cond (eqb answer 2) (78 ∷ 75 ∷ [])
    (digit_of (byte / 16) ∷ digit_of (byte % 16) ∷ [])))

abbrev pub text_in : ℕ → List ℕ
text_in n = text_by (answer_in n) (byte_in n)

-- what a step says beside its state
pub record Said : Type 0 where
  pub refusal : ℕ
  pub answer : List ℕ
  pub pin : ℕ

-- by the number that is told
abbrev pub said_in : ℕ → Said
said_in n = record { refusal = refusal_in n; answer = text_in n; pin = pin_in n }

-- by the chip's step
abbrev pub said_of : Told → Said
said_of t = record { refusal = t.refusal; answer = t.answer; pin = t.pin }
