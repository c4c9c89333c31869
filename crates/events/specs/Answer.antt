-- What an answer says. (rule 8.1)
use Rattle.std.specs.Prelude.{Bool, cond, List, [], ◌∷◌, ℕ, ◌+◌, ◌/◌, ◌%◌, ltb}
use Rattle.events.specs.declared.answer.Answer.{Answer}
use Rattle.events.specs.declared.answer.Answer.TheVariants.{Quiet, Ack, Nak, Byte}

-- acknowledged or not
abbrev pub acknowledged : Bool → Answer
acknowledged ack = cond ack Ack Nak

-- the character of a hexadecimal digit, in upper case
abbrev pub digit_of : ℕ → ℕ
digit_of d = cond (ltb d 10) (48 + d) (55 + d)

-- the two characters of an answer: none, acknowledged, not acknowledged, a byte that was read
abbrev pub text_of : Answer → List ℕ
text_of Quiet = 45 ∷ 45 ∷ []
text_of Ack = 65 ∷ 75 ∷ []
text_of Nak = 78 ∷ 75 ∷ []
text_of (Byte b) = digit_of (b / 16) ∷ digit_of (b % 16) ∷ []
