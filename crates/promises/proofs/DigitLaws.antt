-- The bytes that a board's reads tell are those that their texts show, so an id is taken from them as from the texts. Assumes nothing.
use Rattle.std.proofs.Common.{◌≡◌, refl, sym, ap, ◌∙◌, Bool, true, false, cond, true≢false, List, [], ◌∷◌, map, ℕ, ◌/◌, ◌%◌, ◌<◌, arith, eqb, ltb, ltb→lt, get_or}
use Rattle.std.proofs.lemmas.Grind.{common_steps}
use Rattle.fields.proofs.Below.{each}
use Rattle.calendar.specs.declared.time.Time.{Time}
use Rattle.calendar.proofs.MomentLaws.{number_moment}
use Rattle.registers.specs.Seven.{bytes_of}
use Rattle.hand.specs.Span.{Legal}
use Rattle.events.specs.declared.event.Event.{Event}
use Rattle.events.specs.declared.answer.Answer.TheVariants.{Byte}
use Rattle.events.specs.Answer.{digit_of, text_of}
use Rattle.sd2068.specs.Run.{read_by}
use Rattle.state_events.specs.Said.{answer_in, byte_in, text_in, said_in}
use Rattle.sd2068_abi.specs.Said.{reads_said}
use Rattle.state_events.proofs.ByteLaws.{AllBytes}
use Rattle.promises.specs.Ledger.{byte_read}
use Rattle.promises.specs.Board.{bytes_in}
use Rattle.promises.proofs.LedgerLaws.{hours_small, read_byte}

-- no digit is the - of --, nor the K of AK and NK
past_dash : (b : ℕ) → b < 256 → 45 < digit_of (b / 16)
past_dash b h = ltb→lt 45 (digit_of (b / 16)) (each (λ (k : ℕ). ltb 45 (digit_of (k / 16))) 256 tt b h)

before_k : (b : ℕ) → b < 256 → digit_of (b % 16) < 75
before_k b h = ltb→lt (digit_of (b % 16)) 75 (each (λ (k : ℕ). ltb (digit_of (k % 16)) 75) 256 tt b h)

-- a text of two digits tells its byte
module _ (x b : ℕ) (small : b < 256) where
  first_of : (l : List ℕ) → l ≡ text_of (Byte b) → get_or l 0 0 ≡ digit_of (b / 16)
  first_of l e = ap (λ (k : List ℕ). get_or k 0 0) e

  second_of_lem : (l : List ℕ) → l ≡ text_of (Byte b) → get_or l 1 0 ≡ digit_of (b % 16)
  second_of_lem l e = ap (λ (k : List ℕ). get_or k 1 0) e

  byte_by_lem : (p q r : Bool) → cond p (45 ∷ 45 ∷ []) (cond q (65 ∷ 75 ∷ []) (cond r (78 ∷ 75 ∷ []) (text_of (Byte x)))) ≡ text_of (Byte b) → x < 256 → x ≡ b
  byte_by_lem true q r e h = absurd (omega (arith, past_dash b small, first_of _ e))
  byte_by_lem false true r e h = absurd (omega (arith, before_k b small, second_of_lem _ e))
  byte_by_lem false false true e h = absurd (omega (arith, before_k b small, second_of_lem _ e))
  byte_by_lem false false false e h = sym (read_byte x h) ∙ ap byte_read e ∙ read_byte b small

text_byte : (n b : ℕ) → b < 256 → text_in n ≡ text_of (Byte b) → byte_in n ≡ b
text_byte n b small e = byte_by_lem (byte_in n) b small (eqb (answer_in n) 0) (eqb (answer_in n) 1) (eqb (answer_in n) 2) e (omega arith)

-- a list that has something is not empty
abbrev is_nil : {A : Type 0} → List A → Bool
is_nil [] = true
is_nil (x ∷ l) = false

pub no_nil : {A : Type 0} {x : A} {l : List A} → [] ≡ x ∷ l → ⊥
no_nil e = true≢false (ap is_nil e)

abbrev texts : List ℕ → List (List ℕ)
texts bs = map (λ b. text_of (Byte b)) bs

nothing : (bs : List ℕ) → [] ≡ texts bs → [] ≡ bs
nothing [] e = refl
nothing (b ∷ bs) e = absurd (no_nil e)

-- calls whose texts are those of bytes tell these bytes
one_read :
    (n : ℕ) (bs : List ℕ) (rest : List (List ℕ)) (told : List ℕ) → AllBytes bs → text_in n ∷ rest ≡ texts bs
    → ((cs : List ℕ) → AllBytes cs → rest ≡ texts cs → told ≡ cs) → byte_in n ∷ told ≡ bs
one_read n bs rest told small e go = grind (arith, common_steps, text_byte)

by_read :
    (read : Bool) (n : ℕ) (bs : List ℕ) (rest : List (List ℕ)) (told : List ℕ) → AllBytes bs → cond read (text_in n ∷ rest) rest ≡ texts bs
    → ((cs : List ℕ) → AllBytes cs → rest ≡ texts cs → told ≡ cs) → cond read (byte_in n ∷ told) told ≡ bs
by_read true n bs rest told small e go = one_read n bs rest told small e go
by_read false n bs rest told small e go = go bs small e

pub reads_bytes : (es : List Event) (ns bs : List ℕ) → AllBytes bs → reads_said es (map said_in ns) ≡ texts bs → bytes_in es ns ≡ bs
unfolding reads_said bytes_in
reads_bytes [] ns bs small e = nothing bs e
reads_bytes (q ∷ es) [] bs small e = nothing bs e
reads_bytes (q ∷ es) (n ∷ ns) bs small e =
    by_read (read_by q) n bs (reads_said es (map said_in ns)) (bytes_in es ns) small e (λ cs x y. reads_bytes es ns cs x y)

-- the bytes of a legal time
pub time_small : (t : Time) (k : ℕ) → Legal t k → AllBytes (bytes_of t)
time_small t k l =
    let m = number_moment t k l.number in
    AllBytes.more {x = t.seconds} (omega (arith, m.clock.seconds.tens))
    (AllBytes.more {x = t.minutes} (omega (arith, m.clock.minutes.tens))
    (AllBytes.more (hours_small t.hours m.clock.hours)
    (AllBytes.more {x = t.weekday} (omega (arith, l.weekday))
    (AllBytes.more {x = t.day} (omega (arith, m.date.day.tens))
    (AllBytes.more {x = t.month} (omega (arith, m.date.month.tens)) (AllBytes.more {x = t.year} (omega (arith, m.date.year.tens)) AllBytes.none))))))
