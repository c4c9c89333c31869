-- Every public contract of this crate settles its result. Assumes nothing.
use Rattle.std.proofs.Common.{◌≡◌, refl, ap, cond, List, ℕ, ◌+◌, ◌-◌, ◌*◌, arith, get_or, eqb, ltb, Option, Some, None, Result, Ok, Err, false}
use Rattle.std.proofs.lemmas.Bool.Decides.{nat_tests}
use Rattle.fields.proofs.Settles.{Settles, settled}
use Rattle.events.specs.declared.answer.Answer.{Answer}
use Rattle.events.specs.declared.answer.Answer.TheVariants as answer
use Rattle.events.specs.declared.refusal.Refusal.{Refusal}
use Rattle.events.specs.declared.refusal.Refusal.TheVariants as refusal
use Rattle.events.specs.declared.event.Event.{Event}
use Rattle.events.specs.declared.kind.Kind.{Kind}
use Rattle.events.specs.declared.kind.Kind.TheVariants as kind
use Rattle.events.specs.Kind.{event_of, Tried, tried}
use Rattle.events.specs.Answer.{text_of}
use Rattle.events.specs.Refusal.{number_of, option_number, result_number}
use Rattle.events.proofs.answer.Answer.text.Kinds as text_kinds
use Rattle.events.proofs.answer.Answer.text.Reads as text_reads
use Rattle.events.proofs.refusal.Refusal.number.Kinds as number_kinds
use Rattle.events.proofs.refusal.Refusal.number.Reads as number_reads
use Rattle.events.proofs.kind.fault.Kinds as fault_kinds
use Rattle.events.proofs.kind.fault.Reads as fault_reads
use Rattle.events.proofs.answer.AnswerFromBool.from.Kinds as from_kinds
use Rattle.events.proofs.answer.AnswerFromBool.from.Reads as from_reads
use Rattle.events.proofs.kind.EventFromKind.from.Kinds as event_kinds
use Rattle.events.proofs.kind.EventFromKind.from.Reads as event_reads
use Rattle.events.proofs.kind.KindTryFromEvent.try_from.Kinds as kind_kinds
use Rattle.events.proofs.kind.KindTryFromEvent.try_from.Reads as kind_reads

-- a refusal can be had back from its number
abbrev pub refusal_back : ℕ → Refusal
refusal_back n =
    cond (eqb n 1) refusal.State
    (cond (eqb n 2) refusal.Kind
    (cond (eqb n 3) refusal.Field
    (cond (eqb n 4) refusal.Short
    (cond (eqb n 5) refusal.Section
    (cond (eqb n 6) refusal.Start
    (cond (eqb n 7) refusal.Output refusal.Long))))))

pub refusal_again : (x : Refusal) → refusal_back (number_of x) ≡ x
refusal_again refusal.State = refl
refusal_again refusal.Kind = refl
refusal_again refusal.Field = refl
refusal_again refusal.Short = refl
refusal_again refusal.Section = refl
refusal_again refusal.Start = refl
refusal_again refusal.Output = refl
refusal_again refusal.Long = refl

-- a digit from its character
abbrev digit_back : ℕ → ℕ
digit_back x = cond (ltb x 58) (x - 48) (x - 55)

-- an answer from its two characters: K and - are no digits
abbrev answer_from : ℕ → ℕ → Answer
answer_from x y =
    cond (eqb y 75) (cond (eqb x 65) answer.Ack answer.Nak)
    (cond (eqb y 45) answer.Quiet (answer.Byte (digit_back x * 16 + digit_back y)))

abbrev pub answer_back : List ℕ → Answer
answer_back l = answer_from (get_or l 0 0) (get_or l 1 0)

pub answer_again : (x : Answer) → answer_back (text_of x) ≡ x
answer_again answer.Quiet = refl
answer_again answer.Ack = refl
answer_again answer.Nak = refl
answer_again (answer.Byte b) = grind (arith, nat_tests)

-- no refusal has the number of none
pub number_not0 : (x : Refusal) → eqb (number_of x) 0 ≡ false
number_not0 refusal.State = refl
number_not0 refusal.Kind = refl
number_not0 refusal.Field = refl
number_not0 refusal.Short = refl
number_not0 refusal.Section = refl
number_not0 refusal.Start = refl
number_not0 refusal.Output = refl
number_not0 refusal.Long = refl

abbrev pub option_back : ℕ → Option Refusal
option_back n = cond (eqb n 0) None (Some (refusal_back n))

pub option_again : (x : Option Refusal) → option_back (option_number x) ≡ x
option_again None = refl
option_again (Some x) = simp (number_not0 x, refusal_again x)

-- a result from its number, and from what it holds where it is no refusal
abbrev pub result_back : {T : Type 0} → T → ℕ → Result T Refusal
result_back x n = cond (eqb n 0) (Ok x) (Err (refusal_back n))

pub result_again : {T : Type 0} (x : T) (r : Result T Refusal) → ((y : T) → r ≡ Ok y → x ≡ y) → result_back x (result_number r) ≡ r
result_again x (Ok y) same = ap Ok (same y refl)
result_again x (Err r) same = simp (number_not0 r, refusal_again r)

-- a kind from its event
abbrev kind_back : Event → Kind
kind_back e =
    cond (eqb e.kind 0) kind.Start
    (cond (eqb e.kind 1) kind.Stop
    (cond (eqb e.kind 2) (kind.Byte e.byte)
    (cond (eqb e.kind 3) kind.ReadAck
    (cond (eqb e.kind 4) kind.ReadNak
    (cond (eqb e.kind 5) (kind.Pulses e.count) kind.PowerLoss)))))

pub kind_again : (x : Kind) → kind_back (event_of x) ≡ x
kind_again kind.Start = refl
kind_again kind.Stop = refl
kind_again (kind.Byte b) = refl
kind_again kind.ReadAck = refl
kind_again kind.ReadNak = refl
kind_again (kind.Pulses n) = refl
kind_again kind.PowerLoss = refl

-- a kind, or its refusal, from what is told of it
abbrev tried_kind : ℕ → Option Event → Result Kind Refusal
tried_kind n None = Err (refusal_back n)
tried_kind n (Some e) = Ok (kind_back e)

abbrev pub tried_back : Tried → Result Kind Refusal
tried_back t = tried_kind t.refusal t.event

pub tried_again : (r : Result Kind Refusal) → tried_back (tried r) ≡ r
tried_again (Ok k) = ap Ok (kind_again k)
tried_again (Err r) = ap Err (refusal_again r)

pub text_settles : Settles 0 text_kinds.ps text_kinds.r text_reads.Post
text_settles κs a e f x y = settled (λ z. z) (λ z. z) (λ z. refl)

pub number_settles : Settles 0 number_kinds.ps number_kinds.r number_reads.Post
number_settles κs a e f x y = settled (λ z. z) (λ z. z) (λ z. refl)

pub fault_settles : Settles 0 fault_kinds.ps fault_kinds.r fault_reads.Post
fault_settles κs a e f x y = settled result_number (result_back tt) (λ r. result_again tt r (λ z o. refl))

pub acknowledged_settles : Settles 0 from_kinds.ps from_kinds.r from_reads.Post
acknowledged_settles κs a e f x y = settled (λ z. z) (λ z. z) (λ z. refl)

pub event_settles : Settles 0 event_kinds.ps event_kinds.r event_reads.Post
event_settles κs a e f x y = settled (λ z. z) (λ z. z) (λ z. refl)

pub kind_settles : Settles 0 kind_kinds.ps kind_kinds.r kind_reads.Post
kind_settles κs a e f x y = settled tried tried_back tried_again
