-- The refusals' numbers, and rows 2 and 3. (rules 8.1 and 8.3)
use Rattle.std.specs.Prelude.{Bool, cond, ◌&&◌, not, ℕ, eqb, ltb, Option, Some, None, Result, Ok, Err}
use Rattle.events.specs.declared.event.Event.{Event}
use Rattle.events.specs.declared.refusal.Refusal.{Refusal}
use Rattle.events.specs.declared.refusal.Refusal.TheVariants as refusal

-- the number of a refusal
abbrev pub number_of : Refusal → ℕ
number_of refusal.State = 1
number_of refusal.Kind = 2
number_of refusal.Field = 3
number_of refusal.Short = 4
number_of refusal.Section = 5
number_of refusal.Start = 6
number_of refusal.Output = 7
number_of refusal.Long = 8

-- the number of a refusal, if any; 0 is none
abbrev pub option_number : Option Refusal → ℕ
option_number None = 0
option_number (Some r) = number_of r

-- the same of a result that may be a refusal
abbrev pub result_number : {T : Type 0} → Result T Refusal → ℕ
result_number (Ok x) = 0
result_number (Err r) = number_of r

-- the byte is kind 2's and the count kind 5's, where it is not 0; what a kind does not use is 0
abbrev pub fields_of : ℕ → ℕ → ℕ → Bool
fields_of kind byte count =
    cond (eqb kind 2) (eqb count 0)
    (cond (eqb kind 5) (eqb byte 0 && not (eqb count 0))
    (eqb byte 0 && eqb count 0))

-- 2 for a kind over 6, then 3 for its fields; 0 is none
abbrev pub fault_of : ℕ → ℕ → ℕ → ℕ
fault_of kind byte count = cond (ltb kind 7) (cond (fields_of kind byte count) 0 3) 2

-- the same of an event
abbrev pub fault_in : Event → ℕ
fault_in e = fault_of e.kind e.byte e.count
