-- An alarm rings where its match begins, over register numbers. (rules 5.1 and 5.5)
use Rattle.std.specs.Prelude.{◌≡◌, true, false, cond, ℕ, ◌-◌, ◌%◌, ltb}
use Rattle.calendar.specs.declared.time.Time.{Time}
use Rattle.calendar.specs.Advance.{advance_of}
use Rattle.sd2068.specs.declared.clock.Clock.{Clock}
use Rattle.sd2068.specs.Reading.{register_of}
use Rattle.promises.specs.Registers.{bit, Inner, inner_of, seven_from}
use Rattle.promises.specs.Pulsed.{matches_at, ends}

-- the time just before its advance, and after it
abbrev pub time_before : (ℕ → ℕ) → Time
time_before r = seven_from 0x00 r

abbrev pub time_next : (ℕ → ℕ) → Time
time_next r = advance_of (time_before r)

-- the alarm is judged: the pulse ends the second, and INTAE is 1
pub record Judged (r : ℕ → ℕ) (i : Inner) : Type 0 where
  pub ended : ends r i ≡ true
  pub intae : bit 1 (r 0x10) ≡ true

-- it is judged, 0Eh enables some field, and those that it enables match after the time's advance
pub record Matched (r : ℕ → ℕ) (i : Inner) : Type 0 where
  pub ended : ends r i ≡ true
  pub intae : bit 1 (r 0x10) ≡ true
  pub enabled : r 0x0E ≡ 0 → ⊥
  pub after : matches_at r (time_next r) ≡ true

-- a match begins: so it is, and just before the advance they did not match, by the same registers
pub record Begins (r : ℕ → ℕ) (i : Inner) : Type 0 where
  pub ended : ends r i ≡ true
  pub intae : bit 1 (r 0x10) ≡ true
  pub enabled : r 0x0E ≡ 0 → ⊥
  pub after : matches_at r (time_next r) ≡ true
  pub before : matches_at r (time_before r) ≡ false

-- a state inside a match
abbrev pub Matching : Clock → Type 0
Matching c = matches_at (register_of c) (time_before (register_of c)) ≡ true

-- n pulses from c to d without a ring: INTAF is as it was, and a pin pulse has come n pulses closer to its end
pub record Silent (c d : Clock) (n : ℕ) : Type 0 where
  pub intaf : bit 5 (register_of d 0x0F) ≡ bit 5 (register_of c 0x0F)
  pub pulse : (inner_of d).alarm_pulse ≡ (inner_of c).alarm_pulse - n

-- the sheet's alarm by year, month, day and hour: 8 in the evening of 2008-08-08, the hour as the time's mode writes it
pub record Evening (r : ℕ → ℕ) : Type 0 where
  pub enable : r 0x0E ≡ 0x74
  pub year : r 0x0D ≡ 0x08
  pub month : r 0x0C ≡ 0x08
  pub day : r 0x0B ≡ 0x08
  pub hour : r 0x09 % 64 ≡ cond (ltb (r 0x02) 0x80) 0x28 0x20
