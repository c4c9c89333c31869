-- Power leaves what its view says: at a loss of the time and the RAM there, at power-on of the start bytes. Assumes nothing.
use Rattle.std.proofs.Common.{◌≡◌, refl, ap, ◌∙◌, Bool, true, false, cond, List, ℕ, ◌+◌, ◌-◌, ◌≤◌, ◌<◌, arith, eqb, ltb, length, get_or, ltb-true, ne_eqb, lt-ltb, le-ltb}
use Rattle.std.proofs.lemmas.Grind.{common_steps}
use Rattle.calendar.specs.declared.time.Time.{Time}
use Rattle.registers.specs.Fixed.{clear_time_of}
use Rattle.registers.specs.Seven.{byte_at_of}
use Rattle.control.specs.Lock.{ctr1_of, ctr2_of}
use Rattle.sd2068.specs.declared.clock.Clock.{Clock}
use Rattle.sd2068.specs.Power.{powered_of, lost_of, start_time, start_ram, start_of, Power, power_on_of}
use Rattle.sd2068.specs.Reading.{control_at_of, register_of}
use Rattle.sd2068.proofs.ListedLaws.{none, ◌also◌}
use Rattle.promises.specs.Registers.{view_of}
use Rattle.promises.specs.Seen.{powered_at, powered_view, start_at}
use Rattle.promises.proofs.RegisterLaws.{by_rows}

-- a choice of two that are the same
either : (b : Bool) (x : ℕ) → cond b x x ≡ x
either true x = refl
either false x = refl

-- the RAM and, past it, no register
abbrev ram_at : List ℕ → ℕ → ℕ
ram_at ram a = cond (ltb a 0x20) (get_or ram (a - 0x14) 0) 0xFF

-- what power leaves, where the time and the RAM are those of r
module _ (time : Time) (ram : List ℕ) (r : ℕ → ℕ) (low : (a : ℕ) → a < 0x07 → byte_at_of time a ≡ r a) (rest : (a : ℕ) → 0x14 ≤ a → ram_at ram a ≡ r a) where
  -- register a then
  abbrev Powered : ℕ → Type 0
  Powered a = register_of (powered_of time ram) a ≡ powered_at r a

  time_row : (a : ℕ) → a < 0x07 → Powered a
  unfolding register_of powered_of powered_at
  time_row a h = simp (lt-ltb a 0x07 h) (low a h)

  fields_row : (a : ℕ) → 0x07 ≤ a → a < 0x0E → Powered a
  unfolding register_of byte_at_of powered_of powered_at
  fields_row a l h = simp (le-ltb a 0x07 l, lt-ltb a 0x0E h, lt-ltb a 0x14 (omega arith), ne_eqb a 0x0F (λ e. omega arith), either)

  rest_row : (a : ℕ) → 0x14 ≤ a → Powered a
  unfolding register_of powered_of powered_at
  rest_row a h = simp (le-ltb a 0x07 (omega arith), le-ltb a 0x0E (omega arith), le-ltb a 0x14 h) (rest a h)

  powered_at_lem : (a : ℕ) → Powered a
  unfolding register_of control_at_of ctr1_of ctr2_of powered_of powered_at
  powered_at_lem = by_rows Powered time_row fields_row refl refl refl refl refl refl rest_row

  powered_view_lem : view_of (powered_of time ram) ≡ powered_view r
  unfolding powered_of powered_view
  powered_view_lem = grind (arith, common_steps, powered_at_lem)

pub lost_view : (c : Clock) → view_of (lost_of c) ≡ powered_view (register_of c)
unfolding register_of
lost_view c = grind (arith, common_steps, powered_view_lem)

-- of three power-ons the one that is not refused
accepted :
    (count clear : Bool) (x y z : Power) → x.refusal ≡ 0 → y.refusal ≡ 6 → z.refusal ≡ 5 →
    (cond count (cond clear x y) z).refusal ≡ 0 → (cond count (cond clear x y) z).state ≡ x.state
accepted count clear x y z e h p q = grind (arith, common_steps)

-- the start bytes
module _ (s : List ℕ) where
  start_time_lem : (a : ℕ) → a < 0x07 → byte_at_of (start_time s) a ≡ get_or s a 0
  unfolding byte_at_of
  start_time_lem = (none (λ (a : ℕ). byte_at_of (start_time s) a ≡ get_or s a 0) also refl also refl also refl also refl also refl also refl also refl).each

  start_ram_lem : (i : ℕ) → i < 12 → get_or (start_ram s) i 0 ≡ get_or s (i + 7) 0
  start_ram_lem =
      (none (λ (i : ℕ). get_or (start_ram s) i 0 ≡ get_or s (i + 7) 0)
      also refl also refl also refl also refl also refl also refl also refl also refl also refl also refl also refl also refl).each

  start_low : (a : ℕ) → a < 0x07 → byte_at_of (start_time s) a ≡ start_at s a
  unfolding start_at
  start_low a h = simp (lt-ltb a 0x07 h) (start_time_lem a h)

  ram_by : (a : ℕ) → 0x14 ≤ a → (high : Bool) → ltb a 0x20 ≡ high → cond high (get_or (start_ram s) (a - 0x14) 0) 0xFF ≡ cond high (get_or s (a - 0x14 + 7) 0) 0xFF
  ram_by a h true e = start_ram_lem (a - 0x14) (omega (arith, ltb-true a 0x20 e))
  ram_by a h false e = refl

  start_rest : (a : ℕ) → 0x14 ≤ a → ram_at (start_ram s) a ≡ start_at s a
  unfolding start_at
  start_rest a h = simp (le-ltb a 0x07 (omega arith)) (ram_by a h (ltb a 0x20) refl)

  start_view : view_of (start_of s) ≡ powered_view (start_at s)
  start_view = powered_view_lem (start_time s) (start_ram s) (start_at s) start_low start_rest

  -- a power-on that is not refused leaves them
  pub power_on_view : (power_on_of s).refusal ≡ 0 → view_of (power_on_of s).state ≡ powered_view (start_at s)
  unfolding power_on_of
  power_on_view e = ap view_of (accepted (eqb (length s) 19) (clear_time_of (start_time s)) _ _ _ refl refl refl e) ∙ start_view
