-- A state is well formed exactly if it is as refusal 1's row lists it. Assumes nothing.
use Rattle.std.proofs.Common.{◌≡◌, refl, Bool, true, false, ◌||◌, not, ℕ, ◌+◌, ◌≤◌, ◌<◌, arith, eqb, eqb→eq, get_or, below_none, below_more, eqb-true, eq-eqb, true≢false}
use Rattle.std.proofs.lemmas.Bool.Decides.{nat_tests}
use Rattle.fields.proofs.Bits.{each_bit}
use Rattle.registers.specs.Fixed.{kept_ctr1, kept_time, kept_alarm, kept_control, kept_of, clear_of, clear_time_of}
use Rattle.registers.specs.Seven.{byte_at_of}
use Rattle.registers.proofs.FixedLaws.{time_bytes_lem}
use Rattle.control.specs.Lock as lock
use Rattle.control.specs.Lock.{ctr1_of}
use Rattle.control.specs.Control as control
use Rattle.control.proofs.BitLaws.{ctr1}
use Rattle.bus.specs.declared.phase.Mode.{Mode}
use Rattle.bus.specs.declared.phase.Transfer.{Transfer}
use Rattle.bus.specs.declared.phase.Phase.{Phase}
use Rattle.bus.specs.declared.phase.Phase.TheVariants.{Closed, Open}
use Rattle.bus.specs.declared.phase.Bus.{Bus}
use Rattle.bus.proofs.WellLaws as bus_laws
use Rattle.bus.proofs.WellLaws.{shut, opened}
use Rattle.sd2068.specs.declared.clock.Clock.{Clock}
use Rattle.sd2068.specs.Power.{start_time}
use Rattle.sd2068.specs.Reading.{control_at_of, register_of}
use Rattle.sd2068.specs.WellFormed.{well_formed_of, Listed}
use Rattle.sd2068.proofs.WellLaws.{Well, parts, whole}

-- what holds of the first n numbers, one more at a time
pub record First (P : ℕ → Type 0) (n : ℕ) : Type 0 where
  pub each : (k : ℕ) → k < n → P k

pub none : (P : ℕ → Type 0) → First P 0
none P = record { each = below_none P }

infixl 20 ◌also◌
pub ◌also◌ : {P : ℕ → Type 0} {n : ℕ} → First P n → P n → First P (n + 1)
◌also◌ {P} {n} f p = record { each = below_more P n f.each p }

-- 0Fh has no bits but its five
pub ctr1_clear : (a b c d e : Bool) → kept_ctr1 (ctr1 a b c d e) ≡ ctr1 a b c d e
ctr1_clear a b c d e = eqb→eq _ _ (each_bit 5 (λ a b c d e. eqb (kept_ctr1 (ctr1 a b c d e)) (ctr1 a b c d e)) tt a b c d e)

lock_listed : (one two three : Bool) → one || not (two || three) ≡ true → one ≡ false → (two ≡ false) × (three ≡ false)
lock_listed one two three h e = grind (arith, nat_tests)

listed_lock : (one two three : Bool) → (one ≡ false → (two ≡ false) × (three ≡ false)) → one || not (two || three) ≡ true
listed_lock one two three h = grind (arith, nat_tests)

open_one : (n m : Mode) (s t : Transfer) → Open n s ≡ Open m t → s ≡ t
open_one n m s t e = cc

closed_open : (m : Mode) (t : Transfer) → Closed ≡ Open m t → ⊥
closed_open m t e = true≢false (cc)

age_listed : {b : Bus} → bus_laws.Well b → (m : Mode) (t : Transfer) → b.phase ≡ Open m t → t.age ≤ 16383
age_listed (shut h) m t e = absurd (closed_open m t e)
age_listed (opened {m = n} {t = s} h a) m t e = rw (open_one n m s t e) at a

listed_bus : (f : Phase) (p : ℕ) → p ≤ 31 → ((m : Mode) (t : Transfer) → f ≡ Open m t → t.age ≤ 16383) → bus_laws.Well (record { pointer = p; phase = f })
listed_bus Closed p h a = shut h
listed_bus (Open m t) p h a = opened h (a m t refl)

pointer_listed : {b : Bus} → bus_laws.Well b → b.pointer ≤ 31
pointer_listed (shut h) = h
pointer_listed (opened h a) = h

module _ (c : Clock) where
  abbrev Holds : ℕ → Type 0
  Holds a = kept_of a (register_of c a) ≡ register_of c a

  abbrev Latched : ℕ → Type 0
  Latched i = kept_of i (get_or c.latched i 0) ≡ get_or c.latched i 0

  fixed_listed : Well c → (a : ℕ) → a < 32 → Holds a
  unfolding clear_of kept_of kept_time kept_alarm kept_control register_of control_at_of byte_at_of ctr1_of control.well_of
  fixed_listed w =
      let t = time_bytes_lem c.hand.time w.hand.time in
      (none Holds
      also eqb-true _ _ t.one
      also eqb-true _ _ t.two
      also eqb-true _ _ t.three
      also eqb-true _ _ t.four
      also eqb-true _ _ t.five
      also eqb-true _ _ t.six
      also eqb-true _ _ t.seven
      also eqb-true _ _ w.alarm.at.one
      also eqb-true _ _ w.alarm.at.two
      also eqb-true _ _ w.alarm.at.three
      also eqb-true _ _ w.alarm.at.four
      also eqb-true _ _ w.alarm.at.five
      also eqb-true _ _ w.alarm.at.six
      also eqb-true _ _ w.alarm.at.seven
      also eqb-true _ _ w.alarm.enable
      also ctr1_clear c.lock.wrtc3 c.alarm.flag c.countdown.flag c.lock.wrtc2 c.rtcf
      also refl
      also eqb-true _ _ w.control
      also eqb-true _ _ w.hand.trim
      also refl
      also refl
      also refl
      also refl
      also refl
      also refl
      also refl
      also refl
      also refl
      also refl
      also refl
      also refl
      also refl).each

  latch_listed : Well c → (i : ℕ) → i < 7 → Latched i
  unfolding clear_of kept_of kept_time
  latch_listed w =
      let s = time_bytes_lem (start_time c.latched) w.latched in
      (none Latched
      also eqb-true _ _ s.one
      also eqb-true _ _ s.two
      also eqb-true _ _ s.three
      also eqb-true _ _ s.four
      also eqb-true _ _ s.five
      also eqb-true _ _ s.six
      also eqb-true _ _ s.seven).each

  pub well_listed : well_formed_of c ≡ true → Listed c
  unfolding lock.well_of
  well_listed e =
      let w = parts c e in
      record {
        fixed = fixed_listed w;
        lock = lock_listed c.lock.wrtc1 c.lock.wrtc2 c.lock.wrtc3 w.lock;
        pointer = pointer_listed w.bus;
        latched = latch_listed w;
        age = age_listed w.bus;
        counter = w.hand.counter;
        count = w.countdown.count;
        divider = w.divider;
        prescaler = w.countdown.prescaler;
        alarm = w.alarm.pulse;
        countdown = w.countdown.pulse;
      }

  module _ (l : Listed c) where
    at : (a : ℕ) → a < 32 → clear_of a (register_of c a) ≡ true
    unfolding clear_of
    at a h = eq-eqb _ _ (l.fixed a h)

    from_latch : (i : ℕ) → i < 7 → clear_of i (get_or c.latched i 0) ≡ true
    unfolding clear_of
    from_latch i h = eq-eqb _ _ (l.latched i h)

    well_parts : Well c
    unfolding register_of control_at_of byte_at_of clear_time_of lock.well_of control.well_of
    well_parts =
        record {
          hand =
              record {
                time = simp (at 0 (omega arith), at 1 (omega arith), at 2 (omega arith), at 3 (omega arith), at 4 (omega arith), at 5 (omega arith), at 6 (omega arith));
                trim = at 0x12 (omega arith);
                counter = l.counter;
              };
          alarm =
              record {
                at =
                    record {
                      one = at 0x07 (omega arith);
                      two = at 0x08 (omega arith);
                      three = at 0x09 (omega arith);
                      four = at 0x0A (omega arith);
                      five = at 0x0B (omega arith);
                      six = at 0x0C (omega arith);
                      seven = at 0x0D (omega arith);
                    };
                enable = at 0x0E (omega arith);
                pulse = l.alarm;
              };
          countdown = record { count = l.count; prescaler = l.prescaler; pulse = l.countdown };
          lock = listed_lock c.lock.wrtc1 c.lock.wrtc2 c.lock.wrtc3 l.lock;
          control = at 0x11 (omega arith);
          latched =
              simp (from_latch 0 (omega arith), from_latch 1 (omega arith), from_latch 2 (omega arith), from_latch 3 (omega arith), from_latch 4 (omega arith), from_latch 5 (omega arith), from_latch 6 (omega arith));
          divider = l.divider;
          bus = listed_bus c.bus.phase c.bus.pointer l.pointer l.age;
        }

    pub listed_well : well_formed_of c ≡ true
    listed_well = whole c well_parts
