-- A view leaves nothing of a state out: the state can be had back from it, so what a step shows settles the step. Assumes nothing.
use Rattle.std.proofs.Common.{◌≡◌, refl, sym, ap, ◌∙◌, List, [], ◌∷◌, ℕ, ◌<◌, length, get_or, ext_get_or, arith}
use Rattle.std.proofs.lemmas.Grind.{common_steps}
use Rattle.registers.specs.Seven.{byte_at_of}
use Rattle.sd2068.specs.declared.clock.Clock.{Clock}
use Rattle.sd2068.specs.Reading.{control_at_of, register_of}
use Rattle.sd2068.specs.Step.{Told}
use Rattle.sd2068.proofs.ListedLaws.{none, ◌also◌}
use Rattle.promises.specs.Registers.{bit, View, view_of, Looks, State, seven_from}
use Rattle.promises.specs.Seen.{Seen, Shows}
use Rattle.promises.proofs.RegisterLaws.{wrtc1, wrtc2, wrtc3, intaf, intdf, rtcf, im, ints1, ints0, fobat, intde, intae, intfe}

-- the RAM, 14h to 1Fh
abbrev ram_bytes : (ℕ → ℕ) → List ℕ
ram_bytes r =
    r 0x14 ∷ r 0x15 ∷ r 0x16 ∷ r 0x17 ∷ r 0x18 ∷ r 0x19 ∷ r 0x1A ∷ r 0x1B ∷ r 0x1C ∷ r 0x1D ∷ r 0x1E ∷ r 0x1F ∷ []

-- the state of a view
abbrev back_of : View → Clock
back_of v =
    let r = v.register in
    record {
      hand = record { time = seven_from 0x00 r; counter = v.inner.counter; trim = r 0x12 };
      alarm = record { at = seven_from 0x07 r; enable = r 0x0E; flag = bit 5 (r 0x0F); pulse = v.inner.alarm_pulse };
      countdown =
          record {
            count = r 0x13;
            reload = v.inner.reload;
            prescaler = v.inner.prescaler;
            flag = bit 4 (r 0x0F);
            pulse = v.inner.countdown_pulse;
          };
      lock = record { wrtc1 = bit 7 (r 0x10); wrtc2 = bit 2 (r 0x0F); wrtc3 = bit 7 (r 0x0F) };
      control =
          record {
            im = bit 6 (r 0x10);
            ints1 = bit 5 (r 0x10);
            ints0 = bit 4 (r 0x10);
            fobat = bit 3 (r 0x10);
            intde = bit 2 (r 0x10);
            intae = bit 1 (r 0x10);
            intfe = bit 0 (r 0x10);
            ctr3 = r 0x11;
          };
      rtcf = bit 0 (r 0x0F);
      ram = ram_bytes r;
      latched = v.latch;
      divider = v.inner.divider;
      bus = record { pointer = v.pointer; phase = v.phase };
    }

module _ (c : Clock) (full : length c.ram ≡ 12) where
  ram_each : (i : ℕ) → i < 12 → get_or (ram_bytes (register_of c)) i 0 ≡ get_or c.ram i 0
  unfolding register_of
  ram_each =
      (none (λ (i : ℕ). get_or (ram_bytes (register_of c)) i 0 ≡ get_or c.ram i 0)
      also refl also refl also refl also refl also refl also refl also refl also refl also refl also refl also refl also refl).each

  ram_back : ram_bytes (register_of c) ≡ c.ram
  ram_back = ext_get_or 0 (ram_bytes (register_of c)) c.ram (sym full) ram_each

  back : back_of (view_of c) ≡ c
  unfolding register_of control_at_of byte_at_of
  back = grind (arith, common_steps, intaf, intdf, wrtc1, wrtc2, wrtc3, im, ints1, ints0, fobat, intde, intae, intfe, rtcf, ram_back)

-- a state that looks so has that view
view : (c : Clock) (v : View) → Looks c v → view_of c ≡ v
view c v l = grind (arith, common_steps)

-- so two states that look the same are the same
pub one_state : (c d : Clock) (v : View) → State c → State d → Looks c v → Looks d v → c ≡ d
one_state c d v w x l m = sym (back c w.ram) ∙ ap back_of (view c v l ∙ sym (view d v m)) ∙ back d x.ram

-- and two steps that show the same say the same
pub one_step : (r q : Told) (s : Seen) → State r.state → State q.state → Shows r s → Shows q s → r ≡ q
one_step r q s w x a b =
    let refusals : r.refusal ≡ q.refusal = a.refusal ∙ sym b.refusal in
    let states : r.state ≡ q.state = one_state r.state q.state s.left w x a.state b.state in
    let answers : r.answer ≡ q.answer = a.answer ∙ sym b.answer in
    let pins : r.pin ≡ q.pin = a.pin ∙ sym b.pin in
    λ i. record { refusal = refusals i; state = states i; answer = answers i; pin = pins i }
