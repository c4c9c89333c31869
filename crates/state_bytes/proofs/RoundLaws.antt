-- Encoding and decoding are inverse: from a well-formed state to its bytes and back, and from bytes that are a state's to it and back. Assumes nothing.
use mathlib.Core.Path.{◌≡◌, refl, sym, ap, ◌∙◌}
use mathlib.Core.Bool.{Bool, true}
use mathlib.Core.List.{List, [], ◌∷◌}
use Prim.Native.Nat.{ℕ, ◌<◌}
use native.Mathlib.Omega.{arith}
use lib.ListN.{get_or}
use borrow.Author.Tests.{eq-eqb}
use Rattle.fields.proofs.FieldLaws.{and_left, and_right}
use Rattle.control.specs.Lock.{ctr1_of, ctr2_of}
use Rattle.control.proofs.BitLaws as bits
use Rattle.control.proofs.BitLaws.{ctr1}
use Rattle.registers.specs.Fixed.{kept_ctr1, kept_control, kept_of, clear_of}
use Rattle.bus.specs.declared.phase.Bus.{Bus}
use Rattle.bus.proofs.WellLaws as bus_laws
use Rattle.bus.proofs.WellLaws.{shut, opened}
use Rattle.sd2068.specs.declared.clock.Clock.{Clock}
use Rattle.sd2068.specs.Pin.{pin_of}
use Rattle.sd2068.specs.WellFormed.{well_formed_of}
use Rattle.sd2068.proofs.WellLaws.{Well, parts}
use Rattle.sd2068.proofs.ListedLaws.{ctr1_clear}
use Rattle.state_bytes.specs.Words.{word_of, low_of, second_of}
use Rattle.state_bytes.specs.Phases.{age_in, phase_well}
use Rattle.state_bytes.specs.Decoded.{ram_of, latched_of, clock_of, plain_of, is_state}
use Rattle.state_bytes.specs.Encoded.{bytes_of}
use Rattle.state_bytes.specs.Shapes.{Arrays, Bytes}
use Rattle.state_bytes.specs.Places.{bytes_at}
use Rattle.state_bytes.proofs.PlaceLaws.{whole}
use Rattle.state_bytes.proofs.WordLaws.{word_back, long_back, low_word, second_word, low_long, second_long, third_long, high_long}
use Rattle.state_bytes.proofs.PhaseLaws.{phase_back, phase_written, Again, phase_again}
use Rattle.state_bytes.proofs.BitLaws.{ctr1_again, ctr2_again}

clear_ctr1 : (a b c d e : Bool) → clear_of 0x0F (ctr1 a b c d e) ≡ true
unfolding clear_of kept_of kept_control
clear_ctr1 a b c d e = let x = ctr1 a b c d e in eq-eqb (kept_ctr1 x) x (ctr1_clear a b c d e)

age_low : {b : Bus} → bus_laws.Well b → age_in b.phase < 65536
age_low (shut h) = omega arith
age_low (opened h a) = omega arith

-- from a state to its bytes and back
module _ (c : Clock) (a : Arrays c) (well : well_formed_of c ≡ true) where
  w : Well c
  w = parts c well

  aged : word_of (low_of (age_in c.bus.phase)) (second_of (age_in c.bus.phase)) ≡ age_in c.bus.phase
  aged = word_back (age_in c.bus.phase) (age_low w.bus)

  ram_back : ram_of (bytes_of c) ≡ c.ram
  unfolding bytes_of
  ram_back = sym (whole c.ram 12 a.ram)

  latched_back : latched_of (bytes_of c) ≡ c.latched
  unfolding bytes_of
  latched_back = sym (whole c.latched 7 a.latched)

  -- a well-formed state comes back from its bytes
  pub encoded_back : clock_of (bytes_of c) ≡ c
  unfolding clock_of bytes_of ctr1_of ctr2_of
  encoded_back =
      λ i.
      record {
        hand = record { time = c.hand.time; counter = long_back c.hand.counter i; trim = c.hand.trim };
        alarm =
            record {
              at = c.alarm.at;
              enable = c.alarm.enable;
              flag = bits.intaf c.lock.wrtc3 c.alarm.flag c.countdown.flag c.lock.wrtc2 c.rtcf i;
              pulse = word_back c.alarm.pulse (let h = w.alarm.pulse in omega arith) i;
            };
        countdown =
            record {
              count = c.countdown.count;
              reload = c.countdown.reload;
              prescaler = long_back c.countdown.prescaler i;
              flag = bits.intdf c.lock.wrtc3 c.alarm.flag c.countdown.flag c.lock.wrtc2 c.rtcf i;
              pulse = word_back c.countdown.pulse (let h = w.countdown.pulse in omega arith) i;
            };
        lock =
            record {
              wrtc1 = bits.wrtc1 c.lock.wrtc1 c.control.im c.control.ints1 c.control.ints0 c.control.fobat c.control.intde c.control.intae c.control.intfe i;
              wrtc2 = bits.wrtc2 c.lock.wrtc3 c.alarm.flag c.countdown.flag c.lock.wrtc2 c.rtcf i;
              wrtc3 = bits.wrtc3 c.lock.wrtc3 c.alarm.flag c.countdown.flag c.lock.wrtc2 c.rtcf i;
            };
        control =
            record {
              im = bits.im c.lock.wrtc1 c.control.im c.control.ints1 c.control.ints0 c.control.fobat c.control.intde c.control.intae c.control.intfe i;
              ints1 = bits.ints1 c.lock.wrtc1 c.control.im c.control.ints1 c.control.ints0 c.control.fobat c.control.intde c.control.intae c.control.intfe i;
              ints0 = bits.ints0 c.lock.wrtc1 c.control.im c.control.ints1 c.control.ints0 c.control.fobat c.control.intde c.control.intae c.control.intfe i;
              fobat = bits.fobat c.lock.wrtc1 c.control.im c.control.ints1 c.control.ints0 c.control.fobat c.control.intde c.control.intae c.control.intfe i;
              intde = bits.intde c.lock.wrtc1 c.control.im c.control.ints1 c.control.ints0 c.control.fobat c.control.intde c.control.intae c.control.intfe i;
              intae = bits.intae c.lock.wrtc1 c.control.im c.control.ints1 c.control.ints0 c.control.fobat c.control.intde c.control.intae c.control.intfe i;
              intfe = bits.intfe c.lock.wrtc1 c.control.im c.control.ints1 c.control.ints0 c.control.fobat c.control.intde c.control.intae c.control.intfe i;
              ctr3 = c.control.ctr3;
            };
        rtcf = bits.rtcf c.lock.wrtc3 c.alarm.flag c.countdown.flag c.lock.wrtc2 c.rtcf i;
        ram = ram_back i;
        latched = latched_back i;
        divider = long_back c.divider i;
        bus = record { pointer = c.bus.pointer; phase = phase_back c.bus.phase _ aged i };
      }

  at_ctr1 : clear_of 0x0F (get_or (bytes_of c) 0x0F 0) ≡ true
  unfolding bytes_of ctr1_of
  at_ctr1 = clear_ctr1 c.lock.wrtc3 c.alarm.flag c.countdown.flag c.lock.wrtc2 c.rtcf

  at_phase : phase_well (get_or (bytes_of c) 41 0) (get_or (bytes_of c) 42 0) (word_of (get_or (bytes_of c) 43 0) (get_or (bytes_of c) 44 0)) ≡ true
  unfolding bytes_of
  at_phase = phase_written c.bus.phase _ aged

  plain : plain_of (bytes_of c) ≡ true
  unfolding plain_of
  plain = simp (at_ctr1, at_phase)

  -- and its bytes are a state's
  pub encoded_state : is_state (bytes_of c) ≡ true
  unfolding is_state
  encoded_state = simp (ap well_formed_of encoded_back ∙ well, plain)

-- a state with its lists cut to their bytes
abbrev cut : Clock → Clock
cut c =
    record {
      hand = c.hand;
      alarm = c.alarm;
      countdown = c.countdown;
      lock = c.lock;
      control = c.control;
      rtcf = c.rtcf;
      ram = ram_of (bytes_of c);
      latched = latched_of (bytes_of c);
      divider = c.divider;
      bus = c.bus;
    }

cut_bytes : (c : Clock) → bytes_of c ≡ bytes_of (cut c)
unfolding bytes_of
cut_bytes c = refl

cut_arrays : (c : Clock) → Arrays (cut c)
unfolding bytes_of
cut_arrays c = record { ram = refl; latched = refl }

cut_well : (c : Clock) → well_formed_of (cut c) ≡ well_formed_of c
unfolding well_formed_of bytes_of
cut_well c = refl

cut_pin : (c : Clock) → pin_of (cut c) ≡ pin_of c
unfolding pin_of
cut_pin c = refl

-- the pin of a well-formed state is had back from its bytes
pub pin_back : (c : Clock) → well_formed_of c ≡ true → pin_of (clock_of (bytes_of c)) ≡ pin_of c
pin_back c w =
    ap (λ (l : List ℕ). pin_of (clock_of l)) (cut_bytes c) ∙ ap pin_of (encoded_back (cut c) (cut_arrays c) (cut_well c ∙ w)) ∙ cut_pin c

-- from bytes to their state and back
module _ (s : List ℕ) (b : Bytes s) (e : is_state s ≡ true) where
  abbrev age : ℕ
  age = word_of (get_or s 43 0) (get_or s 44 0)

  pub decoded_well : well_formed_of (clock_of s) ≡ true
  unfolding is_state
  decoded_well = and_left (well_formed_of (clock_of s)) (plain_of s) e

  decoded_plain : plain_of s ≡ true
  unfolding is_state
  decoded_plain = and_right (well_formed_of (clock_of s)) (plain_of s) e

  clear : clear_of 0x0F (get_or s 0x0F 0) ≡ true
  unfolding plain_of
  clear = and_left (clear_of 0x0F (get_or s 0x0F 0)) (phase_well (get_or s 41 0) (get_or s 42 0) age) decoded_plain

  phase : Again (get_or s 42 0) age (get_or s 41 0)
  unfolding plain_of
  phase =
      phase_again (get_or s 42 0) age (get_or s 41 0) (and_right (clear_of 0x0F (get_or s 0x0F 0)) (phase_well (get_or s 41 0) (get_or s 42 0) age) decoded_plain)

  spelled : bytes_at s 0 0 61 ≡ s
  spelled = sym (whole s 61 b.long)

  -- bytes that are a state's come back from it
  pub decoded_again : bytes_of (clock_of s) ≡ s
  unfolding bytes_of clock_of ctr1_of ctr2_of
  decoded_again =
      (λ i.
      get_or s 0 0
      ∷ get_or s 1 0
      ∷ get_or s 2 0
      ∷ get_or s 3 0
      ∷ get_or s 4 0
      ∷ get_or s 5 0
      ∷ get_or s 6 0
      ∷ get_or s 7 0
      ∷ get_or s 8 0
      ∷ get_or s 9 0
      ∷ get_or s 10 0
      ∷ get_or s 11 0
      ∷ get_or s 12 0
      ∷ get_or s 13 0
      ∷ get_or s 14 0
      ∷ ctr1_again (get_or s 15 0) (b.each 15) clear i
      ∷ ctr2_again (get_or s 16 0) (b.each 16) i
      ∷ get_or s 17 0
      ∷ get_or s 18 0
      ∷ get_or s 19 0
      ∷ get_or s 20 0
      ∷ get_or s 21 0
      ∷ get_or s 22 0
      ∷ get_or s 23 0
      ∷ get_or s 24 0
      ∷ get_or s 25 0
      ∷ get_or s 26 0
      ∷ get_or s 27 0
      ∷ get_or s 28 0
      ∷ get_or s 29 0
      ∷ get_or s 30 0
      ∷ get_or s 31 0
      ∷ get_or s 32 0
      ∷ get_or s 33 0
      ∷ get_or s 34 0
      ∷ get_or s 35 0
      ∷ get_or s 36 0
      ∷ get_or s 37 0
      ∷ get_or s 38 0
      ∷ get_or s 39 0
      ∷ get_or s 40 0
      ∷ phase.numbered i
      ∷ phase.marked i
      ∷ (ap low_of phase.aged ∙ low_word (get_or s 43 0) (get_or s 44 0) (b.each 43)) i
      ∷ (ap second_of phase.aged ∙ second_word (get_or s 43 0) (get_or s 44 0) (b.each 43) (b.each 44)) i
      ∷ low_word (get_or s 45 0) (get_or s 46 0) (b.each 45) i
      ∷ second_word (get_or s 45 0) (get_or s 46 0) (b.each 45) (b.each 46) i
      ∷ low_word (get_or s 47 0) (get_or s 48 0) (b.each 47) i
      ∷ second_word (get_or s 47 0) (get_or s 48 0) (b.each 47) (b.each 48) i
      ∷ low_long (get_or s 49 0) (get_or s 50 0) (get_or s 51 0) (get_or s 52 0) (b.each 49) i
      ∷ second_long (get_or s 49 0) (get_or s 50 0) (get_or s 51 0) (get_or s 52 0) (b.each 49) (b.each 50) i
      ∷ third_long (get_or s 49 0) (get_or s 50 0) (get_or s 51 0) (get_or s 52 0) (b.each 49) (b.each 50) (b.each 51) i
      ∷ high_long (get_or s 49 0) (get_or s 50 0) (get_or s 51 0) (get_or s 52 0) (b.each 49) (b.each 50) (b.each 51) i
      ∷ low_long (get_or s 53 0) (get_or s 54 0) (get_or s 55 0) (get_or s 56 0) (b.each 53) i
      ∷ second_long (get_or s 53 0) (get_or s 54 0) (get_or s 55 0) (get_or s 56 0) (b.each 53) (b.each 54) i
      ∷ third_long (get_or s 53 0) (get_or s 54 0) (get_or s 55 0) (get_or s 56 0) (b.each 53) (b.each 54) (b.each 55) i
      ∷ high_long (get_or s 53 0) (get_or s 54 0) (get_or s 55 0) (get_or s 56 0) (b.each 53) (b.each 54) (b.each 55) i
      ∷ low_long (get_or s 57 0) (get_or s 58 0) (get_or s 59 0) (get_or s 60 0) (b.each 57) i
      ∷ second_long (get_or s 57 0) (get_or s 58 0) (get_or s 59 0) (get_or s 60 0) (b.each 57) (b.each 58) i
      ∷ third_long (get_or s 57 0) (get_or s 58 0) (get_or s 59 0) (get_or s 60 0) (b.each 57) (b.each 58) (b.each 59) i
      ∷ high_long (get_or s 57 0) (get_or s 58 0) (get_or s 59 0) (get_or s 60 0) (b.each 57) (b.each 58) (b.each 59) i
      ∷ [])
      ∙ spelled
