-- START, STOP, a master's byte and a read move what is said of them: one look at the phase, and the tests on byte and pointer. Assumes nothing.
use Rattle.std.proofs.Common.{◌≡◌, refl, sym, ap, ◌∙◌, Bool, true, false, cond, ◌&&◌, not, ℕ, ◌<◌, arith, eqb, ltb, length}
use Rattle.std.proofs.lemmas.Grind.{common_steps}
use Rattle.registers.specs.Seven.{byte_at_of}
use Rattle.control.specs.Lock.{ctr1_of}
use Rattle.control.proofs.BitLaws.{ctr1}
use Rattle.bus.specs.declared.phase.Phase.{Phase}
use Rattle.bus.specs.declared.phase.Phase.TheVariants.{Closed, Open}
use Rattle.bus.specs.declared.phase.Mode.TheVariants.{Address, Pointer, Writing}
use Rattle.bus.specs.declared.phase.Transfer.{Transfer}
use Rattle.bus.specs.Phase.{next_of, started_in, marked_in}
use Rattle.bus.specs.Bytes.{heard_of}
use Rattle.bus.specs.Reads as reads
use Rattle.bus.proofs.PointerLaws.{next_wraps}
use Rattle.events.specs.declared.answer.Answer.TheVariants.{Ack}
use Rattle.events.specs.Answer.{text_of}
use Rattle.sd2068.specs.declared.clock.Clock.{Clock}
use Rattle.sd2068.specs.declared.answers.Answered.{Answered}
use Rattle.sd2068.specs.Reading.{control_at_of, register_of, shown_of}
use Rattle.sd2068.specs.Transfer.{started_of, clears_of, stopped_of, byte_of, renewed_of, read_of}
use Rattle.sd2068.specs.Clock.{with_bus}
use Rattle.sd2068.specs.Writing.{write_of}
use Rattle.promises.specs.Registers.{put, view_of}
use Rattle.promises.specs.Seen.{started_phase, start_seen, is_marked, stopped_at, stop_seen, Seen, byte_seen, read_seen}
use Rattle.promises.proofs.BitLaws.{put_flags}
use Rattle.promises.proofs.RegisterLaws.{aside}
use Rattle.promises.proofs.WriteLaws.{write_at, write_inner}

started_phase_lem : (f : Phase) → started_in f ≡ started_phase f
started_phase_lem Closed = refl
started_phase_lem (Open m t) = refl

is_marked_lem : (f : Phase) → marked_in f ≡ is_marked f
is_marked_lem Closed = refl
is_marked_lem (Open m t) = refl

pub start_view : (c : Clock) → view_of (started_of c) ≡ (start_seen (view_of c)).left
unfolding start_seen register_of control_at_of
start_view c = grind (arith, common_steps, started_phase_lem)

-- 0Fh without its flags, if they clear
cleared : (clears a b c d e : Bool) → ctr1 a (not clears && b) (not clears && c) d e ≡ cond clears (put 5 false (put 4 false (ctr1 a b c d e))) (ctr1 a b c d e)
cleared true a b c d e = sym (put_flags a b c d e false false)
cleared false a b c d e = refl

module _ (c : Clock) where
  stop_flags : register_of (stopped_of c) 0x0F ≡ stopped_at (is_marked c.bus.phase) (register_of c) 0x0F
  unfolding register_of control_at_of ctr1_of stopped_of stopped_at
  stop_flags =
      cleared (clears_of c) c.lock.wrtc3 c.alarm.flag c.countdown.flag c.lock.wrtc2 c.rtcf
      ∙ ap (λ (marked : Bool). stopped_at marked (register_of c) 0x0F) (is_marked_lem c.bus.phase)

  stop_other : (a : ℕ) → eqb a 0x0F ≡ false → register_of (stopped_of c) a ≡ stopped_at (is_marked c.bus.phase) (register_of c) a
  unfolding register_of control_at_of stopped_of stopped_at
  stop_other a e = simp e

  stop_at : (a : ℕ) → register_of (stopped_of c) a ≡ stopped_at (is_marked c.bus.phase) (register_of c) a
  stop_at = aside (λ (a : ℕ). register_of (stopped_of c) a ≡ stopped_at (is_marked c.bus.phase) (register_of c) a) 0x0F stop_flags stop_other

  pub stop_view : view_of (stopped_of c) ≡ (stop_seen (view_of c)).left
  unfolding stop_seen stopped_of
  stop_view =
      λ i. record { register = λ (a : ℕ). stop_at a i; inner = (view_of c).inner; latch = c.latched; pointer = 0x00; phase = Closed }

-- the pointer comes to 00h after 1Fh alone
first : (p : ℕ) → p < 32 → eqb (next_of p) 0x00 ≡ eqb p 0x1F
first p h = grind (arith, common_steps)

-- what an event of the state answers and leaves
abbrev pub seen_of : Answered → Seen
seen_of e = record { said = text_of e.answer; left = view_of e.clock }

module _ (c : Clock) (p : ℕ) (h : p < 32) where
  -- the state with the bus in a phase
  abbrev at : Phase → Clock
  at f = with_bus c (record { pointer = p; phase = f })

  read_in_lem : (more : Bool) (f : Phase) → seen_of (read_of (at f) more) ≡ read_seen f (view_of (at f)) more
  unfolding read_of reads.read_of renewed_of read_seen register_of control_at_of byte_at_of shown_of
  read_in_lem more f = grind (arith, common_steps, first, next_wraps)

  module _ (b : ℕ) where
    abbrev Heard : Phase → Type 0
    Heard f = seen_of (byte_of (at f) b) ≡ byte_seen f (view_of (at f)) b

    module _ (t : Transfer) where
      address_in : (write read : Bool) → eqb b 0x64 ≡ write → eqb b 0x65 ≡ read → Heard (Open Address t)
      unfolding byte_of heard_of byte_seen register_of control_at_of byte_at_of
      address_in write read e h = grind (arith, common_steps)

      pointer_in : (low : Bool) → ltb b 0x20 ≡ low → Heard (Open Pointer t)
      unfolding byte_of heard_of byte_seen register_of control_at_of
      pointer_in true e = simp e
      pointer_in false e = simp e

      data_in : length c.ram ≡ 12 → b < 256 → Heard (Open Writing t)
      unfolding byte_of heard_of byte_seen register_of control_at_of write_of
      data_in full s =
          λ i.
          record {
            said = text_of Ack;
            left =
                record {
                  register = λ (a : ℕ). write_at (at (Open Writing t)) p b full h s a i;
                  inner = write_inner (at (Open Writing t)) p b i;
                  latch = c.latched;
                  pointer = next_wraps p h i;
                  phase = Open Writing t;
                };
          }

    heard_in_lem : length c.ram ≡ 12 → b < 256 → (f : Phase) → Heard f
    unfolding byte_of heard_of byte_seen register_of control_at_of
    heard_in_lem full small f = grind (arith, common_steps, address_in, pointer_in, data_in)

module _ (c : Clock) (h : c.bus.pointer < 32) where
  pub read_seen_lem : (more : Bool) → seen_of (read_of c more) ≡ read_seen c.bus.phase (view_of c) more
  read_seen_lem more = read_in_lem c c.bus.pointer h more c.bus.phase

  pub byte_seen_lem : (b : ℕ) → length c.ram ≡ 12 → b < 256 → seen_of (byte_of c b) ≡ byte_seen c.bus.phase (view_of c) b
  byte_seen_lem b full s = heard_in_lem c c.bus.pointer h b full s c.bus.phase
