-- What an event of the bus does in the phase in which it comes, on any state. Assumes nothing.
use Rattle.std.proofs.Common.{◌≡◌, Bool, cond, ◌||◌, ℕ}
use Rattle.bus.specs.declared.phase.Mode.TheVariants.{Address, Pointer, Writing, Reading, Deaf}
use Rattle.bus.specs.declared.phase.Transfer.{Transfer}
use Rattle.bus.specs.Phase.{next_of}
use Rattle.bus.specs.Bytes.{heard_of}
use Rattle.bus.specs.Reads as reads
use Rattle.bus.specs.Reads.{marks_of}
use Rattle.bus.proofs.UnheardLaws.{at}
use Rattle.events.specs.declared.answer.Answer.TheVariants.{Ack, Byte}
use Rattle.sd2068.specs.declared.clock.Clock.{Clock}
use Rattle.sd2068.specs.Clock.{with_bus}
use Rattle.sd2068.specs.Reading.{shown_of}
use Rattle.sd2068.specs.Writing.{write_of}
use Rattle.sd2068.specs.Transfer.{latched_of, byte_of, renewed_of, read_of}

module _ (c : Clock) (p : ℕ) (t : Transfer) where
  pub hears_write : c.bus ≡ at p Address t → byte_of c 0x64 ≡ record { clock = with_bus c (at p Pointer t); answer = Ack }
  unfolding byte_of heard_of
  hears_write e = simp e

  pub hears_read : c.bus ≡ at p Address t → byte_of c 0x65 ≡ record { clock = with_bus (latched_of c) (at p Reading t); answer = Ack }
  unfolding byte_of heard_of
  hears_read e = simp e

  pub hears_pointer : c.bus ≡ at p Pointer t → byte_of c 0x00 ≡ record { clock = with_bus c (at 0x00 Writing t); answer = Ack }
  unfolding byte_of heard_of
  hears_pointer e = simp e

  pub hears_data : (b : ℕ) → c.bus ≡ at p Writing t → byte_of c b ≡ record { clock = with_bus (write_of c p b) (at (next_of p) Writing t); answer = Ack }
  unfolding byte_of heard_of
  hears_data b e = simp e

  pub sends :
      (ack : Bool) → c.bus ≡ at p Reading t
      → read_of c ack
      ≡ record {
        clock = with_bus (renewed_of c p) (at (next_of p) (cond ack Reading Deaf) (record { age = t.age; marked = marks_of p || t.marked }));
        answer = Byte (shown_of c p);
      }
  unfolding read_of reads.read_of
  sends ack e = simp e
