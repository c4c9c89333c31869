-- Every public contract of this crate settles its result. Assumes nothing.
use Rattle.std.proofs.Common.{◌≡◌, refl}
use Rattle.fields.proofs.Settles.{Settles, settled}
use Rattle.control.specs.Pin.{letter_of}
use Rattle.control.proofs.Settled.{level_back, level_again}
use Rattle.events.proofs.Settled.{option_back, option_again, answer_back, answer_again}
use Rattle.sd2068.specs.declared.answers.Started.{Started}
use Rattle.sd2068.specs.declared.answers.Stepped.{Stepped}
use Rattle.sd2068.specs.Power.{Power}
use Rattle.sd2068.specs.Step.{Told, stepped, started}
use Rattle.sd2068.proofs.power.power_on.Kinds as power_on_kinds
use Rattle.sd2068.proofs.power.power_on.Reads as power_on_reads
use Rattle.sd2068.proofs.clock.Clock.register.Kinds as register_kinds
use Rattle.sd2068.proofs.clock.Clock.register.Reads as register_reads
use Rattle.sd2068.proofs.clock.Clock.registers.Kinds as registers_kinds
use Rattle.sd2068.proofs.clock.Clock.registers.Reads as registers_reads
use Rattle.sd2068.proofs.clock.Clock.pin.Kinds as pin_kinds
use Rattle.sd2068.proofs.clock.Clock.pin.Reads as pin_reads
use Rattle.sd2068.proofs.clock.Clock.well_formed.Kinds as well_formed_kinds
use Rattle.sd2068.proofs.clock.Clock.well_formed.Reads as well_formed_reads
use Rattle.sd2068.proofs.clock.Clock.stores.Kinds as stores_kinds
use Rattle.sd2068.proofs.clock.Clock.stores.Reads as stores_reads
use Rattle.sd2068.proofs.clock.Clock.clears.Kinds as clears_kinds
use Rattle.sd2068.proofs.clock.Clock.clears.Reads as clears_reads
use Rattle.sd2068.proofs.clock.Clock.step.Kinds as step_kinds
use Rattle.sd2068.proofs.clock.Clock.step.Reads as step_reads

abbrev stepped_back : Told → Stepped
stepped_back t =
    record {
      refusal = option_back t.refusal;
      clock = t.state;
      answer = answer_back t.answer;
      pin = level_back t.pin;
    }

stepped_again : (x : Stepped) → stepped_back (stepped x) ≡ x
stepped_again x =
    λ i.
    record {
      refusal = option_again x.refusal i;
      clock = x.clock;
      answer = answer_again x.answer i;
      pin = level_again x.pin i;
    }

abbrev pub started_back : Power → Started
started_back p = record { refusal = option_back p.refusal; clock = p.state }

pub started_again : (x : Started) → started_back (started x) ≡ x
started_again x = λ i. record { refusal = option_again x.refusal i; clock = x.clock }

-- what is said of all registers, of a power-on and of a step, for crates above
abbrev pub RegistersSettles : Type 0
RegistersSettles = Settles 0 registers_kinds.ps registers_kinds.r registers_reads.Post

abbrev pub PowerOnSettles : Type 0
PowerOnSettles = Settles 1 power_on_kinds.ps power_on_kinds.r power_on_reads.Post

abbrev pub StepSettles : Type 0
StepSettles = Settles 0 step_kinds.ps step_kinds.r step_reads.Post

pub power_on_settles : PowerOnSettles
power_on_settles κs a e f x y = settled started started_back started_again

pub register_settles : Settles 0 register_kinds.ps register_kinds.r register_reads.Post
register_settles κs a e f x y = settled (λ z. z) (λ z. z) (λ z. refl)

pub registers_settles : RegistersSettles
registers_settles κs a e f x y = settled (λ z. z) (λ z. z) (λ z. refl)

pub pin_settles : Settles 0 pin_kinds.ps pin_kinds.r pin_reads.Post
pin_settles κs a e f x y = settled letter_of level_back level_again

pub well_formed_settles : Settles 0 well_formed_kinds.ps well_formed_kinds.r well_formed_reads.Post
well_formed_settles κs a e f x y = settled (λ z. z) (λ z. z) (λ z. refl)

pub stores_settles : Settles 0 stores_kinds.ps stores_kinds.r stores_reads.Post
stores_settles κs a e f x y = settled (λ z. z) (λ z. z) (λ z. refl)

pub clears_settles : Settles 0 clears_kinds.ps clears_kinds.r clears_reads.Post
clears_settles κs a e f x y = settled (λ z. z) (λ z. z) (λ z. refl)

pub step_settles : StepSettles
step_settles κs a e f x y = settled stepped stepped_back stepped_again
