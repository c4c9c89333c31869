-- A read where the chip does not send, and a master's byte where it does, leave the bus as it is. Assumes nothing.
use Rattle.std.proofs.Common.{◌≡◌, refl, Bool, true, false, ℕ, None}
use Rattle.bus.specs.declared.phase.Mode.{Mode}
use Rattle.bus.specs.declared.phase.Mode.TheVariants.{Address, Pointer, Writing, Reading, Deaf}
use Rattle.bus.specs.declared.phase.Transfer.{Transfer}
use Rattle.bus.specs.declared.phase.Phase.TheVariants.{Open}
use Rattle.bus.specs.declared.phase.Bus.{Bus}
use Rattle.bus.specs.declared.bytes.Effect.TheVariants as effect
use Rattle.bus.specs.Bytes.{heard_of}
use Rattle.bus.specs.Reads.{read_of}

abbrev pub at : ℕ → Mode → Transfer → Bus
at p m t = record { pointer = p; phase = Open m t }

-- a transfer in this mode sends bytes
abbrev pub sends : Mode → Bool
sends Address = false
sends Pointer = false
sends Writing = false
sends Reading = true
sends Deaf = false

module _ (p : ℕ) (t : Transfer) where
  pub unread : (m : Mode) → sends m ≡ false → (ack : Bool) → read_of (at p m t) ack ≡ record { bus = at p m t; sent = None }
  unfolding read_of
  unread Address quiet ack = refl
  unread Pointer quiet ack = refl
  unread Writing quiet ack = refl
  unread Reading quiet ack = cc
  unread Deaf quiet ack = refl

  pub not_heard : (b : ℕ) → heard_of (at p Reading t) b ≡ record { bus = at p Reading t; ack = false; effect = effect.None }
  unfolding heard_of
  not_heard b = refl
