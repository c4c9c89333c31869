-- The registers stand at their addresses, and the latched bytes behind them. Assumes nothing.
use mathlib.Core.Path.{◌≡◌, refl}
use Prim.Native.Nat.{ℕ, ◌+◌, ◌<◌}
use lib.ListN.{get_or}
use Rattle.registers.specs.Seven.{byte_at_of}
use Rattle.sd2068.specs.declared.clock.Clock.{Clock}
use Rattle.sd2068.specs.Reading.{control_at_of, register_of}
use Rattle.sd2068.proofs.ListedLaws.{none, ◌also◌}
use Rattle.state_bytes.specs.Encoded.{bytes_of}

pub register_place : (c : Clock) (a : ℕ) → a < 32 → get_or (bytes_of c) a 0 ≡ register_of c a
unfolding bytes_of register_of control_at_of byte_at_of
register_place c =
    (none (λ (a : ℕ). get_or (bytes_of c) a 0 ≡ register_of c a)
    also refl also refl also refl also refl also refl also refl also refl also refl
    also refl also refl also refl also refl also refl also refl also refl also refl
    also refl also refl also refl also refl also refl also refl also refl also refl
    also refl also refl also refl also refl also refl also refl also refl also refl).each

pub latched_place : (c : Clock) (i : ℕ) → i < 7 → get_or (bytes_of c) (32 + i) 0 ≡ get_or c.latched i 0
unfolding bytes_of
latched_place c =
    (none (λ (i : ℕ). get_or (bytes_of c) (32 + i) 0 ≡ get_or c.latched i 0)
    also refl also refl also refl also refl also refl also refl also refl).each
