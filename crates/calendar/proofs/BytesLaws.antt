-- A time comes back out of its seven bytes, and seven bytes out of their time. Assumes nothing.
use mathlib.Core.Path.{◌≡◌, refl}
use mathlib.Core.List.{[], ◌∷◌}
use Prim.Native.Nat.{ℕ}
use Rattle.calendar.specs.Bytes.{bytes_of, time_of}
use Rattle.calendar.specs.declared.time.Time.{Time}

pub time_bytes : (t : Time) → time_of (bytes_of t) ≡ t
time_bytes t = refl

pub bytes_time : (a b c d e f g : ℕ) → bytes_of (time_of (a ∷ b ∷ c ∷ d ∷ e ∷ f ∷ g ∷ [])) ≡ a ∷ b ∷ c ∷ d ∷ e ∷ f ∷ g ∷ []
bytes_time a b c d e f g = refl
