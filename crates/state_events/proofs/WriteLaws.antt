-- What a byte that is written leaves of a state's bytes are the bytes of the state that it leaves. Assumes nothing.
use mathlib.Core.Path.{◌≡◌, refl, sym, ap, ◌∙◌}
use mathlib.Core.Bool.{Bool, true, false, cond, ◌&&◌}
use mathlib.Core.List.{List}
use Prim.Native.Nat.{ℕ, ◌<◌}
use Rattle.registers.specs.Seven.{with_byte_of}
use Rattle.hand.specs.Hand as hand
use Rattle.alarm.specs.Alarm as alarm
use Rattle.countdown.specs.Countdown as countdown
use Rattle.control.specs.declared.lock.Lock.{Lock}
use Rattle.control.specs.Control as control
use Rattle.control.specs.Lock.{open_of, written_of}
use Rattle.sd2068.specs.Clock.{with_lock}
use Rattle.sd2068.specs.Writing.{ram_stored_of, written_by, write_of}
use Rattle.sd2068.proofs.ListedLaws.{none, ◌also◌}
use Rattle.state_bytes.specs.Decoded.{lock_of, clock_of}
use Rattle.state_bytes.specs.Encoded.{bytes_of}
use Rattle.state_events.specs.Written.{locked_over, stored_over, write_in}

module _ (s : List ℕ) (again : bytes_of (clock_of s) ≡ s) where
  lock_left : (l : Lock) → locked_over s s l ≡ bytes_of (with_lock (clock_of s) l)
  unfolding bytes_of clock_of
  lock_left l = ap (λ (x : List ℕ). locked_over s x l) (sym again)

  -- a byte stored over the bytes of a state, by its address
  module _ (b : ℕ) where
    Stored : ℕ → Type 0
    Stored a = stored_over s (bytes_of (clock_of s)) a b ≡ bytes_of (written_by true (clock_of s) a b)

    each_stored : (a : ℕ) → a < 32 → Stored a
    unfolding Stored bytes_of clock_of hand.stored_of alarm.stored_of countdown.stored_of control.stored_of written_of with_byte_of ram_stored_of
    each_stored =
        (none Stored
        also refl also refl also refl also refl also refl also refl also refl also refl
        also refl also refl also refl also refl also refl also refl also refl also refl
        also refl also refl also refl also refl also refl also refl also refl also refl
        also refl also refl also refl also refl also refl also refl also refl also refl).each

    stored_left : (a : ℕ) → a < 32 → stored_over s s a b ≡ bytes_of (written_by true (clock_of s) a b)
    unfolding Stored
    stored_left a h = ap (λ (l : List ℕ). stored_over s l a b) (sym again) ∙ each_stored a h

  written_by_lem : (a b : ℕ) → a < 32 → (t : Bool) → cond t (stored_over s s a b) (locked_over s s (written_of (lock_of s) a b)) ≡ bytes_of (written_by t (clock_of s) a b)
  unfolding clock_of
  written_by_lem a b h true = stored_left b a h
  written_by_lem a b h false = lock_left (written_of (lock_of s) a b)

  pub write_left : (a b : ℕ) → a < 32 → write_in s a b ≡ bytes_of (write_of (clock_of s) a b)
  unfolding write_in write_of clock_of
  write_left a b h = written_by_lem a b h (open_of (lock_of s) && open_of (written_of (lock_of s) a b))
