-- Pulses before a tick only count, so any number of them can be taken at once. Assumes nothing.
use Rattle.std.proofs.Common.{◌≡◌, refl, sym, Bool, true, false, true≢false, ℕ, suc, ◌+◌, ◌-◌, ◌≤◌, arith}
use borrow.Author.Tests.{lt-leb}
use Rattle.registers.specs.Counters.{reached_of, more_of}
use Rattle.registers.proofs.CounterLaws.{within_room, more_room, more_none, less_none, less_more}
use Rattle.countdown.specs.Countdown.{limit_of, counted_of, lessened_of, within_of, drifted_of}
use Rattle.countdown.specs.declared.Countdown.{Countdown}
use Rattle.countdown.proofs.WellLaws.{limit_most}

-- another prescaler and another pin pulse
abbrev turned : Countdown → ℕ → ℕ → Countdown
turned d prescaler pulse = record { count = d.count; reload = d.reload; prescaler = prescaler; flag = d.flag; pulse = pulse }

pub drift_none : (d : Countdown) (on : Bool) → drifted_of d on 0 ≡ d
drift_none d true = λ i. turned d (more_none d.prescaler i) (less_none d.pulse i)
drift_none d false = λ i. turned d d.prescaler (less_none d.pulse i)

module _ (d : Countdown) (tds : ℕ) where
  -- the pulses before the one that ticks
  abbrev pub room_of : ℕ
  room_of = limit_of tds - 1 - d.prescaler

  -- of n pulses, k that come before it
  pub record Room (on : Bool) (n k : ℕ) : Type 0 where
    pub asked : k ≤ n
    pub room : on ≡ true → k ≤ room_of

  pub within_asked : (on : Bool) (n : ℕ) → Room on n (within_of d on tds n)
  within_asked true n = let w = within_room d.prescaler (limit_of tds) n in record { asked = w.asked; room = λ e. w.room }
  within_asked false n = record { asked = omega arith; room = λ e. absurd (true≢false (sym e)) }

  drift_counts : (k : ℕ) → k ≤ room_of → more_of d.prescaler k ≡ d.prescaler + k
  drift_counts k room = more_room d.prescaler (limit_of tds) k (omega (arith, limit_most tds)) room

  pub drift_more : (on : Bool) (k : ℕ) → (on ≡ true → suc k ≤ room_of) → counted_of (lessened_of (drifted_of d on k) 1) on tds ≡ drifted_of d on (suc k)
  unfolding counted_of
  drift_more true k room =
      let h = room refl in
      let e : d.prescaler + k + 1 ≡ more_of d.prescaler (suc k) = omega (arith, drift_counts (suc k) h) in
      let goes_on : reached_of (d.prescaler + k) (limit_of tds) ≡ false = lt-leb (limit_of tds) (d.prescaler + k + 1) (omega arith) in
      simp (drift_counts k (omega arith), goes_on) (λ i. turned d (e i) (less_more d.pulse k i))
  drift_more false k room = λ i. turned d d.prescaler (less_more d.pulse k i)
