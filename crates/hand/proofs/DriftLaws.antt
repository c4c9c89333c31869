-- Pulses before the end of a second only count, so any number of them can be taken at once. Assumes nothing.
use Rattle.std.proofs.Common.{◌≡◌, refl, sym, ap, ◌∙◌, false, ℕ, suc, ◌+◌, ◌-◌, ◌≤◌, arith, eqb, ne_eqb}
use Rattle.registers.specs.Counters.{more_of}
use Rattle.registers.proofs.CounterLaws.{Within, within_room, more_room, more_none}
use Rattle.hand.specs.Trim.{length_of}
use Rattle.hand.specs.Hand.{ends_of, ticked_of, within_of, drifted_of}
use Rattle.hand.specs.declared.hand.Hand.{Hand}
use Rattle.hand.proofs.SpanLaws.{length_most, counts_by}

-- another counter
abbrev counted : Hand → ℕ → Hand
counted h counter = record { time = h.time; counter = counter; trim = h.trim }

module _ (h : Hand) where
  abbrev length : ℕ
  length = length_of h.time.seconds h.trim

  -- the pulses before the one that ends the second
  abbrev pub room_of : ℕ
  room_of = length - 1 - h.counter

  -- of n pulses, k that come before it
  abbrev pub Room : ℕ → ℕ → Type 0
  Room = Within h.counter length

  pub within_asked : (n : ℕ) → Room n (within_of h n)
  within_asked n = within_room h.counter length n

  drift_counts : (k : ℕ) → k ≤ room_of → more_of h.counter k ≡ h.counter + k
  drift_counts k room = more_room h.counter length k (omega (arith, length_most h.time.seconds h.trim)) room

  pub drift_none : drifted_of h 0 ≡ h
  drift_none = λ i. counted h (more_none h.counter i)

  module _ (k : ℕ) (room : suc k ≤ room_of) where
    ticked_on : ticked_of (drifted_of h k) ≡ counted h (h.counter + suc k)
    unfolding ticked_of
    ticked_on =
        let g = counted h (h.counter + k) in
        let more : h.counter + k + 1 ≡ h.counter + suc k = omega arith in
        ap (λ (x : ℕ). ticked_of (counted h x)) (drift_counts k (omega arith)) ∙ counts_by g (ends_of g) refl (omega arith) ∙ ap (counted h) more

    pub drift_more : ticked_of (drifted_of h k) ≡ drifted_of h (suc k)
    drift_more = ticked_on ∙ ap (counted h) (sym (drift_counts (suc k) room))

    -- the alarm is not asked then
    pub drift_within : eqb (ticked_of (drifted_of h k)).counter 0 ≡ false
    drift_within = ap (λ (x : Hand). eqb x.counter 0) ticked_on ∙ ne_eqb (h.counter + suc k) 0 (λ e. omega arith)
