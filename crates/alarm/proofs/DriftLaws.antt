-- An alarm that is not asked only loses of its pin pulse, so any number of such pulses can be taken at once. Assumes nothing.
use Rattle.std.proofs.Common.{◌≡◌, Bool, false, ℕ, suc}
use Rattle.calendar.specs.declared.time.Time.{Time}
use Rattle.registers.proofs.CounterLaws.{less_none, less_more}
use Rattle.alarm.specs.Alarm.{rung_of, lessened_of}
use Rattle.alarm.specs.declared.alarm.Alarm.{Alarm}

module _ (a : Alarm) where
  pub drift_none : lessened_of a 0 ≡ a
  drift_none = λ i. record { at = a.at; enable = a.enable; flag = a.flag; pulse = less_none a.pulse i }

  pub drift_more : (k : ℕ) (s t : Time) (asked : Bool) → asked ≡ false → rung_of (lessened_of (lessened_of a k) 1) s t asked ≡ lessened_of a (suc k)
  unfolding rung_of
  drift_more k s t asked off = simp off (λ i. record { at = a.at; enable = a.enable; flag = a.flag; pulse = less_more a.pulse k i })
