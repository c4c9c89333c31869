-- The pin of a state is the one that its registers and inner numbers say. Assumes nothing.
use Rattle.std.proofs.Common.{◌≡◌, Bool, cond, ◌||◌, ℕ, ◌-◌, ◌/◌, ◌%◌, ◌<◌, arith, T, eqb, ltb, get_or}
use Rattle.std.proofs.lemmas.Grind.{common_steps}
use Rattle.fields.proofs.Below.{each}
use Rattle.control.specs.Pin.{bell_of, period_of, low_half_of, output_of}
use Rattle.sd2068.specs.declared.clock.Clock.{Clock}
use Rattle.sd2068.specs.Controls.{fs_of}
use Rattle.sd2068.specs.Pin.{pin_of}
use Rattle.promises.specs.Registers.{Inner, inner_of, view_of}
use Rattle.promises.specs.Pin.{level, ringing, periods, frequency, pin_by}
use Rattle.promises.proofs.RegisterLaws.{intaf, intdf, im, intde, intae, intfe, ints, ctr3}

bell : (im flag enabled : Bool) (pulse : ℕ) → bell_of im flag enabled pulse ≡ ringing im flag enabled pulse
unfolding bell_of
bell im flag enabled pulse = grind (arith, common_steps)

-- 0, 1 and 15 have no period, every other FS has the listed one
period_by :
    (zero one last : Bool) (p q : ℕ) → T (zero || one || last || eqb p q) → (f : ℕ → ℕ) (x y z : ℕ) →
    cond zero x (cond one y (cond last z (f p))) ≡ cond zero x (cond one y (cond last z (f q)))
period_by zero one last p q e f x y z = grind (arith, common_steps)

output : (fs : ℕ) (i : Inner) → fs < 16 → output_of fs i.divider i.counter ≡ frequency fs i
unfolding output_of frequency low_half_of period_of
output fs i h =
    period_by (eqb fs 0) (eqb fs 1) (eqb fs 15) (period_of fs) (get_or periods (fs - 2) 0)
    (each (λ (k : ℕ). eqb k 0 || eqb k 1 || eqb k 15 || eqb (period_of k) (get_or periods (k - 2) 0)) 16 tt fs h)
    (λ (p : ℕ). level (ltb (i.divider % p) (p / 2))) 72 88 (level (ltb i.counter 16384))

pub pin_law : (c : Clock) → pin_of c ≡ pin_by (view_of c)
unfolding pin_of pin_by
pin_law c =
    simp (
      intaf c,
      intdf c,
      im c,
      intde c,
      intae c,
      intfe c,
      ints c,
      ctr3 c,
      bell c.control.im c.alarm.flag c.control.intae c.alarm.pulse,
      bell c.control.im c.countdown.flag c.control.intde c.countdown.pulse,
      output (fs_of c.control.ctr3) (inner_of c) (omega arith),
    )
