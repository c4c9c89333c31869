-- Nothing rings while a match lasts. Assumes nothing.
use Rattle.std.proofs.Common.{◌≡◌, Bool, true, false, ◌&&◌, not}
use mathlib.Core.Bool.{and-false, and-not_self}
use Rattle.calendar.specs.declared.time.Time.{Time}
use Rattle.alarm.specs.Alarm.{meets_of, rings_of}
use Rattle.alarm.specs.declared.alarm.Alarm.{Alarm}

-- nothing begins where the match is as it was
pub unmoved : (x y : Bool) → x ≡ y → x && not y ≡ false
unmoved x y e = rw e (and-not_self y)

-- while a match lasts nothing rings, from whatever time it is entered
pub match_lasts : (a : Alarm) (s t : Time) → meets_of a s ≡ true → rings_of a s t ≡ false
match_lasts a s t e = rw e (and-false (meets_of a t))
