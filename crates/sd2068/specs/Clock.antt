-- The state with one of its groups replaced: what a stage does not own stays. (rule 1.3)
use Rattle.std.specs.Prelude.{List, ℕ}
use Rattle.hand.specs.declared.hand.Hand.{Hand}
use Rattle.alarm.specs.declared.alarm.Alarm.{Alarm}
use Rattle.countdown.specs.declared.Countdown.{Countdown}
use Rattle.control.specs.declared.lock.Lock.{Lock}
use Rattle.bus.specs.declared.phase.Bus.{Bus}
use Rattle.sd2068.specs.declared.clock.Clock.{Clock}

abbrev pub with_hand : Clock → Hand → Clock
with_hand c h = record c { hand = h }

abbrev pub with_alarm : Clock → Alarm → Clock
with_alarm c a = record c { alarm = a }

abbrev pub with_countdown : Clock → Countdown → Clock
with_countdown c d = record c { countdown = d }

abbrev pub with_lock : Clock → Lock → Clock
with_lock c l = record c { lock = l }

abbrev pub with_latched : Clock → List ℕ → Clock
with_latched c bytes = record c { latched = bytes }

abbrev pub with_divider : Clock → ℕ → Clock
with_divider c n = record c { divider = n }

abbrev pub with_bus : Clock → Bus → Clock
with_bus c b = record c { bus = b }
