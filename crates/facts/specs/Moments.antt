-- What one pulse did, told from the states on both sides of it. (rule 11.6)
use Rattle.std.specs.Prelude.{Bool, true, false, ◌&&◌, not, ◌+◌, eqb, ltb}
use Rattle.hand.specs.Hand.{ends_of, ticked_of}
use Rattle.alarm.specs.Alarm.{rings_of}
use Rattle.countdown.specs.Countdown.{ticks_of}
use Rattle.bus.specs.declared.phase.Phase.{Phase}
use Rattle.bus.specs.declared.phase.Phase.TheVariants.{Closed, Open}
use Rattle.sd2068.specs.declared.clock.Clock.{Clock}
use Rattle.sd2068.specs.Controls.{tds_of}
use Rattle.facts.specs.declared.moments.Moment.{Moment}

-- a transfer is open
abbrev pub open_of : Phase → Bool
open_of Closed = false
open_of (Open m t) = true

-- a transfer that was open is not; a pin pulse and a second have just begun
unfoldable pub moment_of : Clock → Clock → Moment
moment_of before after =
    record {
      timeout = open_of before.bus.phase && not (open_of after.bus.phase);
      zero = eqb after.countdown.pulse 8192;
      second = eqb after.hand.counter 0;
      alarm = eqb after.alarm.pulse 8192;
    }

-- what the next pulse of a state does, by the rules of its stages: an open transfer comes to 16,384 pulses
abbrev pub timed_out_of : Phase → Bool
timed_out_of Closed = false
timed_out_of (Open m t) = not (ltb (t.age + 1) 16384)

-- a tick takes the count from 1 to 0
abbrev pub zeroed_of : Clock → Bool
zeroed_of c = ticks_of c.countdown c.control.intde (tds_of c.control.ctr3) && eqb c.countdown.count 1

-- the second ends
abbrev pub ended_of : Clock → Bool
ended_of c = ends_of c.hand

-- it ends, INTAE is 1, and the alarm's match begins with the time that it leads to
abbrev pub rang_of : Clock → Bool
rang_of c = (ended_of c && c.control.intae) && rings_of c.alarm c.hand.time (ticked_of c.hand).time

unfoldable pub pulse_moment : Clock → Moment
pulse_moment c = record { timeout = timed_out_of c.bus.phase; zero = zeroed_of c; second = ended_of c; alarm = rang_of c }
