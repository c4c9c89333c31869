-- One pulse: six stages, each on the state that the one before it left; and many. (rules 4.1, 4.5 to 4.7, 5.1, 5.6, 5.7 and 6.12)
use Rattle.std.specs.Prelude.{◌&&◌, ℕ, ◌+◌, ◌%◌, eqb}
use Rattle.calendar.specs.declared.time.Time.{Time}
use Rattle.calendar.specs.Repeat.{times}
use Rattle.hand.specs.Hand as hand
use Rattle.hand.specs.Hand.{ticked_of}
use Rattle.alarm.specs.Alarm as alarm
use Rattle.countdown.specs.Countdown as countdown
use Rattle.bus.specs.Phase.{older_of}
use Rattle.sd2068.specs.declared.clock.Clock.{Clock}
use Rattle.sd2068.specs.Controls.{tds_of}
use Rattle.sd2068.specs.Clock.{with_hand, with_alarm, with_countdown, with_divider, with_bus}

-- transfer age
abbrev pub aged_of : Clock → Clock
aged_of c = with_bus c (older_of c.bus 1)

-- the free divider n pulses on: it wraps after 524,287
abbrev pub turned_by_of : ℕ → ℕ → ℕ
turned_by_of divider n = (divider + n) % 524288

abbrev pub divided_of : Clock → Clock
divided_of c = with_divider c (turned_by_of c.divider 1)

-- pin pulses
abbrev pub pin_pulsed_of : Clock → Clock
pin_pulsed_of c = with_countdown (with_alarm c (alarm.lessened_of c.alarm 1)) (countdown.lessened_of c.countdown 1)

-- countdown
abbrev pub counted_of : Clock → Clock
counted_of c = with_countdown c (countdown.counted_of c.countdown c.control.intde (tds_of c.control.ctr3))

-- calendar
abbrev pub advanced_of : Clock → Clock
advanced_of c = with_hand c (ticked_of c.hand)

-- alarm, with the time just before the advance: the second counter is 0 right after the time advanced, and only then
abbrev pub rung_of : Time → Clock → Clock
rung_of before c = with_alarm c (alarm.rung_of c.alarm before c.hand.time (eqb c.hand.counter 0 && c.control.intae))

unfoldable pub pulse_of : Clock → Clock
pulse_of c =
    let ready = counted_of (pin_pulsed_of (divided_of (aged_of c))) in
    rung_of ready.hand.time (advanced_of ready)

-- n pulses
abbrev pub pulses_of : Clock → ℕ → Clock
pulses_of c n = times pulse_of n c

-- of the next n pulses, as many as only count: they end no second and make no tick
abbrev pub within_of : Clock → ℕ → ℕ
within_of c n = countdown.within_of c.countdown c.control.intde (tds_of c.control.ctr3) (hand.within_of c.hand n)

-- n pulses that only count, at once
unfoldable pub drifted_of : Clock → ℕ → Clock
drifted_of c n =
    record c {
      hand = hand.drifted_of c.hand n;
      alarm = alarm.lessened_of c.alarm n;
      countdown = countdown.drifted_of c.countdown c.control.intde n;
      divider = turned_by_of c.divider n;
      bus = older_of c.bus n;
    }
