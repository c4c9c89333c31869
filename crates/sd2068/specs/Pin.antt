-- The level of the pin. (rules 5.11 to 5.14)
use Rattle.std.specs.Prelude.{cond, ℕ, eqb}
use Rattle.control.specs.declared.pin.Level.TheVariants.{High}
use Rattle.control.specs.Pin.{letter_of, bell_of, frequency_of}
use Rattle.sd2068.specs.declared.clock.Clock.{Clock}
use Rattle.sd2068.specs.Controls.{fs_of, ints_of}

abbrev pub alarm_pin : Clock → ℕ
alarm_pin c = bell_of c.control.im c.alarm.flag c.control.intae c.alarm.pulse

abbrev pub countdown_pin : Clock → ℕ
countdown_pin c = bell_of c.control.im c.countdown.flag c.control.intde c.countdown.pulse

abbrev pub frequency_pin : Clock → ℕ
frequency_pin c = frequency_of c.control.intfe (fs_of c.control.ctr3) c.divider c.hand.counter

-- by INTS: 0 high, 1 alarm, 2 frequency, 3 countdown
unfoldable pub pin_of : Clock → ℕ
pin_of c =
    cond (eqb (ints_of c.control.ints1 c.control.ints0) 0) (letter_of High)
    (cond (eqb (ints_of c.control.ints1 c.control.ints0) 1) (alarm_pin c)
    (cond (eqb (ints_of c.control.ints1 c.control.ints0) 2) (frequency_pin c)
    (countdown_pin c)))
