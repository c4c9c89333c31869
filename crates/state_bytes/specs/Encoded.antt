-- The 61 bytes of a state. (rule 10.2)
use Rattle.std.specs.Prelude.{List, [], ◌∷◌, ℕ, get_or}
use Rattle.control.specs.Lock.{ctr1_of, ctr2_of}
use Rattle.sd2068.specs.declared.clock.Clock.{Clock}
use Rattle.state_bytes.specs.Words.{low_of, second_of, third_of, high_of}
use Rattle.state_bytes.specs.Phases.{number_in, mark_in, age_in}

-- the registers, the latched bytes, and what no register shows
unfoldable pub bytes_of : Clock → List ℕ
bytes_of c =
    c.hand.time.seconds ∷ c.hand.time.minutes ∷ c.hand.time.hours ∷ c.hand.time.weekday
    ∷ c.hand.time.day ∷ c.hand.time.month ∷ c.hand.time.year
    ∷ c.alarm.at.seconds ∷ c.alarm.at.minutes ∷ c.alarm.at.hours ∷ c.alarm.at.weekday
    ∷ c.alarm.at.day ∷ c.alarm.at.month ∷ c.alarm.at.year
    ∷ c.alarm.enable
    ∷ ctr1_of c.lock c.alarm.flag c.countdown.flag c.rtcf
    ∷ ctr2_of c.lock c.control
    ∷ c.control.ctr3 ∷ c.hand.trim ∷ c.countdown.count
    ∷ get_or c.ram 0 0 ∷ get_or c.ram 1 0 ∷ get_or c.ram 2 0 ∷ get_or c.ram 3 0
    ∷ get_or c.ram 4 0 ∷ get_or c.ram 5 0 ∷ get_or c.ram 6 0 ∷ get_or c.ram 7 0
    ∷ get_or c.ram 8 0 ∷ get_or c.ram 9 0 ∷ get_or c.ram 10 0 ∷ get_or c.ram 11 0
    ∷ get_or c.latched 0 0 ∷ get_or c.latched 1 0 ∷ get_or c.latched 2 0 ∷ get_or c.latched 3 0
    ∷ get_or c.latched 4 0 ∷ get_or c.latched 5 0 ∷ get_or c.latched 6 0
    ∷ c.countdown.reload
    ∷ c.bus.pointer ∷ number_in c.bus.phase ∷ mark_in c.bus.phase
    ∷ low_of (age_in c.bus.phase) ∷ second_of (age_in c.bus.phase)
    ∷ low_of c.alarm.pulse ∷ second_of c.alarm.pulse
    ∷ low_of c.countdown.pulse ∷ second_of c.countdown.pulse
    ∷ low_of c.hand.counter ∷ second_of c.hand.counter ∷ third_of c.hand.counter ∷ high_of c.hand.counter
    ∷ low_of c.divider ∷ second_of c.divider ∷ third_of c.divider ∷ high_of c.divider
    ∷ low_of c.countdown.prescaler ∷ second_of c.countdown.prescaler
    ∷ third_of c.countdown.prescaler ∷ high_of c.countdown.prescaler
    ∷ []
