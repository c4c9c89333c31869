-- No fixed bit of a time register is set. (rule 2.2)
use Rattle.std.specs.Prelude.{◌≡◌, ◌/◌, ◌%◌, ◌<◌}
use Rattle.calendar.specs.declared.time.Time.{Time}

pub record Clear (t : Time) : Type 0 where
  pub seconds : t.seconds < 0x80
  pub minutes : t.minutes < 0x80
  pub hours : t.hours / 64 % 2 ≡ 0
  pub weekday : t.weekday < 0x08
  pub day : t.day < 0x40
  pub month : t.month < 0x20
