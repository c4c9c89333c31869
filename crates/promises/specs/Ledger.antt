-- A build's id, as a board reads it at boot: month, day, hour and minute, two hexadecimal digits each. (rules 2.1, 3.1, 3.4, 3.5 and 8.1)
use Rattle.std.specs.Prelude.{◌≡◌, cond, List, [], ◌∷◌, ℕ, ◌+◌, ◌-◌, ◌*◌, ◌/◌, ◌%◌, ◌<◌, ltb, get_or, Option}
use Rattle.fields.specs.Hours.{hour_number_of}
use Rattle.calendar.specs.declared.time.Time.{Time}
use Rattle.calendar.specs.Numbers.{number_of}

-- the digits of four bytes, each high digit first; of the hours bit 7, which tells the mode, is left out
unfoldable pub id_of : ℕ → ℕ → ℕ → ℕ → List ℕ
id_of month day hours minutes =
    month / 16 ∷ month % 16 ∷ day / 16 ∷ day % 16 ∷ hours % 128 / 16 ∷ hours % 128 % 16 ∷ minutes / 16 ∷ minutes % 16 ∷ []

-- the eight digits of a time
abbrev pub digits_of : Time → List ℕ
digits_of t = id_of t.month t.day t.hours t.minutes

-- the digit that a hexadecimal character says: characters 48 to 57 are 0 to 9, characters 65 to 70 are A to F
abbrev pub digit_read : ℕ → ℕ
digit_read c = cond (ltb c 65) (c - 48) (c - 55)

-- the byte that two characters say
abbrev pub byte_read : List ℕ → ℕ
byte_read text = digit_read (get_or text 0 0) * 16 + digit_read (get_or text 1 0)

-- the eight digits of seven answers that were read, two characters each, seconds to year
unfoldable pub digits_read : List (List ℕ) → List ℕ
digits_read reads = id_of (byte_read (get_or reads 5 [])) (byte_read (get_or reads 4 [])) (byte_read (get_or reads 2 [])) (byte_read (get_or reads 1 []))

-- two times in the same minute of a year, the hours as those of the day, 0 to 23
pub record SameMinute (t u : Time) : Type 0 where
  pub month : t.month ≡ u.month
  pub day : t.day ≡ u.day
  pub hour : hour_number_of t.hours ≡ hour_number_of u.hours
  pub below : hour_number_of t.hours < 24
  pub minutes : t.minutes ≡ u.minutes

-- a build at a time: its second number, the hour of the day, and the id
pub record Build : Type 0 where
  pub second : Option ℕ
  pub hour : ℕ
  pub id : List ℕ

abbrev pub build_of : Time → Build
build_of t = record { second = number_of t; hour = hour_number_of t.hours; id = digits_of t }

-- builds at an hour and a minute of 2006-12-20
abbrev pub built : ℕ → ℕ → Build
built hours minutes =
    build_of (record { seconds = 0x00; minutes = minutes; hours = hours; weekday = 0x03; day = 0x20; month = 0x12; year = 0x06 })
