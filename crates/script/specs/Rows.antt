-- The rows of the refusals' table that are a file's, each written from its row alone. (rules 9.1 to 9.4)
use Rattle.std.specs.Prelude.{◌≡◌, List, [], ◌∷◌, ℕ, zero, suc, ◌+◌, ◌*◌, ◌≤◌, ◌<◌, length, get_or, take, drop}
use Rattle.events.specs.declared.event.Event.{Event}
use Rattle.events.specs.Rows as rows
use Rattle.sd2068.specs.Rows as power

-- word n of the header: 0 the event count, 1 the events' offset, 2 the start byte count, 3 the start bytes' offset
abbrev pub header_word : List ℕ → ℕ → ℕ
header_word file n = get_or file (2 * n) 0 + 256 * get_or file (2 * n + 1) 0

-- the two sections: where each begins, and how many bytes it has
pub data Section (file : List ℕ) : ℕ → ℕ → Type 0 where
  events : Section file (header_word file 1) (4 * header_word file 0)
  start : Section file (header_word file 3) (header_word file 2)

-- place b of the file is one of n bytes from an offset on
pub record Among (at n b : ℕ) : Type 0 where
  pub from : at ≤ b
  pub below : b < at + n

-- the bytes of event i
abbrev pub event_byte : List ℕ → ℕ → ℕ → ℕ
event_byte file i k = get_or file (header_word file 1 + 4 * i + k) 0

abbrev pub kind_of : List ℕ → ℕ → ℕ
kind_of file i = event_byte file i 0

abbrev pub byte_of : List ℕ → ℕ → ℕ
byte_of file i = event_byte file i 1

abbrev pub count_of : List ℕ → ℕ → ℕ
count_of file i = event_byte file i 2 + 256 * event_byte file i 3

-- event i, and n events from it on
abbrev pub listed_at : List ℕ → ℕ → Event
listed_at file i = record { kind = kind_of file i; byte = byte_of file i; count = count_of file i }

unfoldable pub listed_from : List ℕ → ℕ → ℕ → List Event
listed_from file i zero = []
listed_from file i (suc n) = listed_at file i ∷ listed_from file (i + 1) n

-- all events, and the start bytes
abbrev pub listed_of : List ℕ → List Event
listed_of file = listed_from file 0 (header_word file 0)

abbrev pub starts_of : List ℕ → List ℕ
starts_of file = take 19 (drop (header_word file 3) file)

-- rows 2 and 3, of event i
abbrev pub Row2 : List ℕ → ℕ → Type 0
Row2 file i = rows.Row2 (kind_of file i)

abbrev pub Row3 : List ℕ → ℕ → Type 0
Row3 file i = rows.Row3 (kind_of file i) (byte_of file i) (count_of file i)

-- row 4: a file under 8 bytes
abbrev pub Row4 : List ℕ → Type 0
Row4 file = length file < 8

-- row 5: a start count that is not 19; a section with a byte that the file does not have, or that is the header's or the other's; an offset under 8 or over the file's length
pub data Row5 (file : List ℕ) : Type 0 where
  starts : (header_word file 2 ≡ 19 → ⊥) → Row5 file
  outside : {at n : ℕ} → Section file at n → (b : ℕ) → Among at n b → length file ≤ b → Row5 file
  header : {at n : ℕ} → Section file at n → (b : ℕ) → Among at n b → b < 8 → Row5 file
  shared : (b : ℕ) → Among (header_word file 1) (4 * header_word file 0) b → Among (header_word file 3) (header_word file 2) b → Row5 file
  below : {at n : ℕ} → Section file at n → at < 8 → Row5 file
  past : {at n : ℕ} → Section file at n → length file < at → Row5 file

-- row 6: the start byte of register r, 00h to 06h, has a fixed bit set
abbrev pub Row6 : List ℕ → Type 0
Row6 file = power.Row6 (starts_of file)

-- row 7: an output shorter than five bytes an event
abbrev pub Row7 : List ℕ → ℕ → Type 0
Row7 file room = room < 5 * header_word file 0

-- row 8: a file over 16,384 bytes
abbrev pub Row8 : List ℕ → Type 0
Row8 file = 16384 < length file

-- neither of an event's rows
abbrev pub Sound : List ℕ → ℕ → Type 0
Sound file i = rows.Sound (kind_of file i) (byte_of file i) (count_of file i)

-- none of the rows that come before the events
pub record Whole (file : List ℕ) : Type 0 where
  pub not8 : Row8 file → ⊥
  pub not4 : Row4 file → ⊥
  pub not5 : Row5 file → ⊥
  pub not6 : Row6 file → ⊥

-- refusal n with an index is due: its row holds and none that comes before it; 0 is due where no row holds
pub data Due (file : List ℕ) (room : ℕ) : ℕ → ℕ → Type 0 where
  due8 : Row8 file → Due file room 8 0
  due4 : (Row8 file → ⊥) → Row4 file → Due file room 4 0
  due5 : (Row8 file → ⊥) → (Row4 file → ⊥) → Row5 file → Due file room 5 0
  due6 : (Row8 file → ⊥) → (Row4 file → ⊥) → (Row5 file → ⊥) → Row6 file → Due file room 6 0
  due2 : (i : ℕ) → Whole file → i < header_word file 0 → ((j : ℕ) → j < i → Sound file j) → Row2 file i → Due file room 2 i
  due3 : (i : ℕ) → Whole file → i < header_word file 0 → ((j : ℕ) → j < i → Sound file j) → (Row2 file i → ⊥) → Row3 file i → Due file room 3 i
  due7 : Whole file → ((j : ℕ) → j < header_word file 0 → Sound file j) → Row7 file room → Due file room 7 0
  due0 : Whole file → ((j : ℕ) → j < header_word file 0 → Sound file j) → (Row7 file room → ⊥) → Due file room 0 0
