-- The nine marked cases, over what the public step answers and what the registers then read. (rules 2.8, 3.3 to 3.10, 4.1 to 4.3, 5.7 to 5.9, 6.12 and 7.1 to 7.5)
use Rattle.std.specs.Prelude.{◌≡◌, List, [], ◌∷◌, ◌++◌, map, ℕ, ◌+◌, ◌-◌, ◌/◌, ◌%◌, replicate}
use Rattle.events.specs.declared.event.Event.{Event}
use Rattle.sd2068.specs.declared.clock.Clock.{Clock}
use Rattle.sd2068.specs.Power.{power_on_of}
use Rattle.sd2068.specs.Reading.{register_of, registers_to}
use Rattle.sd2068.specs.Step.{step_of}
use Rattle.sd2068.specs.Run.{start, stop, byte, pulses, after_of}

-- bytes written from register a on, in one transfer
unfoldable pub writes : ℕ → List ℕ → List Event
writes a bs = start ∷ byte 0x64 ∷ byte a ∷ (map byte bs ++ (stop ∷ []))

-- 10h, then 0Fh
unfoldable pub unlocks : List Event
unlocks = writes 0x10 (0x80 ∷ []) ++ writes 0x0F (0x84 ∷ [])

-- powered on with the seven bytes of a time and an empty RAM
unfoldable pub fresh : List ℕ → Clock
fresh time = (power_on_of (time ++ replicate 12 0x00)).state

-- 98h:19:20 on 20-12-06, weekday 3
unfoldable pub sample : Clock
sample = fresh (0x20 ∷ 0x19 ∷ 0x98 ∷ 0x03 ∷ 0x20 ∷ 0x12 ∷ 0x06 ∷ [])

-- registers 00h to 06h, 32,768 pulses after power-on with the seven bytes of a time
unfoldable pub next_second : List ℕ → List ℕ
next_second time = registers_to (step_of (fresh time) 5 0 32768).state 7

-- powered on with seconds s, and f written to 12h
unfoldable pub trimmed_fresh : ℕ → ℕ → Clock
trimmed_fresh s f = after_of (fresh (s ∷ 0x19 ∷ 0x98 ∷ 0x03 ∷ 0x20 ∷ 0x12 ∷ 0x06 ∷ [])) (unlocks ++ writes 0x12 (f ∷ []))

-- 12h and 00h, and 00h after one more pulse
unfoldable pub soon : Clock → List ℕ
soon c = register_of c 0x12 ∷ register_of c 0x00 ∷ register_of (step_of c 5 0 1).state 0x00 ∷ []

-- the same, one pulse before the nth
unfoldable pub around : ℕ → ℕ → ℕ → List ℕ
around s f n = soon (step_of (trimmed_fresh s f) 5 0 (n - 1)).state

-- 0Fh, 10h and 14h, once 5Ah has been written to 14h
unfoldable pub tried : List Event → List ℕ
tried es =
    let c = after_of sample (es ++ writes 0x14 (0x5A ∷ [])) in
    register_of c 0x0F ∷ register_of c 0x10 ∷ register_of c 0x14 ∷ []

-- what a read answers, and what it answers one pulse later
unfoldable pub answers : Clock → List (List ℕ)
answers c = (step_of c 3 0 0).answer ∷ (step_of (step_of c 5 0 1).state 3 0 0).answer ∷ []

-- a transfer that reads, 16,383 pulses old
unfoldable pub opened : Clock
opened = after_of sample (start ∷ byte 0x65 ∷ pulses 16383 ∷ [])

-- INTDE 1, TDS 0, 13h = 3, and the same once INTDF has been cleared
unfoldable pub counting : Clock
counting = after_of sample (unlocks ++ writes 0x10 (0x84 ∷ []) ++ writes 0x13 (0x03 ∷ []))

unfoldable pub cleared : Clock
cleared = after_of counting (pulses 24 ∷ writes 0x0F (0x84 ∷ []))

-- bit 4 of 0Fh, INTDF, after some pulses
unfoldable pub intdf : ℕ → Clock → ℕ
intdf n c = register_of (after_of c (pulses n ∷ [])) 0x0F / 0x10 % 2

-- a time becomes another in one second
pub record Becomes (time later : List ℕ) : Type 0 where
  pub reads : next_second time ≡ later

-- a second that begins with seconds s while 12h holds f has n pulses: one pulse before the nth 00h reads s, and then s + 1
pub record Lasts (s f n : ℕ) : Type 0 where
  pub reads : around s f n ≡ f ∷ s ∷ (s + 1) ∷ []

pub record Marked : Type 0 where
  -- 1. the century's last second, in 24-hour mode
  pub case1 : Becomes (0x59 ∷ 0x59 ∷ 0xA3 ∷ 0x06 ∷ 0x31 ∷ 0x12 ∷ 0x99 ∷ []) (0x00 ∷ 0x00 ∷ 0x80 ∷ 0x00 ∷ 0x01 ∷ 0x01 ∷ 0x00 ∷ [])
  -- 2. the end of 28 February, in a leap year and in the year after it
  pub case2 :
      Becomes (0x59 ∷ 0x59 ∷ 0xA3 ∷ 0x01 ∷ 0x28 ∷ 0x02 ∷ 0x00 ∷ []) (0x00 ∷ 0x00 ∷ 0x80 ∷ 0x02 ∷ 0x29 ∷ 0x02 ∷ 0x00 ∷ [])
      × Becomes (0x59 ∷ 0x59 ∷ 0xA3 ∷ 0x03 ∷ 0x28 ∷ 0x02 ∷ 0x01 ∷ []) (0x00 ∷ 0x00 ∷ 0x80 ∷ 0x04 ∷ 0x01 ∷ 0x03 ∷ 0x01 ∷ [])
  -- 3. noon, midnight and one o'clock, in 12-hour mode
  pub case3 :
      Becomes (0x59 ∷ 0x59 ∷ 0x11 ∷ 0x03 ∷ 0x20 ∷ 0x12 ∷ 0x06 ∷ []) (0x00 ∷ 0x00 ∷ 0x32 ∷ 0x03 ∷ 0x20 ∷ 0x12 ∷ 0x06 ∷ [])
      × Becomes (0x59 ∷ 0x59 ∷ 0x31 ∷ 0x03 ∷ 0x20 ∷ 0x12 ∷ 0x06 ∷ []) (0x00 ∷ 0x00 ∷ 0x12 ∷ 0x04 ∷ 0x21 ∷ 0x12 ∷ 0x06 ∷ [])
      × Becomes (0x59 ∷ 0x59 ∷ 0x12 ∷ 0x03 ∷ 0x20 ∷ 0x12 ∷ 0x06 ∷ []) (0x00 ∷ 0x00 ∷ 0x01 ∷ 0x03 ∷ 0x20 ∷ 0x12 ∷ 0x06 ∷ [])
  -- 4. the ends of the trim and its smallest changes, in a second that is trimmed and in the one after it
  pub case4 :
      Lasts 0x00 0x02 32770 × Lasts 0x00 0x3F 32892 × Lasts 0x00 0x42 32644 × Lasts 0x00 0x7E 32764 × Lasts 0x00 0x7F 32766
      × Lasts 0x01 0x02 32768 × Lasts 0x01 0x3F 32768 × Lasts 0x01 0x42 32768 × Lasts 0x01 0x7E 32768 × Lasts 0x01 0x7F 32768
  -- 5. two trims between, and two that change nothing
  pub case5 : Lasts 0x00 0x15 32808 × Lasts 0x00 0x44 32648 × Lasts 0x00 0x40 32768 × Lasts 0x00 0x41 32768
  -- 6. an illegal second
  pub case6 : Becomes (0x5A ∷ 0x19 ∷ 0x98 ∷ 0x03 ∷ 0x20 ∷ 0x12 ∷ 0x06 ∷ []) (0x00 ∷ 0x20 ∷ 0x98 ∷ 0x03 ∷ 0x20 ∷ 0x12 ∷ 0x06 ∷ [])
  -- 7. the two lock registers in the wrong order, and in the right one
  pub case7 : (tried (writes 0x0F (0x84 ∷ 0x80 ∷ [])) ≡ 0x01 ∷ 0x80 ∷ 0x00 ∷ []) × (tried unlocks ≡ 0x85 ∷ 0x80 ∷ 0x5A ∷ [])
  -- 8. the last pulse at which a transfer is open, and the next
  pub case8 : answers opened ≡ (50 ∷ 48 ∷ []) ∷ (70 ∷ 70 ∷ []) ∷ []
  -- 9. a countdown from 3 by ticks of eight pulses: its first end, and its next
  pub case9 : intdf 23 counting ∷ intdf 24 counting ∷ intdf 31 cleared ∷ intdf 32 cleared ∷ [] ≡ 0 ∷ 1 ∷ 0 ∷ 1 ∷ []
