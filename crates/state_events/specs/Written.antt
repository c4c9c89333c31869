-- A byte written to a register of a state's bytes. (rules 2.7 and 7.2)
use Rattle.std.specs.Prelude.{cond, ◌&&◌, List, ℕ, ltb, set}
use Rattle.registers.specs.Fixed.{kept_of}
use Rattle.hand.specs.Hand as hand
use Rattle.alarm.specs.Alarm as alarm
use Rattle.countdown.specs.Countdown as countdown
use Rattle.control.specs.Control as control
use Rattle.control.specs.declared.lock.Lock.{Lock}
use Rattle.control.specs.Lock.{open_of, written_of, ctr1_of, ctr2_of}
use Rattle.state_bytes.specs.Decoded.{hand_of, alarm_of, countdown_of, lock_of, control_of, rtcf_of}
use Rattle.state_events.specs.Put.{put_long, put_countdown}

-- what is written over the bytes l of a state that s stands for: the lock alone
abbrev pub locked_over : List ℕ → List ℕ → Lock → List ℕ
locked_over s l lock =
    set (set l 0x0F (ctr1_of lock (alarm_of s).flag (countdown_of s).flag (rtcf_of s))) 0x10 (ctr2_of lock (control_of s))

-- a byte stored at 00h to 06h: the register, and the counter of the second
abbrev pub time_over : List ℕ → List ℕ → ℕ → ℕ → List ℕ
time_over s l a b = put_long (set l a (kept_of a b)) 49 (hand.stored_of (hand_of s) a b).counter

-- a byte stored at 0Eh to 13h: these registers, and the rest of the countdown
abbrev pub controls_over : List ℕ → List ℕ → ℕ → ℕ → List ℕ
controls_over s l a b =
    let rings = alarm.stored_of (alarm_of s) a b in
    let counts = countdown.stored_of (countdown_of s) a b in
    let lock = written_of (lock_of s) a b in
    let controls = control.stored_of (control_of s) a b in
    let first = set (set l 0x0E rings.enable) 0x0F (ctr1_of lock rings.flag counts.flag (rtcf_of s)) in
    let second = set (set first 0x10 (ctr2_of lock controls)) 0x11 controls.ctr3 in
    put_countdown (set second 0x12 (hand.stored_of (hand_of s) a b).trim) counts

-- a byte stored at a register
abbrev pub stored_over : List ℕ → List ℕ → ℕ → ℕ → List ℕ
stored_over s l a b =
    cond (ltb a 0x07) (time_over s l a b)
    (cond (ltb a 0x0E) (set l a (kept_of a b))
    (cond (ltb a 0x14) (controls_over s l a b)
    (set l a b)))

-- the lock goes by the byte alone, the rest takes it if it is stored
unfoldable pub write_in : List ℕ → ℕ → ℕ → List ℕ
write_in s a b =
    let after = written_of (lock_of s) a b in
    cond (open_of (lock_of s) && open_of after) (stored_over s s a b) (locked_over s s after)
