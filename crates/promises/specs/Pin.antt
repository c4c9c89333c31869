-- The pin, by the registers 0Fh, 10h, 11h and the numbers inside. (rules 5.11 to 5.14 and 8.1)
use Rattle.std.specs.Prelude.{Bool, cond, ◌&&◌, List, [], ◌∷◌, ℕ, ◌-◌, ◌/◌, ◌%◌, eqb, ltb, get_or}
use Rattle.promises.specs.Registers.{bit, Inner, View}

-- the letter for low, L, or for high, H
abbrev pub level : Bool → ℕ
level low = cond low 76 72

-- alarm and countdown: with IM 0 by the flag, with IM 1 by the pin pulse while enabled (rule 5.12)
abbrev pub ringing : Bool → Bool → Bool → ℕ → ℕ
ringing im flag enabled pulse = level (cond im (ltb 0 pulse && enabled) flag)

-- the pulses of a period, from FS 2 to FS 14 (rule 5.14)
abbrev pub periods : List ℕ
periods =
    8 ∷ 32 ∷ 512 ∷ 1024 ∷ 2048 ∷ 4096 ∷ 8192 ∷ 16384 ∷ 32768 ∷ 65536 ∷ 131072 ∷ 262144 ∷ 524288 ∷ []

-- a frequency, by FS: 0 high, 1 the crystal (X), 15 low for the first 16,384 pulses of a second, else low for half a period (rules 5.13 and 5.14)
unfoldable pub frequency : ℕ → Inner → ℕ
frequency fs i =
    cond (eqb fs 0) 72
    (cond (eqb fs 1) 88
    (cond (eqb fs 15) (level (ltb i.counter 16384))
    (level (ltb (i.divider % get_or periods (fs - 2) 0) (get_or periods (fs - 2) 0 / 2)))))

-- the pin, by INTS: 0 high, 1 the alarm, 2 a frequency while INTFE is 1, 3 the countdown (rules 5.11 and 5.13)
unfoldable pub pin_by : View → ℕ
pin_by v =
    let r = v.register in
    let ints = r 0x10 / 16 % 4 in
    cond (eqb ints 0) 72
    (cond (eqb ints 1) (ringing (bit 6 (r 0x10)) (bit 5 (r 0x0F)) (bit 1 (r 0x10)) v.inner.alarm_pulse)
    (cond (eqb ints 2) (cond (bit 0 (r 0x10)) (frequency (r 0x11 % 16) v.inner) 72)
    (ringing (bit 6 (r 0x10)) (bit 4 (r 0x0F)) (bit 2 (r 0x10)) v.inner.countdown_pulse)))
