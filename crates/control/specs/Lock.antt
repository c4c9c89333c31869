-- The lock, and the two registers that its bits stand in. (rules 7.1 to 7.5, 2.4, 2.5 and 8.2)
use Rattle.std.specs.Prelude.{Bool, cond, ◌&&◌, ◌||◌, not, ℕ, ◌+◌, eqb}
use Rattle.control.specs.Control.{bit_of}
use Rattle.control.specs.declared.control.Control.{Control}
use Rattle.control.specs.declared.lock.Lock.{Lock}

-- open: all three bits
abbrev pub open_of : Lock → Bool
open_of l = l.wrtc1 && l.wrtc2 && l.wrtc3

-- by 10h: its highest bit is WRTC1, and without it the other two go
abbrev pub by_ctr2 : Lock → ℕ → Lock
by_ctr2 l b = record { wrtc1 = bit_of 0x80 b; wrtc2 = bit_of 0x80 b && l.wrtc2; wrtc3 = bit_of 0x80 b && l.wrtc3 }

-- by 0Fh: with WRTC1 the other two take its bits
abbrev pub by_ctr1 : Lock → ℕ → Lock
by_ctr1 l b =
    record {
      wrtc1 = l.wrtc1;
      wrtc2 = cond l.wrtc1 (bit_of 0x04 b) l.wrtc2;
      wrtc3 = cond l.wrtc1 (bit_of 0x80 b) l.wrtc3;
    }

unfoldable pub written_of : Lock → ℕ → ℕ → Lock
written_of l a b = cond (eqb a 0x0F) (by_ctr1 l b) (cond (eqb a 0x10) (by_ctr2 l b) l)

-- WRTC2 or WRTC3 is not 1 without WRTC1
unfoldable pub well_of : Lock → Bool
well_of l = l.wrtc1 || not (l.wrtc2 || l.wrtc3)

-- 0Fh, of five bits
unfoldable pub ctr1_of : Lock → Bool → Bool → Bool → ℕ
ctr1_of l intaf intdf rtcf =
    cond l.wrtc3 0x80 0 + cond intaf 0x20 0 + cond intdf 0x10 0 + cond l.wrtc2 0x04 0 + cond rtcf 0x01 0

-- 10h, of eight bits
unfoldable pub ctr2_of : Lock → Control → ℕ
ctr2_of l c =
    cond l.wrtc1 0x80 0 + cond c.im 0x40 0 + cond c.ints1 0x20 0 + cond c.ints0 0x10 0
    + cond c.fobat 0x08 0 + cond c.intde 0x04 0 + cond c.intae 0x02 0 + cond c.intfe 0x01 0
