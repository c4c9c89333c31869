-- The lock is open exactly if 10h and 0Fh show its three bits. Assumes nothing.
use Rattle.std.proofs.Common.{◌≡◌, Bool, ◌&&◌, ℕ, ◌/◌, ◌%◌, ◌^◌, eqb}
use Rattle.control.specs.Control.{bit_of}
use Rattle.control.specs.Lock.{open_of, ctr1_of, ctr2_of}
use Rattle.control.specs.declared.control.Control.{Control}
use Rattle.control.specs.declared.lock.Lock.{Lock}
use Rattle.control.proofs.BitLaws as bits

-- whatever else the two registers show
module _ (l : Lock) (intaf intdf rtcf : Bool) (c : Control) where
  abbrev ctr1 : ℕ
  ctr1 = ctr1_of l intaf intdf rtcf

  abbrev ctr2 : ℕ
  ctr2 = ctr2_of l c

  wrtc1 : bit_of 0x80 ctr2 ≡ l.wrtc1
  unfolding ctr2_of
  wrtc1 = bits.wrtc1 l.wrtc1 c.im c.ints1 c.ints0 c.fobat c.intde c.intae c.intfe

  wrtc2 : bit_of 0x04 ctr1 ≡ l.wrtc2
  unfolding ctr1_of
  wrtc2 = bits.wrtc2 l.wrtc3 intaf intdf l.wrtc2 rtcf

  wrtc3 : bit_of 0x80 ctr1 ≡ l.wrtc3
  unfolding ctr1_of
  wrtc3 = bits.wrtc3 l.wrtc3 intaf intdf l.wrtc2 rtcf

  -- bit 7 of 10h, and bits 2 and 7 of 0Fh
  pub open_shown : open_of l ≡ (eqb (ctr2 / 2 ^ 7 % 2) 1 && eqb (ctr1 / 2 ^ 2 % 2) 1 && eqb (ctr1 / 2 ^ 7 % 2) 1)
  open_shown = simp (wrtc1, wrtc2, wrtc3)
