-- Every byte of the registers stays below 256.
use Rattle.std.proofs.Common.{ℕ, zero, suc, ◌-◌, ◌<◌, ◌≤◌, Bool, true, false, nat_eq, arith}
use Rattle.std.specs.Prelude.{if◌then◌else◌}
use Rattle.chip_regs.specs.Registers.{byte_at, written, after_read, stop_with, without_stops, cleared, flag, within, byte_of_word, istat_byte, dstat_byte, sist0_byte}
use Rattle.chip_regs.specs.Bytes.{HasBytes, RegistersKeepBytes}
use Rattle.chip_regs.specs.declared.registers.Regs.{Regs}
use Rattle.chip_regs.specs.declared.registers.Cause.{Cause}
use Rattle.chip_regs.specs.declared.registers.Cause.TheVariants.{Sir, Iid, Bf, Ma, Udc, Rst, Sto}

-- the registers of one byte; any word has bytes
pub record Narrow (scntl0 scntl1 scntl3 sxfer sdid sfbr ssid dcmd : ℕ) : Type 0 where
  pub scntl0_fits : scntl0 < 256
  pub scntl1_fits : scntl1 < 256
  pub scntl3_fits : scntl3 < 256
  pub sxfer_fits : sxfer < 256
  pub sdid_fits : sdid < 256
  pub sfbr_fits : sfbr < 256
  pub ssid_fits : ssid < 256
  pub dcmd_fits : dcmd < 256

pub record IsNarrow (r : Regs) : Type 0 where
  pub are : Narrow r.scntl0 r.scntl1 r.scntl3 r.sxfer r.sdid r.sfbr r.ssid r.dcmd

pub narrow-from_bytes : (r : Regs) → HasBytes r → IsNarrow r
unfolding byte_at
narrow-from_bytes r h = record {
  are = record {
    scntl0_fits = h.below 0x00;
    scntl1_fits = h.below 0x01;
    scntl3_fits = h.below 0x03;
    sxfer_fits = h.below 0x05;
    sdid_fits = h.below 0x06;
    sfbr_fits = h.below 0x08;
    ssid_fits = h.below 0x0a;
    dcmd_fits = h.below 0x27;
  };
}

-- ---- each byte that a place shows

either : (b : Bool) (x y : ℕ) → x < 256 → y < 256 → (if b then x else y) < 256
either true x y h k = h
either false x y h k = k

byte_of_word-below : (w k : ℕ) → byte_of_word w k < 256
byte_of_word-below w zero = omega arith
byte_of_word-below w (suc zero) = omega arith
byte_of_word-below w (suc (suc zero)) = omega arith
byte_of_word-below w (suc (suc (suc zero))) = omega arith
byte_of_word-below w (suc (suc (suc (suc k)))) = omega arith

flag-most : (b : Bool) (n : ℕ) → flag b n ≤ n
flag-most true n = omega arith
flag-most false n = omega arith

istat-below : (r : Regs) → istat_byte r < 256
istat-below r = omega (arith, flag-most r.sigp 0x20, flag-most r.con 0x08, flag-most r.intf 0x04, flag-most r.sip 0x02, flag-most r.dip 0x01)

dstat-below : (r : Regs) → dstat_byte r < 256
dstat-below r = omega (arith, flag-most r.bf 0x20, flag-most r.sir 0x04, flag-most r.iid 0x01)

sist0-below : (r : Regs) → sist0_byte r < 256
sist0-below r = omega (arith, flag-most r.ma 0x80, flag-most r.udc 0x04, flag-most r.rst 0x02)

flag-below : (b : Bool) (n : ℕ) → n < 256 → flag b n < 256
flag-below b n h = omega (arith, flag-most b n)

byte-below : (p : ℕ) (r : Regs) → IsNarrow r → byte_at p r < 256
unfolding byte_at
byte-below p r f =
    either (nat_eq p 0x00) _ _ f.are.scntl0_fits (
    either (nat_eq p 0x01) _ _ f.are.scntl1_fits (
    either (nat_eq p 0x03) _ _ f.are.scntl3_fits (
    either (nat_eq p 0x05) _ _ f.are.sxfer_fits (
    either (nat_eq p 0x06) _ _ f.are.sdid_fits (
    either (nat_eq p 0x08) _ _ f.are.sfbr_fits (
    either (nat_eq p 0x0a) _ _ f.are.ssid_fits (
    either (nat_eq p 0x0c) _ _ (dstat-below r) (
    either (within 0x10 p) _ _ (byte_of_word-below r.dsa (p - 0x10)) (
    either (nat_eq p 0x14) _ _ (istat-below r) (
    either (nat_eq p 0x1a) _ _ (flag-below r.sigp 0x40 (omega arith)) (
    either (within 0x1c p) _ _ (byte_of_word-below r.temp (p - 0x1c)) (
    either (nat_eq p 0x27) _ _ f.are.dcmd_fits (
    either (within 0x24 p) _ _ (byte_of_word-below r.dbc (p - 0x24)) (
    either (within 0x28 p) _ _ (byte_of_word-below r.dnad (p - 0x28)) (
    either (within 0x2c p) _ _ (byte_of_word-below r.dsp (p - 0x2c)) (
    either (within 0x30 p) _ _ (byte_of_word-below r.dsps (p - 0x30)) (
    either (within 0x34 p) _ _ (byte_of_word-below r.scratcha (p - 0x34)) (
    either (nat_eq p 0x42) _ _ (sist0-below r) (
    either (nat_eq p 0x43) _ _ (flag-below r.sto 0x04 (omega arith)) (
    either (within 0x5c p) _ _ (byte_of_word-below r.scratchb (p - 0x5c)) (
    omega arith)))))))))))))))))))))

pub bytes-from_narrow : (r : Regs) → IsNarrow r → HasBytes r
bytes-from_narrow r f = record { below = λ p. byte-below p r f }

-- ---- after a write

-- a byte in one register
pub narrow-scntl0 : (r : Regs) (b : ℕ) → IsNarrow r → b < 256 → IsNarrow (record r { scntl0 = b })
narrow-scntl0 r b f h = record { are = record { scntl0_fits = h; scntl1_fits = f.are.scntl1_fits; scntl3_fits = f.are.scntl3_fits; sxfer_fits = f.are.sxfer_fits; sdid_fits = f.are.sdid_fits; sfbr_fits = f.are.sfbr_fits; ssid_fits = f.are.ssid_fits; dcmd_fits = f.are.dcmd_fits } }

pub narrow-scntl1 : (r : Regs) (b : ℕ) → IsNarrow r → b < 256 → IsNarrow (record r { scntl1 = b })
narrow-scntl1 r b f h = record { are = record { scntl0_fits = f.are.scntl0_fits; scntl1_fits = h; scntl3_fits = f.are.scntl3_fits; sxfer_fits = f.are.sxfer_fits; sdid_fits = f.are.sdid_fits; sfbr_fits = f.are.sfbr_fits; ssid_fits = f.are.ssid_fits; dcmd_fits = f.are.dcmd_fits } }

pub narrow-scntl3 : (r : Regs) (b : ℕ) → IsNarrow r → b < 256 → IsNarrow (record r { scntl3 = b })
narrow-scntl3 r b f h = record { are = record { scntl0_fits = f.are.scntl0_fits; scntl1_fits = f.are.scntl1_fits; scntl3_fits = h; sxfer_fits = f.are.sxfer_fits; sdid_fits = f.are.sdid_fits; sfbr_fits = f.are.sfbr_fits; ssid_fits = f.are.ssid_fits; dcmd_fits = f.are.dcmd_fits } }

pub narrow-sxfer : (r : Regs) (b : ℕ) → IsNarrow r → b < 256 → IsNarrow (record r { sxfer = b })
narrow-sxfer r b f h = record { are = record { scntl0_fits = f.are.scntl0_fits; scntl1_fits = f.are.scntl1_fits; scntl3_fits = f.are.scntl3_fits; sxfer_fits = h; sdid_fits = f.are.sdid_fits; sfbr_fits = f.are.sfbr_fits; ssid_fits = f.are.ssid_fits; dcmd_fits = f.are.dcmd_fits } }

pub narrow-sdid : (r : Regs) (b : ℕ) → IsNarrow r → b < 256 → IsNarrow (record r { sdid = b })
narrow-sdid r b f h = record { are = record { scntl0_fits = f.are.scntl0_fits; scntl1_fits = f.are.scntl1_fits; scntl3_fits = f.are.scntl3_fits; sxfer_fits = f.are.sxfer_fits; sdid_fits = h; sfbr_fits = f.are.sfbr_fits; ssid_fits = f.are.ssid_fits; dcmd_fits = f.are.dcmd_fits } }

pub narrow-sfbr : (r : Regs) (b : ℕ) → IsNarrow r → b < 256 → IsNarrow (record r { sfbr = b })
narrow-sfbr r b f h = record { are = record { scntl0_fits = f.are.scntl0_fits; scntl1_fits = f.are.scntl1_fits; scntl3_fits = f.are.scntl3_fits; sxfer_fits = f.are.sxfer_fits; sdid_fits = f.are.sdid_fits; sfbr_fits = h; ssid_fits = f.are.ssid_fits; dcmd_fits = f.are.dcmd_fits } }

pub narrow-ssid : (r : Regs) (b : ℕ) → IsNarrow r → b < 256 → IsNarrow (record r { ssid = b })
narrow-ssid r b f h = record { are = record { scntl0_fits = f.are.scntl0_fits; scntl1_fits = f.are.scntl1_fits; scntl3_fits = f.are.scntl3_fits; sxfer_fits = f.are.sxfer_fits; sdid_fits = f.are.sdid_fits; sfbr_fits = f.are.sfbr_fits; ssid_fits = h; dcmd_fits = f.are.dcmd_fits } }

pub narrow-dcmd : (r : Regs) (b : ℕ) → IsNarrow r → b < 256 → IsNarrow (record r { dcmd = b })
narrow-dcmd r b f h = record { are = record { scntl0_fits = f.are.scntl0_fits; scntl1_fits = f.are.scntl1_fits; scntl3_fits = f.are.scntl3_fits; sxfer_fits = f.are.sxfer_fits; sdid_fits = f.are.sdid_fits; sfbr_fits = f.are.sfbr_fits; ssid_fits = f.are.ssid_fits; dcmd_fits = h } }

or_other : (b : Bool) (x y : Regs) → IsNarrow x → IsNarrow y → IsNarrow (if b then x else y)
or_other true x y h k = h
or_other false x y h k = k

pub narrow-written : (p b : ℕ) (r : Regs) → IsNarrow r → b < 256 → IsNarrow (written p b r)
unfolding written
narrow-written p b r f h =
    or_other (nat_eq p 0x00) _ _ (narrow-scntl0 r b f h) (
    or_other (nat_eq p 0x01) _ _ (narrow-scntl1 r b f h) (
    or_other (nat_eq p 0x03) _ _ (narrow-scntl3 r b f h) (
    or_other (nat_eq p 0x05) _ _ (narrow-sxfer r b f h) (
    or_other (nat_eq p 0x06) _ _ (narrow-sdid r b f h) (
    or_other (nat_eq p 0x08) _ _ (narrow-sfbr r b f h) (
    or_other (nat_eq p 0x0a) _ _ (narrow-ssid r b f h) (
    or_other (nat_eq p 0x0c) _ _ (record { are = f.are }) (
    or_other (within 0x10 p) _ _ (record { are = f.are }) (
    or_other (nat_eq p 0x14) _ _ (record { are = f.are }) (
    or_other (within 0x1c p) _ _ (record { are = f.are }) (
    or_other (nat_eq p 0x27) _ _ (narrow-dcmd r b f h) (
    or_other (within 0x24 p) _ _ (record { are = f.are }) (
    or_other (within 0x28 p) _ _ (record { are = f.are }) (
    or_other (within 0x2c p) _ _ (record { are = f.are }) (
    or_other (within 0x30 p) _ _ (record { are = f.are }) (
    or_other (within 0x34 p) _ _ (record { are = f.are }) (
    or_other (nat_eq p 0x42) _ _ (record { are = f.are }) (
    or_other (nat_eq p 0x43) _ _ (record { are = f.are }) (
    or_other (within 0x5c p) _ _ (record { are = f.are }) f)))))))))))))))))))

pub narrow-after_read : (p : ℕ) (r : Regs) → IsNarrow r → IsNarrow (after_read p r)
narrow-after_read p r f = or_other (nat_eq p 0x1a) _ r (record { are = f.are }) f

pub narrow-stop : (c : Cause) (r : Regs) → IsNarrow r → IsNarrow (stop_with c r)
narrow-stop (Sir v) r f = record { are = f.are }
narrow-stop Iid r f = record { are = f.are }
narrow-stop Bf r f = record { are = f.are }
narrow-stop Ma r f = record { are = f.are }
narrow-stop Udc r f = record { are = f.are }
narrow-stop Rst r f = record { are = f.are }
narrow-stop Sto r f = record { are = f.are }

zero_fits : 0 < 256
zero_fits = omega arith

pub registers_keep_bytes : RegistersKeepBytes
registers_keep_bytes = record {
  opening = bytes-from_narrow cleared (record { are = record { scntl0_fits = zero_fits; scntl1_fits = zero_fits; scntl3_fits = zero_fits; sxfer_fits = zero_fits; sdid_fits = zero_fits; sfbr_fits = zero_fits; ssid_fits = zero_fits; dcmd_fits = zero_fits } });
  write = λ p b r h k. bytes-from_narrow (written p b r) (narrow-written p b r (narrow-from_bytes r h) k);
  read = λ p r h. bytes-from_narrow (after_read p r) (narrow-after_read p r (narrow-from_bytes r h));
  stop = λ c r h. bytes-from_narrow (stop_with c r) (narrow-stop c r (narrow-from_bytes r h));
  clear = λ r h. bytes-from_narrow (without_stops r) (record { are = (narrow-from_bytes r h).are });
}
