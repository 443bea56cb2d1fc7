-- The register file: its places, the byte at each, and what stops the chip. Places and bits follow the Symbios
-- SYM53C810A. That a bit without a name reads 0 and isn't kept, and that reads and writes but that of CTEST2 have no
-- further effect, is own.
use Rattle.std.specs.Prelude.{ℕ, ◌+◌, ◌-◌, ◌/◌, ◌%◌, Bool, true, false, nat_eq, nat_le, ◌&&◌, ◌||◌, if◌then◌else◌, List, [], ◌∷◌, Option, slice_index, slice_set}
use Rattle.std.specs.Int.{to_le_bytes, from_le_bytes, w32}
use Rattle.std.specs.List.{find}
use Rattle.chip_regs.specs.declared.registers.Regs.{Regs}
use Rattle.chip_regs.specs.declared.registers.Cause.{Cause}
use Rattle.chip_regs.specs.declared.registers.Cause.TheVariants.{Sir, Iid, Bf, Ma, Udc, Rst, Sto}

-- a flag that stands for so much, and whether it is in a byte
abbrev pub flag : Bool → ℕ → ℕ
flag b n = if b then n else 0

abbrev pub has_flag : ℕ → ℕ → Bool
has_flag b n = nat_eq (b / n % 2) 1

-- the four places from a base on
abbrev pub within : ℕ → ℕ → Bool
within base p = nat_le base p && nat_le p (base + 3)

-- The places of the table: SCNTL0, SCNTL1, SCNTL3, SXFER, SDID, SFBR, SSID, DSTAT, DSA, ISTAT, CTEST2, TEMP; DBC
-- and DCMD, DNAD, DSP, DSPS, SCRATCHA, SIST0, SIST1, SCRATCHB.
abbrev pub is_place : ℕ → Bool
is_place p =
    nat_eq p 0x00 || nat_eq p 0x01 || nat_eq p 0x03 || nat_eq p 0x05 || nat_eq p 0x06 || nat_eq p 0x08
    || nat_eq p 0x0a || nat_eq p 0x0c || within 0x10 p || nat_eq p 0x14 || nat_eq p 0x1a || within 0x1c p
    || within 0x24 p || within 0x28 p || within 0x2c p || within 0x30 p || within 0x34 p || nat_eq p 0x42
    || nat_eq p 0x43 || within 0x5c p

-- a byte of a word, the lowest first, and the word with that byte changed
abbrev pub byte_of_word : ℕ → ℕ → ℕ
byte_of_word w k = slice_index (to_le_bytes w32 w) k

abbrev pub with_byte : ℕ → ℕ → ℕ → ℕ
with_byte w k b = from_le_bytes w32 (slice_set (to_le_bytes w32 w) k b)

-- the registers that are kept bit by bit, as bytes
abbrev pub istat_byte : Regs → ℕ
istat_byte r = flag r.sigp 0x20 + flag r.con 0x08 + flag r.intf 0x04 + flag r.sip 0x02 + flag r.dip 0x01

abbrev pub dstat_byte : Regs → ℕ
dstat_byte r = flag r.bf 0x20 + flag r.sir 0x04 + flag r.iid 0x01

abbrev pub sist0_byte : Regs → ℕ
sist0_byte r = flag r.ma 0x80 + flag r.udc 0x04 + flag r.rst 0x02

abbrev pub with_istat : ℕ → Regs → Regs
with_istat b r = record r {
  sigp = has_flag b 0x20;
  con = has_flag b 0x08;
  intf = has_flag b 0x04;
  sip = has_flag b 0x02;
  dip = has_flag b 0x01;
}

abbrev pub with_dstat : ℕ → Regs → Regs
with_dstat b r = record r { bf = has_flag b 0x20; sir = has_flag b 0x04; iid = has_flag b 0x01 }

abbrev pub with_sist0 : ℕ → Regs → Regs
with_sist0 b r = record r { ma = has_flag b 0x80; udc = has_flag b 0x04; rst = has_flag b 0x02 }

abbrev pub with_sist1 : ℕ → Regs → Regs
with_sist1 b r = record r { sto = has_flag b 0x04 }

-- the byte at a place; CTEST2 shows SIGP
unfoldable pub byte_at : ℕ → Regs → ℕ
byte_at p r =
    if nat_eq p 0x00 then r.scntl0 else
    if nat_eq p 0x01 then r.scntl1 else
    if nat_eq p 0x03 then r.scntl3 else
    if nat_eq p 0x05 then r.sxfer else
    if nat_eq p 0x06 then r.sdid else
    if nat_eq p 0x08 then r.sfbr else
    if nat_eq p 0x0a then r.ssid else
    if nat_eq p 0x0c then dstat_byte r else
    if within 0x10 p then byte_of_word r.dsa (p - 0x10) else
    if nat_eq p 0x14 then istat_byte r else
    if nat_eq p 0x1a then flag r.sigp 0x40 else
    if within 0x1c p then byte_of_word r.temp (p - 0x1c) else
    if nat_eq p 0x27 then r.dcmd else
    if within 0x24 p then byte_of_word r.dbc (p - 0x24) else
    if within 0x28 p then byte_of_word r.dnad (p - 0x28) else
    if within 0x2c p then byte_of_word r.dsp (p - 0x2c) else
    if within 0x30 p then byte_of_word r.dsps (p - 0x30) else
    if within 0x34 p then byte_of_word r.scratcha (p - 0x34) else
    if nat_eq p 0x42 then sist0_byte r else
    if nat_eq p 0x43 then flag r.sto 0x04 else
    if within 0x5c p then byte_of_word r.scratchb (p - 0x5c) else
    0

-- the registers after a byte was written at a place; CTEST2 isn't written
unfoldable pub written : ℕ → ℕ → Regs → Regs
written p b r =
    if nat_eq p 0x00 then record r { scntl0 = b } else
    if nat_eq p 0x01 then record r { scntl1 = b } else
    if nat_eq p 0x03 then record r { scntl3 = b } else
    if nat_eq p 0x05 then record r { sxfer = b } else
    if nat_eq p 0x06 then record r { sdid = b } else
    if nat_eq p 0x08 then record r { sfbr = b } else
    if nat_eq p 0x0a then record r { ssid = b } else
    if nat_eq p 0x0c then with_dstat b r else
    if within 0x10 p then record r { dsa = with_byte r.dsa (p - 0x10) b } else
    if nat_eq p 0x14 then with_istat b r else
    if within 0x1c p then record r { temp = with_byte r.temp (p - 0x1c) b } else
    if nat_eq p 0x27 then record r { dcmd = b } else
    if within 0x24 p then record r { dbc = with_byte r.dbc (p - 0x24) b } else
    if within 0x28 p then record r { dnad = with_byte r.dnad (p - 0x28) b } else
    if within 0x2c p then record r { dsp = with_byte r.dsp (p - 0x2c) b } else
    if within 0x30 p then record r { dsps = with_byte r.dsps (p - 0x30) b } else
    if within 0x34 p then record r { scratcha = with_byte r.scratcha (p - 0x34) b } else
    if nat_eq p 0x42 then with_sist0 b r else
    if nat_eq p 0x43 then with_sist1 b r else
    if within 0x5c p then record r { scratchb = with_byte r.scratchb (p - 0x5c) b } else
    r

-- the registers after the byte at a place was read: CTEST2 clears SIGP
abbrev pub after_read : ℕ → Regs → Regs
after_read p r = if nat_eq p 0x1a then record r { sigp = false } else r

-- every register 0
abbrev pub cleared : Regs
cleared = record {
  scntl0 = 0;
  scntl1 = 0;
  scntl3 = 0;
  sxfer = 0;
  sdid = 0;
  sfbr = 0;
  ssid = 0;
  dsa = 0;
  temp = 0;
  dbc = 0;
  dcmd = 0;
  dnad = 0;
  dsp = 0;
  dsps = 0;
  scratcha = 0;
  scratchb = 0;
  sigp = false;
  con = false;
  intf = false;
  sip = false;
  dip = false;
  bf = false;
  sir = false;
  iid = false;
  ma = false;
  udc = false;
  rst = false;
  sto = false;
}

-- a bit of DSTAT, SIST0 or SIST1 is set
abbrev pub is_stopped : Regs → Bool
is_stopped r = r.sir || r.iid || r.bf || r.ma || r.udc || r.rst || r.sto

-- whether the bit of a cause is set
abbrev pub is_set : Regs → Cause → Bool
is_set r (Sir vector) = r.sir
is_set r Iid = r.iid
is_set r Bf = r.bf
is_set r Ma = r.ma
is_set r Udc = r.udc
is_set r Rst = r.rst
is_set r Sto = r.sto

-- The cause of a stop: the first of these whose bit is set. The vector of SIR is in DSPS.
abbrev pub causes : Regs → List Cause
causes r = Sir r.dsps ∷ Iid ∷ Bf ∷ Ma ∷ Udc ∷ Rst ∷ Sto ∷ []

abbrev pub cause_of : Regs → Option Cause
cause_of r = find (is_set r) (causes r)

-- a stop sets its bit, and DIP for DSTAT or SIP for SIST0 and SIST1; the vector goes to DSPS
abbrev pub stop_with : Cause → Regs → Regs
stop_with (Sir vector) r = record r { sir = true; dip = true; dsps = vector }
stop_with Iid r = record r { iid = true; dip = true }
stop_with Bf r = record r { bf = true; dip = true }
stop_with Ma r = record r { ma = true; sip = true }
stop_with Udc r = record r { udc = true; sip = true }
stop_with Rst r = record r { rst = true; sip = true }
stop_with Sto r = record r { sto = true; sip = true }

-- no stop bit is set, nor SIP and DIP
abbrev pub without_stops : Regs → Regs
without_stops r = record r {
  sir = false;
  iid = false;
  bf = false;
  ma = false;
  udc = false;
  rst = false;
  sto = false;
  sip = false;
  dip = false;
}
