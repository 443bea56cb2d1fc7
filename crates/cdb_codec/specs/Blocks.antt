-- What a command descriptor block says. Sources: SCSI-2 7.2 (the block, its groups and the control field), 8.2.16 TEST UNIT READY,
-- 8.2.14 REQUEST SENSE, 8.2.5 INQUIRY, 9.2.5 READ(6), 9.2.20 WRITE(6), 9.2.6 READ(10), 9.2.21 WRITE(10), 9.2.7 READ CAPACITY.
-- Which fields are bad is own, and so is the length of the groups 3, 4, 6 and 7. All fields that aren't named here are ignored.
use Rattle.std.specs.Prelude.{ℕ, ◌-◌, ◌/◌, ◌%◌, ◌==◌, ◌&&◌, ◌||◌, Bool, true, false, if◌then◌else◌, List, [], ◌∷◌, length, slice_index}
use Rattle.std.specs.Int.{from_be_bytes, w16, w32}
use Rattle.cdb_codec.specs.declared.commands.Cdb.{Cdb}
use Rattle.cdb_codec.specs.declared.commands.Cdb.TheVariants.{TestUnitReady, RequestSense, Read, Write, Inquiry, ReadCapacity, BadField, Other}

-- the group of an operation code is its upper three bits: groups 1 and 2 have 10 bytes, group 5 has 12, the others 6
abbrev pub length_of : ℕ → ℕ
length_of code = if code / 32 == 1 || code / 32 == 2 then 10 else (if code / 32 == 5 then 12 else 6)

abbrev pub byte : List ℕ → ℕ → ℕ
byte b i = slice_index b i

-- the last byte, the control field, is 0: no linked command, no flag, nothing of the vendor's
abbrev pub no_control : List ℕ → Bool
no_control b = byte b (length b - 1) == 0

-- bit 0 of byte 1 is 0: RelAdr of READ(10), WRITE(10) and READ CAPACITY, EVPD of INQUIRY
abbrev pub no_flag : List ℕ → Bool
no_flag b = byte b 1 % 2 == 0

-- the page code of INQUIRY is 0
abbrev pub no_page : List ℕ → Bool
no_page b = byte b 2 == 0

-- the address of the forms of 6 bytes has 21 bits, most significant first, and 0 blocks mean 256
abbrev pub address_6 : List ℕ → ℕ
address_6 b = from_be_bytes w32 (0 ∷ byte b 1 % 32 ∷ byte b 2 ∷ byte b 3 ∷ [])

abbrev pub blocks_6 : List ℕ → ℕ
blocks_6 b = if byte b 4 == 0 then 256 else byte b 4

-- the address of the forms of 10 bytes has 32 bits and the number of blocks 16, most significant first
abbrev pub address_10 : List ℕ → ℕ
address_10 b = from_be_bytes w32 (byte b 2 ∷ byte b 3 ∷ byte b 4 ∷ byte b 5 ∷ [])

abbrev pub blocks_10 : List ℕ → ℕ
blocks_10 b = from_be_bytes w16 (byte b 7 ∷ byte b 8 ∷ [])

-- the command where its fields are sound, else a bad field
abbrev pub sound : Bool → Cdb → Cdb
sound fields c = if fields then c else BadField

-- the table of the commands by operation code
abbrev pub cdb_of : List ℕ → Cdb
cdb_of b =
    if byte b 0 == 0x00 then sound (no_control b) TestUnitReady
    else (if byte b 0 == 0x03 then sound (no_control b) (RequestSense (byte b 4))
    else (if byte b 0 == 0x08 then sound (no_control b) (Read (address_6 b) (blocks_6 b) true)
    else (if byte b 0 == 0x0A then sound (no_control b) (Write (address_6 b) (blocks_6 b) true)
    else (if byte b 0 == 0x12 then sound (no_control b && no_flag b && no_page b) (Inquiry (byte b 4))
    else (if byte b 0 == 0x25 then sound (no_control b && no_flag b) ReadCapacity
    else (if byte b 0 == 0x28 then sound (no_control b && no_flag b) (Read (address_10 b) (blocks_10 b) false)
    else (if byte b 0 == 0x2A then sound (no_control b && no_flag b) (Write (address_10 b) (blocks_10 b) false)
    else Other)))))))
