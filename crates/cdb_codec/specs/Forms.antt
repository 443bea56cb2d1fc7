-- The bytes of each command, the ranges of its fields, and its need. Sources as in Blocks; the fields that are ignored are written as 0.
use Rattle.std.specs.Prelude.{ℕ, ◌*◌, ◌%◌, ◌^◌, ◌<◌, ◌≤◌, min, Bool, true, false, List, [], ◌∷◌, ◌++◌, drop}
use Rattle.std.specs.Int.{to_be_bytes, w16, w32}
use Rattle.scsi_words.specs.declared.phases.kinds.Direction.TheVariants.{None, In, Out}
use Rattle.cdb_codec.specs.declared.commands.Cdb.{Cdb}
use Rattle.cdb_codec.specs.declared.commands.Cdb.TheVariants.{TestUnitReady, RequestSense, Read, Write, Inquiry, ReadCapacity, BadField, Other}
use Rattle.cdb_codec.specs.declared.commands.Need.{Need}

-- an address and a number of blocks that the form of 6 or of 10 bytes can hold
abbrev pub FitsTransfer : Bool → ℕ → ℕ → Type 0
FitsTransfer true lba blocks = (lba < 2 ^ 21) × (1 ≤ blocks) × (blocks ≤ 256)
FitsTransfer false lba blocks = (lba < 2 ^ 32) × (blocks < 2 ^ 16)

-- the numbers of a command fit its form
abbrev pub FitsForm : Cdb → Type 0
FitsForm TestUnitReady = Unit {0}
FitsForm (RequestSense len) = len < 2 ^ 8
FitsForm (Read lba blocks six) = FitsTransfer six lba blocks
FitsForm (Write lba blocks six) = FitsTransfer six lba blocks
FitsForm (Inquiry len) = len < 2 ^ 8
FitsForm ReadCapacity = Unit {0}
FitsForm BadField = Unit {0}
FitsForm Other = Unit {0}

-- a command that has bytes of its own
abbrev pub HasForm : Cdb → Type 0
HasForm BadField = ⊥
HasForm Other = ⊥
HasForm _ = Unit {0}

-- the form of 6 bytes, or of 10, with these operation codes
abbrev pub transfer_bytes : Bool → ℕ → ℕ → ℕ → ℕ → List ℕ
transfer_bytes true code_6 code_10 lba blocks = code_6 ∷ drop 1 (to_be_bytes w32 lba) ++ blocks % 256 ∷ 0 ∷ []
transfer_bytes false code_6 code_10 lba blocks = code_10 ∷ 0 ∷ to_be_bytes w32 lba ++ 0 ∷ to_be_bytes w16 blocks ++ 0 ∷ []

-- the bytes of a command; a bad field and another command have none
abbrev pub cdb_bytes : Cdb → List ℕ
cdb_bytes TestUnitReady = 0x00 ∷ 0 ∷ 0 ∷ 0 ∷ 0 ∷ 0 ∷ []
cdb_bytes (RequestSense len) = 0x03 ∷ 0 ∷ 0 ∷ 0 ∷ len ∷ 0 ∷ []
cdb_bytes (Read lba blocks six) = transfer_bytes six 0x08 0x28 lba blocks
cdb_bytes (Write lba blocks six) = transfer_bytes six 0x0A 0x2A lba blocks
cdb_bytes (Inquiry len) = 0x12 ∷ 0 ∷ 0 ∷ 0 ∷ len ∷ 0 ∷ []
cdb_bytes ReadCapacity = 0x25 ∷ 0 ∷ 0 ∷ 0 ∷ 0 ∷ 0 ∷ 0 ∷ 0 ∷ 0 ∷ 0 ∷ []
cdb_bytes BadField = []
cdb_bytes Other = []

abbrev pub no_data : Need
no_data = record { direction = None; bytes = 0 }

abbrev pub gives : ℕ → Need
gives n = record { direction = In; bytes = n }

abbrev pub takes : ℕ → Need
takes n = record { direction = Out; bytes = n }

-- which way a command's data go, and how many bytes they are at most: sense data are 18 bytes, inquiry data 36, a capacity 8
abbrev pub need_of : Cdb → Need
need_of TestUnitReady = no_data
need_of (RequestSense len) = gives (min len 18)
need_of (Read lba blocks six) = gives (512 * blocks)
need_of (Write lba blocks six) = takes (512 * blocks)
need_of (Inquiry len) = gives (min len 36)
need_of ReadCapacity = gives 8
need_of BadField = no_data
need_of Other = no_data
