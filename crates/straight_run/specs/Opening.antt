-- The opening of the straight script: the memory and the registers with which the chip begins one READ(10).
use Rattle.std.specs.Prelude.{◌≡◌, ℕ, pos, ◌+◌, ◌/◌, ◌%◌, Bool, true, false, List, [], ◌∷◌, ◌++◌, nat_eq, nat_lt, ◌&&◌}
use Rattle.bench_words.specs.Memory.{put_word, put_bytes, IsZero}
use Rattle.scripts_ops.specs.Table.{row}
use Rattle.scripts_ops.specs.declared.values.Op.{Op}
use Rattle.scripts_ops.specs.declared.values.Op.TheVariants.{Move, MoveFrom, Select, WaitDisconnect, Clear, Jump, Int}
use Rattle.scripts_ops.specs.declared.values.Condition.TheVariants.{Always, Phase}
use Rattle.chip_regs.specs.Registers.{cleared}
use Rattle.chip_step.specs.Chip.{Chip}

-- The script at address 0: select, message, command, data unless the target shows another phase, status, message,
-- and the bus goes free. A target that reselects instead leads to the INT at its end.
abbrev pub script : List Op
script =
    Select (pos 0x18) 0x48 ∷
    MoveFrom (pos 0x20) 6 ∷
    MoveFrom (pos 0x28) 2 ∷
    Jump (Phase true true 1) 0x28 ∷
    MoveFrom (pos 0x40) 1 ∷
    MoveFrom (pos 0x30) 3 ∷
    Move 1 0x1010 7 ∷
    Clear true false ∷
    WaitDisconnect ∷
    Int Always 7 ∷ []

-- the words of instructions from an address on, each under its address
abbrev pub words_from : ℕ → List Op → List (ℕ × ℕ)
words_from a [] = []
words_from a (op ∷ ops) = (a, (row op).first) ∷ (a + 4, (row op).second) ∷ words_from (a + 8) ops

-- The block at 0x10000, without its CDB: START and RESTART, both data pointers, STATUS, GATE; the entries of message,
-- command and status, count and address; entry 0 of the segments, 512 bytes at 0x200000; the message 0xC0 0x20 0x00.
abbrev pub block : List (ℕ × ℕ)
block =
    (0x10000, 0x60) ∷ (0x10004, 0x128) ∷ (0x10008, 0x338) ∷ (0x1000c, 0x338) ∷ (0x10014, 0xff) ∷ (0x1001c, 0x1c0) ∷
    (0x10020, 3) ∷ (0x10024, 0x100e0) ∷ (0x10028, 10) ∷ (0x1002c, 0x100f0) ∷ (0x10030, 1) ∷ (0x10034, 0x10014) ∷
    (0x10040, 0x200) ∷ (0x10044, 0x200000) ∷ (0x100e0, 0x20c0) ∷ []

-- memory after these words were written, the first of them first
unfoldable pub put_words : List ℕ → List (ℕ × ℕ) → List ℕ
put_words memory [] = memory
put_words memory (p ∷ ps) = put_words (put_word memory p.0 p.1) ps

-- READ(10) of one block (SCSI-2, 9.2.6), its address the most significant byte first
abbrev pub cdb : ℕ → List ℕ
cdb lba = 0x28 ∷ 0 ∷ lba / 16777216 % 256 ∷ lba / 65536 % 256 ∷ lba / 256 % 256 ∷ lba % 256 ∷ 0 ∷ 0 ∷ 1 ∷ 0 ∷ []

abbrev pub table : List (ℕ × ℕ)
table = words_from 0 script ++ block

-- the words and the CDB over some memory
abbrev pub laid : ℕ → List ℕ → List ℕ
laid lba memory = put_bytes (put_words memory table) 0x100f0 (cdb lba)

-- 4 MiB with the script and the block, all else 0; DSA is the block, every other register 0
pub record Opens {B : Type 0} (lba : ℕ) (chip : Chip B) : Type 0 where
  pub zero_memory : List ℕ
  pub zeros : IsZero zero_memory 4194304
  pub memory_is : chip.memory ≡ laid lba zero_memory
  pub regs_are : chip.regs ≡ record cleared { dsa = 0x10000 }

-- each word lies in memory at a multiple of 4
abbrev pub all_fit : ℕ → List (ℕ × ℕ) → Bool
all_fit size [] = true
all_fit size (p ∷ ps) = (nat_eq (p.0 % 4) 0 && nat_lt p.0 size) && all_fit size ps
