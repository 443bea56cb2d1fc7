-- A block that becomes a REQUEST SENSE (own; the command is SCSI-2's, 8.2.14).
use Rattle.std.specs.Prelude.{◌≡◌, ℕ, ◌+◌, ◌*◌, List, [], ◌∷◌}
use Rattle.std.specs.List.{range_with_len}
use Rattle.bench_words.specs.Memory.{put_word, put_bytes}
use Rattle.bench_words.specs.Views.{Outside}
use Rattle.cmd_block.specs.Block.{offset}
use Rattle.cmd_block.specs.declared.Field.{Field}
use Rattle.cmd_block.specs.declared.Field.TheVariants.{Start, Restart, State, Status, Sel, Lastp, Savep, StatCount, SegCount, SegAt, CtxCount, CmdCount, CmdAt}
use Rattle.cmd_block.specs.declared.TheConstants.{CDB, SENSE as SENSE_AREA}
use Rattle.driver_script.specs.Script.{label_of}
use Rattle.driver_script.specs.declared.labels.Name.TheVariants as label

-- the addresses of the sense area
abbrev pub sense_area : ℕ → List ℕ
sense_area block = range_with_len (block + SENSE_AREA) 18

-- memory after these fields of a block were written, the first of them first
abbrev pub with_fields : List ℕ → ℕ → List (Field × ℕ) → List ℕ
with_fields m block [] = m
with_fields m block (f ∷ fs) = with_fields (put_word m (block + offset f.0) f.1) block fs

-- the fields of a REQUEST SENSE whose one segment is the sense area of its block
abbrev pub sense_fields : ℕ → List (Field × ℕ)
sense_fields block =
    (Start, label_of label.Sense) ∷ (State, 0) ∷ (Status, 0xFF) ∷ (Lastp, label_of label.Datain + 8 * 15) ∷ (Savep, label_of label.Datain + 8 * 15) ∷
    (SegCount 15, 18) ∷ (SegAt 15, block + SENSE_AREA) ∷ (CmdCount, 6) ∷ (CmdAt, block + CDB) ∷ []

-- REQUEST SENSE of 18 bytes
abbrev pub request_sense : List ℕ
request_sense = 0x03 ∷ 0 ∷ 0 ∷ 0 ∷ 0x12 ∷ 0 ∷ []

abbrev pub turned : List ℕ → ℕ → List ℕ
turned m block = put_bytes (with_fields m block (sense_fields block)) (block + CDB) request_sense

-- The same by words. The six bytes of the command are told as two words that overlap, of its bytes 0 to 3 and 2 to 5.
-- Every word outside the five ranges is as before: START; the pointers, STATE and STATUS; the entry of the command;
-- segment 15; the command.
pub record Turned (old new : ℕ → ℕ) (block : ℕ) : Type 0 where
  pub start : new (block + offset Start) ≡ label_of label.Sense
  pub state : new (block + offset State) ≡ 0
  pub status : new (block + offset Status) ≡ 0xFF
  pub last : new (block + offset Lastp) ≡ label_of label.Datain + 8 * 15
  pub saved : new (block + offset Savep) ≡ label_of label.Datain + 8 * 15
  pub segment : (new (block + offset (SegCount 15)) ≡ 18) × (new (block + offset (SegAt 15)) ≡ block + SENSE_AREA)
  pub entry : (new (block + offset CmdCount) ≡ 6) × (new (block + offset CmdAt) ≡ block + CDB)
  pub command : (new (block + CDB) ≡ 0x00000003) × (new (block + CDB + 2) ≡ 0x00120000)
  pub other : (a : ℕ) → Outside a (block + offset Start) (block + offset Restart) → Outside a (block + offset Lastp) (block + offset Sel)
      → Outside a (block + offset CmdCount) (block + offset StatCount) → Outside a (block + offset (SegCount 15)) (block + offset (CtxCount 0))
      → Outside a (block + CDB) (block + CDB + 6) → new a ≡ old a
