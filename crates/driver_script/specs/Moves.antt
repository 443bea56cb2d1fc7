-- The data moves of the script: sixteen segment moves and two context moves for each data phase (own).
use Rattle.std.specs.Prelude.{◌≡◌, ℕ, ℤ, pos, ◌+◌, ◌-◌, ◌*◌, ◌/◌, ◌%◌, ◌<◌, ◌&&◌, nat_eq, nat_lt, nat_le, Bool, false, if◌then◌else◌, Option, Some, None}
use Rattle.std.specs.Option.{option_or}
use Rattle.scripts_ops.specs.declared.values.Op.{Op}
use Rattle.scripts_ops.specs.declared.values.Op.TheVariants.{Move, MoveFrom}
use Rattle.cmd_block.specs.Block.{offset}
use Rattle.cmd_block.specs.declared.Field.{Field}
use Rattle.cmd_block.specs.declared.Field.TheVariants.{SegCount, CtxCount}
use Rattle.driver_script.specs.Script.{label_of, instruction}
use Rattle.driver_script.specs.declared.labels.Name.TheVariants as label

-- the table entry that an instruction moves in a data phase, as the offset of its count, and the phase's code: 0 is
-- DATA_OUT, 1 DATA_IN
abbrev pub entry_moved : Op → Option (ℤ × ℕ)
entry_moved (MoveFrom o phase) = if nat_lt phase 2 then Some (o, phase) else None
entry_moved op = None

-- whether an instruction moves data to an address of its own
abbrev pub moves_directly : Op → Bool
moves_directly (Move n a phase) = nat_lt phase 2
moves_directly op = false

-- the entry and the phase at an address among so many moves, so far apart, from the first one on
abbrev pub move_among : ℕ → ℕ → ℕ → (ℕ → Field) → ℕ → ℕ → Option (ℤ × ℕ)
move_among first apart count field phase a =
    if (nat_le first a && nat_lt a (first + apart * count)) && nat_eq ((a - first) % apart) 0
    then Some (pos (offset (field ((a - first) / apart))), phase) else None

-- those at an address of the script: the moves of the segments and those of the contexts, each for data in and data out
unfoldable pub data_move : ℕ → Option (ℤ × ℕ)
data_move a =
    option_or
    (option_or (move_among (label_of label.Datain) 8 16 SegCount 1 a) (move_among (label_of label.Dataout) 8 16 SegCount 0 a))
    (option_or (move_among (label_of label.Pmin0) 0x18 2 CtxCount 1 a) (move_among (label_of label.Pmout0) 0x18 2 CtxCount 0 a))

-- ---- laws

-- In both versions the script has these 36 moves at these addresses, and no other instruction moves data.
pub record HasDataMoves : Type 0 where
  pub by_table : (k version : ℕ) → k < 151 → entry_moved (instruction k version) ≡ data_move (8 * k)
  pub none_directly : (k version : ℕ) → k < 151 → moves_directly (instruction k version) ≡ false
