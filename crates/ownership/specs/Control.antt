-- What the script touches beside the data moves (own).
use Rattle.std.specs.Prelude.{◌≡◌, ℕ, pos, ◌*◌, List, ◌++◌, None}
use Rattle.host_map.specs.declared.TheConstants.{FRONT}
use Rattle.cmd_block.specs.Block.{offset}
use Rattle.cmd_block.specs.declared.Field.{Field}
use Rattle.cmd_block.specs.declared.Field.TheVariants.{MsgCount, CmdCount, StatCount}
use Rattle.cmd_block.specs.declared.TheConstants.{MESSAGE}
use Rattle.chip_step.specs.Event.{Event}
use Rattle.chip_step.specs.Addresses.{place_of}
use Rattle.chip_step.specs.Chip.{Chip}
use Rattle.chip_step.specs.Step.{ChipStep}
use Rattle.chip_step.specs.declared.outcome.StepEnd.{StepEnd}
use Rattle.chip_rows.specs.Leaving.{ChangesWithin}
use Rattle.chip_rows.specs.Reading.{SameWithin, ChangesAlike, with_memory}
use Rattle.chip_rows.specs.Touched.{Range, Block, range, entry_of, of_block, fetches}
use Rattle.driver_script.specs.Moves.{data_move}
use Rattle.ownership.specs.Standing.{StandsAt}

-- all the bytes that an entry of the table at DSA names
abbrev whole : Block → List Range
whole b = range b.address b.count

abbrev pub named_by : {B : Type 0} → Field → Chip B → List Range
named_by f chip = of_block whole (entry_of chip.memory (place_of chip.memory chip.regs.dsa (pos (offset f)) 8))

-- the 13 words from FRONT on, the words at DSA up to where a block has its message, and its message, its command and
-- its status by their entries
abbrev pub control : {B : Type 0} → Chip B → List Range
control chip =
    range FRONT 0x34 ++ range chip.regs.dsa MESSAGE ++ named_by MsgCount chip ++ named_by CmdCount chip ++ named_by StatCount chip

-- a step that isn't at a data move changes memory only there
abbrev pub ChangesControl : {B : Type 0} → (B → Event → B → Type 0) → Type 0
ChangesControl {B} moves =
    (version k word : ℕ) (old : Chip B) (end : StepEnd) (new : Chip B) → StandsAt version k old → data_move (8 * k) ≡ None
    → ChipStep moves word old end new → ChangesWithin (control old) old.memory new.memory

-- and depends on no other bytes, beside those of its instruction: it is made likewise over any memory with the same
-- bytes in both
abbrev pub ReadsControl : {B : Type 0} → (B → Event → B → Type 0) → Type 0
ReadsControl {B} moves =
    (version k word : ℕ) (old : Chip B) (end : StepEnd) (new : Chip B) (memory : List ℕ) → StandsAt version k old → data_move (8 * k) ≡ None
    → ChipStep moves word old end new → SameWithin (fetches old ++ control old) old.memory memory
    → (memory' : List ℕ) × ChipStep moves word (with_memory memory old) end (with_memory memory' new)
    × ChangesAlike old.memory new.memory memory memory'
