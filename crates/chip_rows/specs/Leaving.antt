-- What a step leaves of memory, and how far a block move has come.
use Rattle.std.specs.Prelude.{◌≡◌, ◌≢◌, ℕ, ◌+◌, ◌≤◌, true, false, List, length, slice_index, Some}
use Rattle.scripts_ops.specs.declared.values.Op.{Op}
use Rattle.chip_regs.specs.Registers.{is_stopped}
use Rattle.chip_regs.specs.declared.registers.Cause.{Cause}
use Rattle.chip_regs.specs.declared.registers.Cause.TheVariants.{Ma}
use Rattle.chip_step.specs.Event.{Event}
use Rattle.chip_step.specs.Chip.{Chip}
use Rattle.chip_step.specs.Step.{ChipStep as Steps, IsAt, can_fetch}
use Rattle.chip_step.specs.declared.outcome.StepEnd.{StepEnd}
use Rattle.chip_step.specs.declared.outcome.StepEnd.TheVariants.{Ran, Stopped}
use Rattle.chip_rows.specs.Touched.{Range, Block, IsIn, block_of, writes, touched}

-- memory has its size, and each byte outside the ranges stays
pub record ChangesWithin (ranges : List Range) (old new : List ℕ) : Type 0 where
  pub size : length new ≡ length old
  pub others : (x : ℕ) → (IsIn ranges x → ⊥) → slice_index new x ≡ slice_index old x

-- a step keeps the size of memory
abbrev pub KeepsSize : {B : Type 0} → (B → Event → B → Type 0) → Type 0
KeepsSize {B} moves = (word : ℕ) (old : Chip B) (end : StepEnd) (new : Chip B) → Steps moves word old end new → length new.memory ≡ length old.memory

-- a step changes memory within what the instruction at DSP writes, however the step ends
abbrev pub WritesWithin : {B : Type 0} → (B → Event → B → Type 0) → Type 0
WritesWithin {B} moves =
    (word : ℕ) (old : Chip B) (end : StepEnd) (new : Chip B) (op : Op) → IsAt old op → Steps moves word old end new
    → ChangesWithin (writes op old new.regs.dbc) old.memory new.memory

-- so it changes memory within what it touches
abbrev pub StaysWithin : {B : Type 0} → (B → Event → B → Type 0) → Type 0
StaysWithin {B} moves =
    (word : ℕ) (old : Chip B) (end : StepEnd) (new : Chip B) (op : Op) → IsAt old op → Steps moves word old end new
    → ChangesWithin (touched op old new.regs.dbc) old.memory new.memory

-- where no row spells the words at DSP, memory stays
abbrev pub NoRowWrites : {B : Type 0} → (B → Event → B → Type 0) → Type 0
NoRowWrites {B} moves =
    (word : ℕ) (old : Chip B) (end : StepEnd) (new : Chip B) → ((op : Op) → IsAt old op → ⊥) → Steps moves word old end new
    → new.memory ≡ old.memory

-- a step that stops for another cause than MA leaves memory as it was
abbrev pub StopsLeaveMemory : {B : Type 0} → (B → Event → B → Type 0) → Type 0
StopsLeaveMemory {B} moves =
    (word : ℕ) (old : Chip B) (cause : Cause) (new : Chip B) → cause ≢ Ma → Steps moves word old (Stopped cause) new
    → new.memory ≡ old.memory

-- after a step that goes on no stop bit is set
abbrev pub RunsOn : {B : Type 0} → (B → Event → B → Type 0) → Type 0
RunsOn {B} moves = (word : ℕ) (old new : Chip B) → Steps moves word old Ran new → is_stopped new.regs ≡ false

-- what is left of a move is at most its count, and DNAD is past the bytes that moved
pub record IsCounted (block : Block) (dbc dnad : ℕ) : Type 0 where
  pub most : dbc ≤ block.count
  pub past : dnad + dbc ≡ block.address + block.count

-- a block move that was fetched counts DBC down and DNAD up, however the step ends
abbrev pub CountsDown : {B : Type 0} → (B → Event → B → Type 0) → Type 0
CountsDown {B} moves =
    (word : ℕ) (old : Chip B) (end : StepEnd) (new : Chip B) (op : Op) (block : Block) → is_stopped old.regs ≡ false
    → can_fetch old.memory old.regs ≡ true → IsAt old op → block_of op old ≡ Some block → Steps moves word old end new
    → IsCounted block new.regs.dbc new.regs.dnad
