-- A step depends on no byte of memory but those that its instruction reads.
use Rattle.std.specs.Prelude.{◌≡◌, ℕ, List, ◌++◌, length, slice_index, ◌⊎◌}
use Rattle.scripts_ops.specs.declared.values.Op.{Op}
use Rattle.chip_step.specs.Event.{Event}
use Rattle.chip_step.specs.Chip.{Chip, state}
use Rattle.chip_step.specs.Step.{ChipStep, IsAt}
use Rattle.chip_step.specs.declared.outcome.StepEnd.{StepEnd}
use Rattle.chip_rows.specs.Touched.{Range, IsIn, fetches, reads}

-- two memories of one size with the same bytes in these ranges
pub record SameWithin (ranges : List Range) (one other : List ℕ) : Type 0 where
  pub size : length other ≡ length one
  pub bytes : (x : ℕ) → IsIn ranges x → slice_index other x ≡ slice_index one x

-- over two memories: afterwards each byte is the same in both, or it stays in both
pub record ChangesAlike (old new old' new' : List ℕ) : Type 0 where
  pub each : (x : ℕ) → (slice_index new' x ≡ slice_index new x) ⊎ ((slice_index new x ≡ slice_index old x) × (slice_index new' x ≡ slice_index old' x))

-- the chip with another memory
abbrev pub with_memory : {B : Type 0} → List ℕ → Chip B → Chip B
with_memory memory chip = state memory chip.regs chip.bus

-- A step is made likewise over any memory that has the same bytes where the instruction lies and where it reads: with
-- the same end, registers and bus, and the same bytes written.
abbrev pub ReadsWithin : {B : Type 0} → (B → Event → B → Type 0) → Type 0
ReadsWithin {B} moves =
    (word : ℕ) (old : Chip B) (end : StepEnd) (new : Chip B) (op : Op) (memory : List ℕ) → IsAt old op → ChipStep moves word old end new
    → SameWithin (fetches old ++ reads op old new.regs.dbc) old.memory memory
    → (memory' : List ℕ) × ChipStep moves word (with_memory memory old) end (with_memory memory' new)
    × ChangesAlike old.memory new.memory memory memory'
