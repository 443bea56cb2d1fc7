-- The steps of a chip that runs the script, for every answer of the bus.
use Rattle.std.specs.Prelude.{◌≡◌, ℕ, ◌+◌, ◌*◌}
use Rattle.chip_step.specs.Event.{Event}
use Rattle.chip_step.specs.Chip.{Chip}
use Rattle.chip_step.specs.Instructions.{Does}
use Rattle.chip_step.specs.Step.{ChipStep, after_fetch}
use Rattle.chip_step.specs.declared.outcome.StepEnd.{StepEnd}
use Rattle.chip_rows.specs.Leaving.{ChangesWithin}
use Rattle.driver_script.specs.Script.{instruction}
use Rattle.ownership.specs.Standing.{StandsAt}
use Rattle.ownership.specs.Footprint.{footprint, ranges}

-- a step is what the row of its instruction says
abbrev pub IsRow : {B : Type 0} → (B → Event → B → Type 0) → Type 0
IsRow {B} moves =
    (version k word : ℕ) (old : Chip B) (end : StepEnd) (new : Chip B) → StandsAt version k old → ChipStep moves word old end new
    → Does moves word (instruction k version) old (after_fetch old) end new

-- and all that the row says is a step
abbrev pub IsStep : {B : Type 0} → (B → Event → B → Type 0) → Type 0
IsStep {B} moves =
    (version k word : ℕ) (old : Chip B) (end : StepEnd) (new : Chip B) → StandsAt version k old
    → Does moves word (instruction k version) old (after_fetch old) end new → ChipStep moves word old end new

-- after the fetch DSP is at the next instruction
abbrev pub Follows : Type 0 → Type 0
Follows B = (version k : ℕ) (old : Chip B) → StandsAt version k old → (after_fetch old).regs.dsp ≡ 8 * k + 8

-- a step changes memory only where its instruction writes, however the step ends
abbrev pub WritesOnly : {B : Type 0} → (B → Event → B → Type 0) → Type 0
WritesOnly {B} moves =
    (version k word : ℕ) (old : Chip B) (end : StepEnd) (new : Chip B) → StandsAt version k old → ChipStep moves word old end new
    → ChangesWithin (ranges (footprint (8 * k)) old new.regs.dbc) old.memory new.memory
