-- Bytes stay below 256 over a step.
use Rattle.std.specs.Prelude.{ℕ, ◌<◌, Some}
use Rattle.bench_words.specs.Bytes.{IsBytes}
use Rattle.chip_regs.specs.Bytes.{HasBytes}
use Rattle.chip_step.specs.Event.{Event, ByteIn, Select, Reselect}
use Rattle.chip_step.specs.Chip.{Chip}
use Rattle.chip_step.specs.Step.{ChipStep}
use Rattle.chip_step.specs.declared.outcome.StepEnd.{StepEnd}
use Rattle.chip_step.specs.declared.scsi_bus.Settled.TheVariants.{Reselected}

-- a bus whose bytes are below 256 and whose targets that reselect are below 8, as a lawful bus's are
pub record AnswersFit {B : Type 0} (moves : B → Event → B → Type 0) : Type 0 where
  pub byte : (old new : B) (b : ℕ) → moves old (ByteIn (Some b)) new → b < 256
  pub selected : (old new : B) (target word by : ℕ) → moves old (Select target word (Reselected by)) new → by < 8
  pub reselected : (old new : B) (word by : ℕ) → moves old (Reselect word (Some by)) new → by < 8

-- every byte of memory and of the registers is below 256
pub record IsOfBytes {B : Type 0} (chip : Chip B) : Type 0 where
  pub memory : IsBytes chip.memory
  pub regs : HasBytes chip.regs

-- a step keeps it
abbrev pub StepsKeepBytes : {B : Type 0} → (B → Event → B → Type 0) → Type 0
StepsKeepBytes {B} moves = (word : ℕ) (old : Chip B) (end : StepEnd) (new : Chip B) → IsOfBytes old → ChipStep moves word old end new → IsOfBytes new
