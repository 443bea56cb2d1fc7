-- Steps with the word 0, up to the first stop.
use Rattle.std.specs.Prelude.{◌≡◌, ℕ}
use Rattle.chip_regs.specs.declared.registers.Cause.{Cause}
use Rattle.chip_step.specs.Event.{Event}
use Rattle.chip_step.specs.Chip.{Chip}
use Rattle.chip_step.specs.Step.{ChipStep}
use Rattle.chip_step.specs.declared.outcome.StepEnd.TheVariants as ends
use Rattle.straight_run.specs.Opening.{Opens}

pub data Steps {B : Type 0} (moves : B → Event → B → Type 0) : Chip B → Chip B → Type 0 where
  last : {old new : Chip B} (cause : Cause) → ChipStep moves 0 old (ends.Stopped cause) new → Steps moves old new
  next : {old mid new : Chip B} → ChipStep moves 0 old ends.Ran mid → Steps moves mid new → Steps moves old new

-- from the opening with this bus, up to the first stop
pub record FromOpening {B : Type 0} (moves : B → Event → B → Type 0) (lba : ℕ) (bus : B) (new : Chip B) : Type 0 where
  pub opening : Chip B
  pub opens : Opens lba opening
  pub bus_is : opening.bus ≡ bus
  pub steps : Steps moves opening new
