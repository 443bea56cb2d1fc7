-- The steps end in a stop.
use Rattle.std.proofs.Common.{◌≡◌, true, refl}
use Rattle.chip_regs.specs.Registers.{is_stopped}
use Rattle.chip_step.specs.Event.{Event}
use Rattle.chip_step.specs.Chip.{Chip}
use Rattle.chip_step.proofs.Causes.{ChipStep-stops, caused}
use Rattle.chip_step.specs.declared.outcome.StepEnd.TheVariants.{Stopped}
use Rattle.straight_run.specs.Steps.{Steps, last, next}

pub Steps-stops : {B : Type 0} (moves : B → Event → B → Type 0) (old new : Chip B) → Steps moves old new → is_stopped new.regs ≡ true
Steps-stops moves old new (last cause r) = caused new.regs cause (ChipStep-stops moves 0 old (Stopped cause) new r cause refl)
Steps-stops moves old new (next {mid = mid} r s) = Steps-stops moves mid new s
