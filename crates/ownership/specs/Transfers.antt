-- The script's transfers of control that always hold (own).
use Rattle.std.specs.Prelude.{◌≡◌, ℕ, true}
use Rattle.scripts_ops.specs.declared.values.Condition.TheVariants.{Always}
use Rattle.scripts_ops.specs.declared.values.Op.{Op}
use Rattle.scripts_ops.specs.declared.values.Op.TheVariants.{Jump, Return, Int, IntFly}
use Rattle.chip_regs.specs.declared.registers.Cause.TheVariants.{Sir}
use Rattle.chip_step.specs.Event.{Event}
use Rattle.chip_step.specs.Chip.{Chip, Becomes, Stops}
use Rattle.chip_step.specs.Step.{ChipStep, after_fetch}
use Rattle.chip_step.specs.declared.outcome.StepEnd.{StepEnd}
use Rattle.driver_script.specs.Script.{instruction}
use Rattle.ownership.specs.Standing.{StandsAt}

-- a step at an address of the script that has this instruction
pub record StepsBy {B : Type 0} (moves : B → Event → B → Type 0) (op : Op) (old : Chip B) (end : StepEnd) (new : Chip B) : Type 0 where
  pub version : ℕ
  pub k : ℕ
  pub word : ℕ
  pub stands : StandsAt version k old
  pub here : instruction k version ≡ op
  pub ran : ChipStep moves word old end new

module _ {B : Type 0} (moves : B → Event → B → Type 0) where
  -- a JUMP goes to its address, and a RETURN to the one in TEMP
  abbrev pub JumpsTo : Type 0
  JumpsTo =
      (a : ℕ) (old : Chip B) (end : StepEnd) (new : Chip B) → StepsBy moves (Jump Always a) old end new
      → Becomes (record (after_fetch old).regs { dsp = a }) (after_fetch old) end new

  abbrev pub ReturnsTo : Type 0
  ReturnsTo =
      (old : Chip B) (end : StepEnd) (new : Chip B) → StepsBy moves (Return Always) old end new
      → Becomes (record (after_fetch old).regs { dsp = old.regs.temp }) (after_fetch old) end new

  -- INT stops with its vector, and INTFLY goes on with the interrupt set
  abbrev pub StopsWith : Type 0
  StopsWith =
      (v : ℕ) (old : Chip B) (end : StepEnd) (new : Chip B) → StepsBy moves (Int Always v) old end new
      → Stops (Sir v) (after_fetch old) end new

  abbrev pub Interrupts : Type 0
  Interrupts =
      (old : Chip B) (end : StepEnd) (new : Chip B) → StepsBy moves (IntFly Always) old end new
      → Becomes (record (after_fetch old).regs { intf = true }) (after_fetch old) end new
