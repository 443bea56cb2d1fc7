-- The chip with its memory and its bus, and how a step may end.
use Rattle.std.specs.Prelude.{◌≡◌, ℕ, List}
use Rattle.chip_regs.specs.Registers.{stop_with}
use Rattle.chip_regs.specs.declared.registers.Regs.{Regs}
use Rattle.chip_regs.specs.declared.registers.Cause.{Cause}
use Rattle.chip_step.specs.declared.outcome.StepEnd.{StepEnd}
use Rattle.chip_step.specs.declared.outcome.StepEnd.TheVariants.{Ran, Stopped}

-- memory bytes, registers and bus
pub record Chip (B : Type 0) : Type 0 where
  pub memory : List ℕ
  pub regs : Regs
  pub bus : B

abbrev pub state : {B : Type 0} → List ℕ → Regs → B → Chip B
state memory regs bus = record { memory = memory; regs = regs; bus = bus }

-- the step ends so, with this memory and these registers
pub record Ends {B : Type 0} (how : StepEnd) (memory : List ℕ) (regs : Regs) (end : StepEnd) (new : Chip B) : Type 0 where
  pub is : end ≡ how
  pub memory_is : new.memory ≡ memory
  pub regs_are : new.regs ≡ regs

-- the step goes on, and only the registers change
pub record Becomes {B : Type 0} (regs : Regs) (old : Chip B) (end : StepEnd) (new : Chip B) : Type 0 where
  pub ends : Ends Ran old.memory regs end new
  pub bus_is : new.bus ≡ old.bus

-- the step stops for a cause, and nothing else changes
pub record Stops {B : Type 0} (cause : Cause) (old : Chip B) (end : StepEnd) (new : Chip B) : Type 0 where
  pub ends : Ends (Stopped cause) old.memory (stop_with cause old.regs) end new
  pub bus_is : new.bus ≡ old.bus
