-- Transfers of control and their conditions.
use Rattle.std.specs.Prelude.{◌≡◌, ℕ, ◌-◌, Bool, true, false, not, nat_eq, Option, Some, None, bit_and}
use Rattle.scsi_words.specs.Phases.{phase_code}
use Rattle.scsi_words.specs.declared.phases.kinds.Phase.{Phase}
use Rattle.scripts_ops.specs.declared.values.Condition.{Condition}
use Rattle.scripts_ops.specs.declared.values.Condition.TheVariants as condition
use Rattle.chip_regs.specs.Registers.{stop_with}
use Rattle.chip_regs.specs.declared.registers.Regs.{Regs}
use Rattle.chip_regs.specs.declared.registers.Cause.TheVariants.{Udc}
use Rattle.chip_step.specs.Event as event
use Rattle.chip_step.specs.Event.{Event}
use Rattle.chip_step.specs.Chip.{Chip, Ends}
use Rattle.chip_step.specs.Blocks.{Asks}
use Rattle.chip_step.specs.declared.outcome.StepEnd.{StepEnd}
use Rattle.chip_step.specs.declared.outcome.StepEnd.TheVariants.{Ran, Stopped}

-- a comparison that NOT may turn round
abbrev pub unless_not : Bool → Bool → Bool
unless_not true same = not same
unless_not false same = same

-- the phase that the target shows is the named one; where none is settled, no phase is equal
abbrev pub is_phase : ℕ → Option Phase → Bool
is_phase code None = false
is_phase code (Some shown) = nat_eq (phase_code shown) code

-- SFBR is the data in all bits but those of the mask
abbrev pub is_byte : ℕ → ℕ → ℕ → Bool
is_byte mask value sfbr = nat_eq (bit_and sfbr (255 - mask)) value

-- WHEN has no answer on a free bus
abbrev pub when_phase : Bool → ℕ → Option Phase → Option Bool
when_phase negated code None = None
when_phase negated code (Some shown) = Some (unless_not negated (is_phase code (Some shown)))

-- A free bus is UDC. Where the condition holds, the step ends as given; else it goes on with the next instruction.
abbrev pub TransfersAt : {B : Type 0} → Option Bool → StepEnd → Regs → Chip B → StepEnd → Chip B → Type 0
TransfersAt None how regs old end new = Ends (Stopped Udc) old.memory (stop_with Udc old.regs) end new
TransfersAt (Some true) how regs old end new = Ends how old.memory regs end new
TransfersAt (Some false) how regs old end new = Ends Ran old.memory old.regs end new

module _ {B : Type 0} (moves : B → Event → B → Type 0) (word : ℕ) where
  -- Whether the condition holds. WHEN asks for the phase, IF takes the one that is shown.
  abbrev pub Decides : Condition → ℕ → B → Option Bool → B → Type 0
  Decides condition.Always sfbr old decision new = (decision ≡ Some true) × (new ≡ old)
  Decides (condition.Byte negated mask value) sfbr old decision new =
      (decision ≡ Some (unless_not negated (is_byte mask value sfbr))) × (new ≡ old)
  Decides (condition.Phase true negated code) sfbr old decision new =
      (shown : Option Phase) × Asks moves word shown old new × (decision ≡ when_phase negated code shown)
  Decides (condition.Phase false negated code) sfbr old decision new =
      (shown : Option Phase) × moves old (event.Shown shown) old × (new ≡ old)
      × (decision ≡ Some (unless_not negated (is_phase code shown)))

  pub record Transfers (on : Condition) (how : StepEnd) (regs : Regs) (old : Chip B) (end : StepEnd) (new : Chip B) : Type 0 where
    pub decision : Option Bool
    pub decides : Decides on old.regs.sfbr old.bus decision new.bus
    pub transfers : TransfersAt decision how regs old end new
