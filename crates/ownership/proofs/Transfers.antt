-- A transfer that always holds asks nothing of the bus.
use Rattle.std.proofs.Common.{◌≡◌, ℕ, Bool, true, false, Option, Some, None, subst}
use Rattle.scripts_ops.specs.declared.values.Condition.TheVariants.{Always}
use Rattle.scripts_ops.specs.declared.values.Op.{Op}
use Rattle.scripts_ops.specs.declared.values.Op.TheVariants.{Jump, Return, Int, IntFly}
use Rattle.chip_regs.specs.Registers.{stop_with}
use Rattle.chip_regs.specs.declared.registers.Cause.TheVariants.{Sir}
use Rattle.chip_regs.specs.declared.registers.Regs.{Regs}
use Rattle.chip_step.specs.Event.{Event}
use Rattle.chip_step.specs.Chip.{Chip, Ends}
use Rattle.chip_step.specs.Instructions.{Does}
use Rattle.chip_step.specs.Step.{after_fetch}
use Rattle.chip_step.specs.Transfers.{Transfers, TransfersAt}
use Rattle.chip_step.specs.declared.outcome.StepEnd.{StepEnd}
use Rattle.chip_step.specs.declared.outcome.StepEnd.TheVariants as ends
use Rattle.ownership.specs.Transfers.{StepsBy, JumpsTo, ReturnsTo, StopsWith, Interrupts}
use Rattle.ownership.proofs.Steps.{is_row}

module _ {B : Type 0} (moves : B → Event → B → Type 0) where
  row_of : (op : Op) (old : Chip B) (end : StepEnd) (new : Chip B) (s : StepsBy moves op old end new) → Does moves s.word op old (after_fetch old) end new
  row_of op old end new s =
      subst (λ (o : Op). Does moves s.word o old (after_fetch old) end new) s.here (is_row moves s.version s.k s.word old end new s.stands s.ran)

  taken : (d : Option Bool) (how : StepEnd) (regs : Regs) (old : Chip B) (end : StepEnd) (new : Chip B) → d ≡ Some true → TransfersAt d how regs old end new → Ends how old.memory regs end new
  taken None how regs old end new e h = absurd cc
  taken (Some true) how regs old end new e h = h
  taken (Some false) how regs old end new e h = absurd cc

  always : (word : ℕ) (how : StepEnd) (regs : Regs) (old : Chip B) (end : StepEnd) (new : Chip B) → Transfers moves word Always how regs old end new → Ends how old.memory regs end new
  always word how regs old end new t = taken t.decision how regs old end new t.decides.0 t.transfers

  pub jumps_to : JumpsTo moves
  jumps_to a old end new s =
      let t = row_of (Jump Always a) old end new s in
      record { ends = always s.word ends.Ran (record (after_fetch old).regs { dsp = a }) (after_fetch old) end new t; bus_is = t.decides.1 }

  pub returns_to : ReturnsTo moves
  returns_to old end new s =
      let t = row_of (Return Always) old end new s in
      record { ends = always s.word ends.Ran (record (after_fetch old).regs { dsp = old.regs.temp }) (after_fetch old) end new t; bus_is = t.decides.1 }

  pub stops_with : StopsWith moves
  stops_with v old end new s =
      let t = row_of (Int Always v) old end new s in
      record { ends = always s.word (ends.Stopped (Sir v)) (stop_with (Sir v) (after_fetch old).regs) (after_fetch old) end new t; bus_is = t.decides.1 }

  pub interrupts : Interrupts moves
  interrupts old end new s =
      let t = row_of (IntFly Always) old end new s in
      record { ends = always s.word ends.Ran (record (after_fetch old).regs { intf = true }) (after_fetch old) end new t; bus_is = t.decides.1 }
