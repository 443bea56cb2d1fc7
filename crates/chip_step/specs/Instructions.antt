-- What each instruction does after it was fetched, one case for each row of the table.
use Rattle.std.specs.Prelude.{ℕ, ◌+◌, ◌%◌, true, bit_and, bit_or}
use Rattle.scripts_ops.specs.declared.values.Op.{Op}
use Rattle.scripts_ops.specs.declared.values.Op.TheVariants.{Move, MoveFrom, Select, WaitDisconnect, WaitReselect, Set, Clear, FromSfbr, ToSfbr, Modify, Put, Jump, Call, Return, Int, IntFly, Nop, MoveMemory, Load, Store}
use Rattle.scripts_ops.specs.declared.values.Change.{Change}
use Rattle.scripts_ops.specs.declared.values.Change.TheVariants.{Or, And, Add}
use Rattle.chip_regs.specs.Registers.{byte_at, written, after_read, stop_with}
use Rattle.chip_regs.specs.declared.registers.Cause.TheVariants.{Sir}
use Rattle.chip_step.specs.Event.{Event}
use Rattle.chip_step.specs.Chip.{Chip, Becomes}
use Rattle.chip_step.specs.Blocks.{BlockMoves, MovesFrom, loaded}
use Rattle.chip_step.specs.Connection.{Selects, Waits, Reselects, Sets, Clears}
use Rattle.chip_step.specs.Transfers.{Transfers}
use Rattle.chip_step.specs.Memory.{Loads, Stores, Copies}
use Rattle.chip_step.specs.declared.outcome.StepEnd.{StepEnd}
use Rattle.chip_step.specs.declared.outcome.StepEnd.TheVariants.{Ran, Stopped}

-- what a register form makes of two bytes
abbrev pub changed : Change → ℕ → ℕ → ℕ
changed Or a b = bit_or a b
changed And a b = bit_and a b
changed Add a b = (a + b) % 256

module _ {B : Type 0} (moves : B → Event → B → Type 0) (word : ℕ) where
  -- before: the chip before the fetch
  abbrev pub Does : Op → Chip B → Chip B → StepEnd → Chip B → Type 0
  Does (Move n a p) before old end new = BlockMoves moves word p (loaded n a old) end new
  Does (MoveFrom o p) before old end new = MovesFrom moves word o p old end new
  Does (Select o alternate) before old end new = Selects moves word o alternate old end new
  Does WaitDisconnect before old end new = Waits moves word old end new
  Does (WaitReselect alternate) before old end new = Reselects moves word alternate before old end new
  Does (Set ack atn) before old end new = Sets moves ack atn old end new
  Does (Clear ack atn) before old end new = Clears moves ack atn old end new
  Does (FromSfbr c d r) before old end new = Becomes (written r (changed c old.regs.sfbr d) old.regs) old end new
  Does (ToSfbr r c d) before old end new =
      Becomes (record (after_read r old.regs) { sfbr = changed c (byte_at r old.regs) d }) old end new
  Does (Modify r c d) before old end new = Becomes (written r (changed c (byte_at r old.regs) d) old.regs) old end new
  Does (Put d r) before old end new = Becomes (written r d old.regs) old end new
  Does (Jump on a) before old end new = Transfers moves word on Ran (record old.regs { dsp = a }) old end new
  Does (Call on a) before old end new =
      Transfers moves word on Ran (record old.regs { temp = old.regs.dsp; dsp = a }) old end new
  Does (Return on) before old end new = Transfers moves word on Ran (record old.regs { dsp = old.regs.temp }) old end new
  Does (Int on v) before old end new =
      Transfers moves word on (Stopped (Sir v)) (stop_with (Sir v) old.regs) old end new
  Does (IntFly on) before old end new = Transfers moves word on Ran (record old.regs { intf = true }) old end new
  Does Nop before old end new = Becomes old.regs old end new
  Does (MoveMemory n s t) before old end new = Copies n s t old end new
  Does (Load r n place) before old end new = Loads r n place old end new
  Does (Store r n place) before old end new = Stores r n place old end new
