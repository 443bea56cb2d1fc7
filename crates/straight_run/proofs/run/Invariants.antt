use Rattle.chip_step.specs.Chip.{Chip}
use Rattle.straight_run.specs.Steps.{Steps}
use Rattle.straight_run.proofs.Progress.{Going}
use Rattle.straight_run.proofs.run.Given as goal

abbrev pub invariant-loop-i : goal.invariant-loop-i
invariant-loop-i g l = record {
  going : Going l.i l.words l.regs;
  goes_on : (new : Chip _) → Steps g.B.Bus.moves (record { memory = l.words; regs = l.regs; bus = l.bus }) new → Steps g.B.Bus.moves (record { memory = l.fn.words; regs = l.fn.regs; bus = l.fn.bus }) new;
}
