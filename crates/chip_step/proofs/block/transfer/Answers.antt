use Rattle.std.proofs.Common.{refl}
use Rattle.chip_step.proofs.block.transfer.Goals as goal

pub returns-clause-does : goal.returns-clause-does
returns-clause-does g c =
    record {
      left = c.carry-left.result;
      bus = c.carry-left.new.bus;
      carries = c.carry-left.ensures.moved c.args.regs.now refl refl;
      finishes = rw c.count_down.ensures at (c.finish.ensures.does c.carry-left.new.words);
    }
