use Rattle.std.proofs.Common.{add-one}
use Rattle.straight_run.specs.Steps.{last, next}
use Rattle.straight_run.proofs.Progress.{begins, step_on}
use Rattle.straight_run.proofs.run.Goals as goal

pub loop-i-init : goal.loop-i-init
loop-i-init g c =
    record {
      going = begins c.requires.0 (record { memory = c.args.words.now; regs = c.args.regs.now; bus = c.args.bus.now }) c.requires.1;
      goes_on = λ new s. s;
    }

pub returns-in-Stopped : goal.returns-in-Stopped
returns-in-Stopped g c =
    c.loop-i.invariant.goes_on (record { memory = c.step.new.words; regs = c.step.new.regs; bus = c.step.new.bus }) (last c.in-Stopped.field-0 c.in-Stopped.ensures.does)

pub loop-i-preserved : goal.loop-i-preserved
loop-i-preserved g c =
    record {
      going = rw add-one (step_on g.B.Bus.moves c.loop-i.i (record { memory = c.loop-i.words; regs = c.loop-i.regs; bus = c.loop-i.bus }) (record { memory = c.step.new.words; regs = c.step.new.regs; bus = c.step.new.bus }) c.loop-i.invariant.going c.in-Ran.ensures.does);
      goes_on = λ new s. c.loop-i.invariant.goes_on new (next c.in-Ran.ensures.does s);
    }
