use Rattle.std.proofs.Common.{refl}
use Rattle.chip_step.specs.Chip.{state}
use Rattle.straight_run.proofs.TenSteps.{read_goes, status_goes}
use Rattle.straight_run.proofs.Stops.{Steps-stops}
use Rattle.straight_run.proofs.straight.Goals as goal

pub returns-clause-ran : goal.returns-clause-ran
returns-clause-ran g c =
    record {
      opening = record { memory = c.lay.new.words; regs = record c.new-regs.result { dsa = 65536 }; bus = c.args.bus.now };
      opens = record { zero_memory = c.in_ok-words.words; zeros = c.in_ok-words.ensures; memory_is = c.lay.ensures; regs_are = rw c.new-regs.ensures refl };
      bus_is = refl;
      steps = c.run.ensures;
    }

pub returns-clause-stopped : goal.returns-clause-stopped
returns-clause-stopped g c = Steps-stops g.B.Bus.moves _ _ c.run.ensures

pub returns-clause-read : goal.returns-clause-read
returns-clause-read g c = λ bytes status len a.
    read_goes g.B.Bus.moves (λ b. Unit {0}) c.args.lba bytes status c.args.bus.now (state c.run.new.words c.run.new.regs c.run.new.bus) (returns-clause-ran g c) len a

pub returns-clause-status : goal.returns-clause-status
returns-clause-status g c = λ status a.
    status_goes g.B.Bus.moves (λ b. Unit {0}) c.args.lba status c.args.bus.now (state c.run.new.words c.run.new.regs c.run.new.bus) (returns-clause-ran g c) a
