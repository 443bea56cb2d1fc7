use Rattle.std.proofs.Common.{◌≡◌, ◌+◌, suc, zero, arith}
use Rattle.std.proofs.lemmas.Grind.{common_steps}
use Rattle.chip_step.proofs.memory.spill.Goals as goal

pub loop-k-preserved : goal.loop-k-preserved
loop-k-preserved c =
    record {
      size = grind (arith, common_steps, c.loop-k.invariant.size, c.set_byte.ensures.wrote);
      rest = λ n e.
          let s : c.args.register + (c.loop-k.k + 1) ≡ c.args.register + c.loop-k.k + 1 = omega arith in
          let t : c.args.at + (c.loop-k.k + 1) ≡ c.args.at + c.loop-k.k + 1 = omega arith in
          rw (s, t, c.set_byte.ensures.wrote, c.byte.ensures) (c.loop-k.invariant.rest (suc n) (omega arith));
    }

pub returns-clause-stored : goal.returns-clause-stored
returns-clause-stored c = c.loop-k.invariant.rest zero (omega arith)
