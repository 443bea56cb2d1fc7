use Rattle.std.proofs.Common.{◌≡◌, ◌+◌, suc, zero, arith}
use Rattle.std.proofs.lemmas.Grind.{common_steps}
use Rattle.chip_step.proofs.memory.copy_up.Goals as goal

pub loop-i-preserved : goal.loop-i-preserved
loop-i-preserved c =
    record {
      size = grind (arith, common_steps, c.loop-i.invariant.size, c.set_byte.ensures.wrote);
      rest = λ n e.
          let s : c.args.source + (c.loop-i.i + 1) ≡ c.args.source + c.loop-i.i + 1 = omega arith in
          let t : c.args.target + (c.loop-i.i + 1) ≡ c.args.target + c.loop-i.i + 1 = omega arith in
          rw (s, t, c.set_byte.ensures.wrote, c.byte.ensures) (c.loop-i.invariant.rest (suc n) (omega arith));
    }

pub returns-clause-copied : goal.returns-clause-copied
returns-clause-copied c = c.loop-i.invariant.rest zero (omega arith)
