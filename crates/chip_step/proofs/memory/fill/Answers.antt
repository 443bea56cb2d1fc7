use Rattle.std.proofs.Common.{◌≡◌, ◌+◌, suc, zero, arith}
use Rattle.chip_step.proofs.memory.fill.Goals as goal

pub loop-i-preserved : goal.loop-i-preserved
loop-i-preserved c =
    record {
      rest = λ n e.
          let s : c.args.register + (c.loop-i.i + 1) ≡ c.args.register + c.loop-i.i + 1 = omega arith in
          let t : c.args.at + (c.loop-i.i + 1) ≡ c.args.at + c.loop-i.i + 1 = omega arith in
          rw (s, t, c.write.ensures, c.byte-b.ensures) (c.loop-i.invariant.rest (suc n) (omega arith));
    }

pub returns : goal.returns
returns c = c.loop-i.invariant.rest zero (omega arith)
