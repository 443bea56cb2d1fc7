use Rattle.std.proofs.Common.{arith}
use Rattle.target_bus.proofs.CandidateCounts.{total-step, total-end}
use Rattle.target_bus.proofs.bus.TargetBus.candidate_total.Goals as goal

pub loop-unit-preserved : goal.loop-unit-preserved
loop-unit-preserved c = record {
  counted = total-step c.args.self.now c.args.units.now c.loop-unit.unit-index _ c.loop-unit.total c.candidates_of.result c.loop-unit.invariant.counted c.candidates_of.ensures.count c.loop-unit-test.true;
  small = omega arith;
}

pub returns : goal.returns
returns c = total-end c.args.self.now c.args.units.now c.loop-unit.unit-index c.loop-unit.total c.loop-unit.invariant.counted c.loop-unit-test.false
