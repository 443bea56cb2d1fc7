use Rattle.std.proofs.Common.{◌<◌, subst, arith, ℕ}
use Rattle.target_bus.proofs.CandidateCounts.{found-here, found-after, found-none}
use Rattle.target_bus.proofs.bus.TargetBus.candidate_at.Goals as goal

pub returns-then-left-count : goal.returns-then-left-count
returns-then-left-count c = record {
  at = found-here c.args.self.now c.args.units.now c.loop-unit.unit-index _ c.loop-unit.left c.args.index c.candidates_of-count.result c.loop-unit.invariant c.loop-unit-test.true c.candidates_of-count.ensures.count c.if-left-count.true;
  unit = subst (λ (n : ℕ). c.loop-unit.left < n) c.candidates_of-count.ensures.count c.if-left-count.true;
  within = c.candidates_of-count.ensures.within (omega (arith, c.if-left-count.true));
}

pub loop-unit-preserved : goal.loop-unit-preserved
loop-unit-preserved c =
    found-after c.args.self.now c.args.units.now c.loop-unit.unit-index _ c.loop-unit.left c.args.index c.candidates_of-count.result c.loop-unit.invariant c.loop-unit-test.true c.candidates_of-count.ensures.count c.if-left-count.false

pub returns-clause-at : goal.returns-clause-at
returns-clause-at c = found-none c.args.self.now c.args.units.now c.loop-unit.unit-index c.loop-unit.left c.args.index c.loop-unit.invariant c.loop-unit-test.false
