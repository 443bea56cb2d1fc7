use Rattle.std.proofs.Common.{◌≡◌, ◌≤◌, ◌*◌, length, take}
use Rattle.bus_law.specs.Reselections.{all_candidates}
use Rattle.target_bus.proofs.bus.TargetBus.candidate_total.Given as goal

abbrev pub invariant-loop-unit : goal.invariant-loop-unit
invariant-loop-unit l = record {
  counted : l.total ≡ length (all_candidates (take l.unit-index l.units) l.self);
  small : l.total ≤ 4294967295 * l.unit-index;
}
