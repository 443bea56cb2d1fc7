use Rattle.std.proofs.Common.{◌≡◌, drop}
use Rattle.std.specs.Prelude.{slice_get}
use Rattle.bus_law.specs.Reselections.{all_candidates}
use Rattle.target_bus.proofs.bus.TargetBus.candidate_at.Given as goal

abbrev pub invariant-loop-unit : goal.invariant-loop-unit
invariant-loop-unit l = slice_get (all_candidates (drop l.unit-index l.units) l.self) l.left ≡ slice_get (all_candidates l.units l.self) l.index
