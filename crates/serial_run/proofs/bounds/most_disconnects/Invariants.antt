use Rattle.std.proofs.Common.{◌≡◌, ◌<◌, ℕ, max, drop}
use Rattle.std.specs.Prelude.{fold}
use Rattle.rig_types.specs.declared.rig.Unit.{Unit as RigUnit}
use Rattle.run_law.specs.Bound.{most_disconnects}
use Rattle.serial_run.proofs.bounds.most_disconnects.Given as goal

-- the units from here on lead to the most of all
abbrev pub invariant-loop-unit : goal.invariant-loop-unit
invariant-loop-unit l = record {
  most : fold (λ (d : ℕ) (u : RigUnit). max d u.disconnects) l.most (drop l.unit-index l.units) ≡ most_disconnects l.units;
  byte : l.most < 256;
}
