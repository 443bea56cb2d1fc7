use Rattle.std.proofs.Common.{◌≡◌, drop}
use Rattle.scsi_target.specs.Slots.{all_can_reset}
use Rattle.scsi_target.proofs.resetting.can_reset_all.Given as goal

abbrev pub invariant-loop-unit : goal.invariant-loop-unit
invariant-loop-unit l = all_can_reset (drop l.unit-index l.units.items) ≡ all_can_reset l.units.items
