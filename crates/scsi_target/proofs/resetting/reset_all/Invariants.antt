use Rattle.std.proofs.Common.{◌≡◌, vec_len}
use Rattle.scsi_target.specs.Resettings.{reset_first}
use Rattle.scsi_target.proofs.resetting.reset_all.Given as goal

abbrev pub invariant-loop-i : goal.invariant-loop-i
invariant-loop-i l = (l.units.items ≡ reset_first l.i l.fn.units.items) × (vec_len l.units ≡ vec_len l.fn.units)
