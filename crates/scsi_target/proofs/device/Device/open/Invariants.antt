use Rattle.std.proofs.Common.{vec_len}
use Rattle.scsi_target.proofs.Opening.{Opens}
use Rattle.scsi_target.proofs.device.Device.open.Given as goal

abbrev pub invariant-loop-unit : goal.invariant-loop-unit
invariant-loop-unit l = Opens l.units (vec_len l.slots) l.slots.items l.unit-index
