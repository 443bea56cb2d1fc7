use Rattle.std.proofs.Common.{◌∙◌, arith}
use Rattle.scsi_target.proofs.Places.{rig_past, rig_there}
use Rattle.scsi_target.proofs.device.rig_at.Goals as goal

pub returns-then-len-lun : goal.returns-then-len-lun
returns-then-len-lun c = let ok = c.args.units.now.ok in rig_past c.args.units.now.items c.args.lun (omega arith)

pub returns : goal.returns
returns c = let ok = c.args.units.now.ok in c.rig_in.ensures ∙ rig_there c.args.units.now.items c.args.lun c.index.result.now (omega arith) c.index.ensures
