use Rattle.std.proofs.Common.{◌∙◌, ap}
use Rattle.target_law.specs.Target.{unit_at}
use Rattle.target_law.specs.Rigs.{rig_of}
use Rattle.target_law.specs.Devices.{DeviceState}
use Rattle.scsi_target.proofs.device.Device.unit.Goals as goal

pub returns : goal.returns
returns c = c.rig_at.ensures ∙ ap (λ (d : DeviceState). rig_of (unit_at d.target.units c.args.lun)) c.self.view_is
