use Rattle.std.proofs.Common.{ap, ◌∙◌, sym}
use Rattle.target_law.specs.Beginning.{has_place}
use Rattle.scsi_target.proofs.Places.{unit_read}
use Rattle.scsi_target.proofs.device.Device.has_place_for.Goals as goal

pub returns : goal.returns
returns c = c.has_place_in.ensures ∙ ap (λ o. has_place o c.args.nexus.tag) (sym (unit_read _ _ _ c.self.view_is c.args.nexus.lun _ c.self.invariant.device.eight c.requires c.index.ensures))
