use Rattle.scsi_target.proofs.DeviceCalls.{free_link, device_selected, view_selected}
use Rattle.target_law.proofs.Tags.{tags_stay}
use Rattle.scsi_target.proofs.DistinctTags.{seen, told}
use Rattle.scsi_target.proofs.device.Device.select.Goals as goal

pub invariant_of-self : goal.invariant_of-self
invariant_of-self c = record {
  device = device_selected _ _ c.self.inside.link _ _ c.self.invariant.device (free_link _ _ _ c.self.view_is c.requires.free) c.selected.ensures;
  tags = told _ _ _ (view_selected _ _ c.self.inside.link _ _ c.self.view_is c.self.invariant.device.known c.selected.ensures) (tags_stay.selected _ (seen _ _ _ c.self.view_is c.self.invariant.tags));
}

pub returns : goal.returns
returns c = view_selected _ _ c.self.inside.link _ _ c.self.view_is c.self.invariant.device.known c.selected.ensures
