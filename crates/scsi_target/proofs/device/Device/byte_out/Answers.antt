use Rattle.scsi_target.proofs.Devices.{device_relinked}
use Rattle.target_law.proofs.Tags.{tags_stay}
use Rattle.scsi_target.proofs.DistinctTags.{relinked}
use Rattle.scsi_target.proofs.device.Device.byte_out.Goals as goal

pub invariant_of-self : goal.invariant_of-self
invariant_of-self c = record {
  device = let h = c.take.ensures.held in device_relinked _ _ _ _ _ c.self.invariant.device h.busy (h.linked _ _ c.self.invariant.device.linked);
  tags = relinked _ _ _ c.take.ensures.state (tags_stay.taken c.args.b _ c.self.invariant.tags);
}
