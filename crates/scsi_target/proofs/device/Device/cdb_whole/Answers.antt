use Rattle.scsi_target.proofs.DistinctTags.{seen}
use Rattle.scsi_target.proofs.device.Device.cdb_whole.Goals as goal

pub returns-clause-tags : goal.returns-clause-tags
returns-clause-tags c = seen _ _ _ c.self.view_is c.self.invariant.tags
