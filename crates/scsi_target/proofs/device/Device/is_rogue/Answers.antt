use Rattle.std.proofs.Common.{ap, sym, ◌∙◌}
use Rattle.scsi_target.proofs.Views.{rogue_of, rogue_connected_of}
use Rattle.scsi_target.proofs.device.Device.is_rogue.Goals as goal

pub returns-clause-rogue : goal.returns-clause-rogue
returns-clause-rogue c = rogue_of _ _ c.self.inside.link c.self.inside.rogue c.self.view_is c.self.invariant.device.known

pub returns-clause-link : goal.returns-clause-link
returns-clause-link c = rogue_connected_of _ _ c.self.inside.link c.self.inside.rogue c.self.view_is c.self.invariant.device.linked
