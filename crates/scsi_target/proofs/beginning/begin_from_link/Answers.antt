use Rattle.scsi_target.proofs.Begins.{begun_from}
use Rattle.scsi_target.proofs.beginning.begin_from_link.Goals as goal

pub returns-clause-state : goal.returns-clause-state
returns-clause-state c = begun_from c.args.units.now.items c.begin_for_nexus.new.units.items c.args.link c.begin_for_nexus.result c.in-TakingCommand.nexus c.in-TakingCommand.block c.args.ticket c.in-TakingCommand.is c.begin_for_nexus.ensures.state
