use Rattle.chip_needs.proofs.AfterMessage.{commands-find-nexus}
use Rattle.chip_needs.proofs.laws.commands_find_nexus.Goals as goal

pub returns : goal.returns
returns c = commands-find-nexus
