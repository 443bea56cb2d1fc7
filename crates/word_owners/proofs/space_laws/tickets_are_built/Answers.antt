use Rattle.word_owners.proofs.BuiltTickets.{tickets_built}
use Rattle.word_owners.proofs.space_laws.tickets_are_built.Goals as goal

pub returns : goal.returns
returns c = tickets_built
