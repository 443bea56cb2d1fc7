use Rattle.target_session.proofs.Offers.{names_can}
use Rattle.target_session.proofs.connection.Connection.choose.Goals as goal

pub returns-clause-lawful : goal.returns-clause-lawful
returns-clause-lawful c = names_can _ c.args.limit _ c.args.word _ c.choose_named.ensures
