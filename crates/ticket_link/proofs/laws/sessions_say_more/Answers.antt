use Rattle.ticket_link.proofs.Sessions.{sessions-say-more}
use Rattle.ticket_link.proofs.laws.sessions_say_more.Goals as goal

pub returns : goal.returns
returns c = sessions-say-more
