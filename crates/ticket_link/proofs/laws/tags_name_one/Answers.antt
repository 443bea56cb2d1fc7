use Rattle.ticket_link.proofs.Tags.{tags-name-one}
use Rattle.ticket_link.proofs.laws.tags_name_one.Goals as goal

pub returns : goal.returns
returns c = tags-name-one
