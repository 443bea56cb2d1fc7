use Rattle.ticket_link.proofs.Pointers.{pointers-follow}
use Rattle.ticket_link.proofs.laws.pointers_follow.Goals as goal

pub returns : goal.returns
returns c = pointers-follow
