use Rattle.std.proofs.Common.{rules}
use Rattle.std.proofs.lemmas.List.Sorted.{answers_always}
use Rattle.unit_log.proofs.Places.{searched}
use Rattle.unit_log.proofs.ticket_counts.find.Goals as goal

-- the closure gives the ticket of counts
pub returns : goal.returns
returns c =
    let facts = c.binary_search_by_key.ensures in
    let by_ticket = facts.position (λ n. n.ticket) (answers_always _ _ _ (λ f a r g called. search rules)) in
    searched _ c.requires c.args.ticket _ facts.bound by_ticket
