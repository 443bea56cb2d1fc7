use Rattle.std.proofs.Common.{rules, ◌≡◌, ◌<◌, true, length, ap, subst}
use Rattle.desk_law.specs.declared.ticket.Ticket.{Ticket}
use Rattle.desk_law.specs.Desk.{DeskState, lives}
use Rattle.driver_desk.proofs.Index.{seen}
use Rattle.driver_desk.proofs.FreedTickets.{writable}
use Rattle.driver_desk.proofs.desk.Desk.write.Goals as goal

pub write_ticket-requires-clause-inside : goal.write_ticket-requires-clause-inside
write_ticket-requires-clause-inside c =
    let k = c.index-k.result.now in
    let there : c.args.t < length c.self.inside.tickets.items = search rules in
    let is = seen c.args.self.now c.self.inside.tickets.items c.args.t k (ap (λ (d : DeskState). d.tickets) c.self.view_is) there c.index-k.ensures in
    let live : lives k ≡ true = subst (λ (x : Ticket). lives x ≡ true) is c.requires.lives in
    let w = writable _ _ _ _ _ _ _ _ _ _ _ _ _ c.args.t k c.self.invariant.0 there c.index-k.ensures live in
    w.inside
