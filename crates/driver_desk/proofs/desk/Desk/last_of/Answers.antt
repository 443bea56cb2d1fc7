use Rattle.std.proofs.Common.{ap, sym, subst, ◌<◌}
use Rattle.desk_law.specs.Desk.{DeskState}
use Rattle.driver_desk.proofs.LastTickets.{last_at}
use Rattle.driver_desk.proofs.desk.Desk.last_of.Goals as goal

pub returns : goal.returns
returns c =
    let low : c.args.submitter < c.self.inside.submitters = subst (λ (d : DeskState). c.args.submitter < d.submitters) (sym c.self.view_is) c.requires in
    last_at c.self.inside.submitters c.self.inside.last_built.items c.self.inside.tickets.items c.args.submitter c.index.result.now c.args.self.now
    (ap (λ (d : DeskState). d.tickets) c.self.view_is) c.self.invariant.2 low c.index.ensures
