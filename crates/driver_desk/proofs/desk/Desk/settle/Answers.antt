use Rattle.std.proofs.Common.{rules, ◌≡◌, ◌<◌, ◌≤◌, length, true, sym, ap, subst, ◌∙◌, arith, ◌+◌}
use Rattle.desk_law.specs.declared.ticket.Ticket.{Ticket}
use Rattle.desk_law.specs.Desk.{DeskState, lives}
use Rattle.driver_desk.proofs.Index.{taken_keeps, taken_stays, seen}
use Rattle.driver_desk.proofs.Stages.{tries_left}
use Rattle.driver_desk.proofs.LastTickets.{last_stays}
use Rattle.driver_desk.proofs.StageSets.{numbers_of, sets_marked}
use Rattle.driver_desk.proofs.desk.Desk.settle.Goals as goal

-- src/desk.rt:346:5
pub invariant_of-self : goal.invariant_of-self
invariant_of-self c =
    let old = c.index_mut-k.result.now in
    let read = c.index-k.result.now in
    let same = ap (λ (d : DeskState). d.tickets) c.self.view_is in
    let there : c.args.t < length c.self.inside.tickets.items = search rules in
    let is = seen c.args.self.now c.self.inside.tickets.items c.args.t old same there c.index_mut-k.ensures.value in
    let was = seen c.args.self.now c.self.inside.tickets.items c.args.t read same there c.index-k.ensures in
    let live : lives old ≡ true = subst (λ (k : Ticket). lives k ≡ true) is c.requires.lives in
    let left : c.is_again-again.result ≡ true → old.tries ≤ c.self.inside.retries = λ again.
    subst (λ (k : Ticket). k.tries ≤ c.self.inside.retries) (sym was ∙ is)
    (subst (λ (d : DeskState). read.tries ≤ d.retries) (sym c.self.view_is)
    (tries_left c.args.self.now c.args.words.now read (sym c.is_again-again.ensures ∙ again))) in (
      taken_stays _ _ _ _ _ _ _ _ _ _ _ _ _ _ c.args.t _ old _ _ _ _ c.self.invariant.0 there c.index_mut-k.ensures.value live left c.settle_ticket-answer.ensures.ticket,
      sets_marked c.self.inside.stages c.mark.new.self c.self.inside.tickets.items c.args.t _ c.self.invariant.1 there c.mark.ensures,
      last_stays _ _ c.self.inside.tickets.items c.args.t _ old c.self.invariant.2 (ap (λ (x : Ticket). x.line) c.settle_ticket-answer.ensures.ticket ∙ (taken_keeps _ _ _ c.args.words.now old live).line ∙ ap (λ (x : Ticket). x.line) c.index_mut-k.ensures.value),
    )

pub mark-requires : goal.mark-requires
mark-requires c =
    let there : c.args.t < length c.self.inside.tickets.items = search rules in
    numbers_of c.self.inside.stages c.self.inside.tickets.items (c.args.t + 1) c.self.invariant.1 (omega (arith, there))
