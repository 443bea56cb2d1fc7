use Rattle.std.proofs.Common.{rules, ◌≡◌, ◌<◌, length, false, refl, sym, ap, subst, not, arith, ◌+◌}
use Rattle.desk_law.specs.declared.stage.Stage.TheVariants.{Check}
use Rattle.desk_law.specs.declared.ticket.Ticket.{Ticket}
use Rattle.desk_law.specs.Desk.{DeskState, is_freed}
use Rattle.driver_desk.proofs.Index.{live_stays, seen}
use Rattle.driver_desk.proofs.LastTickets.{last_stays}
use Rattle.driver_desk.proofs.StageSets.{numbers_of, sets_marked}
use Rattle.driver_desk.proofs.desk.Desk.sense.Goals as goal

pub invariant_of-self : goal.invariant_of-self
invariant_of-self c =
    let old = c.index_mut-k.result.now in
    let there : c.args.t < length c.self.inside.tickets.items = search rules in
    let is = seen c.args.self.now c.self.inside.tickets.items c.args.t old (ap (λ (d : DeskState). d.tickets) c.self.view_is) there c.index_mut-k.ensures.value in
    let check : old.stage ≡ Check = subst (λ (k : Ticket). k.stage ≡ Check) is c.requires.check in
    let live : is_freed old.stage ≡ false = ap is_freed check in (
      live_stays _ _ _ _ _ _ _ _ _ _ _ _ _ _ c.args.t _ old c.self.invariant.0 there c.index_mut-k.ensures.value
          (record { line = refl; pieces = refl; unit = refl; tag = refl; block = refl; lives = sym (ap not live) }) (λ most. most),
      sets_marked c.self.inside.stages c.mark.new.self c.self.inside.tickets.items c.args.t _ c.self.invariant.1 there c.mark.ensures,
      last_stays _ _ c.self.inside.tickets.items c.args.t _ old c.self.invariant.2 (ap (λ (x : Ticket). x.line) c.index_mut-k.ensures.value),
    )

pub mark-requires : goal.mark-requires
mark-requires c =
    let there : c.args.t < length c.self.inside.tickets.items = search rules in
    numbers_of c.self.inside.stages c.self.inside.tickets.items (c.args.t + 1) c.self.invariant.1 (omega (arith, there))
