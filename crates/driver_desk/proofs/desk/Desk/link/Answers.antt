use Rattle.std.proofs.Common.{rules, ◌≡◌, ◌<◌, ◌≤◌, length, false, refl, sym, ap, subst, not}
use Rattle.desk_law.specs.declared.stage.Stage.{Stage}
use Rattle.desk_law.specs.declared.stage.Stage.TheVariants.{Built}
use Rattle.desk_law.specs.declared.ticket.Ticket.{Ticket}
use Rattle.desk_law.specs.Desk.{DeskState, is_freed}
use Rattle.driver_desk.specs.Kept.{most_tries}
use Rattle.driver_desk.proofs.Index.{stays_by, seen}
use Rattle.driver_desk.proofs.LastTickets.{last_stays}
use Rattle.driver_desk.proofs.StageSets.{sets_stay, linked_apart, apart_at}
use Rattle.driver_desk.proofs.desk.Desk.link.Goals as goal

pub invariant_of-self : goal.invariant_of-self
invariant_of-self c =
    let old = c.index_mut-k.result.now in
    let there : c.args.t < length c.self.inside.tickets.items = search rules in
    let is = seen c.args.self.now c.self.inside.tickets.items c.args.t old (ap (λ (d : DeskState). d.tickets) c.self.view_is) there c.index_mut-k.ensures.value in
    let built : old.stage ≡ Built = subst (λ (k : Ticket). k.stage ≡ Built) is c.requires.built in
    let live : is_freed old.stage ≡ false = ap is_freed built in (
      stays_by _ _ _ _ _ _ _ _ _ _ _ _ _ _ c.args.t _ old c.self.invariant.0 there c.index_mut-k.ensures.value
          (record { line = refl; pieces = refl; unit = refl; tag = refl; block = refl; lives = sym (ap not live) })
          (λ most. subst (λ (s : Stage). old.tries ≤ most_tries c.self.inside.retries s) built most),
      sets_stay c.self.inside.stages c.self.inside.tickets.items c.args.t _ c.self.invariant.1 there linked_apart (apart_at _ _ old there c.index_mut-k.ensures.value built),
      last_stays _ _ c.self.inside.tickets.items c.args.t _ old c.self.invariant.2 (ap (λ (x : Ticket). x.line) c.index_mut-k.ensures.value),
    )
