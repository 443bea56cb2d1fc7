use Rattle.std.proofs.Common.{rules, arith, ◌≡◌, ◌<◌, ◌+◌, length, false, refl, sym, ap, subst, not}
use Rattle.desk_law.specs.declared.stage.Stage.TheVariants.{Queued}
use Rattle.desk_law.specs.declared.ticket.Ticket.{Ticket}
use Rattle.desk_law.specs.Desk.{DeskState, is_freed}
use Rattle.driver_desk.specs.Conditions.{MayQueue}
use Rattle.driver_desk.proofs.Index.{stays_by, seen, next_is_slot}
use Rattle.driver_desk.proofs.Stages.{queueable_lives, tries_before_queue}
use Rattle.driver_desk.proofs.LastTickets.{last_stays}
use Rattle.driver_desk.proofs.StageSets.{numbers_of, sets_marked}
use Rattle.driver_desk.proofs.desk.Desk.queue.Goals as goal

pub invariant_of-self : goal.invariant_of-self
invariant_of-self c =
    let old = c.index_mut-k.result.now in
    let there : c.args.t < length c.self.inside.tickets.items = search rules in
    let is = seen c.args.self.now c.self.inside.tickets.items c.args.t old (ap (λ (d : DeskState). d.tickets) c.self.view_is) there c.index_mut-k.ensures.value in
    let ready : MayQueue old.stage = subst (λ (k : Ticket). MayQueue k.stage) is c.requires.ready in
    let live : is_freed old.stage ≡ false = queueable_lives old.stage ready in
    let before = tries_before_queue c.self.inside.retries old.stage ready in
    let h = stays_by _ _ _ _ _ _ _ _ _ _ _ _ _ _ c.args.t (record old { stage = Queued; tries = old.tries + 1 }) old c.self.invariant.0 there c.index_mut-k.ensures.value
    (record { line = refl; pieces = refl; unit = refl; tag = refl; block = refl; lives = sym (ap not live) }) (λ most. omega (arith, most, before)) in (
      (
        record {
          few_units = h.0.few_units;
          few_retries = h.0.few_retries;
          put_slot = next_is_slot c.self.inside.put c.put_start-self-inside.result h.0.put_slot c.put_start-self-inside.ensures.next;
          take_slot = h.0.take_slot;
          all_callers = h.0.all_callers;
          few_tickets = h.0.few_tickets;
          each_ticket = h.0.each_ticket;
        },
        h.1,
        h.2,
      ),
      sets_marked c.self.inside.stages c.mark.new.self c.self.inside.tickets.items c.args.t _ c.self.invariant.1 there c.mark.ensures,
      last_stays _ _ c.self.inside.tickets.items c.args.t _ old c.self.invariant.2 (ap (λ (x : Ticket). x.line) c.index_mut-k.ensures.value),
    )

pub mark-requires : goal.mark-requires
mark-requires c =
    let there : c.args.t < length c.self.inside.tickets.items = search rules in
    numbers_of c.self.inside.stages c.self.inside.tickets.items (c.args.t + 1) c.self.invariant.1 (omega (arith, there))
