use Rattle.std.proofs.Common.{◌≡◌, List, [], ◌∷◌, ◌++◌, set, ◌∙◌, Some, ℕ, ◌+◌, ◌<◌, false, None, length, sym, ap, subst, arith}
use Rattle.unit_law.specs.Request.{plain}
use Rattle.desk_law.specs.declared.ticket.Ticket.{Ticket}
use Rattle.desk_law.specs.Desk.{DeskState, ticket_of, ticket_at}
use Rattle.desk_law.specs.Refusals.{kind_of, is_full}
use Rattle.desk_law.specs.Building.{new_ticket, desk_built}
use Rattle.driver_desk.specs.Conditions.{AreFor}
use Rattle.driver_desk.proofs.WholeDescriptors.{sound}
use Rattle.driver_desk.specs.LastTickets.{AreLast}
use Rattle.driver_desk.proofs.LastTickets.{last_added}
use Rattle.driver_desk.specs.StageSets.{HasNumbers, AreOf}
use Rattle.driver_desk.proofs.Least.{few_live}
use Rattle.driver_desk.proofs.EnteredTickets.{entered}
use Rattle.driver_desk.proofs.StageSets.{IsApart, built_apart, numbers_of, sets_built, sets_more}
use Rattle.driver_desk.proofs.desk.Desk.enter.Goals as goal

pub one_more-requires-clause-few : goal.one_more-requires-clause-few
one_more-requires-clause-few c =
    let k = c.in_ok-ticket.field-0.ticket in
    let there : c.args.r.now.unit < length c.self.inside.units.items =
    subst (λ (d : DeskState). c.args.r.now.unit < length d.units) (sym c.self.view_is) (sound c.args.self.now.units (plain c.args.r.now) c.requires.sound).unit in
    let low : k.unit < length c.self.inside.units.items =
    subst (λ (u : ℕ). u < length c.self.inside.units.items) (sym (ap (λ (x : Ticket). x.unit) c.in_ok-ticket.ensures.ticket)) there in
    few_live _ _ _ _ _ _ _ _ _ _ _ _ _ k.unit c.self.invariant.0 low

pub invariant_of-self-2 : goal.invariant_of-self-2
invariant_of-self-2 c =
    let k = c.in_ok-ticket.field-0.ticket in
    let r = plain c.args.r.now in
    let seen : DeskState = record {
      version = c.self.inside.version;
      units = c.self.inside.units.items;
      retries = c.self.inside.retries;
      autosense = c.self.inside.autosense;
      submitters = c.self.inside.submitters;
      tickets = c.self.inside.tickets.items;
      put = c.self.inside.put;
      take = c.self.inside.take;
      space = c.self.inside.region;
      due = c.self.inside.due.items;
    } in
    let few : length seen.tickets + 1 < 4294967296 = subst (λ (d : DeskState). length d.tickets + 1 < 4294967296) (sym c.self.view_is) c.requires.few in
    let line : c.args.line.submitter < seen.submitters = subst (λ (d : DeskState). c.args.line.submitter < d.submitters) (sym c.self.view_is) c.requires.line in
    let kind : kind_of seen.units r ≡ None = subst (λ (d : DeskState). kind_of d.units r ≡ None) (sym c.self.view_is) c.requires.sound in
    let full : is_full seen r.unit ≡ false = subst (λ (d : DeskState). is_full d r.unit ≡ false) (sym c.self.view_is) c.requires.some in
    let chunks : AreFor seen c.args.chunks.now r.segments = subst (λ (d : DeskState). AreFor d c.args.chunks.now r.segments) (sym c.self.view_is) c.requires.chunks in
    let made : k ≡ new_ticket seen c.args.line r c.args.chunks.now =
    subst (λ (d : DeskState). k ≡ new_ticket d c.args.line r c.args.chunks.now) (sym c.self.view_is) c.in_ok-ticket.ensures.ticket in
    let free : (ticket_at seen k.block ≡ None) × (ticket_of seen r.unit k.tag ≡ None) × (k.tag < 256) =
    subst (λ (d : DeskState). (ticket_at d k.block ≡ None) × (ticket_of d r.unit k.tag ≡ None) × (k.tag < 256)) (sym c.self.view_is) c.in_ok-ticket.ensures.free in
    let number : c.ticket_count-number.result ≡ length seen.tickets =
    subst (λ (d : DeskState). c.ticket_count-number.result ≡ length d.tickets) (sym c.self.view_is) c.ticket_count-number.ensures in
    let apart : IsApart k.stage = subst (λ (x : Ticket). IsApart x.stage) (sym made) built_apart in
    let long : HasNumbers (length seen.tickets + 1) c.reach.new.self = subst (λ (n : ℕ). HasNumbers (n + 1) c.reach.new.self) number c.in_ok-reach.ensures.room in (
      rw (c.in_ok-push.ensures.items, c.hold.ensures, c.hold-2.ensures, number, c.one_more.ensures)
          (entered seen c.self.inside.by_block c.self.inside.by_tag c.self.inside.rooms.items c.self.inside.live_counts.items c.args.line r c.args.chunks.now k
          c.in_ok-ticket.field-0.room c.self.invariant.0 few line kind full chunks c.args.r.now.whole made c.in_ok-ticket.ensures.place free c.in_ok-ticket.ensures.room),
      subst (λ (xs : List Ticket). AreOf c.reach.new.self xs) (sym c.in_ok-push.ensures.items)
          (sets_built c.reach.new.self seen.tickets k (sets_more c.self.inside.stages c.reach.new.self seen.tickets c.self.invariant.1 c.reach.ensures.flags) long apart),
      subst (λ (xs : List Ticket). AreLast c.self.inside.submitters (set c.self.inside.last_built.items c.args.line.submitter (Some c.ticket_count-number.result)) xs)
          (sym c.in_ok-push.ensures.items)
          (subst (λ (s : ℕ). AreLast c.self.inside.submitters (set c.self.inside.last_built.items s (Some c.ticket_count-number.result)) (seen.tickets ++ k ∷ []))
          (ap (λ (x : Ticket). x.line.submitter) made)
          (last_added c.self.inside.submitters c.self.inside.last_built.items seen.tickets k c.ticket_count-number.result c.self.invariant.2
          (subst (λ (x : Ticket). x.line.submitter < seen.submitters) (sym made) line) number)),
    )

pub reach-requires : goal.reach-requires
reach-requires c =
    let number : c.ticket_count-number.result ≡ length c.self.inside.tickets.items =
    subst (λ (d : DeskState). c.ticket_count-number.result ≡ length d.tickets) (sym c.self.view_is) c.ticket_count-number.ensures in
    numbers_of c.self.inside.stages c.self.inside.tickets.items c.ticket_count-number.result c.self.invariant.1 (omega (arith, number))

pub invariant_of-self : goal.invariant_of-self
invariant_of-self c = (c.self.invariant.0, sets_more c.self.inside.stages c.reach.new.self c.self.inside.tickets.items c.self.invariant.1 c.reach.ensures.flags, c.self.invariant.2)

pub invariant_of-self-in_err-push : goal.invariant_of-self-in_err-push
invariant_of-self-in_err-push c =
    rw (c.in_err-push.ensures.items)
    (c.self.invariant.0, sets_more c.self.inside.stages c.reach.new.self c.self.inside.tickets.items c.self.invariant.1 c.reach.ensures.flags, c.self.invariant.2)

pub hold-requires-2 : goal.hold-requires-2
hold-requires-2 c =
    let k = c.in_ok-ticket.field-0.ticket in
    let there : c.args.r.now.unit < length c.self.inside.units.items =
    subst (λ (d : DeskState). c.args.r.now.unit < length d.units) (sym c.self.view_is) (sound c.args.self.now.units (plain c.args.r.now) c.requires.sound).unit in
    let same : k.unit ≡ c.args.r.now.unit = ap (λ (x : Ticket). x.unit) c.in_ok-ticket.ensures.ticket in
    omega (arith, there, same, c.self.invariant.0.0.few_units, c.in_ok-ticket.ensures.free.2, c.self.invariant.0.1.tags)

pub one_more-requires-clause-there : goal.one_more-requires-clause-there
one_more-requires-clause-there c =
    let k = c.in_ok-ticket.field-0.ticket in
    let there : c.args.r.now.unit < length c.self.inside.units.items =
    subst (λ (d : DeskState). c.args.r.now.unit < length d.units) (sym c.self.view_is) (sound c.args.self.now.units (plain c.args.r.now) c.requires.sound).unit in
    let same : k.unit ≡ c.args.r.now.unit = ap (λ (x : Ticket). x.unit) c.in_ok-ticket.ensures.ticket in
    omega (arith, there, same, c.self.invariant.0.2.counted.units)

pub returns : goal.returns
returns c =
    let k = c.in_ok-ticket.field-0.ticket in
    let r = plain c.args.r.now in
    let seen : DeskState = record {
      version = c.self.inside.version;
      units = c.self.inside.units.items;
      retries = c.self.inside.retries;
      autosense = c.self.inside.autosense;
      submitters = c.self.inside.submitters;
      tickets = c.self.inside.tickets.items;
      put = c.self.inside.put;
      take = c.self.inside.take;
      space = c.self.inside.region;
      due = c.self.inside.due.items;
    } in
    let with_tickets : List Ticket → DeskState = λ xs. record seen { tickets = xs } in
    let made : k ≡ new_ticket seen c.args.line r c.args.chunks.now =
    subst (λ (d : DeskState). k ≡ new_ticket d c.args.line r c.args.chunks.now) (sym c.self.view_is) c.in_ok-ticket.ensures.ticket in (
      c.ticket_count-number.ensures,
      ap with_tickets (c.in_ok-push.ensures.items ∙ ap (λ (x : Ticket). seen.tickets ++ x ∷ []) made)
          ∙ ap (λ (d : DeskState). desk_built d (new_ticket d c.args.line r c.args.chunks.now)) c.self.view_is,
    )
