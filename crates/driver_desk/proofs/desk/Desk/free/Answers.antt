use Rattle.std.proofs.Common.{rules, ◌≡◌, ◌<◌, ◌++◌, List, Option, length, sym, ap, subst, ◌∙◌, arith, ◌+◌}
use Rattle.dma_buddy.specs.declared.buddies.Chunk.{Chunk}
use Rattle.dma_buddy.specs.Regions.{AreOut}
use Rattle.desk_law.specs.declared.stage.Stage.TheVariants.{Unlinked}
use Rattle.desk_law.specs.declared.ticket.Piece.{Piece}
use Rattle.desk_law.specs.declared.ticket.Ticket.{Ticket}
use Rattle.desk_law.specs.Desk.{DeskState}
use Rattle.driver_desk.specs.declared.reporting.Room.{Room}
use Rattle.driver_desk.specs.Held.{HasRoom, piece_chunks}
use Rattle.driver_desk.proofs.Index.{seen}
use Rattle.driver_desk.proofs.FreedTickets.{facts, desk_freed}
use Rattle.driver_desk.proofs.LastTickets.{last_stays}
use Rattle.driver_desk.proofs.StageSets.{numbers_of, sets_marked}
use Rattle.driver_desk.proofs.desk.Desk.free.Goals as goal

pub unreachable-requires : goal.unreachable-requires
unreachable-requires c =
    let k = c.index_mut-k.result.now in
    let there : c.args.t < length c.self.inside.tickets.items = search rules in
    let is = seen c.args.self.now c.self.inside.tickets.items c.args.t k (ap (λ (d : DeskState). d.tickets) c.self.view_is) there c.index_mut-k.ensures.value in
    let unlinked : k.stage ≡ Unlinked = subst (λ (x : Ticket). x.stage ≡ Unlinked) is c.requires.unlinked in
    let f = facts _ _ _ _ _ _ _ _ _ _ _ _ _ c.args.t k c.index_mut.result.now c.self.invariant.0 there c.index_mut-k.ensures.value unlinked c.index_mut.ensures.value in
    subst (λ (o : Option Room). HasRoom o k) (sym c.take.ensures.value ∙ c.in-None.is) f.room

pub report_of-report-requires-clause-inside : goal.report_of-report-requires-clause-inside
report_of-report-requires-clause-inside c =
    let k = c.index_mut-k.result.now in
    let there : c.args.t < length c.self.inside.tickets.items = search rules in
    let is = seen c.args.self.now c.self.inside.tickets.items c.args.t k (ap (λ (d : DeskState). d.tickets) c.self.view_is) there c.index_mut-k.ensures.value in
    let unlinked : k.stage ≡ Unlinked = subst (λ (x : Ticket). x.stage ≡ Unlinked) is c.requires.unlinked in
    let f = facts _ _ _ _ _ _ _ _ _ _ _ _ _ c.args.t k c.index_mut.result.now c.self.invariant.0 there c.index_mut-k.ensures.value unlinked c.index_mut.ensures.value in
    f.inside

pub report_of-report-requires-clause-bytes : goal.report_of-report-requires-clause-bytes
report_of-report-requires-clause-bytes c =
    let k = c.index_mut-k.result.now in
    let there : c.args.t < length c.self.inside.tickets.items = search rules in
    let is = seen c.args.self.now c.self.inside.tickets.items c.args.t k (ap (λ (d : DeskState). d.tickets) c.self.view_is) there c.index_mut-k.ensures.value in
    let unlinked : k.stage ≡ Unlinked = subst (λ (x : Ticket). x.stage ≡ Unlinked) is c.requires.unlinked in
    let f = facts _ _ _ _ _ _ _ _ _ _ _ _ _ c.args.t k c.index_mut.result.now c.self.invariant.0 there c.index_mut-k.ensures.value unlinked c.index_mut.ensures.value in
    (subst (λ (o : Option Room). HasRoom o k) (sym c.take.ensures.value ∙ c.in-Some.is) f.room).0

pub report_of-report-requires-clause-few : goal.report_of-report-requires-clause-few
report_of-report-requires-clause-few c =
    let k = c.index_mut-k.result.now in
    let there : c.args.t < length c.self.inside.tickets.items = search rules in
    let is = seen c.args.self.now c.self.inside.tickets.items c.args.t k (ap (λ (d : DeskState). d.tickets) c.self.view_is) there c.index_mut-k.ensures.value in
    let unlinked : k.stage ≡ Unlinked = subst (λ (x : Ticket). x.stage ≡ Unlinked) is c.requires.unlinked in
    let f = facts _ _ _ _ _ _ _ _ _ _ _ _ _ c.args.t k c.index_mut.result.now c.self.invariant.0 there c.index_mut-k.ensures.value unlinked c.index_mut.ensures.value in
    f.few

pub report_of-report-requires-clause-sense : goal.report_of-report-requires-clause-sense
report_of-report-requires-clause-sense c =
    let k = c.index_mut-k.result.now in
    let there : c.args.t < length c.self.inside.tickets.items = search rules in
    let is = seen c.args.self.now c.self.inside.tickets.items c.args.t k (ap (λ (d : DeskState). d.tickets) c.self.view_is) there c.index_mut-k.ensures.value in
    let unlinked : k.stage ≡ Unlinked = subst (λ (x : Ticket). x.stage ≡ Unlinked) is c.requires.unlinked in
    let f = facts _ _ _ _ _ _ _ _ _ _ _ _ _ c.args.t k c.index_mut.result.now c.self.invariant.0 there c.index_mut-k.ensures.value unlinked c.index_mut.ensures.value in
    (subst (λ (o : Option Room). HasRoom o k) (sym c.take.ensures.value ∙ c.in-Some.is) f.room).1

pub give_all-requires : goal.give_all-requires
give_all-requires c =
    let k = c.index_mut-k.result.now in
    let there : c.args.t < length c.self.inside.tickets.items = search rules in
    let is = seen c.args.self.now c.self.inside.tickets.items c.args.t k (ap (λ (d : DeskState). d.tickets) c.self.view_is) there c.index_mut-k.ensures.value in
    let unlinked : k.stage ≡ Unlinked = subst (λ (x : Ticket). x.stage ≡ Unlinked) is c.requires.unlinked in
    let f = facts _ _ _ _ _ _ _ _ _ _ _ _ _ c.args.t k c.index_mut.result.now c.self.invariant.0 there c.index_mut-k.ensures.value unlinked c.index_mut.ensures.value in
    record { out = subst (λ (ps : List Piece). AreOut c.self.inside.region (piece_chunks ps)) (sym c.as_slice.ensures) f.out }

pub one_less-requires-clause-there : goal.one_less-requires-clause-there
one_less-requires-clause-there c =
    let k = c.index_mut-k.result.now in
    let there : c.args.t < length c.self.inside.tickets.items = search rules in
    let is = seen c.args.self.now c.self.inside.tickets.items c.args.t k (ap (λ (d : DeskState). d.tickets) c.self.view_is) there c.index_mut-k.ensures.value in
    let unlinked : k.stage ≡ Unlinked = subst (λ (x : Ticket). x.stage ≡ Unlinked) is c.requires.unlinked in
    let f = facts _ _ _ _ _ _ _ _ _ _ _ _ _ c.args.t k c.index_mut.result.now c.self.invariant.0 there c.index_mut-k.ensures.value unlinked c.index_mut.ensures.value in
    f.unit

pub one_less-requires-clause-some : goal.one_less-requires-clause-some
one_less-requires-clause-some c =
    let k = c.index_mut-k.result.now in
    let there : c.args.t < length c.self.inside.tickets.items = search rules in
    let is = seen c.args.self.now c.self.inside.tickets.items c.args.t k (ap (λ (d : DeskState). d.tickets) c.self.view_is) there c.index_mut-k.ensures.value in
    let unlinked : k.stage ≡ Unlinked = subst (λ (x : Ticket). x.stage ≡ Unlinked) is c.requires.unlinked in
    let f = facts _ _ _ _ _ _ _ _ _ _ _ _ _ c.args.t k c.index_mut.result.now c.self.invariant.0 there c.index_mut-k.ensures.value unlinked c.index_mut.ensures.value in
    f.counted

pub invariant_of-self : goal.invariant_of-self
invariant_of-self c =
    let k = c.index_mut-k.result.now in
    let there : c.args.t < length c.self.inside.tickets.items = search rules in
    let is = seen c.args.self.now c.self.inside.tickets.items c.args.t k (ap (λ (d : DeskState). d.tickets) c.self.view_is) there c.index_mut-k.ensures.value in
    let unlinked : k.stage ≡ Unlinked = subst (λ (x : Ticket). x.stage ≡ Unlinked) is c.requires.unlinked in
    let f = facts _ _ _ _ _ _ _ _ _ _ _ _ _ c.args.t k c.index_mut.result.now c.self.invariant.0 there c.index_mut-k.ensures.value unlinked c.index_mut.ensures.value in
    let others = subst (λ (ps : List Piece). (xs ys : List Chunk) → AreOut c.self.inside.region (xs ++ (piece_chunks ps ++ ys)) → AreOut c.give_all.new.region (xs ++ ys))
    c.as_slice.ensures c.give_all.ensures.others in (
      rw (c.take.ensures.after, c.release.ensures, c.release-2.ensures, c.one_less.ensures)
          (desk_freed _ _ _ _ _ _ _ _ _ _ _ _ _ _ _ c.args.t k c.self.invariant.0 there c.index_mut-k.ensures.value f.live c.give_all.ensures.place others),
      sets_marked c.self.inside.stages c.mark.new.self c.self.inside.tickets.items c.args.t _ c.self.invariant.1 there c.mark.ensures,
      last_stays _ _ c.self.inside.tickets.items c.args.t _ k c.self.invariant.2 (ap (λ (x : Ticket). x.line) c.index_mut-k.ensures.value),
    )

pub mark-requires : goal.mark-requires
mark-requires c =
    let there : c.args.t < length c.self.inside.tickets.items = search rules in
    numbers_of c.self.inside.stages c.self.inside.tickets.items (c.args.t + 1) c.self.invariant.1 (omega (arith, there))
