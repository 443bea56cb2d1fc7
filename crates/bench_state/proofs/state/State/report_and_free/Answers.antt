use Rattle.std.proofs.Common.{◌≡◌, sym, subst}
use Rattle.desk_law.specs.declared.stage.Stage.TheVariants.{Unlinked}
use Rattle.desk_law.specs.Desk.{ticket}
use Rattle.bench_state.specs.States.{BenchState}
use Rattle.bench_state.specs.contracts.state.State.{the_view}
use Rattle.bench_state.proofs.FreedTickets.{one_lives, freed_held, freed_rooms_so, frees_so}
use Rattle.bench_state.proofs.state.State.report_and_free.Goals as goal

-- src/freeing.rt:48:5
pub invariant_of-self : goal.invariant_of-self
invariant_of-self c =
    let unlinked : (ticket c.self.inside.bus.tickets.desk c.args.t).stage ≡ Unlinked =
    subst (λ (b : BenchState). (ticket b.world.desk c.args.t).stage ≡ Unlinked) (sym c.self.view_is) c.requires in (
      freed_held _ _ _ _ _ _ _ _ c.args.t c.self.invariant.0 unlinked c.free-report.ensures.desk,
      freed_rooms_so _ _ _ _ _ _ _ c.self.inside.reports.items c.push_reserved.new.self.items c.free-report.result (one_lives c.self.inside.bus.tickets.desk c.args.t _ c.self.invariant.0.live unlinked)
          c.self.invariant.1 c.push_reserved.ensures.items c.push_reserved.ensures.capacity,
    )

-- src/freeing.rt:48:5
pub returns-clause-frees : goal.returns-clause-frees
returns-clause-frees c =
    frees_so (the_view c.self.inside) _ _ c.free-report.result c.push_reserved.new.self.items c.args.t c.self.view_is c.free-report.ensures.desk
    c.free-report.ensures.report c.push_reserved.ensures.items
