use Rattle.std.proofs.Common.{◌∙◌, sym, ap, subst}
use Rattle.std.specs.Prelude.{IsSome, count_by}
use Rattle.desk_law.specs.Desk.{DeskState, lives}
use Rattle.desk_law.specs.Rings.{done_ticket}
use Rattle.bench_state.specs.States.{BenchState}
use Rattle.bench_state.specs.Held.{live_before}
use Rattle.bench_state.proofs.DoneTaken.{taken_so}
use Rattle.bench_state.proofs.CountLaws.{taken_count, taken_before}
use Rattle.bench_state.proofs.state.State.take_done.Goals as goal

-- src/desk_steps.rt:69:5
pub invariant_of-self : goal.invariant_of-self
invariant_of-self c =
    let some : IsSome (done_ticket c.self.inside.words c.self.inside.bus.tickets.desk) =
    subst (λ (b : BenchState). IsSome (done_ticket b.world.memory b.world.desk)) (sym c.self.view_is) c.requires in (
      record {
        size = c.take_done.ensures.size ∙ c.self.invariant.0.size;
        units = ap (λ (d : DeskState). d.units) c.take_done.ensures.desk ∙ c.self.invariant.0.units;
        submitters = ap (λ (d : DeskState). d.submitters) c.take_done.ensures.desk ∙ c.self.invariant.0.submitters;
        lines = c.self.invariant.0.lines;
        within = c.self.invariant.0.within;
        live = c.self.invariant.0.live ∙ sym (taken_count c.self.inside.bus.tickets.desk c.self.inside.words some)
            ∙ sym (ap (λ (d : DeskState). count_by lives d.tickets) c.take_done.ensures.desk);
        refused = c.self.invariant.0.refused;
        first = ap (λ (d : DeskState). live_before c.self.inside.first d.tickets) c.take_done.ensures.desk
            ∙ taken_before c.self.inside.first c.self.inside.bus.tickets.desk c.self.inside.words some ∙ c.self.invariant.0.first;
      },
      c.self.invariant.1,
    )

-- src/desk_steps.rt:67:5
pub returns-clause-taken : goal.returns-clause-taken
returns-clause-taken c =
    taken_so _ _ _ _ _ c.self.view_is c.take_done.ensures.desk c.take_done.ensures.memory c.take_done.ensures.regs
