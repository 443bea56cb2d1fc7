use Rattle.std.proofs.Common.{arith, ◌≡◌, ◌<◌, [], length, slice_index_or, sym, subst}
use Rattle.world_law.specs.World.{commands_of, lines_of}
use Rattle.bench_state.specs.States.{BenchState, setting_of, decided_of}
use Rattle.bench_state.proofs.NextLines.{may_decide, refused_within}
use Rattle.bench_state.proofs.state.State.decide_refused.Goals as goal

-- src/building.rt
pub overflow_add-self : goal.overflow_add-self
overflow_add-self c =
    omega (arith, refused_within _ _ _ _ _ c.self.inside.refused _ c.self.invariant.0 c.self.inside.work.valid.few_commands)

pub decide_line-requires : goal.decide_line-requires
decide_line-requires c =
    let next : c.args.line.number ≡ length (slice_index_or (decided_of c.self.inside.lines.items) c.args.line.submitter []) =
    subst (λ (b : BenchState). c.args.line.number ≡ length (lines_of b.world c.args.line.submitter)) (sym c.self.view_is) c.requires.next in
    let there : c.args.line.number < length (commands_of (setting_of c.self.inside.bus.tickets.rig c.self.inside.work) c.args.line.submitter) =
    subst (λ (b : BenchState). c.args.line.number < length (commands_of b.setting c.args.line.submitter)) (sym c.self.view_is) c.requires.there in
    may_decide _ _ _ _ _ _ _ _ _ _ _ _ c.args.line c.self.invariant.0 c.self.invariant.1 c.self.inside.work.valid.few_commands next there
