use Rattle.std.proofs.Common.{arith, ◌≡◌, ◌<◌, List, [], length, slice_index_or, sym, ap, subst}
use Rattle.rig_types.specs.declared.rig.Rig.{Rig}
use Rattle.rig_types.specs.declared.report.Report.{Report}
use Rattle.world_law.specs.World.{commands_of, lines_of}
use Rattle.bench_state.specs.States.{BenchState, setting_of, decided_of}
use Rattle.bench_state.proofs.NextLines.{may_decide}
use Rattle.bench_state.proofs.BuiltLines.{accepted_all}
use Rattle.bench_state.proofs.state.State.accept.Goals as goal

-- src/building.rt
pub decide_line-requires : goal.decide_line-requires
decide_line-requires c =
    let next : c.args.line.number ≡ length (slice_index_or (decided_of c.self.inside.lines.items) c.args.line.submitter []) =
    subst (λ (b : BenchState). c.args.line.number ≡ length (lines_of b.world c.args.line.submitter)) (sym c.self.view_is) c.requires.next in
    let there : c.args.line.number < length (commands_of (setting_of c.self.inside.bus.tickets.rig c.self.inside.work) c.args.line.submitter) =
    subst (λ (b : BenchState). c.args.line.number < length (commands_of b.setting c.args.line.submitter)) (sym c.self.view_is) c.requires.there in
    may_decide _ _ _ _ _ _ _ _ _ _ _ _ c.args.line c.self.invariant.0 c.self.invariant.1 c.self.inside.work.valid.few_commands next there

pub invariant_of-self-2 : goal.invariant_of-self-2
invariant_of-self-2 c =
    let next : c.args.line.number ≡ length (slice_index_or (decided_of c.self.inside.lines.items) c.args.line.submitter []) =
    subst (λ (b : BenchState). c.args.line.number ≡ length (lines_of b.world c.args.line.submitter)) (sym c.self.view_is) c.requires.next in
    let there : c.args.line.number < length (commands_of (setting_of c.self.inside.bus.tickets.rig c.self.inside.work) c.args.line.submitter) =
    subst (λ (b : BenchState). c.args.line.number < length (commands_of b.setting c.args.line.submitter)) (sym c.self.view_is) c.requires.there in
    accepted_all (setting_of c.self.inside.bus.tickets.rig c.self.inside.work) _ _ _ _ _ _ _ _ _ _ _ _ _ c.in_ok-t.t _ _ (length c.self.inside.reports.items) _ _ _ c.args.line _ c.self.invariant.0
    c.self.invariant.1 (ap (λ (x : Rig). setting_of x c.self.inside.work) c.in_ok-t.ensures.rig) c.in_ok-t.ensures.built.0 c.in_ok-t.ensures.size next there
    (omega (arith, c.min-self-inside.ensures)) (omega (arith, c.min-self-inside.ensures)) c.decide_line.ensures.decided c.decide_line.ensures.rooms
    (ap (λ (xs : List Report). length xs) c.reserve_report.ensures.items) (c.reserve_report.ensures.there c.if-not-reserve_report.false)
