use Rattle.std.proofs.Common.{arith, ◌≤◌, ◌+◌, [], length, slice_index_or, subst, ℕ}
use Rattle.bench_state.specs.States.{rooms_of}
use Rattle.bench_state.proofs.NextLines.{one_submitter_few}
use Rattle.bench_state.proofs.MoreLines.{extended_all}
use Rattle.bench_state.proofs.state.State.extend.Goals as goal

-- src/extending.rt:61:21
pub overflow_add-count : goal.overflow_add-count
overflow_add-count c =
    omega (arith, c.line_count-count.ensures, one_submitter_few c.self.inside.work.submitters c.args.submitter, c.self.inside.work.valid.few_commands)

-- src/extending.rt:52:5
pub invariant_of-self-2 : goal.invariant_of-self-2
invariant_of-self-2 c =
    let room : length (slice_index_or c.self.inside.work.submitters c.args.submitter []) + 1 ≤ slice_index_or (rooms_of c.reserve_lines.new.lines.items) c.args.submitter 0 =
    subst (λ (n : ℕ). n + 1 ≤ slice_index_or (rooms_of c.reserve_lines.new.lines.items) c.args.submitter 0) c.line_count-count.ensures c.in_ok-reserve_lines.ensures.ok in
    extended_all c.extend.result c.self.inside.bus.tickets.rig c.self.inside.work c.extend.new.self c.args.submitter c.args.command _ _ _ _ _ _ _ _ _ _ _ _ _
    c.self.invariant.0 c.self.invariant.1 c.extend.ensures.ok c.extend.ensures.err c.extend.ensures.acts c.reserve_lines.ensures.decided c.reserve_lines.ensures.kept room
