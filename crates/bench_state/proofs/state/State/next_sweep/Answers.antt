use Rattle.std.proofs.Common.{below_more, sym, ◌∙◌}
use Rattle.bench_state.proofs.state.State.next_sweep.Goals as goal

-- src/sweeping.rt:130:9
pub loop-t-preserved : goal.loop-t-preserved
loop-t-preserved c = below_more _ _ c.loop-t.invariant (sym c.is_to_sweep.ensures ∙ c.if-is_to_sweep.false)
