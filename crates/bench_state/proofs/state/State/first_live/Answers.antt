use Rattle.bench_state.proofs.FreedTickets.{first_so}
use Rattle.bench_state.proofs.state.State.first_live.Goals as goal

-- src/freeing.rt:31:9
pub loop-t-init : goal.loop-t-init
loop-t-init c = first_so _ _ c.self.inside.first c.self.view_is c.self.invariant.0.first
