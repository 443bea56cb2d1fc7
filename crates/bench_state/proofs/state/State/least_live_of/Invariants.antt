use Rattle.std.proofs.Common.{◌≡◌, ◌<◌, ℕ, true, false}
use Rattle.desk_law.specs.Desk.{ticket}
use Rattle.world_law.specs.Lines.{blocks}
use Rattle.bench_state.proofs.state.State.least_live_of.Given as goal

abbrev pub invariant-loop-t : goal.invariant-loop-t
invariant-loop-t l = (k : ℕ) → k < l.t → blocks l.submitter true (ticket l.self.world.desk k) ≡ false
