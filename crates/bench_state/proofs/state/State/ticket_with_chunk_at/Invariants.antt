use Rattle.std.proofs.Common.{◌≡◌, ◌<◌, ℕ, false}
use Rattle.desk_law.specs.Desk.{ticket}
use Rattle.world_law.specs.Owners.{has_chunk_at}
use Rattle.bench_state.proofs.state.State.ticket_with_chunk_at.Given as goal

abbrev pub invariant-loop-t : goal.invariant-loop-t
invariant-loop-t l = (k : ℕ) → k < l.t → has_chunk_at l.address (ticket l.self.world.desk k) ≡ false
