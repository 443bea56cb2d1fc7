use Rattle.std.proofs.Common.{arith, below_more, sym, ◌∙◌}
use Rattle.world_law.specs.Owners.{has_chunk_at}
use Rattle.bench_state.proofs.OwnedPlaces.{freed_has_no_chunk}
use Rattle.bench_state.proofs.FirstTickets.{none_before, first_passes, none_passes}
use Rattle.bench_state.proofs.state.State.ticket_with_chunk_at.Goals as goal

pub loop-t-init : goal.loop-t-init
loop-t-init c = none_before (has_chunk_at c.args.address) _ _ c.self.inside.first (freed_has_no_chunk c.args.address) c.self.view_is c.self.invariant.0.first

pub loop-t-preserved : goal.loop-t-preserved
loop-t-preserved c = below_more _ _ c.loop-t.invariant (sym c.has_chunk_at.ensures ∙ c.if-has_chunk_at.false)

pub returns-then-has_chunk_at : goal.returns-then-has_chunk_at
returns-then-has_chunk_at c =
    sym (first_passes (has_chunk_at c.args.address) c.args.self.now.world.desk c.loop-t.t c.ticket_count-t-end.result c.ticket_count-t-end.ensures
    (omega (arith, c.loop-t-test.true)) c.loop-t.invariant (sym c.has_chunk_at.ensures ∙ c.if-has_chunk_at.true))

pub returns : goal.returns
returns c =
    sym (none_passes (has_chunk_at c.args.address) c.args.self.now.world.desk c.loop-t.t c.ticket_count-t-end.result c.ticket_count-t-end.ensures
    (omega (arith, c.loop-t-test.false)) c.loop-t.invariant)
