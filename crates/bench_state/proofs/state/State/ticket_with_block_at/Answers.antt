use Rattle.std.proofs.Common.{arith, below_more, sym, ◌∙◌}
use Rattle.world_law.specs.Owners.{has_block_at}
use Rattle.bench_state.proofs.OwnedPlaces.{freed_has_no_block}
use Rattle.bench_state.proofs.FirstTickets.{none_before, first_passes, none_passes}
use Rattle.bench_state.proofs.state.State.ticket_with_block_at.Goals as goal

pub loop-t-init : goal.loop-t-init
loop-t-init c = none_before (has_block_at c.args.address) _ _ c.self.inside.first (freed_has_no_block c.args.address) c.self.view_is c.self.invariant.0.first

pub loop-t-preserved : goal.loop-t-preserved
loop-t-preserved c = below_more _ _ c.loop-t.invariant (sym c.has_block_at.ensures ∙ c.if-has_block_at.false)

pub returns-then-has_block_at : goal.returns-then-has_block_at
returns-then-has_block_at c =
    sym (first_passes (has_block_at c.args.address) c.args.self.now.world.desk c.loop-t.t c.ticket_count-t-end.result c.ticket_count-t-end.ensures
    (omega (arith, c.loop-t-test.true)) c.loop-t.invariant (sym c.has_block_at.ensures ∙ c.if-has_block_at.true))

pub returns : goal.returns
returns c =
    sym (none_passes (has_block_at c.args.address) c.args.self.now.world.desk c.loop-t.t c.ticket_count-t-end.result c.ticket_count-t-end.ensures
    (omega (arith, c.loop-t-test.false)) c.loop-t.invariant)
