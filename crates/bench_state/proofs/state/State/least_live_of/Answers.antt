use Rattle.std.proofs.Common.{arith, below_more, sym, ◌∙◌, true}
use Rattle.world_law.specs.Lines.{blocks}
use Rattle.bench_state.proofs.BlockingTickets.{freed_blocks}
use Rattle.bench_state.proofs.FirstTickets.{none_before, first_passes, none_passes}
use Rattle.bench_state.proofs.state.State.least_live_of.Goals as goal

pub loop-t-init : goal.loop-t-init
loop-t-init c = none_before (blocks c.args.submitter true) _ _ c.self.inside.first (freed_blocks c.args.submitter true) c.self.view_is c.self.invariant.0.first

pub loop-t-preserved : goal.loop-t-preserved
loop-t-preserved c = below_more _ _ c.loop-t.invariant (sym c.blocks-in-loop-t.ensures ∙ c.if-blocks.false)

pub returns-then-blocks : goal.returns-then-blocks
returns-then-blocks c =
    sym (first_passes (blocks c.args.submitter true) c.args.self.now.world.desk c.loop-t.t c.ticket_count-t-end.result c.ticket_count-t-end.ensures
    (omega (arith, c.loop-t-test.true)) c.loop-t.invariant (sym c.blocks-in-loop-t.ensures ∙ c.if-blocks.true))

pub returns : goal.returns
returns c =
    sym (none_passes (blocks c.args.submitter true) c.args.self.now.world.desk c.loop-t.t c.ticket_count-t-end.result c.ticket_count-t-end.ensures
    (omega (arith, c.loop-t-test.false)) c.loop-t.invariant)
