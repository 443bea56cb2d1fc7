use Rattle.std.proofs.Common.{◌≤◌, ◌*◌, ◌^◌, arith}
use Rattle.dma_buddy.proofs.Places.{size-for, size-word}
use Rattle.dma_buddy.proofs.free_chunks.order_for.Goals as goal

pub returns-clause-size : goal.returns-clause-size
returns-clause-size c =
    let enough : c.args.len ≤ 512 * 2 ^ c.loop-order.order = omega (arith, size-word c.loop-order.order c.loop-order.invariant.0, c.loop-order-test.false) in
    size-for c.args.len c.loop-order.order c.loop-order.invariant.0 enough c.loop-order.invariant.1
