use Rattle.std.proofs.Common.{◌<◌, arith}
use Rattle.dma_buddy.proofs.Sizes.{size-least}
use Rattle.dma_buddy.proofs.Splits.{step-size, step-at-least, step-chunk, step-more}
use Rattle.dma_buddy.proofs.allocator.split.Goals as goal

pub overflow_add-whole : goal.overflow_add-whole
overflow_add-whole c =
    let big : 512 < c.loop-half.half = omega (arith, size-least c.args.size c.requires.size, c.loop-half-test.true) in
    omega (arith, c.requires.fits, c.loop-half.invariant.2, big)

pub insert-requires-clause-chunk : goal.insert-requires-clause-chunk
insert-requires-clause-chunk c =
    let big : 512 < c.loop-half.half = omega (arith, size-least c.args.size c.requires.size, c.loop-half-test.true) in
    step-chunk c.args.chunks.now c.args.whole c.loop-half.half c.loop-half.chunks c.loop-half.invariant.0 big c.loop-half.invariant.2 c.loop-half.invariant.3 c.requires.whole

pub loop-half-preserved : goal.loop-half-preserved
loop-half-preserved c =
    let big : 512 < c.loop-half.half = omega (arith, size-least c.args.size c.requires.size, c.loop-half-test.true) in (
      step-size c.args.chunks.now c.args.whole c.loop-half.half c.loop-half.chunks c.loop-half.invariant.0 big c.loop-half.invariant.2 c.loop-half.invariant.3,
      step-at-least c.args.chunks.now c.args.whole c.loop-half.half c.loop-half.chunks c.loop-half.invariant.0 big c.loop-half.invariant.2 c.loop-half.invariant.3 c.args.size c.requires.size c.loop-half-test.true,
      omega (arith, c.loop-half.invariant.2),
      step-more c.args.chunks.now c.args.whole c.loop-half.half c.loop-half.chunks c.loop-half.invariant.0 big c.loop-half.invariant.2 c.loop-half.invariant.3 c.insert.new.self c.insert.ensures,
    )
