use Rattle.std.proofs.Common.{subst, sym, rules}
use Rattle.dma_buddy.specs.declared.buddies.Chunk.{Chunk}
use Rattle.dma_buddy.specs.Regions.{IsChunkOf, IsFree}
use Rattle.dma_buddy.proofs.GivenChunks.{merged-none, buddy-inside, merged-step}
use Rattle.dma_buddy.proofs.allocator.merge.Goals as goal

pub loop-whole-init : goal.loop-whole-init
loop-whole-init c = merged-none c.args.chunks.now c.requires.region c.args.c c.requires.out

pub contains-requires : goal.contains-requires
contains-requires c =
    subst (λ (x : Chunk). IsChunkOf c.loop-whole.chunks x) (sym c.buddy-other.ensures)
    (buddy-inside c.args.chunks.now c.requires.region c.args.c c.requires.out c.loop-whole.whole c.loop-whole.chunks c.loop-whole.invariant c.loop-whole-test.true)

pub remove-requires-clause-chunk : goal.remove-requires-clause-chunk
remove-requires-clause-chunk c =
    subst (λ (x : Chunk). IsChunkOf c.loop-whole.chunks x) (sym c.buddy-other.ensures)
    (buddy-inside c.args.chunks.now c.requires.region c.args.c c.requires.out c.loop-whole.whole c.loop-whole.chunks c.loop-whole.invariant c.loop-whole-test.true)

pub loop-whole-preserved : goal.loop-whole-preserved
loop-whole-preserved c =
    let free : IsFree c.loop-whole.chunks c.buddy-other.result = search rules in
    merged-step c.args.chunks.now c.requires.region c.args.c c.requires.out c.loop-whole.whole c.loop-whole.chunks c.remove.new.self c.buddy-other.result c.joined-whole.result
    c.loop-whole.invariant c.loop-whole-test.true c.buddy-other.ensures free c.remove.ensures c.joined-whole.ensures
