use Rattle.std.proofs.Common.{subst, sym, rules}
use Rattle.dma_buddy.specs.Regions.{Space}
use Rattle.dma_buddy.specs.Marks.{space_of, IsPlaceOf}
use Rattle.dma_buddy.proofs.Places.{flag-free}
use Rattle.dma_buddy.proofs.free_chunks.FreeChunks.contains.Goals as goal

pub returns : goal.returns
returns c =
    let place : IsPlaceOf (space_of c.self.inside.base c.self.inside.units c.self.inside.sets.items) c.args.c c.place-order.result.0 c.place-order.result.1 = subst (λ (s : Space). IsPlaceOf s c.args.c c.place-order.result.0 c.place-order.result.1) (sym c.self.view_is) c.place-order.ensures in
    rw (← c.self.view_is)
    (flag-free _ _ _ c.self.invariant _ _ _ place c.index-set.result.now (search rules) c.contains.result c.contains.ensures)
