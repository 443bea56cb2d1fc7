use Rattle.std.proofs.Common.{subst, sym, rules}
use Rattle.dma_buddy.specs.Regions.{Space, IsFree}
use Rattle.dma_buddy.specs.Marks.{space_of, IsPlaceOf}
use Rattle.dma_buddy.proofs.Places.{adds-at}
use Rattle.dma_buddy.proofs.free_chunks.FreeChunks.insert.Goals as goal

pub returns : goal.returns
returns c =
    let place : IsPlaceOf (space_of c.self.inside.base c.self.inside.units c.self.inside.sets.items) c.args.c c.place-order.result.0 c.place-order.result.1 = subst (λ (s : Space). IsPlaceOf s c.args.c c.place-order.result.0 c.place-order.result.1) (sym c.self.view_is) c.place-order.ensures in
    let absent : IsFree (space_of c.self.inside.base c.self.inside.units c.self.inside.sets.items) c.args.c → ⊥ = subst (λ (s : Space). IsFree s c.args.c → ⊥) (sym c.self.view_is) c.requires.absent in
    rw (← c.self.view_is)
    (adds-at _ _ _ c.self.invariant _ _ _ place c.index_mut-set.result.now (search rules) c.insert.new.self c.insert.ensures absent)
