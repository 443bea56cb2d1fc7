use Rattle.std.proofs.Common.{subst, sym, rules}
use Rattle.dma_buddy.specs.Regions.{Space, IsFree}
use Rattle.dma_buddy.specs.Marks.{space_of, IsPlaceOf}
use Rattle.dma_buddy.proofs.Places.{free-flag, drops-at}
use Rattle.dma_buddy.proofs.free_chunks.FreeChunks.remove.Goals as goal

pub remove-requires : goal.remove-requires
remove-requires c =
    let place : IsPlaceOf (space_of c.self.inside.base c.self.inside.units c.self.inside.sets.items) c.args.c c.place-order.result.0 c.place-order.result.1 = subst (λ (s : Space). IsPlaceOf s c.args.c c.place-order.result.0 c.place-order.result.1) (sym c.self.view_is) c.place-order.ensures in
    let free : IsFree (space_of c.self.inside.base c.self.inside.units c.self.inside.sets.items) c.args.c = subst (λ (s : Space). IsFree s c.args.c) (sym c.self.view_is) c.requires.free in
    free-flag _ _ _ c.self.invariant _ _ _ place c.index_mut-set.result.now (search rules) free

pub returns : goal.returns
returns c =
    let place : IsPlaceOf (space_of c.self.inside.base c.self.inside.units c.self.inside.sets.items) c.args.c c.place-order.result.0 c.place-order.result.1 = subst (λ (s : Space). IsPlaceOf s c.args.c c.place-order.result.0 c.place-order.result.1) (sym c.self.view_is) c.place-order.ensures in
    let free : IsFree (space_of c.self.inside.base c.self.inside.units c.self.inside.sets.items) c.args.c = subst (λ (s : Space). IsFree s c.args.c) (sym c.self.view_is) c.requires.free in
    rw (← c.self.view_is)
    (drops-at _ _ _ c.self.invariant _ _ _ place c.index_mut-set.result.now (search rules) c.remove.new.self c.remove.ensures free)
