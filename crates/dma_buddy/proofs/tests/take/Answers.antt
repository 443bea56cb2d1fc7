use Rattle.std.proofs.Common.{◌≡◌, List, [], ◌∷◌, ◌++◌, subst, sym, rules}
use Rattle.dma_buddy.specs.declared.buddies.Chunk.{Chunk}
use Rattle.dma_buddy.specs.Regions.{AreOut}
use Rattle.dma_buddy.proofs.Held.{held-one}
use Rattle.dma_buddy.proofs.tests.take.Goals as goal

pub returns : goal.returns
returns c =
    let items : c.push.new.self.items ≡ c.args.held.now.items ++ c.in-Some.chunk ∷ [] = search rules in
    subst (λ (xs : List Chunk). AreOut c.take.new.self xs) (sym items)
    (held-one c.args.region.now c.take.new.self c.args.held.now.items c.in-Some.chunk c.requires.out c.in-Some.ensures.out)
