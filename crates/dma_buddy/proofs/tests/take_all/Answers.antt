use Rattle.std.proofs.Common.{◌≡◌, List, ◌++◌, subst, sym, rules}
use Rattle.dma_buddy.specs.declared.buddies.Chunk.{Chunk}
use Rattle.dma_buddy.specs.Regions.{AreOut}
use Rattle.dma_buddy.proofs.Held.{held-more}
use Rattle.dma_buddy.proofs.tests.take_all.Goals as goal

pub returns-in_ok-extend_from_slice-in-Ok : goal.returns-in_ok-extend_from_slice-in-Ok
returns-in_ok-extend_from_slice-in-Ok c =
    let items : c.extend_from_slice.new.self.items ≡ c.args.held.now.items ++ c.in-Ok.chunks = search rules in
    subst (λ (xs : List Chunk). AreOut c.take_all.new.self xs) (sym items)
    (held-more c.args.region.now c.take_all.new.self c.args.held.now.items c.in-Ok.chunks c.requires.out c.in-Ok.ensures.out)
