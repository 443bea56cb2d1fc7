use Rattle.std.proofs.Common.{◌≡◌, List, get_or, subst, sym, rules}
use Rattle.std.specs.List.{remove}
use Rattle.dma_buddy.specs.declared.buddies.Chunk.{Chunk}
use Rattle.dma_buddy.specs.Regions.{AreOut}
use Rattle.dma_buddy.proofs.Held.{held-out, held-less}
use Rattle.dma_buddy.proofs.tests.give.Goals as goal

pub give-requires : goal.give-requires
give-requires c =
    let value : c.remove-chunk.result ≡ get_or c.args.held.now.items c.args.place c.remove-chunk.result = search rules in
    held-out c.args.region.now c.args.held.now.items c.args.place c.remove-chunk.result c.requires.within c.requires.out value

pub returns : goal.returns
returns c =
    let value : c.remove-chunk.result ≡ get_or c.args.held.now.items c.args.place c.remove-chunk.result = search rules in
    let items : c.remove-chunk.new.self.items ≡ remove c.args.held.now.items c.args.place = search rules in
    subst (λ (xs : List Chunk). AreOut c.give.new.self xs) (sym items)
    (held-less c.args.region.now c.give.new.self c.args.held.now.items c.args.place c.remove-chunk.result c.requires.within c.requires.out value c.give.ensures.others)
