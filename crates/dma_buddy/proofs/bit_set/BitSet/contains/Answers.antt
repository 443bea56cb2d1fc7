use Rattle.std.proofs.Common.{◌<◌}
use Rattle.dma_buddy.proofs.Layers.{within-flags, word_in_low, flag-is}
use Rattle.dma_buddy.proofs.bit_set.BitSet.contains.Goals as goal

pub is_set-requires : goal.is_set-requires
is_set-requires c =
    let within : c.args.i < c.self.inside.bound = within-flags c.self.inside.low _ _ (rw c.self.view_is c.requires) in
    word_in_low _ _ _ _ _ _ within c.self.invariant

pub returns : goal.returns
returns c =
    let within : c.args.i < c.self.inside.bound = within-flags c.self.inside.low _ _ (rw c.self.view_is c.requires) in
    rw (← c.self.view_is) (flag-is _ _ _ _ within c.is_set.ensures)
