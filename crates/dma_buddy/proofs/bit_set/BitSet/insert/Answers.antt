use Rattle.std.proofs.Common.{◌<◌}
use Rattle.dma_buddy.proofs.Layers.{within-flags, word_in_low, layered-set, flags-set}
use Rattle.dma_buddy.proofs.bit_set.BitSet.insert.Goals as goal

pub set-requires : goal.set-requires
set-requires c =
    let within : c.args.i < c.self.inside.bound = within-flags c.self.inside.low _ _ (rw c.self.view_is c.requires) in
    word_in_low _ _ _ _ _ _ within c.self.invariant

pub invariant_of-self : goal.invariant_of-self
invariant_of-self c =
    let within : c.args.i < c.self.inside.bound = within-flags c.self.inside.low _ _ (rw c.self.view_is c.requires) in
    layered-set _ _ _ _ _ c.args.i _ _ _ _ within c.self.invariant c.set.ensures c.set-2.ensures c.set-3.ensures c.set-4.ensures

pub returns : goal.returns
returns c =
    let within : c.args.i < c.self.inside.bound = within-flags c.self.inside.low _ _ (rw c.self.view_is c.requires) in
    rw (← c.self.view_is) (flags-set _ _ _ _ within c.set.ensures)
