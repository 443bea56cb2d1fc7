use Rattle.std.proofs.Common.{◌<◌}
use Rattle.number_set.proofs.Layers.{within-flags, word_in_first, layered-set, flags-set}
use Rattle.number_set.proofs.set.NumberSet.insert.Goals as goal

pub set-requires : goal.set-requires
set-requires c =
    let within : c.args.n < c.self.inside.count = within-flags c.self.inside.first _ _ (rw c.self.view_is c.requires) in
    word_in_first _ _ _ _ _ _ _ _ within c.self.invariant

pub invariant_of-self : goal.invariant_of-self
invariant_of-self c =
    let within : c.args.n < c.self.inside.count = within-flags c.self.inside.first _ _ (rw c.self.view_is c.requires) in
    layered-set _ _ _ _ _ _ _ c.args.n _ _ _ _ _ _ within c.self.invariant c.set.ensures c.set-2.ensures c.set-3.ensures c.set-4.ensures c.set-5.ensures c.set-6.ensures

pub returns : goal.returns
returns c =
    let within : c.args.n < c.self.inside.count = within-flags c.self.inside.first _ _ (rw c.self.view_is c.requires) in
    rw (← c.self.view_is) (flags-set _ _ _ _ within c.set.ensures)
