use Rattle.std.proofs.Common.{◌<◌}
use Rattle.number_set.proofs.Layers.{within-flags, word_in_first, flag-is}
use Rattle.number_set.proofs.set.NumberSet.contains.Goals as goal

pub is_set-requires : goal.is_set-requires
is_set-requires c =
    let within : c.args.n < c.self.inside.count = within-flags c.self.inside.first _ _ (rw c.self.view_is c.requires) in
    word_in_first _ _ _ _ _ _ _ _ within c.self.invariant

pub returns : goal.returns
returns c =
    let within : c.args.n < c.self.inside.count = within-flags c.self.inside.first _ _ (rw c.self.view_is c.requires) in
    rw (← c.self.view_is) (flag-is _ _ _ _ within c.is_set.ensures)
