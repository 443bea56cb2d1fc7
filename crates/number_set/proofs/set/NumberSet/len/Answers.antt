use Rattle.std.proofs.Common.{sym, ap, length, ◌∙◌, Bool, List}
use Rattle.number_set.proofs.Layers.{length-flags}
use Rattle.number_set.proofs.set.NumberSet.len.Goals as goal

pub returns : goal.returns
returns c = sym (length-flags c.self.inside.first c.self.inside.count) ∙ ap (λ (s : List Bool). length s) c.self.view_is
