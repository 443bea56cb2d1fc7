use Rattle.std.proofs.Common.{◌≡◌, ◌<◌, length, get_or, rules, arith}
use Rattle.std.proofs.lemmas.List.{get_or_read}
use Rattle.number_set.proofs.Layers.{least_set, least_below}
use Rattle.number_set.proofs.words.Words.least_in.Goals as goal

pub returns-clause-set : goal.returns-clause-set
returns-clause-set c =
    let within : c.args.w < length c.self.inside.words.items = rw c.self.view_is c.requires.within in
    let read : c.index-word.result.now ≡ get_or c.self.inside.words.items c.args.w 0 = get_or_read _ _ _ within (search rules) 0 in
    let some : 0 < get_or c.self.inside.words.items c.args.w 0 = rw c.self.view_is c.requires.nonzero in
    rw (← c.self.view_is) (least_set _ _ _ read (omega (arith, some, read)) (search rules))

pub returns-clause-clear_below : goal.returns-clause-clear_below
returns-clause-clear_below c =
    let within : c.args.w < length c.self.inside.words.items = rw c.self.view_is c.requires.within in
    let read : c.index-word.result.now ≡ get_or c.self.inside.words.items c.args.w 0 = get_or_read _ _ _ within (search rules) 0 in
    let some : 0 < get_or c.self.inside.words.items c.args.w 0 = rw c.self.view_is c.requires.nonzero in
    rw (← c.self.view_is) (least_below _ _ _ read (omega (arith, some, read)) (search rules))
