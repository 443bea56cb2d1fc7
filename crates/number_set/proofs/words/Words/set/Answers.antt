use Rattle.std.proofs.Common.{◌≡◌, ◌/◌, ◌<◌, length, get_or, rules}
use Rattle.std.proofs.lemmas.List.{get_or_read}
use Rattle.number_set.proofs.Layers.{set_bit}
use Rattle.number_set.proofs.words.Words.set.Goals as goal

pub returns : goal.returns
returns c =
    let within : c.args.i / 64 < length c.self.inside.words.items = rw c.self.view_is c.requires in
    let read : c.index-word.result.now ≡ get_or c.self.inside.words.items (c.args.i / 64) 0 = get_or_read _ _ _ within (search rules) 0 in
    rw (← c.self.view_is) (set_bit _ _ _ within read)
