use Rattle.std.proofs.Common.{◌≡◌, ◌/◌, ◌<◌, length, get_or, rules}
use Rattle.std.proofs.lemmas.List.{get_or_read}
use Rattle.number_set.proofs.Layers.{clear_bit}
use Rattle.number_set.proofs.words.Words.clear.Goals as goal

pub returns-clause-bit : goal.returns-clause-bit
returns-clause-bit c =
    let within : c.args.i / 64 < length c.self.inside.words.items = rw c.self.view_is c.requires in
    let read : c.index.result.now ≡ get_or c.self.inside.words.items (c.args.i / 64) 0 = get_or_read _ _ _ within (search rules) 0 in
    rw (← c.self.view_is) (clear_bit _ _ _ within read)
