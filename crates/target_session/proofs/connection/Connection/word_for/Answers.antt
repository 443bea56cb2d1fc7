use Rattle.std.proofs.Common.{ℕ, ◌+◌, ◌*◌, ap}
use Rattle.target_session.proofs.Places.{word-names}
use Rattle.target_session.proofs.connection.Connection.word_for.Goals as goal

pub returns : goal.returns
returns c =
    let p = rw (c.can_go.ensures, c.can_refuse.ensures) at c.place.ensures.place in
    let w = ap (λ (n : ℕ). 16777216 * c.place.result + n) c.low.ensures in
    word-names c.args.m.now _ c.args.limit _ c.place.result _ c.requires.sound c.requires.lawful p c.place.ensures.few w
