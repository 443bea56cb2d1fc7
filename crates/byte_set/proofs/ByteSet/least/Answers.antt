use Rattle.std.proofs.Common.{rules, arith, ◌^◌, ◌<◌, ◌≤◌, length, get_or, refl}
use Rattle.std.specs.Prelude.{bit_and}
use Rattle.byte_set.proofs.Masks.{none_of, least_of_word}
use Rattle.byte_set.proofs.ByteSet.least.Goals as goal

pub returns-then-word-ne0 : goal.returns-then-word-ne0
returns-then-word-ne0 c =
    let word = bit_and (get_or c.self.inside.words c.loop-w.w 0) c.mask-mask.result in
    let some : 0 < word = search rules in
    let small : word < 2 ^ 64 = search rules in
    rw (← c.self.view_is)
    (least_of_word c.self.inside.words c.mask-mask.result c.args.apart c.loop-w.w word c.requires c.mask-mask.ensures refl some small c.loop-w.invariant)

pub returns : goal.returns
returns c =
    let few : length c.self.inside.words ≤ 4 = search rules in
    rw (← c.self.view_is)
    (none_of c.self.inside.words c.mask-mask.result c.args.apart 4 c.requires c.mask-mask.ensures few (λ w low. c.loop-w.invariant w (omega (arith, low))))
