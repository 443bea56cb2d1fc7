use Rattle.std.proofs.Common.{rules, ◌<◌, length}
use Rattle.driver_desk.proofs.GivenBack.{out_at, given_one}
use Rattle.driver_desk.proofs.giving.give_all.Goals as goal

-- src/giving.rt:21:9
pub give-requires : goal.give-requires
give-requires c =
    let low : c.loop-i.i < length c.args.pieces.now = search rules in
    out_at _ _ _ _ _ low c.loop-i.invariant

-- src/giving.rt:19:5
pub loop-i-preserved : goal.loop-i-preserved
loop-i-preserved c =
    let low : c.loop-i.i < length c.args.pieces.now = search rules in
    given_one _ _ _ _ _ _ low c.loop-i.invariant c.give.ensures.given c.give.ensures.others
