use Rattle.std.proofs.Common.{arith, ◌<◌, ◌≤◌, length}
use Rattle.driver_desk.proofs.GivenBack.{rest_out, chunk_out, others_all, undone_all, undone_none}
use Rattle.driver_desk.proofs.giving.+put_back.Goals as goal

pub put_back-requires : goal.put_back-requires
put_back-requires t c =
    let low : c.args.from < length c.args.chunks.now = omega arith in
    (omega (arith, low, c.decreases), (omega (arith, low), rest_out _ c.args.chunks.now c.args.from (record { base = 0; size = 0 }) low c.requires.out))

pub give-requires : goal.give-requires
give-requires t c =
    let low : c.args.from < length c.args.chunks.now = omega arith in
    chunk_out _ _ c.args.chunks.now c.args.from _ low c.put_back.ensures.others c.requires.out

pub returns-then-from-chunks-clause-undone : goal.returns-then-from-chunks-clause-undone
returns-then-from-chunks-clause-undone t c s lens r k =
    let low : c.args.from < length c.args.chunks.now = omega arith in
    undone_all s _ _ _ lens c.args.chunks.now c.args.from _ low r k c.put_back.ensures.undone c.give.ensures.given

pub returns-then-from-chunks-clause-others : goal.returns-then-from-chunks-clause-others
returns-then-from-chunks-clause-others t c xs h =
    let low : c.args.from < length c.args.chunks.now = omega arith in
    others_all _ _ _ c.args.chunks.now c.args.from _ low c.put_back.ensures.others c.give.ensures.others xs h

pub returns-else-from-chunks-clause-undone : goal.returns-else-from-chunks-clause-undone
returns-else-from-chunks-clause-undone t c s lens r k =
    let high : length c.args.chunks.now ≤ c.args.from = omega arith in
    undone_none s _ lens c.args.chunks.now c.args.from high k
