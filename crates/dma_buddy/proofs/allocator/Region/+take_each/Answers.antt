use Rattle.std.proofs.Common.{◌≡◌, ◌+◌, ◌<◌, List, length, get_or, drop, subst, refl, arith}
use Rattle.dma_buddy.specs.declared.buddies.Chunk.{Chunk}
use Rattle.dma_buddy.specs.Regions.{Takes, RefusesAt, LeavesOut}
use Rattle.dma_buddy.specs.Marks.{TakesOnto}
use Rattle.dma_buddy.proofs.Lists.{undone, each-more, each-later}
use Rattle.dma_buddy.proofs.allocator.Region.+take_each.Goals as goal

pub returns-in-Err-clause-taken : goal.returns-in-Err-clause-taken
returns-in-Err-clause-taken t c =
    let within : c.args.from < length c.args.lens.now = omega arith in
    let taken : Takes c.args.self.now (get_or c.args.lens.now c.args.from 0) c.in-Some.c c.take.new.self = c.in-Some.ensures.taken in
    let refused : (c.take_each.new.self ≡ c.take.new.self) × RefusesAt c.take.new.self (drop (c.args.from + 1) c.args.lens.now) c.in-Err.refused = c.in-Err.ensures.taken in (
      undone c.args.self.now c.take.new.self c.take_each.new.self c.give.new.self (get_or c.args.lens.now c.args.from 0) c.in-Some.c c.requires.region taken refused.0 c.give.ensures.given,
      each-later c.args.lens.now c.args.from within c.args.self.now c.take.new.self (get_or c.args.lens.now c.args.from 0) c.in-Some.c c.in-Err.refused refl taken refused.1,
    )

pub returns-clause-taken : goal.returns-clause-taken
returns-clause-taken t c =
    let within : c.args.from < length c.args.lens.now = omega arith in
    let taken : Takes c.args.self.now (get_or c.args.lens.now c.args.from 0) c.in-Some.c c.take.new.self = c.in-Some.ensures.taken in
    let out : LeavesOut c.args.self.now c.in-Some.c c.take.new.self = c.in-Some.ensures.out in
    let rest : TakesOnto c.take.new.self (drop (c.args.from + 1) c.args.lens.now) c.push.new.self c.take_each.new.chunks c.take_each.new.self = c.in_default-take_each.ensures.taken in
    each-more c.args.lens.now c.args.from within c.args.self.now c.take.new.self c.take_each.new.self (get_or c.args.lens.now c.args.from 0) c.in-Some.c c.args.chunks.now c.take_each.new.chunks refl c.requires.region taken out
    (subst (λ (front : List Chunk). TakesOnto c.take.new.self (drop (c.args.from + 1) c.args.lens.now) front c.take_each.new.chunks c.take_each.new.self) c.push.ensures rest)
