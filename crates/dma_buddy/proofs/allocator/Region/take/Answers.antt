use Rattle.std.proofs.Common.{refl, arith}
use Rattle.dma_buddy.specs.Regions.{IsBestFor}
use Rattle.dma_buddy.proofs.TakenChunks.{size-within, take-region, take-bytes, take-out}
use Rattle.dma_buddy.proofs.allocator.Region.take.Goals as goal

pub split-requires-clause-within : goal.split-requires-clause-within
split-requires-clause-within c =
    let best : IsBestFor c.self.inside.chunks c.args.len c.in_ok-whole.whole = c.in_ok-whole.ensures in
    size-within c.self.inside.chunks c.self.invariant.0 c.args.len c.size_for-size.result c.in_ok-whole.whole best c.size_for-size.ensures

pub split-requires-clause-fits : goal.split-requires-clause-fits
split-requires-clause-fits c =
    let best : IsBestFor c.self.inside.chunks c.args.len c.in_ok-whole.whole = c.in_ok-whole.ensures in
    omega (arith, c.self.invariant.0.fits, (c.self.invariant.0.chunks c.in_ok-whole.whole best.free).to)

pub invariant_of-self : goal.invariant_of-self
invariant_of-self c =
    let best : IsBestFor c.self.inside.chunks c.args.len c.in_ok-whole.whole = c.in_ok-whole.ensures in
    (take-region c.self.inside.chunks c.remove.new.self c.split.new.chunks c.self.invariant.0 c.args.len c.in_ok-whole.whole (record { base = c.in_ok-whole.whole.base; size = c.size_for-size.result }) best c.size_for-size.ensures refl c.remove.ensures c.split.ensures, take-bytes c.self.inside.chunks c.remove.new.self c.split.new.chunks c.self.invariant.0 c.args.len c.in_ok-whole.whole (record { base = c.in_ok-whole.whole.base; size = c.size_for-size.result }) best c.size_for-size.ensures refl c.remove.ensures c.split.ensures c.self.inside.bytes c.self.invariant.1)

pub returns-clause-out : goal.returns-clause-out
returns-clause-out c =
    let best : IsBestFor c.self.inside.chunks c.args.len c.in_ok-whole.whole = c.in_ok-whole.ensures in
    rw (← c.self.view_is) (take-out c.self.inside.chunks c.remove.new.self c.split.new.chunks c.self.invariant.0 c.args.len c.in_ok-whole.whole (record { base = c.in_ok-whole.whole.base; size = c.size_for-size.result }) best c.size_for-size.ensures refl c.remove.ensures c.split.ensures)

pub returns-clause-region : goal.returns-clause-region
returns-clause-region c =
    let best : IsBestFor c.self.inside.chunks c.args.len c.in_ok-whole.whole = c.in_ok-whole.ensures in
    take-region c.self.inside.chunks c.remove.new.self c.split.new.chunks c.self.invariant.0 c.args.len c.in_ok-whole.whole (record { base = c.in_ok-whole.whole.base; size = c.size_for-size.result }) best c.size_for-size.ensures refl c.remove.ensures c.split.ensures
