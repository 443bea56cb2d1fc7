use Rattle.std.proofs.Common.{subst, sym, arith}
use Rattle.dma_buddy.specs.Regions.{Space, IsOut, IsRegion}
use Rattle.dma_buddy.proofs.FreeBytes.{most-free}
use Rattle.dma_buddy.proofs.GivenChunks.{gives, region-after-give, puts-back, fits-back}
use Rattle.dma_buddy.proofs.allocator.Region.give.Goals as goal

pub overflow_add-self : goal.overflow_add-self
overflow_add-self c =
    let out : IsOut c.self.inside.chunks c.args.c = subst (λ (s : Space). IsOut s c.args.c) (sym c.self.view_is) c.requires in
    let region : IsRegion c.insert.new.self = region-after-give c.self.inside.chunks c.self.invariant.0 c.args.c out c.merge-whole.result c.merge-whole.new.chunks c.insert.new.self c.merge-whole.ensures.merged c.merge-whole.ensures.ends c.insert.ensures in
    omega (arith, fits-back c.self.inside.chunks c.self.invariant.0 c.args.c out c.merge-whole.result c.merge-whole.new.chunks c.insert.new.self c.merge-whole.ensures.merged c.merge-whole.ensures.ends c.insert.ensures c.self.inside.bytes c.self.invariant.1, most-free c.insert.new.self region, region.fits)

pub invariant_of-self : goal.invariant_of-self
invariant_of-self c =
    let out : IsOut c.self.inside.chunks c.args.c = subst (λ (s : Space). IsOut s c.args.c) (sym c.self.view_is) c.requires in
    (region-after-give c.self.inside.chunks c.self.invariant.0 c.args.c out c.merge-whole.result c.merge-whole.new.chunks c.insert.new.self c.merge-whole.ensures.merged c.merge-whole.ensures.ends c.insert.ensures, fits-back c.self.inside.chunks c.self.invariant.0 c.args.c out c.merge-whole.result c.merge-whole.new.chunks c.insert.new.self c.merge-whole.ensures.merged c.merge-whole.ensures.ends c.insert.ensures c.self.inside.bytes c.self.invariant.1)

pub returns-clause-given : goal.returns-clause-given
returns-clause-given c =
    let out : IsOut c.self.inside.chunks c.args.c = subst (λ (s : Space). IsOut s c.args.c) (sym c.self.view_is) c.requires in
    rw (← c.self.view_is) (gives c.self.inside.chunks c.self.invariant.0 c.args.c out c.merge-whole.result c.merge-whole.new.chunks c.insert.new.self c.merge-whole.ensures.merged c.merge-whole.ensures.ends c.insert.ensures)

pub returns-clause-others : goal.returns-clause-others
returns-clause-others c =
    let out : IsOut c.self.inside.chunks c.args.c = subst (λ (s : Space). IsOut s c.args.c) (sym c.self.view_is) c.requires in
    rw (← c.self.view_is) (puts-back c.self.inside.chunks c.self.invariant.0 c.args.c out c.merge-whole.result c.merge-whole.new.chunks c.insert.new.self c.merge-whole.ensures.merged c.merge-whole.ensures.ends c.insert.ensures)

pub returns-clause-region : goal.returns-clause-region
returns-clause-region c =
    let out : IsOut c.self.inside.chunks c.args.c = subst (λ (s : Space). IsOut s c.args.c) (sym c.self.view_is) c.requires in
    region-after-give c.self.inside.chunks c.self.invariant.0 c.args.c out c.merge-whole.result c.merge-whole.new.chunks c.insert.new.self c.merge-whole.ensures.merged c.merge-whole.ensures.ends c.insert.ensures
