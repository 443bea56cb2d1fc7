use Rattle.std.proofs.Common.{◌≡◌, ℕ, subst, arith}
use Rattle.dma_buddy.proofs.Splits.{Opened, opened-whole}
use Rattle.dma_buddy.proofs.allocator.Region.new.Goals as goal

pub returns-clause-whole : goal.returns-clause-whole
returns-clause-whole c =
    let all : c.loop-unit.unit ≡ c.args.units = omega arith in
    opened-whole c.loop-unit.chunks c.args.base c.args.units c.requires.aligned c.requires.fits
    (subst (λ (n : ℕ). Opened c.loop-unit.chunks c.args.base c.args.units n) all c.loop-unit.invariant)
