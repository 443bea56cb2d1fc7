use Rattle.std.proofs.Common.{ap, ◌∙◌}
use Rattle.dma_buddy.specs.Bits.{flags}
use Rattle.dma_buddy.proofs.Layers.{flags-zeros}
use Rattle.dma_buddy.proofs.bit_set.BitSet.new.Goals as goal

pub returns : goal.returns
returns c = ap (λ ws. flags ws c.args.bound) c.in_ok-new.ensures ∙ flags-zeros c.div_ceil-low.result c.args.bound
