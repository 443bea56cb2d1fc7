use Rattle.std.proofs.Common.{ap, ◌∙◌}
use Rattle.number_set.specs.Bits.{flags}
use Rattle.number_set.proofs.Layers.{flags-zeros}
use Rattle.number_set.proofs.set.NumberSet.new.Goals as goal

pub returns : goal.returns
returns c = ap (λ ws. flags ws 0) c.in_ok-new.ensures ∙ flags-zeros 0 0
