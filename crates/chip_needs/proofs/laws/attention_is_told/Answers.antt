use Rattle.chip_needs.proofs.AttentionSteps.{attention-is-told}
use Rattle.chip_needs.proofs.laws.attention_is_told.Goals as goal

pub returns : goal.returns
returns c = attention-is-told
