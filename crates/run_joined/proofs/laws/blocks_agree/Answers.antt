use Rattle.run_joined.proofs.BlockWords.{blocks-agree}
use Rattle.run_joined.proofs.laws.blocks_agree.Goals as goal

pub returns : goal.returns
returns c = blocks-agree
