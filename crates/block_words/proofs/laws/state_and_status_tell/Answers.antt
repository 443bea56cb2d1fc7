use Rattle.block_words.proofs.LiveWords.{state-and-status-tell}
use Rattle.block_words.proofs.laws.state_and_status_tell.Goals as goal

pub returns : goal.returns
returns c = state-and-status-tell
