use Rattle.block_words.proofs.Commands.{commands-are-told}
use Rattle.block_words.proofs.laws.commands_are_told.Goals as goal

pub returns : goal.returns
returns c = commands-are-told
