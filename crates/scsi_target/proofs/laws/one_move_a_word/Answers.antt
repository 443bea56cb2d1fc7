use Rattle.scsi_target.proofs.Choices.{one_move}
use Rattle.scsi_target.proofs.laws.one_move_a_word.Goals as goal

pub returns : goal.returns
returns c = one_move
