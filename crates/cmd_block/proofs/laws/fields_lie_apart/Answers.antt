use Rattle.cmd_block.proofs.FieldLaws.{offset_fits, all_apart, writes_one_field}
use Rattle.cmd_block.proofs.laws.fields_lie_apart.Goals as goal

pub returns : goal.returns
returns c = record { fit = offset_fits; apart = all_apart; one = writes_one_field }
