use Rattle.std.proofs.Common.{ap}
use Rattle.scripts_forms.specs.Seen.{all_seen}
use Rattle.scripts_asm.specs.Seen.{seen_body}
use Rattle.scripts_asm.proofs.Fields.{line_fields}
use Rattle.scripts_asm.proofs.judging.push_line.Goals as goal

pub push_words-requires : goal.push_words-requires
push_words-requires c =
    rw c.op_of-op.ensures
    (line_fields (seen_body c.args.body.now) c.in-Instruction.shape (all_seen c.in-Instruction.values.items) c.args.numbers.now (ap seen_body c.in-Instruction.is) c.requires.fits c.requires.form c.requires.wide)
