use Rattle.std.proofs.Common.{arith}
use Rattle.std.proofs.lemmas.Grind.{common_steps}
use Rattle.sym_io.proofs.FirstOfName.{by_name-held, by_name-absent}
use Rattle.sym_io.proofs.files.Files.file.Goals as goal

pub returns-in_err-get : goal.returns-in_err-get
returns-in_err-get c = grind (arith, common_steps, by_name-absent)

pub returns : goal.returns
returns c = grind (arith, common_steps, by_name-held)
