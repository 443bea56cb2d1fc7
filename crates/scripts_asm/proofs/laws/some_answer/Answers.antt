use Rattle.scripts_asm.proofs.SomeAnswer as law
use Rattle.scripts_asm.proofs.laws.some_answer.Goals as goal

pub returns : goal.returns
returns c = law.some_answer
