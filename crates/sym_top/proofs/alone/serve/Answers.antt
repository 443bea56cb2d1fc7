use Rattle.std.proofs.Common.{inr}
use Rattle.sym_top.specs.Asked.{asked}
use Rattle.sym_top.proofs.OneCommand.{refuses-answered}
use Rattle.sym_top.proofs.alone.serve.Goals as goal

pub returns-in-Err-clause-answer : goal.returns-in-Err-clause-answer
returns-in-Err-clause-answer g c =
    inr (c.say.result, refuses-answered (asked c.args.command) _ c.in-Err.refusal c.say.result c.say.ensures.answered c.in-Err.ensures.runs, c.exit.ensures, c.say.ensures.said)
