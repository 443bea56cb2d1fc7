use Rattle.std.proofs.Common.{inr}
use Rattle.sym_top.specs.RunAsked.{run_asked}
use Rattle.sym_top.proofs.RunFinishing.{run_refuses_answered}
use Rattle.sym_top.proofs.top.serve_run.Goals as goal

pub returns-in-Err : goal.returns-in-Err
returns-in-Err g c = inr (c.say.result, run_refuses_answered (run_asked c.args.command) _ c.in-Err.refusal c.say.result c.say.ensures.answered c.in-Err.ensures, c.exit.ensures, c.say.ensures.said)
