use Rattle.replay_run.proofs.LineCallers.{line_refused}
use Rattle.replay_run.proofs.making.make_known.Goals as goal

pub returns-clause-refused : goal.returns-clause-refused
returns-clause-refused c =
    line_refused c.args.line c.args.bench.now c.caller_of-caller.result c.make_step.result c.caller_of-caller.ensures c.requires.free c.requires.known c.make_step.ensures.refused
