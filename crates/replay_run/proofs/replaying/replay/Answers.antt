use Rattle.replay_run.proofs.MadeLines.{line_refuses}
use Rattle.replay_run.proofs.replaying.replay.Goals as goal

pub returns-in_err-make_line-clause-refused : goal.returns-in_err-make_line-clause-refused
returns-in_err-make_line-clause-refused c =
    line_refuses c.args.bench.now.setting c.args.lines.now c.loop-line.line-index _ c.loop-line.bench c.in_err-make_line.field-0.0 c.from_residual.result c.loop-line.invariant
    c.list_is_lawful.ensures.lawful c.list_is_lawful.ensures.within c.loop-line-test.true c.in_err-make_line.ensures.refused c.from_residual.ensures.1
