use Rattle.replay_run.proofs.MadeLines.{HasMade}
use Rattle.replay_run.proofs.replaying.replay.Given as goal

abbrev pub invariant-loop-line : goal.invariant-loop-line
invariant-loop-line l = HasMade l.initial.bench.setting l.lines l.line-index l.bench
