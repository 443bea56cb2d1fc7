use Rattle.replay_run.proofs.OneReplay as law
use Rattle.replay_run.proofs.laws.one_replay.Goals as goal

pub returns : goal.returns
returns c = law.one_replay
