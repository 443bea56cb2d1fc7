use Rattle.std.proofs.Common.{refl}
use Rattle.replay_run.proofs.laws.runs_replay.Goals as goal

pub returns : goal.returns
returns c = λ g ms run within drains. record {
  moments = ms;
  made = record { run = run; are = refl };
  world = refl;
  within = within;
  drains = drains;
}
