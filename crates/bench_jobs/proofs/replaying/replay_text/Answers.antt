use Rattle.bench_state.specs.States.{setting_of}
use Rattle.bench_jobs.proofs.Replayed.{is_replay}
use Rattle.bench_jobs.proofs.replaying.replay_text.Goals as goal

pub returns : goal.returns
returns c =
    is_replay (setting_of c.args.rig c.args.work) c.args.lines.now c.in_ok-bench.bench c.replay.new.bench c.in_ok-text.text c.in_ok-bench.ensures c.in_ok-replay.ensures.replayed c.in_ok-text.ensures
