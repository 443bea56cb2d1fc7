use Rattle.bench_state.specs.States.{setting_of}
use Rattle.bench_jobs.proofs.Runs.{has_texts}
use Rattle.bench_jobs.proofs.running.step_run.Goals as goal

pub returns : goal.returns
returns c =
    has_texts (setting_of c.args.rig c.args.work) c.args.seed c.in_ok-bench.bench c.in_ok-texts.texts c.in_ok-bench.ensures c.in_ok-texts.ensures.trace c.in_ok-texts.ensures.report
