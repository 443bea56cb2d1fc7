use Rattle.bench_jobs.proofs.Runs.{is_load, load_wants, load_refused}
use Rattle.bench_jobs.proofs.loading.load_text.Goals as goal

pub returns : goal.returns
returns c =
    is_load c.args.n c.args.seed c.in_ok-rig.rig c.in_ok-work.work c.in_ok-bench.bench c.in_ok-text.text c.in_ok-rig.ensures c.in_ok-work.ensures c.in_ok-bench.ensures c.in_ok-text.ensures

pub returns-in_err-bench : goal.returns-in_err-bench
returns-in_err-bench c =
    load_refused c.args.n c.args.seed c.in_ok-rig.rig c.in_ok-work.work c.in_ok-rig.ensures c.in_ok-work.ensures c.in_err-bench.field-0.0 c.in_err-bench.ensures c.from_residual-in_err-bench.result
    c.from_residual-in_err-bench.ensures.1

pub returns-in_err-text : goal.returns-in_err-text
returns-in_err-text c = load_wants c.args.n c.args.seed c.from_residual-in_err-text.result c.from_residual-in_err-text.ensures.1
