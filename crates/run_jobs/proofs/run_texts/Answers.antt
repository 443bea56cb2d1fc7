use Rattle.std.proofs.Common.{◌≡◌, IfOk, ap, subst, ◌∙◌}
use Rattle.world_law.specs.World.{BenchSetting}
use Rattle.bench_core.specs.Histories.{History}
use Rattle.bench_state.specs.States.{setting_of}
use Rattle.run_jobs.specs.PoolRuns.{HasTexts}
use Rattle.run_jobs.proofs.run_texts.Goals as goal

pub returns : goal.returns
returns g c =
    let same : c.in_ok-bench-2.bench.setting ≡ setting_of c.args.rig c.args.work = c.in_ok-bench-2.ensures.setting ∙ ap (λ (h : History). h.setting) c.in_ok-bench.ensures in
    subst (λ (x : BenchSetting). IfOk c.texts_of.result (HasTexts x)) same c.texts_of.ensures
