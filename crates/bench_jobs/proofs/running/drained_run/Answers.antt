use Rattle.std.proofs.Common.{◌≡◌, true, false, subst}
use Rattle.world_law.specs.Lines.{drained}
use Rattle.bench_state.specs.States.{setting_of}
use Rattle.bench_core.specs.Histories.{History}
use Rattle.serial_run.specs.Histories.{IsSerialHistory}
use Rattle.bench_jobs.proofs.Runs.{drains, fills}
use Rattle.bench_jobs.proofs.running.drained_run.Goals as goal

pub returns-then-drained : goal.returns-then-drained
returns-then-drained c =
    let bench = c.in_ok-bench-2.bench in
    let serial : IsSerialHistory (setting_of c.args.rig c.args.work) c.args.seed bench =
    subst (λ (h : History). IsSerialHistory h.setting c.args.seed bench) c.in_ok-bench.ensures c.in_ok-bench-2.ensures.serial in
    let ends : drained bench.setting bench.world ≡ true = cc (c.if-drained.true, c.drained.ensures) in
    drains (setting_of c.args.rig c.args.work) c.args.seed bench serial c.list_is_lawful.ensures.within ends

pub returns-else-drained : goal.returns-else-drained
returns-else-drained c =
    let bench = c.in_ok-bench-2.bench in
    let serial : IsSerialHistory (setting_of c.args.rig c.args.work) c.args.seed bench =
    subst (λ (h : History). IsSerialHistory h.setting c.args.seed bench) c.in_ok-bench.ensures c.in_ok-bench-2.ensures.serial in
    let ends : drained bench.setting bench.world ≡ false = cc (c.if-drained.false, c.drained.ensures) in
    fills (setting_of c.args.rig c.args.work) c.args.seed bench serial c.in_ok-bench-2.ensures.over ends
