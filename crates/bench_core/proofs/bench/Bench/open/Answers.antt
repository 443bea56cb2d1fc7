use Rattle.bench_state.specs.States.{setting_of}
use Rattle.bench_core.proofs.Opened.{opens}
use Rattle.bench_core.proofs.bench.Bench.open.Goals as goal

-- src/bench.rt:44:9
pub invariant_of-result : goal.invariant_of-result
invariant_of-result c =
    opens (setting_of c.args.rig c.args.work) _ _ _ _ c.in_ok-state.ensures.0 c.in_ok-entries.ensures.items c.in_ok-state.ensures.1 c.args.rig.valid.few_steps
    c.in_ok-entries.ensures.capacity
