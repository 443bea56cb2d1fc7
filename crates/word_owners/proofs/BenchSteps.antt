-- Each step of the bench but Build keeps the invariant, where it is enabled.
use Rattle.std.proofs.Common.{refl}
use Rattle.rig_types.specs.declared.step.Step.TheVariants as step
use Rattle.word_owners.specs.BenchSteps.{BenchStepsHold}
use Rattle.word_owners.proofs.AllSteps.{chip_steps_hold}
use Rattle.word_owners.proofs.SelectionAnswers.{answering_stays}
use Rattle.word_owners.proofs.DriverSteps.{driver_holds}
use Rattle.word_owners.proofs.RunningChip.{running}

pub bench_steps_hold : BenchStepsHold
bench_steps_hold g version units w new caller (step.Build l) answer work is may d o = absurd cc
bench_steps_hold g version units w new caller (step.Chip word) answer work is may d o =
    let k = running version units o.spot o.counts w may.1 o.holds in
    let x = chip_steps_hold version units k.0 o.counts w new word answer o.answering d k.1 in
    record { spot = x.spot; counts = x.counts; holds = x.holds; answering = answering_stays units w new word answer d o.answering }
bench_steps_hold g version units w new caller (step.Link t) answer work is may d o = driver_holds g version units w new caller (step.Link t) answer work refl may d o
bench_steps_hold g version units w new caller (step.Queue t) answer work is may d o = driver_holds g version units w new caller (step.Queue t) answer work refl may d o
bench_steps_hold g version units w new caller step.Signal answer work is may d o = driver_holds g version units w new caller step.Signal answer work refl may d o
bench_steps_hold g version units w new caller step.Fix answer work is may d o = driver_holds g version units w new caller step.Fix answer work refl may d o
bench_steps_hold g version units w new caller (step.Sweep t) answer work is may d o = driver_holds g version units w new caller (step.Sweep t) answer work refl may d o
bench_steps_hold g version units w new caller step.Restart answer work is may d o = driver_holds g version units w new caller step.Restart answer work refl may d o
bench_steps_hold g version units w new caller step.TakeDone answer work is may d o = driver_holds g version units w new caller step.TakeDone answer work refl may d o
bench_steps_hold g version units w new caller (step.Unlink t) answer work is may d o = driver_holds g version units w new caller (step.Unlink t) answer work refl may d o
bench_steps_hold g version units w new caller (step.Free t) answer work is may d o = driver_holds g version units w new caller (step.Free t) answer work refl may d o
bench_steps_hold g version units w new caller (step.Act k) answer work is may d o = driver_holds g version units w new caller (step.Act k) answer work refl may d o
bench_steps_hold g version units w new caller step.ResetBus answer work is may d o = driver_holds g version units w new caller step.ResetBus answer work refl may d o
bench_steps_hold g version units w new caller (step.Sense t) answer work is may d o = driver_holds g version units w new caller (step.Sense t) answer work refl may d o
