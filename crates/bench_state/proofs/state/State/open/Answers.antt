use Rattle.bench_state.specs.States.{setting_of}
use Rattle.bench_state.proofs.OpeningHeld.{opens_held}
use Rattle.bench_state.proofs.state.State.open.Goals as goal

-- src/opening.rt:54:9
pub invariant_of-result : goal.invariant_of-result
invariant_of-result c =
    opens_held (setting_of c.args.rig c.args.work) _ _ _ _ _ _ _ _ _ c.args.rig.valid.few_units c.in_ok-words.ensures c.in_ok-desk.ensures c.as_slice.ensures
    c.in_ok-lines.ensures.decided c.in_ok-lines.ensures.rooms c.as_slice-2.ensures c.in_ok-acts.ensures.capacity c.in_ok-acts.ensures.items c.new-2.ensures.items
