-- A step that needs no memory is made.
use Rattle.std.proofs.Common.{ℕ}
use Rattle.rig_types.specs.declared.step.Step.{Step}
use Rattle.world_law.specs.declared.reply.Reply.{Reply}
use Rattle.world_law.specs.World.{BenchSetting, World}
use Rattle.world_law.specs.Steps.{Does}
use Rattle.bench_state.specs.Making.{Makes, does}

pub makes_done : (g : BenchSetting) (old : World) (caller : ℕ) (s : Step) (answer : Reply) (new : World) → Does g old caller s answer new
    → Makes g old caller s answer new
makes_done g old caller s answer new d = does d
