-- A ticket for which an abort isn't late lives.
use Rattle.std.proofs.Common.{◌≡◌, false, refl}
use Rattle.desk_law.specs.declared.stage.Stage.{Stage}
use Rattle.desk_law.specs.declared.stage.Stage.TheVariants as stage
use Rattle.desk_law.specs.Desk.{is_freed}
use Rattle.world_law.specs.Acts.{is_late}

pub early_lives : (s : Stage) → is_late s ≡ false → is_freed s ≡ false
early_lives stage.Built h = refl
early_lives stage.Linked h = refl
early_lives stage.Queued h = refl
early_lives stage.Again h = refl
early_lives stage.Check h = absurd cc
early_lives stage.Sensing h = absurd cc
early_lives (stage.Ended o) h = absurd cc
early_lives stage.Unlinked h = absurd cc
early_lives stage.Freed h = absurd cc
