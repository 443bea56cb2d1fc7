use Rattle.unit_task.proofs.Readiness.{ready-dropped, waiting-stays}
use Rattle.unit_task.proofs.task.Task.drop_from.Goals as goal

pub returns-clause-others : goal.returns-clause-others
returns-clause-others c = λ k w. rw c.drop_command.ensures (waiting-stays _ _ k (ready-dropped _ _ _) w)
