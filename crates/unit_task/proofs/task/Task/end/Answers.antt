use Rattle.unit_task.proofs.Ends.{others-ended}
use Rattle.unit_task.proofs.task.Task.end.Goals as goal

pub returns-clause-others : goal.returns-clause-others
returns-clause-others c = λ k w. rw c.end_by_kind.ensures (others-ended _ _ c.requires.sound c.requires.all_moved k w)
