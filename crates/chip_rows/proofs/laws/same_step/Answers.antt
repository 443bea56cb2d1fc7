use Rattle.chip_rows.proofs.RelatedBuses.{steps_follow}
use Rattle.chip_rows.proofs.laws.same_step.Goals as goal

pub returns : goal.returns
returns g c = λ follows. steps_follow g.A.Bus.moves g.B.Bus.moves g.R.Relation.related follows
