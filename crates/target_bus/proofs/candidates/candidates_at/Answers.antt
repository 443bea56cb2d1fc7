use Rattle.target_bus.proofs.CandidateCounts.{count-there, count-is, count-none}
use Rattle.target_bus.proofs.candidates.candidates_at.Goals as goal

pub can_reselect-requires : goal.can_reselect-requires
can_reselect-requires c = count-there _ _ c.in-Some.ensures

pub returns-in-Some : goal.returns-in-Some
returns-in-Some c = count-is _ _ c.can_reselect.ensures

pub returns-in-None : goal.returns-in-None
returns-in-None c = count-none _ c.in-None.ensures
