use Rattle.run_joined.proofs.Matching.{histories-tie, freed-histories, freed-reports-fit}
use Rattle.run_joined.proofs.laws.histories_tie.Goals as goal

pub returns : goal.returns
returns c = record { tied = histories-tie; freed = freed-histories; fits = freed-reports-fit }
