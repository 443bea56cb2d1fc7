use Rattle.host_map.proofs.MapLaws as law
use Rattle.host_map.proofs.laws.is_map.Goals as goal

pub returns : goal.returns
returns c = law.is_map
