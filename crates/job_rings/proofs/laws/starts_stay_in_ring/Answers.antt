use Rattle.job_rings.proofs.RingLaws as law
use Rattle.job_rings.proofs.laws.starts_stay_in_ring.Goals as goal

pub returns : goal.returns
returns c = law.starts_in_ring
