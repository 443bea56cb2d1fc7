use Rattle.job_rings.proofs.RingLaws.{counts_start_slots, counts_done_slots}
use Rattle.job_rings.proofs.laws.slots_are_counted.Goals as goal

pub returns : goal.returns
returns c = record { start = counts_start_slots; done = counts_done_slots }
