use Rattle.one_target.proofs.WholeReads.{reads, checks}
use Rattle.one_target.proofs.laws.read_has_one_answer.Goals as goal

pub returns : goal.returns
returns c = record { reads = reads; checks = checks }
