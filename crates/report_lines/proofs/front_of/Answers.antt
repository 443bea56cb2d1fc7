use Rattle.std.proofs.Common.{append_assoc}
use Rattle.report_lines.proofs.front_of.Goals as goal

pub returns : goal.returns
returns c = rw c.in_ok-front.ensures.ok (simp append_assoc)
