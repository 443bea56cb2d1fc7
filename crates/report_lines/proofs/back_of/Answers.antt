use Rattle.std.proofs.Common.{append_assoc}
use Rattle.report_lines.proofs.back_of.Goals as goal

pub returns : goal.returns
returns c = rw c.in_ok-back.ensures.ok (simp append_assoc)
