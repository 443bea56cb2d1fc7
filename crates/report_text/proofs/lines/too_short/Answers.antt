use Rattle.std.proofs.Common.{append_assoc}
use Rattle.report_text.proofs.lines.too_short.Goals as goal

pub returns : goal.returns
returns c = rw c.in_ok-reason.ensures.ok (simp append_assoc)
