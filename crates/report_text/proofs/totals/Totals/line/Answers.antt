use Rattle.std.proofs.Common.{append_assoc}
use Rattle.report_text.proofs.totals.Totals.line.Goals as goal

pub returns : goal.returns
returns c = rw c.in_ok-line.ensures.ok (simp append_assoc)
