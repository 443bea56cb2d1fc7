use Rattle.std.proofs.Common.{append_assoc}
use Rattle.refusal_lines.proofs.fault.line_at.Goals as goal

pub returns : goal.returns
returns c = rw c.in_ok-line.ensures.ok (simp append_assoc)
