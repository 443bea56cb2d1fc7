use Rattle.std.proofs.Common.{append_assoc}
use Rattle.refusal_lines.proofs.fault.trace_line.Goals as goal

pub returns : goal.returns
returns c = rw c.in_ok-text.ensures.ok (simp append_assoc)
