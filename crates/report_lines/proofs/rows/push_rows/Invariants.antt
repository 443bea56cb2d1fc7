use Rattle.std.proofs.Common.{◌≡◌, ◌+◌, ◌++◌, length}
use Rattle.report_lines.specs.Lines.{data_rows, data_text, row_count}
use Rattle.report_lines.proofs.rows.push_rows.Given as goal

abbrev pub invariant-loop-rest : goal.invariant-loop-rest
invariant-loop-rest l = (l.offset + length l.rest ≡ length l.bytes) × (l.text.items ++ data_rows (row_count (length l.rest)) l.offset l.rest ≡ l.initial.text.items ++ data_text l.bytes)

abbrev pub decreases-loop-rest : goal.decreases-loop-rest
decreases-loop-rest l = length l.rest
