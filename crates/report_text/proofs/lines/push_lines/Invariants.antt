use Rattle.std.proofs.Common.{◌≡◌, ◌++◌, drop}
use Rattle.report_text.specs.Text.{lines_from}
use Rattle.report_text.proofs.lines.push_lines.Given as goal

abbrev pub invariant-loop-decided : goal.invariant-loop-decided
invariant-loop-decided l = record {
  number : l.number ≡ l.decided-index;
  text : l.text.items ++ lines_from l.submitter l.number (drop l.decided-index l.lines) ≡ l.initial.text.items ++ lines_from l.submitter 0 l.lines;
}
