use Rattle.std.proofs.Common.{◌≡◌, ◌+◌, ◌*◌, ◌≤◌, ◌++◌, length}
use Rattle.scripts_asm.specs.Assembled.{judged, behind, labels_from}
use Rattle.scripts_asm.specs.Image.{seen_labels}
use Rattle.scripts_asm.specs.Seen.{all_lines}
use Rattle.scripts_asm.specs.SeenNames.{giving_in}
use Rattle.scripts_asm.proofs.judging.judge.Given as goal

abbrev pub invariant-loop-lines : goal.invariant-loop-lines
invariant-loop-lines l = record {
  few : l.count ≤ 1024;
  near : l.address ≤ 12 * l.count;
  placed : l.place + 2 * length l.lines ≤ 2 * length l.initial.lines;
  numbered : l.line_number + length l.lines ≡ 1 + length l.initial.lines;
  labelled : seen_labels l.labels.items ++ labels_from l.address (all_lines l.lines) ≡ labels_from 0 (all_lines l.initial.lines);
  goes_on : behind l.words.items (judged (giving_in l.names) l.place l.count l.line_number (all_lines l.lines)) ≡ judged (giving_in l.names) 0 0 1 (all_lines l.initial.lines);
}

abbrev pub decreases-loop-lines : goal.decreases-loop-lines
decreases-loop-lines l = length l.lines
