use Rattle.std.proofs.Common.{◌≡◌, ◌+◌, ◌++◌, List, length, vec_len}
use Rattle.scripts_forms.specs.Lines.{Line, AreLines}
use Rattle.scripts_asm.specs.Seen.{all_lines, all_texts}
use Rattle.scripts_asm.proofs.lines.lines_of.Given as goal

abbrev pub invariant-loop-texts : goal.invariant-loop-texts
invariant-loop-texts l = record {
  count : vec_len l.lines + length l.texts ≡ length l.initial.texts;
  goes_on : (ls : List Line) → AreLines (all_texts l.texts) ls → AreLines (all_texts l.initial.texts) (all_lines l.lines.items ++ ls);
}

abbrev pub decreases-loop-texts : goal.decreases-loop-texts
decreases-loop-texts l = length l.texts
