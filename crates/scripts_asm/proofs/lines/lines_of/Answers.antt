use Rattle.std.proofs.Common.{◌≡◌, ◌++◌, [], length, rules, subst, List}
use Rattle.std.proofs.lemmas.List.{append-nil}
use Rattle.scripts_forms.specs.Lines.{Line, AreLines}
use Rattle.scripts_asm.specs.Seen.{all_lines, all_texts}
use Rattle.scripts_asm.proofs.LineLaws.{no_lines}
use Rattle.scripts_asm.proofs.lines.lines_of.Goals as goal

pub returns-clause-lines : goal.returns-clause-lines
returns-clause-lines c =
    let empty : length c.loop-texts.texts.now ≡ 0 = search rules in
    let P : List Line → Type 0 = λ ls. AreLines (all_texts c.args.texts.now) ls in
    subst P (append-nil (all_lines c.loop-texts.lines.items)) (c.loop-texts.invariant.goes_on [] (no_lines c.loop-texts.texts.now empty))
