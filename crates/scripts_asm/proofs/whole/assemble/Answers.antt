use Rattle.std.proofs.Common.{◌≡◌, ◌-◌, ◌∙◌, ap, refl}
use Rattle.scripts_forms.specs.Lines.{AreLines, lines_of, line_at}
use Rattle.scripts_asm.specs.Seen.{all_texts, all_lines}
use Rattle.scripts_asm.specs.SeenNames.{giving_in}
use Rattle.scripts_asm.proofs.Answered.{makes, refuses}
use Rattle.scripts_asm.proofs.whole.assemble.Goals as goal

pub returns-in-Ok : goal.returns-in-Ok
returns-in-Ok c =
    let texts : all_texts c.as_slice-texts.result.now ≡ lines_of c.args.text.now = ap all_texts c.as_slice-texts.ensures.value ∙ c.in_ok-split.ensures in
    let are : AreLines (all_texts c.as_slice-texts.result.now) (all_lines c.as_slice-lines.result.now) = rw c.as_slice-lines.ensures.value c.in_ok-read.ensures.lines in
    makes c.args.text.now c.as_slice-texts.result.now (all_lines c.as_slice-lines.result.now) (giving_in c.in_ok-names.names) c.in-Ok.image texts are c.in_ok-names.ensures c.in-Ok.ensures.judged.0 c.in-Ok.ensures.judged.1

pub returns : goal.returns
returns c =
    let texts : all_texts c.as_slice-texts.result.now ≡ lines_of c.args.text.now = ap all_texts c.as_slice-texts.ensures.value ∙ c.in_ok-split.ensures in
    let are : AreLines (all_texts c.as_slice-texts.result.now) (all_lines c.as_slice-lines.result.now) = rw c.as_slice-lines.ensures.value c.in_ok-read.ensures.lines in
    c.in_ok-shown_fault-in-Err-Fault.ensures c.args.text.now (refuses c.args.text.now c.as_slice-texts.result.now (all_lines c.as_slice-lines.result.now) (giving_in c.in_ok-names.names) c.in-Err-Fault.kind c.in-Err-Fault.line (line_at (all_texts c.as_slice-texts.result.now) (c.in-Err-Fault.line - 1)) texts are c.in_ok-names.ensures (rw c.in-Err-Fault.field-0-is at c.in-Err-Fault.ensures.judged) refl)
