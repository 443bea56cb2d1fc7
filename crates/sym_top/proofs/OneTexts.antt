-- The text of a report that fits.
use Rattle.std.proofs.Common.{◌≡◌, ℕ, List, Result, Ok, Err, IfOk, sym, subst}
use Rattle.scsi_words.specs.declared.phases.kinds.Direction.TheVariants.{In}
use Rattle.rig_types.specs.declared.report.Report.{Report}
use Rattle.report_lines.specs.Lines.{report_part}
use Rattle.one_target.specs.Reporting.{OneReport}
use Rattle.sym_top.specs.OneText.{IsOneText}

pub one-text : {E : Type 0} (lba : ℕ) (r : Result (List ℕ) E) (q q' : Report) → OneReport lba q → q' ≡ q → IfOk r (λ text. text ≡ report_part 0 0 In q') → IfOk r (λ text. IsOneText lba text)
unfolding IsOneText
one-text lba (Ok text) q q' o e h = (q', subst (λ (x : Report). OneReport lba x) (sym e) o, h)
one-text lba (Err x) q q' o e h = tt
