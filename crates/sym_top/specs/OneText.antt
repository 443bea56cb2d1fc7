-- What `one` prints.
use Rattle.std.specs.Prelude.{◌≡◌, ℕ, List}
use Rattle.scsi_words.specs.declared.phases.kinds.Direction.TheVariants.{In}
use Rattle.rig_types.specs.declared.report.Report.{Report}
use Rattle.report_lines.specs.Lines.{report_part}
use Rattle.one_target.specs.Reporting.{OneReport}

-- the text of a report that fits its unit: unit 0.0, a request that reads
unfoldable pub IsOneText : ℕ → List ℕ → Type 0
IsOneText lba text = (q : Report) × OneReport lba q × (text ≡ report_part 0 0 In q)
