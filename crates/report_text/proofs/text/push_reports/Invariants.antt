use Rattle.std.proofs.Common.{◌≡◌, ◌++◌, drop}
use Rattle.std.specs.List.{flat_map}
use Rattle.report_text.specs.Text.{report_at}
use Rattle.report_text.proofs.text.push_reports.Given as goal

-- with the reports from here on the text is whole
abbrev pub invariant-loop-report : goal.invariant-loop-report
invariant-loop-report l =
    l.text.items ++ flat_map (report_at l.bench.world) (drop l.report-index l.bench.world.reports)
    ≡ l.initial.text.items ++ flat_map (report_at l.bench.world) l.bench.world.reports
