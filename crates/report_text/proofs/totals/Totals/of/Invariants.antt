use Rattle.std.proofs.Common.{◌≡◌, ◌+◌, length, take}
use Rattle.report_text.specs.Text.{count_of, is_broken, is_cut, is_done, is_no_target, is_reset}
use Rattle.report_text.proofs.totals.Totals.of.Given as goal

abbrev pub invariant-loop-report : goal.invariant-loop-report
invariant-loop-report l = record {
  reports : l.totals.reports ≡ length l.reports;
  done : l.totals.done ≡ count_of is_done (take l.report-index l.reports);
  cut : l.totals.cut ≡ count_of is_cut (take l.report-index l.reports);
  reset : l.totals.reset ≡ count_of is_reset (take l.report-index l.reports);
  no_target : l.totals.no_target ≡ count_of is_no_target (take l.report-index l.reports);
  broken : l.totals.broken ≡ count_of is_broken (take l.report-index l.reports);
  sum : l.totals.done + l.totals.cut + l.totals.reset + l.totals.no_target + l.totals.broken ≡ l.report-index;
}
