use Rattle.std.proofs.Common.{◌≡◌, ◌++◌, drop}
use Rattle.report_text.specs.Text.{work_from}
use Rattle.report_text.proofs.text.push_work.Given as goal

-- with the submitters from here on the text is whole
abbrev pub invariant-loop-submitter : goal.invariant-loop-submitter
invariant-loop-submitter l =
    l.text.items ++ work_from l.submitter (drop l.submitter l.bench.world.lines) ≡ l.initial.text.items ++ work_from 0 l.bench.world.lines
