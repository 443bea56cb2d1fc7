use Rattle.report_text.proofs.BlockImages.{IsShown}
use Rattle.report_text.proofs.text.push_unit.Given as goal

-- with the blocks from here on the text is whole
abbrev pub invariant-loop-block : goal.invariant-loop-block
invariant-loop-block l = IsShown l.bench.world l.unit l.initial.text.items l.block l.text.items
