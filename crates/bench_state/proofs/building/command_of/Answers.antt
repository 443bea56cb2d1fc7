use Rattle.bench_state.proofs.NextLines.{command_there}
use Rattle.bench_state.proofs.building.command_of.Goals as goal

-- src/building.rt
pub returns : goal.returns
returns c =
    command_there c.args.work.now.submitters _ c.args.line.submitter c.args.line.number _ _ _ c.requires c.as_slice.ensures c.index-as_slice-line.is
    c.as_slice-2.ensures c.index-as_slice-line-2.is
