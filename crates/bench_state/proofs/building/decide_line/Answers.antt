use Rattle.bench_state.proofs.NextLines.{there, next_decided}
use Rattle.bench_state.proofs.building.decide_line.Goals as goal

pub returns-clause-decided : goal.returns-clause-decided
returns-clause-decided c =
    next_decided c.args.lines.now.items c.args.submitter c.index_mut.result.now c.decide.new.self c.args.decided
    (there c.args.lines.now.items c.args.submitter c.requires.there) c.index_mut.ensures.value c.decide.ensures.decided
