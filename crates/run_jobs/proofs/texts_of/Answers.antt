use Rattle.run_jobs.proofs.Histories.{has_texts}
use Rattle.run_jobs.proofs.texts_of.Goals as goal

pub returns : goal.returns
returns c =
    has_texts c.args.bench.now.setting c.args.bench.now.entries c.args.bench.now.world c.list_is_lawful.ensures.lawful c.list_is_lawful.ensures.within _ c.requires c.in_ok-trace.ensures c.in_ok-report.ensures
