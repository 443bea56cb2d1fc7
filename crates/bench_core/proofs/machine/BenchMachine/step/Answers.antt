use Rattle.bench_core.proofs.AsMachine.{allows}
use Rattle.bench_core.proofs.machine.BenchMachine.step.Goals as goal

pub returns-clause-reply : goal.returns-clause-reply
returns-clause-reply c = allows _ _ _ c.step.new.self.world _ _ _ c.list_is_lawful.ensures.lawful c.step.ensures.answers
