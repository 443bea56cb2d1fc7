use Rattle.bench_pool.proofs.aborter.abort_worker.Goals as goal

pub returns-in-Err-clause-fault : goal.returns-in-Err-clause-fault
returns-in-Err-clause-fault g c = (c.ended.ensures _ c.in-Err.ensures.end).1
