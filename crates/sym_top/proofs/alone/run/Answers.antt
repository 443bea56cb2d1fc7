use Rattle.run_files.specs.Shelves.{shelved}
use Rattle.sym_top.specs.Asked.{asked}
use Rattle.sym_top.specs.Calls.{sunk}
use Rattle.sym_top.proofs.Finishing.{finish_runs}
use Rattle.sym_top.proofs.alone.run.Goals as goal

pub returns-clause-runs : goal.returns-clause-runs
returns-clause-runs g c =
    let s = shelved (g.F.Shelf.files c.args.shelf.now) (g.F.Shelf.load_faults c.args.shelf.now) (g.F.Shelf.store_faults c.args.shelf.now) in
    let m = shelved (g.F.Shelf.files c.job_of.new.shelf) (g.F.Shelf.load_faults c.job_of.new.shelf) (g.F.Shelf.store_faults c.job_of.new.shelf) in
    let t = shelved (g.F.Shelf.files c.finish.new.shelf) (g.F.Shelf.load_faults c.finish.new.shelf) (g.F.Shelf.store_faults c.finish.new.shelf) in
    finish_runs (asked c.args.command) s m t (sunk (g.O.Sink.written c.args.out.now) (g.O.Sink.faults c.args.out.now)) (sunk (g.O.Sink.written c.finish.new.out) (g.O.Sink.faults c.finish.new.out)) c.in_ok-job.job
    c.finish.result c.in_ok-job.ensures.prepares.0 c.in_ok-job.ensures.prepares.1 c.finish.ensures.finishes
