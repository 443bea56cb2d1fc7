use Rattle.run_files.specs.Shelves.{shelved}
use Rattle.sym_top.specs.Calls.{sunk}
use Rattle.sym_top.specs.RunAsked.{run_asked}
use Rattle.sym_top.proofs.RunFinishing.{finish_run_runs}
use Rattle.sym_top.proofs.top.run_command.Goals as goal

pub returns : goal.returns
returns g c =
    let s = shelved (g.F.Shelf.files c.args.shelf.now) (g.F.Shelf.load_faults c.args.shelf.now) (g.F.Shelf.store_faults c.args.shelf.now) in
    let m = shelved (g.F.Shelf.files c.pool_texts.new.shelf) (g.F.Shelf.load_faults c.pool_texts.new.shelf) (g.F.Shelf.store_faults c.pool_texts.new.shelf) in
    let t = shelved (g.F.Shelf.files c.finish_run.new.shelf) (g.F.Shelf.load_faults c.finish_run.new.shelf) (g.F.Shelf.store_faults c.finish_run.new.shelf) in
    finish_run_runs (run_asked c.args.command) s m t (sunk (g.O.Sink.written c.args.out.now) (g.O.Sink.faults c.args.out.now))
    (sunk (g.O.Sink.written c.finish_run.new.out) (g.O.Sink.faults c.finish_run.new.out)) c.in_ok-texts.texts c.finish_run.result c.in_ok-texts.ensures.0 c.in_ok-texts.ensures.1 c.finish_run.ensures
