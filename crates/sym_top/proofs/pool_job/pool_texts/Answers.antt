use Rattle.std.specs.Prelude.{Result}
use Rattle.refusal_lines.specs.declared.refusal.Refusal.{Refusal}
use Rattle.run_files.specs.Shelves.{shelved}
use Rattle.run_jobs.specs.PoolRuns.{Texts}
use Rattle.sym_top.specs.Making.{Passes}
use Rattle.sym_top.specs.RunAsked.{run_asked}
use Rattle.sym_top.specs.Running.{RunYields}
use Rattle.sym_top.proofs.Passing.{handed_on}
use Rattle.sym_top.proofs.RunStages.{run_work_refused, run_made}
use Rattle.sym_top.proofs.pool_job.pool_texts.Goals as goal

pub returns-in_err-work : goal.returns-in_err-work
returns-in_err-work g c =
    let a = run_asked c.args.command in
    let s = shelved (g.F.Shelf.files c.args.shelf.now) (g.F.Shelf.load_faults c.args.shelf.now) (g.F.Shelf.store_faults c.args.shelf.now) in
    let m = shelved (g.F.Shelf.files c.load_rig.new.shelf) (g.F.Shelf.load_faults c.load_rig.new.shelf) (g.F.Shelf.store_faults c.load_rig.new.shelf) in
    let t = shelved (g.F.Shelf.files c.load_work.new.shelf) (g.F.Shelf.load_faults c.load_work.new.shelf) (g.F.Shelf.store_faults c.load_work.new.shelf) in
    let e = c.in_err-work.field-0.0 in
    handed_on (λ (q : Result Texts Refusal). Passes (RunYields a) s t q) c.from_residual-in_err-work.result e c.from_residual-in_err-work.ensures.1
    (run_work_refused a c.in_ok-rig.rig s m t e c.in_ok-rig.ensures.0 c.in_ok-rig.ensures.1 c.in_err-work.ensures)

pub returns : goal.returns
returns g c =
    let s = shelved (g.F.Shelf.files c.args.shelf.now) (g.F.Shelf.load_faults c.args.shelf.now) (g.F.Shelf.store_faults c.args.shelf.now) in
    let m = shelved (g.F.Shelf.files c.load_rig.new.shelf) (g.F.Shelf.load_faults c.load_rig.new.shelf) (g.F.Shelf.store_faults c.load_rig.new.shelf) in
    let t = shelved (g.F.Shelf.files c.load_work.new.shelf) (g.F.Shelf.load_faults c.load_work.new.shelf) (g.F.Shelf.store_faults c.load_work.new.shelf) in
    run_made (run_asked c.args.command) c.in_ok-rig.rig c.in_ok-work.work s m t c.texts_of.result c.in_ok-rig.ensures.0 c.in_ok-rig.ensures.1 c.in_ok-work.ensures.0 c.in_ok-work.ensures.1
    c.texts_of.ensures
