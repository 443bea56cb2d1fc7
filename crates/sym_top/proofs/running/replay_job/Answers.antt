use Rattle.std.proofs.Common.{List, Result, subst}
use Rattle.trace_text.specs.declared.types.TraceLine.{TraceLine}
use Rattle.bench_state.specs.States.{setting_of}
use Rattle.refusal_lines.specs.declared.refusal.Refusal.{Refusal}
use Rattle.run_files.specs.Shelves.{shelved}
use Rattle.sym_top.specs.CommandLine.{replay}
use Rattle.sym_top.specs.Jobs.{Job, ReplayYields}
use Rattle.sym_top.specs.Making.{Prepares}
use Rattle.sym_top.proofs.Passing.{handed_on}
use Rattle.sym_top.proofs.CommandStages.{replay_work_refused, replay_trace_refused, replay_made}
use Rattle.sym_top.proofs.running.replay_job.Goals as goal

pub returns-in_err-work : goal.returns-in_err-work
returns-in_err-work g c =
    let s = shelved (g.F.Shelf.files c.args.shelf.now) (g.F.Shelf.load_faults c.args.shelf.now) (g.F.Shelf.store_faults c.args.shelf.now) in
    let m = shelved (g.F.Shelf.files c.load_rig.new.shelf) (g.F.Shelf.load_faults c.load_rig.new.shelf) (g.F.Shelf.store_faults c.load_rig.new.shelf) in
    let t = shelved (g.F.Shelf.files c.load_work.new.shelf) (g.F.Shelf.load_faults c.load_work.new.shelf) (g.F.Shelf.store_faults c.load_work.new.shelf) in
    let e = c.in_err-work.field-0.0 in
    handed_on (λ (q : Result Job Refusal). Prepares (replay c.args.rig.now c.args.work.now c.args.trace.now) s t q) c.from_residual-in_err-work.result e c.from_residual-in_err-work.ensures.1
    (replay_work_refused c.args.rig.now c.args.work.now c.args.trace.now c.in_ok-rig.rig s m t e c.in_ok-rig.ensures.0 c.in_ok-rig.ensures.1 c.in_err-work.ensures)

pub returns-in_err-lines : goal.returns-in_err-lines
returns-in_err-lines g c =
    let s = shelved (g.F.Shelf.files c.args.shelf.now) (g.F.Shelf.load_faults c.args.shelf.now) (g.F.Shelf.store_faults c.args.shelf.now) in
    let m = shelved (g.F.Shelf.files c.load_rig.new.shelf) (g.F.Shelf.load_faults c.load_rig.new.shelf) (g.F.Shelf.store_faults c.load_rig.new.shelf) in
    let n = shelved (g.F.Shelf.files c.load_work.new.shelf) (g.F.Shelf.load_faults c.load_work.new.shelf) (g.F.Shelf.store_faults c.load_work.new.shelf) in
    let t = shelved (g.F.Shelf.files c.load_trace.new.shelf) (g.F.Shelf.load_faults c.load_trace.new.shelf) (g.F.Shelf.store_faults c.load_trace.new.shelf) in
    let e = c.in_err-lines.field-0.0 in
    handed_on (λ (q : Result Job Refusal). Prepares (replay c.args.rig.now c.args.work.now c.args.trace.now) s t q) c.from_residual-in_err-lines.result e c.from_residual-in_err-lines.ensures.1
    (replay_trace_refused c.args.rig.now c.args.work.now c.args.trace.now c.in_ok-rig.rig c.in_ok-work.work s m n t e c.in_ok-rig.ensures.0 c.in_ok-rig.ensures.1 c.in_ok-work.ensures.0
    c.in_ok-work.ensures.1 c.in_err-lines.ensures)

pub returns : goal.returns
returns g c =
    let s = shelved (g.F.Shelf.files c.args.shelf.now) (g.F.Shelf.load_faults c.args.shelf.now) (g.F.Shelf.store_faults c.args.shelf.now) in
    let m = shelved (g.F.Shelf.files c.load_rig.new.shelf) (g.F.Shelf.load_faults c.load_rig.new.shelf) (g.F.Shelf.store_faults c.load_rig.new.shelf) in
    let n = shelved (g.F.Shelf.files c.load_work.new.shelf) (g.F.Shelf.load_faults c.load_work.new.shelf) (g.F.Shelf.store_faults c.load_work.new.shelf) in
    let t = shelved (g.F.Shelf.files c.load_trace.new.shelf) (g.F.Shelf.load_faults c.load_trace.new.shelf) (g.F.Shelf.store_faults c.load_trace.new.shelf) in
    replay_made c.args.rig.now c.args.work.now c.args.trace.now c.in_ok-rig.rig c.in_ok-work.work c.in_ok-lines.lines s m n t c.lines_job.result c.in_ok-rig.ensures.0 c.in_ok-rig.ensures.1
    c.in_ok-work.ensures.0 c.in_ok-work.ensures.1 c.in_ok-lines.ensures.0 c.in_ok-lines.ensures.1
    (subst (λ (ls : List TraceLine). ReplayYields (setting_of c.in_ok-rig.rig c.in_ok-work.work) ls c.lines_job.result) c.as_slice.ensures c.lines_job.ensures)
