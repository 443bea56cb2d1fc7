use Rattle.std.proofs.Common.{refl, arith}
use Rattle.std.proofs.lemmas.Result.{err_from_is_err_and}
use Rattle.seat_law.specs.Standing.{has_built, has_linked, owes}
use Rattle.bench_pool.proofs.Following.{follows_on}
use Rattle.bench_pool.proofs.LineSteps.{linked, queued, signalled, full_after}
use Rattle.bench_pool.proofs.line_steps.submit.Goals as goal

pub returns-in_err-make-clause-follows : goal.returns-in_err-make-clause-follows
returns-in_err-make-clause-follows g c = follows_on _ _ _ c.build.ensures.follows c.make.ensures.follows

pub returns-in_err-make-clause-fault : goal.returns-in_err-make-clause-fault
returns-in_err-make-clause-fault g c =
    let b = c.in_ok-ticket.ensures.built in
    let x = c.in_err-make.ensures.made b.0.setting b.0.world (has_built c.in_ok-ticket.ticket) b.0.at refl in
    let p = err_from_is_err_and c.from_residual-in_err-make.result c.from_residual-in_err-make.ensures.1 in
    rw (p.1, p.2) (full_after _ _ c.in_ok-ticket.ticket _ _ _ _ 1 _ (omega arith) b.1 x.1)

pub returns-in_err-make-2-clause-follows : goal.returns-in_err-make-2-clause-follows
returns-in_err-make-2-clause-follows g c = follows_on _ _ _ (follows_on _ _ _ c.build.ensures.follows c.make.ensures.follows) c.make-2.ensures.follows

pub returns-in_err-make-2-clause-fault : goal.returns-in_err-make-2-clause-fault
returns-in_err-make-2-clause-fault g c =
    let b = c.in_ok-ticket.ensures.built in
    let l = linked _ _ c.in_ok-ticket.ticket _ _ b (c.in_ok-make.ensures.made b.0.setting b.0.world (has_built c.in_ok-ticket.ticket) b.0.at refl).0 in
    let x = c.in_err-make-2.ensures.made l.0.setting l.0.world (has_linked c.in_ok-ticket.ticket) l.0.at refl in
    let p = err_from_is_err_and c.from_residual-in_err-make-2.result c.from_residual-in_err-make-2.ensures.1 in
    rw (p.1, p.2) (full_after _ _ c.in_ok-ticket.ticket _ _ _ _ 2 _ (omega arith) l.1 x.1)

pub returns-in_err-make-3-clause-follows : goal.returns-in_err-make-3-clause-follows
returns-in_err-make-3-clause-follows g c =
    follows_on _ _ _ (follows_on _ _ _ (follows_on _ _ _ c.build.ensures.follows c.make.ensures.follows) c.make-2.ensures.follows) c.make-3.ensures.follows

pub returns-in_err-make-3-clause-fault : goal.returns-in_err-make-3-clause-fault
returns-in_err-make-3-clause-fault g c =
    let b = c.in_ok-ticket.ensures.built in
    let l = linked _ _ c.in_ok-ticket.ticket _ _ b (c.in_ok-make.ensures.made b.0.setting b.0.world (has_built c.in_ok-ticket.ticket) b.0.at refl).0 in
    let q = queued _ _ c.in_ok-ticket.ticket _ _ l (c.in_ok-make-2.ensures.made l.0.setting l.0.world (has_linked c.in_ok-ticket.ticket) l.0.at refl).0 in
    let x = c.in_err-make-3.ensures.made q.0.setting q.0.world owes q.0.at refl in
    let p = err_from_is_err_and c.from_residual-in_err-make-3.result c.from_residual-in_err-make-3.ensures.1 in
    rw (p.1, p.2) (full_after _ _ c.in_ok-ticket.ticket _ _ _ _ 3 _ (omega arith) q.1 x.1)

pub returns-clause-follows : goal.returns-clause-follows
returns-clause-follows g c =
    follows_on _ _ _ (follows_on _ _ _ (follows_on _ _ _ c.build.ensures.follows c.make.ensures.follows) c.make-2.ensures.follows) c.make-3.ensures.follows

pub returns-clause-ok : goal.returns-clause-ok
returns-clause-ok g c =
    let b = c.in_ok-ticket.ensures.built in
    let l = linked _ _ c.in_ok-ticket.ticket _ _ b (c.in_ok-make.ensures.made b.0.setting b.0.world (has_built c.in_ok-ticket.ticket) b.0.at refl).0 in
    let q = queued _ _ c.in_ok-ticket.ticket _ _ l (c.in_ok-make-2.ensures.made l.0.setting l.0.world (has_linked c.in_ok-ticket.ticket) l.0.at refl).0 in
    signalled _ _ c.in_ok-ticket.ticket _ _ q (c.in_ok-make-3.ensures.made q.0.setting q.0.world owes q.0.at refl).0
