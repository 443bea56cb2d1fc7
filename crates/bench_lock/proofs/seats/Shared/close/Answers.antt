use Rattle.std.proofs.Common.{ap}
use Rattle.bench_lock.proofs.Keeps.{closes}
use Rattle.bench_lock.proofs.seats.Shared.close.Goals as goal

pub returns-clause-opening : goal.returns-clause-opening
returns-clause-opening g c = (closes g.M.Machine.opening g.M.Machine.list _ _ _ _ c.last.inside.seat.me.0 _ _ _ (ap (λ h. h.view) c.last.view_is) c.last.invariant.1 c.requires.all c.close_with-closed.ensures.values.2 _ c.take-machine.ensures.value).0

pub returns-clause-list : goal.returns-clause-list
returns-clause-list g c = (closes g.M.Machine.opening g.M.Machine.list _ _ _ _ c.last.inside.seat.me.0 _ _ _ (ap (λ h. h.view) c.last.view_is) c.last.invariant.1 c.requires.all c.close_with-closed.ensures.values.2 _ c.take-machine.ensures.value).1

pub returns-clause-own : goal.returns-clause-own
returns-clause-own g c = (closes g.M.Machine.opening g.M.Machine.list _ _ _ _ c.last.inside.seat.me.0 _ _ _ (ap (λ h. h.view) c.last.view_is) c.last.invariant.1 c.requires.all c.close_with-closed.ensures.values.2 _ c.take-machine.ensures.value).2
