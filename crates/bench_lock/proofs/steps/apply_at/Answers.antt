use Rattle.std.proofs.Common.{rules, ap, ◌≡◌, ◌<◌, arith, length, ◌^◌}
use Rattle.bench_lock.proofs.SeatSteps.{tells, adds_up}
use Rattle.bench_lock.proofs.steps.apply_at.Goals as goal

pub returns-clause-stepped : goal.returns-clause-stepped
returns-clause-stepped g c = let t = c.wait_turn.ensures.1 in let s = c.step-reply.ensures.stepped in (
  g.M.Machine.opening t.0,
  tells g.M.Machine.opening g.M.Machine.list g.M.Machine.allows g.M.Machine.records c.args.seat.now.me.0 c.draw-ticket.new.seat.me c.wait_turn.new.seat.me c.step-reply.new.seat.me c.count.new.seat.me c.pass_on.new.seat.me
      _ t.0 s.0 s.1 c.args.caller _ _ _ c.requires.rests.0 c.requires.rests.2 c.draw-ticket.ensures.1 t.1 s.2 c.step-reply.ensures.same.1 s.5 s.6 s.8 (ap (λ m. m.0) (c.count.ensures.1 s.1 s.3)) (ap (λ m. m.0) c.pass_on.ensures.1),
)

pub count-requires-clause-held : goal.count-requires-clause-held
count-requires-clause-held g c = let t = c.wait_turn.ensures.1 in let s = c.step-reply.ensures.stepped in
    let fits : c.step-reply.result.after < 2 ^ 32 = search rules in
    let is : c.step-reply.result.after ≡ length (g.M.Machine.list s.1) = s.8 in (
      s.1,
      s.3,
      omega arith,
      adds_up g.M.Machine.list c.args.seat.now.me.0 c.draw-ticket.new.seat.me c.wait_turn.new.seat.me c.step-reply.new.seat.me
          _ t.0 s.0 s.1 c.args.caller _ _ _ _ c.requires.rests.2 c.draw-ticket.ensures.1 t.1.0 s.2 c.step-reply.ensures.same.1 s.6 s.7 s.8,
    )
