use Rattle.std.proofs.Common.{ap, ◌∙◌, ◌≡◌, arith}
use Rattle.bench_lock.specs.Views.{compared_view}
use Rattle.bench_lock.proofs.Keeps.{joins, compares}
use Rattle.bench_lock.proofs.SeatSteps.{joins_both, joins_own}
use Rattle.bench_lock.proofs.steps.join_at.Goals as goal

pub join_seat-requires : goal.join_seat-requires
join_seat-requires g c = let h = c.requires.lock in let q = c.requires.rests in (
  h.0,
  h.1,
  q.3,
  (let w : c.args.table.now.table_id.words ≡ 3 = h.2.0 in omega arith),
  joins g.M.Machine.opening g.M.Machine.list _ _ _ _ _ _ _ q.0 q.1,
)

pub load-requires : goal.load-requires
load-requires g c = let h = c.requires.lock in let j = c.join_seat.ensures in
    (j.0 ∙ h.0, (let w : c.args.table.now.table_id.words ≡ 3 = h.2.0 in omega arith), compares g.M.Machine.opening g.M.Machine.list _ _ _ _ _ _)

pub returns-clause-seat : goal.returns-clause-seat
returns-clause-seat g c = let l = c.load.ensures in let j = c.join_seat.ensures in
    ((l.0 ∙ j.0, l.1 ∙ j.1), l.2.0 ∙ (λ i. (compared_view (j.2 i).0, (ap (λ m. m.1) j.2 ∙ c.requires.rests.2) i)))

pub returns-clause-both : goal.returns-clause-both
returns-clause-both g c = let l = c.load.ensures.2 in let j = c.join_seat.ensures in
    joins_both c.args.seat.now.me.0 c.args.other.me.0 c.join_seat.new.seat.me.0 c.load.new.seat.me.0 (ap (λ m. m.0) j.2) (ap (λ m. m.0) l.0) l.1

pub returns-clause-own : goal.returns-clause-own
returns-clause-own g c = let l = c.load.ensures.2 in let j = c.join_seat.ensures in
    joins_own c.args.seat.now.me.0 c.args.other.me.0 c.join_seat.new.seat.me.0 c.load.new.seat.me.0 (ap (λ m. m.0) j.2) (ap (λ m. m.0) l.0) c.requires.rests.0.0 l.2
