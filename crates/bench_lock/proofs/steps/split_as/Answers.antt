use Rattle.std.proofs.Common.{◌≡◌, ◌∙◌, ℕ, arith, ap, subst, sym, true}
use Rattle.bench_lock.proofs.Keeps.{splits, knows}
use Rattle.bench_lock.specs.Log.{has}
use Rattle.bench_lock.specs.Views.{IsOwn}
use Rattle.bench_lock.proofs.steps.split_as.Goals as goal

pub split_seat-new-requires : goal.split_seat-new-requires
split_seat-new-requires g c = let h = c.requires.lock in (
  h.0,
  (let w : c.args.table.now.table_id.words ≡ 3 = h.1.0 in omega arith),
  splits g.M.Machine.opening g.M.Machine.list _ _ _ g.C.Named.name _ _ c.requires.rests.0 (subst (λ (x : ℕ). has x c.args.seat.now.me.0.spare ≡ true) c.requires.named c.requires.spare),
)

pub load-requires : goal.load-requires
load-requires g c = let h = c.requires.lock in
    (c.split_seat-new.ensures.3 ∙ h.0, (let w : c.args.table.now.table_id.words ≡ 3 = h.1.0 in omega arith), knows g.M.Machine.opening g.M.Machine.list _ _ _ _ _ _)

pub returns-clause-own : goal.returns-clause-own
returns-clause-own g c = let l = c.load.ensures.2 in
    subst (λ m. IsOwn m.0 m.0.seen) (sym l.0) (l.1 (ap (λ m. m.0.live) c.split_seat-new.ensures.4 ∙ c.requires.rests.0.0))
