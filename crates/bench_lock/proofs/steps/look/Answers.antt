use Rattle.std.proofs.Common.{◌≡◌, arith}
use Rattle.bench_lock.proofs.Keeps.{looks}
use Rattle.bench_lock.proofs.steps.look.Goals as goal

pub load-serving-requires : goal.load-serving-requires
load-serving-requires g c = let h = c.requires.lock in let w = c.requires.waits in (
  h.0,
  (let w : c.args.table.now.table_id.words ≡ 3 = h.1.0 in omega arith),
  looks g.M.Machine.opening g.M.Machine.list _ _ _ _ _ _ w.0 w.1,
)
