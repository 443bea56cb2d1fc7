use Rattle.std.proofs.Common.{◌≡◌, arith}
use Rattle.bench_lock.proofs.Keeps.{counts}
use Rattle.bench_lock.proofs.steps.count.Goals as goal

pub fetch_add-requires : goal.fetch_add-requires
fetch_add-requires g c = let h = c.requires.lock in let t = c.requires.turn in let y = c.requires.held in let es = y.3 in (
  h.0,
  (let w : c.args.table.now.table_id.words ≡ 3 = h.1.0 in omega arith),
  counts g.M.Machine.opening g.M.Machine.list _ _ _ _ _ _ y.0 es.0 _ t.0 t.1 y.1 y.2 es.1 es.2 es.3 es.4,
)
