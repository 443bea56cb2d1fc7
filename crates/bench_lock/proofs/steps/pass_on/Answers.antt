use Rattle.std.proofs.Common.{◌≡◌, arith}
use Rattle.bench_lock.proofs.Keeps.{passes}
use Rattle.bench_lock.proofs.steps.pass_on.Goals as goal

pub fetch_add-requires : goal.fetch_add-requires
fetch_add-requires g c = let h = c.requires.lock in let y = c.requires.held in (
  h.0,
  (let w : c.args.table.now.table_id.words ≡ 3 = h.1.0 in omega arith),
  passes g.M.Machine.opening g.M.Machine.list _ _ _ _ _ _ y.0 c.requires.turn y.1 y.2 y.3,
)
