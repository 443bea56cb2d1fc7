use Rattle.std.proofs.Common.{ap, ◌∙◌, ◌≡◌, arith}
use Rattle.bench_lock.specs.Views.{with_ticket}
use Rattle.bench_lock.proofs.Keeps.{draws}
use Rattle.bench_lock.proofs.steps.draw.Goals as goal

pub fetch_add-requires : goal.fetch_add-requires
fetch_add-requires g c = let h = c.requires.lock in (h.0, (let w : c.args.table.now.table_id.words ≡ 3 = h.1.0 in omega arith), draws g.M.Machine.opening g.M.Machine.list _ _ _ _ _ _ c.requires.rests.0)

pub returns : goal.returns
returns g c = let e = c.fetch_add.ensures in ((e.0, e.1), e.2 ∙ ap (λ l. (with_ticket c.fetch_add.result c.args.seat.now.me.0, l)) c.requires.rests.1)
