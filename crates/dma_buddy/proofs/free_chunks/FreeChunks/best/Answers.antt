use Rattle.std.proofs.Common.{◌≡◌, ℕ, ◌<◌, true, false, get_or, arith, rules}
use Rattle.dma_buddy.proofs.SizeFlags.{none-for}
use Rattle.dma_buddy.proofs.Places.{index-fits, product-fits, sum-fits, best-at}
use Rattle.dma_buddy.proofs.free_chunks.FreeChunks.best.Goals as goal

pub overflow_cast-result : goal.overflow_cast-result
overflow_cast-result c =
    let hit : (get_or c.index-set.result.now c.in-Some.index false ≡ true) × ((j : ℕ) → j < c.in-Some.index → get_or c.index-set.result.now j false ≡ false) = c.in-Some.ensures in
    omega (arith, index-fits c.self.inside.base c.self.inside.units c.self.inside.sets.items c.self.invariant c.loop-order.order c.in-Some.index (omega arith) c.index-set.result.now (search rules) hit.0)

pub overflow_mul-result : goal.overflow_mul-result
overflow_mul-result c =
    let hit : (get_or c.index-set.result.now c.in-Some.index false ≡ true) × ((j : ℕ) → j < c.in-Some.index → get_or c.index-set.result.now j false ≡ false) = c.in-Some.ensures in
    omega (arith, product-fits c.self.inside.base c.self.inside.units c.self.inside.sets.items c.self.invariant c.loop-order.order c.in-Some.index (omega arith) c.index-set.result.now (search rules) hit.0)

pub overflow_add-result : goal.overflow_add-result
overflow_add-result c =
    let hit : (get_or c.index-set.result.now c.in-Some.index false ≡ true) × ((j : ℕ) → j < c.in-Some.index → get_or c.index-set.result.now j false ≡ false) = c.in-Some.ensures in
    omega (arith, sum-fits c.self.inside.base c.self.inside.units c.self.inside.sets.items c.self.invariant c.loop-order.order c.in-Some.index (omega arith) c.index-set.result.now (search rules) hit.0)

pub returns-in-Some : goal.returns-in-Some
returns-in-Some c =
    let hit : (get_or c.index-set.result.now c.in-Some.index false ≡ true) × ((j : ℕ) → j < c.in-Some.index → get_or c.index-set.result.now j false ≡ false) = c.in-Some.ensures in
    rw (← c.self.view_is)
    (best-at c.self.inside.base c.self.inside.units c.self.inside.sets.items c.self.invariant c.loop-order.order c.in-Some.index (omega arith) c.index-set.result.now (search rules) hit.0 c.args.len c.order_for-first.result c.order_for-first.ensures.size (omega arith) c.loop-order.invariant hit.1)

pub returns : goal.returns
returns c =
    rw (← c.self.view_is)
    (none-for c.self.inside.base c.self.inside.units c.self.inside.sets.items c.self.invariant c.args.len c.order_for-first.result c.order_for-first.ensures.size
    (λ k from below. c.loop-order.invariant k from (omega (arith, below))))
