use Rattle.std.proofs.Common.{rules, ◌≡◌, ◌≢◌, ℕ, ◌+◌, ◌≤◌, ◌<◌, ◌⊎◌, inl, inr, arith, ap, sym, subst, ◌∙◌, true}
use mathlib.Core.Logic.{dite}
use native.Mathlib.Decide.{ℕ_discrete}
use Rattle.rig_types.specs.declared.step.Step.{Step}
use Rattle.bench_lock.specs.declared.view.View.{View}
use Rattle.bench_lock.specs.Log.{has}
use Rattle.bench_lock.specs.Views.{Follows}
use Rattle.bench_lock.proofs.OwnedNumbers.{has-without, Follows-joined}
use Rattle.world_law.specs.World.{BenchSetting}
use Rattle.pool_run.specs.Callers.{IsFresh, Finishes}
use Rattle.pool_run.proofs.Openings.{fresh_left, fresh_right}
use Rattle.pool_run.proofs.Endings.{finishes_on, ok_both, err_both, GaveUp, gave_up_on}
use Rattle.pool_run.proofs.pool.+fn-run_from-join+arg2+run_from.Goals as goal

pub join-rest-requires-after_bounds : goal.join-rest-requires-after_bounds
join-rest-requires-after_bounds g t c κs within =
    let left = c.split-other.ensures.left.1 in
    let right = c.split-other.ensures.right.1 in
    let spare : (x : ℕ) → c.args.next + 1 ≤ x → x < c.args.callers → has x c.split-other.new.from.view.spare ≡ true = λ x le lt.
    let ne : x ≢ c.from.result = (λ e. omega (arith, e, c.from.ensures, le)) in
    subst (λ (w : View BenchSetting Step). has x w.spare ≡ true) (sym left) (has-without c.from.result x c.args.seat.view.spare ne (c.requires.spare x (omega (arith, le)) lt)) in
    let fresh : IsFresh c.args.pool.now.choices c.split-other.new.from.view =
    subst (λ (w : View BenchSetting Step). IsFresh c.args.pool.now.choices w) (sym left) (fresh_left _ _ c.requires.fresh c.from.result) in
    let other : IsFresh c.args.pool.now.choices c.split-other.result.view =
    subst (λ (w : View BenchSetting Step). IsFresh c.args.pool.now.choices w) (sym right) (fresh_right _ _ c.requires.fresh c.from.result) in
    let first : c.split-other.new.from.view.caller ≡ 0 = ap (λ (w : View BenchSetting Step). w.caller) left ∙ c.requires.first in
    let second : c.split-other.result.view.caller ≡ c.args.next = ap (λ (w : View BenchSetting Step). w.caller) right ∙ c.from.ensures in
    search rules

pub returns-clause-follows : goal.returns-clause-follows
returns-clause-follows g t c =
    let lt : c.args.next < c.args.callers = c.if-next-callers.false in
    let mine : has c.from.result c.args.seat.view.spare ≡ true =
    subst (λ (n : ℕ). has n c.args.seat.view.spare ≡ true) (sym c.from.ensures) (c.requires.spare c.args.next (omega arith) lt) in
    let f : View BenchSetting Step = c.args.seat.view in
    subst (λ (w : View BenchSetting Step). Follows f w) (sym c.join.ensures.view.1)
    (Follows-joined c.from.result f c.join-rest.result.0.0.view c.join-rest.result.1.0.view mine
    (subst (λ (w : View BenchSetting Step). Follows w c.join-rest.result.0.0.view) c.split-other.ensures.left.1 c.join-rest.ensures.first.1.0)
    (subst (λ (w : View BenchSetting Step). Follows w c.join-rest.result.1.0.view) c.split-other.ensures.right.1 c.join-rest.ensures.second.1.0))

pub returns-clause-ok : goal.returns-clause-ok
returns-clause-ok g t c =
    let left = ap (λ (w : View BenchSetting Step). w.opening) c.split-other.ensures.left.1 in
    let right = ap (λ (w : View BenchSetting Step). w.opening) c.split-other.ensures.right.1 in
    ok_both _ _ _ c.both.ensures.ok c.join-rest.ensures.first.1.1.0 c.join-rest.ensures.second.1.1.0 (λ p q. λ o opens x whose.
    let by_first = λ (is : (x ≡ 0) ⊎ ((c.args.next + 1 ≤ x) × (x < c.args.callers))). finishes_on o x _ _ c.join.ensures.seen.0 (p o (left ∙ opens) x is) in
    elim whose [
      | inl own ↦ by_first (inl own)
      | inr within ↦ dite (ℕ_discrete x c.args.next)
          (λ next. subst (λ (y : ℕ). Finishes o y c.join.new.into.view.seen) (sym next) (finishes_on o c.args.next _ _ c.join.ensures.seen.1 (q o (right ∙ opens))))
          (λ later. by_first (inr (let ne : x ≢ c.args.next = later in omega arith, within.1)))
    ])

pub returns-clause-fault : goal.returns-clause-fault
returns-clause-fault g t c =
    let left = ap (λ (w : View BenchSetting Step). w.opening) c.split-other.ensures.left.1 in
    let right = ap (λ (w : View BenchSetting Step). w.opening) c.split-other.ensures.right.1 in
    err_both (GaveUp c.args.seat.view c.join.new.into.view) c.both.result c.join-rest.result.0.1 c.join-rest.result.1.1 c.both.ensures.fault
    (gave_up_on c.split-other.new.from.view c.args.seat.view c.join-rest.result.0.0.view c.join.new.into.view c.join-rest.result.0.1 left c.join.ensures.seen.0 c.join-rest.ensures.first.1.1.1)
    (gave_up_on c.split-other.result.view c.args.seat.view c.join-rest.result.1.0.view c.join.new.into.view c.join-rest.result.1.1 right c.join.ensures.seen.1 c.join-rest.ensures.second.1.1.1)
