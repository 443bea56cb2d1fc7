use Rattle.std.proofs.Common.{◌≡◌, ◌≢◌, ℕ, ◌-◌, inl, inr, arith, ap, sym, subst, ◌∙◌, true}
use mathlib.Core.Logic.{dite}
use native.Mathlib.Decide.{ℕ_discrete}
use Rattle.bench_lock.specs.declared.view.View.{View}
use Rattle.bench_lock.specs.Log.{has}
use Rattle.bench_lock.proofs.OwnedNumbers.{has-numbers_from, all_of_first}
use Rattle.lock_callers.specs.declared.counter.Bounds.{Bounds}
use Rattle.lock_callers.proofs.ServedSteps.{served-on}
use Rattle.lock_callers.proofs.run.Goals as goal

pub from_next-seat-requires-clause-spare : goal.from_next-seat-requires-clause-spare
from_next-seat-requires-clause-spare g c κs within = λ x le lt. subst (λ (w : View Bounds ℕ). has x w.spare ≡ true) (sym c.in_ok-shared.ensures.view) (has-numbers_from x 1 (c.args.callers - 1) le (omega arith))

pub close-requires-clause-all : goal.close-requires-clause-all
close-requires-clause-all g c = λ x lt. all_of_first _ _ _ _ _ c.in_ok-shared.ensures.view c.from_next-seat.ensures.follows x lt

pub returns-clause-served : goal.returns-clause-served
returns-clause-served g c = λ x k within less.
    let first = c.in_ok-shared.ensures.view in
    served-on c.args.counter.bounds _ _ x k c.close.ensures.list (c.from_next-seat.ensures.served c.args.counter.bounds (ap (λ (w : View Bounds ℕ). w.opening) first) x k
    (dite (ℕ_discrete x 0)
    (λ zero. inl (zero ∙ sym (ap (λ (w : View Bounds ℕ). w.caller) first)))
    (λ more. inr (let ne : x ≢ 0 = more in omega arith, within)))
    less)
