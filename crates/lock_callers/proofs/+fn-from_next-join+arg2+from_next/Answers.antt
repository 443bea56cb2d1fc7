use Rattle.std.proofs.Common.{rules, ◌≡◌, ◌≢◌, ℕ, ◌+◌, ◌≤◌, ◌<◌, ◌⊎◌, inl, inr, arith, ap, sym, subst, ◌∙◌, true}
use mathlib.Core.Logic.{dite}
use native.Mathlib.Decide.{ℕ_discrete}
use Rattle.bench_lock.specs.declared.view.View.{View}
use Rattle.bench_lock.specs.Log.{has}
use Rattle.bench_lock.specs.Views.{Follows}
use Rattle.bench_lock.proofs.OwnedNumbers.{has-without, Follows-joined}
use Rattle.lock_callers.specs.declared.counter.Bounds.{Bounds}
use Rattle.lock_callers.specs.Counted.{IsServed}
use Rattle.lock_callers.proofs.ServedSteps.{served-on}
use Rattle.lock_callers.proofs.+fn-from_next-join+arg2+from_next.Goals as goal

pub returns-clause-follows : goal.returns-clause-follows
returns-clause-follows g t c =
    let lt : c.args.next < c.args.callers = c.if-next-callers.false in
    let mine = c.requires.spare c.args.next (omega arith) lt in
    let f : View Bounds ℕ = c.args.seat.view in
    subst (λ (w : View Bounds ℕ). Follows f w) (sym c.join.ensures.view.1)
    (Follows-joined c.args.next f c.join-rest.result.0.view c.join-rest.result.1.view mine
    (subst (λ (w : View Bounds ℕ). Follows w c.join-rest.result.0.view) c.split-other.ensures.left.1 c.join-rest.ensures.first.1)
    (subst (λ (w : View Bounds ℕ). Follows w c.join-rest.result.1.view) c.split-other.ensures.right.1 c.join-rest.ensures.second.1))

pub join-rest-requires-after_bounds : goal.join-rest-requires-after_bounds
join-rest-requires-after_bounds g t c κs within =
    let spare : (x : ℕ) → c.args.next + 1 ≤ x → x < c.args.callers → has x c.split-other.new.from.view.spare ≡ true = λ x le lt.
    let ne : x ≢ c.args.next = (λ e. omega arith) in
    subst (λ (w : View Bounds ℕ). has x w.spare ≡ true) (sym c.split-other.ensures.left.1) (has-without c.args.next x c.args.seat.view.spare ne (c.requires.spare x (omega arith) lt)) in
    search rules

pub returns-then-next-callers-clause-served : goal.returns-then-next-callers-clause-served
returns-then-next-callers-clause-served g t c = λ b opens x k whose less. elim whose [
  | inl own ↦ subst (λ (by : ℕ). IsServed b c.make_steps.result.view.seen by k) (sym own) (c.make_steps.ensures.served b opens k less)
  | inr within ↦ absurd (omega arith)
]

pub returns-clause-served : goal.returns-clause-served
returns-clause-served g t c = λ b opens x k whose less.
    let left = c.split-other.ensures.left.1 in
    let right = c.split-other.ensures.right.1 in
    let by_first = λ (is : (x ≡ c.split-other.new.from.view.caller) ⊎ ((c.args.next + 1 ≤ x) × (x < c.args.callers))).
    served-on b _ _ x k c.join.ensures.seen.0 (c.join-rest.ensures.first.2 b (ap (λ (w : View Bounds ℕ). w.opening) left ∙ opens) x k is less) in
    elim whose [
      | inl own ↦ by_first (inl (own ∙ sym (ap (λ (w : View Bounds ℕ). w.caller) left)))
      | inr within ↦ dite (ℕ_discrete x c.args.next)
          (λ next. served-on b _ _ x k c.join.ensures.seen.1
          (subst (λ (by : ℕ). IsServed b c.join-rest.result.1.view.seen by k) (ap (λ (w : View Bounds ℕ). w.caller) right ∙ sym next)
          (c.join-rest.ensures.second.2 b (ap (λ (w : View Bounds ℕ). w.opening) right ∙ opens) k less)))
          (λ later. by_first (inr (let ne : x ≢ c.args.next = later in omega arith, within.1)))
    ]
