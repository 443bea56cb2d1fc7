use Rattle.std.proofs.Common.{◌≡◌, ℕ, ◌<◌, ◌∙◌, ⊎_elim, subst, sym, arith}
use Rattle.std.proofs.lemmas.Bool.{cases_lt}
use Rattle.bench_lock.proofs.OwnedNumbers.{Follows-stepped}
use Rattle.lock_callers.specs.Counted.{IsServed}
use Rattle.lock_callers.proofs.ServedSteps.{served-on, seen-on, stepped-served}
use Rattle.lock_callers.proofs.make_steps.Goals as goal

pub loop-k-preserved : goal.loop-k-preserved
loop-k-preserved g c =
    let stepped = c.apply.ensures.stepped.1 in
    let was = c.loop-k.invariant.follows in record {
      lock = c.apply.ensures.lock ∙ c.loop-k.invariant.lock;
      follows = Follows-stepped _ _ _ _ _ _ _ _ _ was stepped;
      served = λ b opens k less. ⊎_elim
          (λ (before : k < c.loop-k.k). served-on b _ _ _ k (seen-on _ _ _ _ _ _ stepped) (c.loop-k.invariant.served b opens k before))
          (λ at.
          let now : k ≡ c.loop-k.k = omega arith in
          subst (λ (x : ℕ). IsServed b c.apply.new.seat.view.seen c.args.seat.view.caller x) (sym now)
          (subst (λ (by : ℕ). IsServed b c.apply.new.seat.view.seen by c.loop-k.k) was.caller (stepped-served _ _ _ _ _ _ stepped b (was.opening ∙ opens))))
          (cases_lt k c.loop-k.k);
    }

pub returns-clause-served : goal.returns-clause-served
returns-clause-served g c = λ b opens k less. c.loop-k.invariant.served b opens k (omega arith)
