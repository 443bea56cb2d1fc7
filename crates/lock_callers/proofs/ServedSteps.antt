-- A step that is in the list, or is left out, or has no room in it, stays so as the list grows.
use Rattle.std.proofs.Common.{◌≡◌, ℕ, ◌+◌, inl, inr, List, [], ◌∷◌, ◌++◌, length, Option, Some, None, sym, ap, ◌∙◌, subst, append_assoc, append-nil, length-append, arith, refl, Bool, true, false, not, ltb-true}
use Rattle.std.proofs.lemmas.List.Sums.{sum_by-append}
use Rattle.bench_lock.specs.declared.view.View.{View}
use Rattle.bench_lock.specs.Log.{added, entry, Begins}
use Rattle.bench_lock.specs.Stepped.{Stepped}
use Rattle.bench_lock.specs.Views.{Follows}
use Rattle.bench_lock.proofs.OwnedNumbers.{Follows-stepped}
use Rattle.lock_callers.specs.Counted.{Allowed, is_left_out, is_recorded, IsFull, IsEntry, IsServed, sum_of}
use Rattle.lock_callers.specs.declared.counter.Bounds.{Bounds}

full-on : (b : Bounds) (es fs : List (ℕ × ℕ)) (x : ℕ) → Begins es fs → IsFull b es x → IsFull b fs x
full-on b es fs x on full =
    let sums : sum_of fs ≡ sum_of es + sum_of on.0 = ap sum_of on.1 ∙ sum_by-append (λ (e : ℕ × ℕ). e.1) es on.0 in
    let lengths : length fs ≡ length es + length on.0 = ap length on.1 ∙ length-append es on.0 in
    elim full [ inl over ↦ inl (omega (arith, sums, over)) | inr most ↦ inr (omega (arith, lengths, most)) ]

entry-on : (es fs : List (ℕ × ℕ)) (by x : ℕ) → Begins es fs → IsEntry es by x → IsEntry fs by x
entry-on es fs by x on (before, after, is) = (before, after ++ on.0, on.1 ∙ (ap (λ (l : List (ℕ × ℕ)). l ++ on.0) is ∙ append_assoc before (entry by x ∷ after) on.0))

pub served-on : (b : Bounds) (es fs : List (ℕ × ℕ)) (by x : ℕ) → Begins es fs → IsServed b es by x → IsServed b fs by x
served-on b es fs by x on (inl is) = inl (entry-on es fs by x on is)
served-on b es fs by x on (inr (inl small)) = inr (inl small)
served-on b es fs by x on (inr (inr full)) = inr (inr (full-on b es fs x on full))

replied-served : (b : Bounds) (es : List (ℕ × ℕ)) (by x : ℕ) (out : Bool) → is_left_out b x ≡ out → IsServed b (added es (not out) (entry by x)) by x
replied-served b es by x true is = inr (inl (ltb-true x b.least is))
replied-served b es by x false is = inl (es, [], sym (append-nil (es ++ entry by x ∷ [])) ∙ append_assoc es (entry by x ∷ []) [])

added-served : (b : Bounds) (es : List (ℕ × ℕ)) (by x : ℕ) (reply : Option ℕ) → Allowed b es by x reply → IsServed b (added es (is_recorded b x reply) (entry by x)) by x
added-served b es by x None full = inr (inr full.1)
added-served b es by x (Some n) fits = replied-served b es by x (is_left_out b x) refl

follows-same : (v : View Bounds ℕ) → Follows v v
follows-same v = record { opening = λ i. v.opening; callers = λ i. v.callers; caller = λ i. v.caller; seen = ([], sym (append-nil v.seen)); owns = λ x h. h }

module _ (o : Bounds) (v w : View Bounds ℕ) (x : ℕ) (reply : Option ℕ) (front : ℕ) (s : Stepped Allowed is_recorded o v w x reply front) where
  -- the seat has seen no less after its step
  pub seen-on : Begins v.seen w.seen
  seen-on = (Follows-stepped Allowed is_recorded o v v w x reply front (follows-same v) s).seen

  pub stepped-served : (b : Bounds) → v.opening ≡ Some b → IsServed b w.seen v.caller x
  stepped-served b opens =
      let both : Some o ≡ Some b = sym s.opening_is ∙ opens in
      let same : o ≡ b = cc in
      subst (λ (a : Bounds). IsServed a w.seen v.caller x) same (subst (λ (es : List (ℕ × ℕ)). IsServed o es v.caller x) (sym s.seen_is) (added-served o s.before v.caller x reply s.allowed))
