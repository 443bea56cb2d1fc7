-- A seat's own entries in longer and shorter lists, and what stands behind the list that it has seen.
use Rattle.std.proofs.Common.{◌≡◌, ℕ, suc, ◌+◌, ◌≤◌, eqb, List, [], ◌∷◌, ◌++◌, length, drop, Bool, true, false, cond, ltb, ltb-true, refl, sym, ap, ◌∙◌, subst, arith, append-nil, append_assoc, length-append}
use Rattle.std.proofs.lemmas.List.{drop-append-le, append_cancel_left}
use Rattle.std.proofs.lemmas.List.Elements.{filter-append}
use Rattle.bench_lock.specs.declared.view.View.{View}
use Rattle.bench_lock.specs.Log.{entry, added, entries_of, Begins}
use Rattle.bench_lock.specs.Stepped.{StepsAfterOthers}
use Rattle.bench_lock.specs.Views.{IsOwn, OthersSince, longer}
use Rattle.bench_lock.proofs.Numbers.{prefix_of}

nil_left : {E : Type 0} → (xs ys : List E) → xs ++ ys ≡ [] → xs ≡ []
nil_left [] ys e = refl
nil_left (x ∷ xs) ys e = absurd (let l : suc (length (xs ++ ys)) ≡ 0 = ap length e in omega arith)

module _ {T : Type 0} where
  entries_on : (by base : ℕ) (es rest log : List (ℕ × T)) → base ≤ length es → log ≡ es ++ rest → entries_of by (drop base log) ≡ entries_of by (drop base es) ++ entries_of by rest
  entries_on by base es rest log le is = ap (λ (l : List (ℕ × T)). entries_of by (drop base l)) is ∙ (ap (entries_of by) (drop-append-le base es rest le) ∙ filter-append (λ (e : ℕ × T). eqb e.0 by) (drop base es) rest)

  -- where es has all entries of the caller, no entry behind es is the caller's
  none_behind : (by base : ℕ) (es rest log : List (ℕ × T)) → base ≤ length es → log ≡ es ++ rest → entries_of by (drop base log) ≡ entries_of by (drop base es) → entries_of by rest ≡ []
  none_behind by base es rest log le is same =
      append_cancel_left (entries_of by (drop base es)) (entries_of by rest) [] (sym (entries_on by base es rest log le is) ∙ (same ∙ sym (append-nil (entries_of by (drop base es)))))

  pub none_before : (by base : ℕ) (es log : List (ℕ × T)) → base ≤ length es → Begins es log → entries_of by (drop base log) ≡ [] → entries_of by (drop base es) ≡ []
  none_before by base es log le on none = nil_left (entries_of by (drop base es)) (entries_of by on.0) (sym (entries_on by base es on.0 log le on.1) ∙ none)

module _ {O T : Type 0} where
  -- a view's length at opening is that of the rule
  pub own_from : (w : View O T) (base : ℕ) (log : List (ℕ × T)) → w.base ≡ base → IsOwn w log → w.own ≡ entries_of w.caller (drop base log)
  own_from w base log is own = own.1 ∙ ap (λ (n : ℕ). entries_of w.caller (drop n log)) is

  pub own_to : (w : View O T) (base : ℕ) (log : List (ℕ × T)) → w.base ≡ base → base ≤ length log → w.own ≡ entries_of w.caller (drop base log) → IsOwn w log
  own_to w base log is begun own = (subst (λ (n : ℕ). n ≤ length log) (sym is) begun, own ∙ ap (λ (n : ℕ). entries_of w.caller (drop n log)) (sym is))

  pub others_since : (v : View O T) (es : List (ℕ × T)) → IsOwn v v.seen → IsOwn v es → Begins v.seen es → OthersSince v es
  others_since v es seen own on = (on.0, on.1, none_behind v.caller v.base v.seen on.0 es seen.0 on.1 (sym own.1 ∙ seen.1))

  -- a list between two whose entries of the caller are the seat's own
  own_between : (v : View O T) (es log : List (ℕ × T)) → IsOwn v v.seen → IsOwn v log → Begins v.seen es → Begins es log → IsOwn v es
  own_between v es log seen own up on =
      let whole : log ≡ v.seen ++ (up.0 ++ on.0) = on.1 ∙ (ap (λ (l : List (ℕ × T)). l ++ on.0) up.1 ∙ append_assoc v.seen up.0 on.0) in
      let behind : entries_of v.caller (up.0 ++ on.0) ≡ [] = none_behind v.caller v.base v.seen (up.0 ++ on.0) log seen.0 whole (sym own.1 ∙ seen.1) in
      let between : entries_of v.caller up.0 ≡ [] = nil_left (entries_of v.caller up.0) (entries_of v.caller on.0) (sym (filter-append (λ (e : ℕ × T). eqb e.0 v.caller) up.0 on.0) ∙ behind) in
      let mine : List (ℕ × T) = entries_of v.caller (drop v.base v.seen) in
      let long : length es ≡ length v.seen + length up.0 = ap length up.1 ∙ length-append v.seen up.0 in
      ((let le = seen.0 in omega arith), seen.1 ∙ (sym (append-nil mine) ∙ (ap (λ (l : List (ℕ × T)). mine ++ l) (sym between) ∙ sym (entries_on v.caller v.base v.seen up.0 es seen.0 up.1))))

  own_longer_at : (v : View O T) (ws log : List (ℕ × T)) → IsOwn v v.seen → IsOwn v log → Begins v.seen log → Begins ws log → (b : Bool) → ltb (length v.seen) (length ws) ≡ b → IsOwn v (cond b ws v.seen)
  own_longer_at v ws log seen own mine its true is =
      let lt = ltb-true (length v.seen) (length ws) is in own_between v ws log seen own (prefix_of v.seen ws mine.0 its.0 (sym mine.1 ∙ its.1) (omega arith)) its
  own_longer_at v ws log seen own mine its false is = seen

  pub own_longer : (v : View O T) (ws log : List (ℕ × T)) → IsOwn v v.seen → IsOwn v log → Begins v.seen log → Begins ws log → IsOwn v (longer v.seen ws)
  own_longer v ws log seen own mine its = own_longer_at v ws log seen own mine its (ltb (length v.seen) (length ws)) refl

module _ {O T Y : Type 0} (allows : O → List (ℕ × T) → ℕ → T → Y → Type 0) (records : O → T → Y → Bool) where
  pub after_others : StepsAfterOthers allows records
  after_others o v w step reply front s = (
    s.others.0,
    s.others.2,
    subst (λ (es : List (ℕ × T)). allows o es v.caller step reply) s.others.1 s.allowed,
    s.seen_is ∙ ap (λ (es : List (ℕ × T)). added es (records o step reply) (entry v.caller step)) s.others.1,
  )
