-- The list of the tasks that wait at a unit, and the tickets that are away.
use Rattle.std.proofs.Common.{◌≡◌, ◌≢◌, ℕ, zero, suc, Bool, true, false, List, [], ◌∷◌, refl, ap, sym, ◌∙◌, subst, cond, nat_lt, Some, ◌⊎◌, inl, inr, remove}
use Rattle.std.specs.Prelude.{slice_get}
use Rattle.unit_law.specs.Log.{with_at}
use Rattle.unit_law.proofs.Views.{with_at-same, with_at-other, same_or_not}
use Rattle.target_law.specs.Session.{Task}
use Rattle.target_law.specs.Target.{by_tag}
use Rattle.ticket_fate.specs.Tickets.{Plan, unit_of, Away, Ticket}
use Rattle.ticket_fate.specs.Linked.{HasTaskOf, HasNoTaskOf, IsAwayTask, AwayTasks, WaitingTasks}

away-other : (g : Plan) (n : ℕ) (tickets : ℕ → Ticket) (t : ℕ) (k : Ticket) (x : Task) → x.ticket ≢ t → IsAwayTask g n tickets x → IsAwayTask g n (with_at tickets t k) x
away-other g n tickets t k x d a =
    let e = sym (with_at-other tickets t k x.ticket d) in
    record { unit = a.unit; life = ap (λ z. z.life) (sym e) ∙ a.life; task = ap (λ z. z.task) (sym e) ∙ a.task }

tasks-other : (g : Plan) (n : ℕ) (tickets : ℕ → Ticket) (t : ℕ) (k : Ticket) (xs : List Task) → HasNoTaskOf t xs → AwayTasks g n tickets xs → AwayTasks g n (with_at tickets t k) xs
tasks-other g n tickets t k [] d h = tt
tasks-other g n tickets t k (x ∷ xs) d h = (away-other g n tickets t k x d.0 h.0, h.1, tasks-other g n tickets t k xs d.1 h.2)

pub not-of : (g : Plan) (n : ℕ) (tickets : ℕ → Ticket) (t : ℕ) (xs : List Task) → ((tickets t).life ≡ Away → ⊥) → AwayTasks g n tickets xs → HasNoTaskOf t xs
not-of g n tickets t [] d h = tt
not-of g n tickets t (x ∷ xs) d h = ((λ e. d (ap (λ z. (tickets z).life) (sym e) ∙ h.0.life)), not-of g n tickets t xs d h.2)

away-before : (tickets : ℕ → Ticket) (t : ℕ) (k : Ticket) (x : ℕ) → (k.life ≡ Away → ⊥) → (with_at tickets t k x).life ≡ Away → (x ≡ t) ⊎ (x ≢ t) → (tickets x).life ≡ Away
away-before tickets t k x d e (inl q) = absurd (d (ap (λ z. z.life) (sym (with_at-same tickets t k) ∙ ap (with_at tickets t k) (sym q)) ∙ e))
away-before tickets t k x d e (inr q) = ap (λ z. z.life) (sym (with_at-other tickets t k x q)) ∙ e

-- a ticket that wasn't away, and isn't now
pub lists-other : (g : Plan) (n : ℕ) (tickets : ℕ → Ticket) (t : ℕ) (k : Ticket) (xs : List Task) → ((tickets t).life ≡ Away → ⊥) → (k.life ≡ Away → ⊥) → WaitingTasks g n tickets xs
    → WaitingTasks g n (with_at tickets t k) xs
lists-other g n tickets t k xs d f l = record {
  tasks = tasks-other g n tickets t k xs (not-of g n tickets t xs d l.tasks) l.tasks;
  whole = λ x u e. l.whole x u (away-before tickets t k x f e (same_or_not x t));
}

-- a ticket of another unit
of-other : (g : Plan) (n : ℕ) (tickets : ℕ → Ticket) (t : ℕ) (xs : List Task) → unit_of g t ≢ n → AwayTasks g n tickets xs → HasNoTaskOf t xs
of-other g n tickets t [] d h = tt
of-other g n tickets t (x ∷ xs) d h = ((λ e. d (ap (unit_of g) (sym e) ∙ h.0.unit)), of-other g n tickets t xs d h.2)

pub lists-elsewhere : (g : Plan) (n : ℕ) (tickets : ℕ → Ticket) (t : ℕ) (k : Ticket) (xs : List Task) → unit_of g t ≢ n → WaitingTasks g n tickets xs → WaitingTasks g n (with_at tickets t k) xs
lists-elsewhere g n tickets t k xs d l = record {
  tasks = tasks-other g n tickets t k xs (of-other g n tickets t xs d l.tasks) l.tasks;
  whole = λ x u e.
      let f : x ≢ t = λ q. d (ap (unit_of g) (sym q) ∙ u) in
      l.whole x u (ap (λ z. z.life) (sym (with_at-other tickets t k x f)) ∙ e);
}

-- a task goes among the others by its tag
of-by : (b : Bool) (x : ℕ) (k y : Task) (ys zs : List Task) → HasTaskOf x (k ∷ y ∷ ys) ⊎ HasTaskOf x (y ∷ zs) → (b ≡ true → HasTaskOf x (k ∷ y ∷ ys)) → (b ≡ false → HasTaskOf x (y ∷ zs)) → HasTaskOf x (cond b (k ∷ (y ∷ ys)) (y ∷ zs))
of-by true x k y ys zs s f h = f refl
of-by false x k y ys zs s f h = h refl

of-first : (k : Task) (ys : List Task) → HasTaskOf k.ticket (by_tag k ys)
unfolding by_tag
of-first k [] = inl refl
of-first k (y ∷ ys) = of-by (nat_lt k.tag y.tag) k.ticket k y ys (by_tag k ys) (inl (inl refl)) (λ e. inl refl) (λ e. inr (of-first k ys))

of-rest : (x : ℕ) (k : Task) (ys : List Task) → HasTaskOf x ys → HasTaskOf x (by_tag k ys)
unfolding by_tag
of-rest x k [] h = absurd h
of-rest x k (y ∷ ys) (inl e) = of-by (nat_lt k.tag y.tag) x k y ys (by_tag k ys) (inl (inr (inl e))) (λ z. inr (inl e)) (λ z. inl e)
of-rest x k (y ∷ ys) (inr h) = of-by (nat_lt k.tag y.tag) x k y ys (by_tag k ys) (inl (inr (inr h))) (λ z. inr (inr h)) (λ z. inr (of-rest x k ys h))

not-by : (b : Bool) (x : ℕ) (k y : Task) (ys zs : List Task) → HasNoTaskOf x (k ∷ y ∷ ys) → HasNoTaskOf x (y ∷ zs) → HasNoTaskOf x (cond b (k ∷ (y ∷ ys)) (y ∷ zs))
not-by true x k y ys zs f h = f
not-by false x k y ys zs f h = h

pub not-by_tag : (x : ℕ) (k : Task) (ys : List Task) → (k.ticket ≡ x → ⊥) → HasNoTaskOf x ys → HasNoTaskOf x (by_tag k ys)
unfolding by_tag
not-by_tag x k [] d h = (d, tt)
not-by_tag x k (y ∷ ys) d h = not-by (nat_lt k.tag y.tag) x k y ys (by_tag k ys) (d, h) (h.0, not-by_tag x k ys d h.1)

tasks-by : (b : Bool) (g : Plan) (n : ℕ) (tickets : ℕ → Ticket) (k y : Task) (ys zs : List Task) → AwayTasks g n tickets (k ∷ y ∷ ys) → AwayTasks g n tickets (y ∷ zs) → AwayTasks g n tickets (cond b (k ∷ (y ∷ ys)) (y ∷ zs))
tasks-by true g n tickets k y ys zs f h = f
tasks-by false g n tickets k y ys zs f h = h

pub tasks-by_tag : (g : Plan) (n : ℕ) (tickets : ℕ → Ticket) (k : Task) (ys : List Task) → IsAwayTask g n tickets k → HasNoTaskOf k.ticket ys → AwayTasks g n tickets ys → AwayTasks g n tickets (by_tag k ys)
unfolding by_tag
tasks-by_tag g n tickets k [] a d h = (a, tt, tt)
tasks-by_tag g n tickets k (y ∷ ys) a d h =
    tasks-by (nat_lt k.tag y.tag) g n tickets k y ys (by_tag k ys) (a, d, h) (h.0, not-by_tag y.ticket k ys (λ e. d.0 (sym e)) h.1, tasks-by_tag g n tickets k ys a d.1 h.2)

-- ticket t leaves with task j
pub lists-leave : (g : Plan) (n : ℕ) (tickets : ℕ → Ticket) (t : ℕ) (k : Ticket) (j : Task) (xs : List Task) → j.ticket ≡ t → unit_of g t ≡ n → ((tickets t).life ≡ Away → ⊥) → k.life ≡ Away → k.task ≡ j
    → WaitingTasks g n tickets xs → WaitingTasks g n (with_at tickets t k) (by_tag j xs)
lists-leave g n tickets t k j xs own unit d e same l =
    let no = not-of g n tickets t xs d l.tasks in
    let at : with_at tickets t k j.ticket ≡ k = ap (with_at tickets t k) own ∙ with_at-same tickets t k in
    let a : IsAwayTask g n (with_at tickets t k) j = record { unit = ap (unit_of g) own ∙ unit; life = ap (λ z. z.life) at ∙ e; task = ap (λ z. z.task) at ∙ same } in
    record {
      tasks = tasks-by_tag g n (with_at tickets t k) j xs a (subst (λ z. HasNoTaskOf z xs) (sym own) no) (tasks-other g n tickets t k xs no l.tasks);
      whole = λ x u h. left x u h (same_or_not x t);
    }
  where
    left : (x : ℕ) → unit_of g x ≡ n → (with_at tickets t k x).life ≡ Away → (x ≡ t) ⊎ (x ≢ t) → HasTaskOf x (by_tag j xs)
    left x u h (inl q) = subst (λ z. HasTaskOf z (by_tag j xs)) (own ∙ sym q) (of-first j xs)
    left x u h (inr q) = of-rest x j xs (l.whole x u (ap (λ z. z.life) (sym (with_at-other tickets t k x q)) ∙ h))

-- the m-th of them reselects
not-removed : (x m : ℕ) (xs : List Task) → HasNoTaskOf x xs → HasNoTaskOf x (remove xs m)
not-removed x zero [] h = tt
not-removed x (suc m) [] h = tt
not-removed x zero (y ∷ ys) h = h.1
not-removed x (suc m) (y ∷ ys) h = (h.0, not-removed x m ys h.1)

tasks-removed : (g : Plan) (n : ℕ) (tickets : ℕ → Ticket) (m : ℕ) (xs : List Task) → AwayTasks g n tickets xs → AwayTasks g n tickets (remove xs m)
tasks-removed g n tickets zero [] h = tt
tasks-removed g n tickets (suc m) [] h = tt
tasks-removed g n tickets zero (y ∷ ys) h = h.2
tasks-removed g n tickets (suc m) (y ∷ ys) h = (h.0, not-removed y.ticket m ys h.1, tasks-removed g n tickets m ys h.2)

removed-not : (g : Plan) (n : ℕ) (tickets : ℕ → Ticket) (m : ℕ) (xs : List Task) (j : Task) → AwayTasks g n tickets xs → slice_get xs m ≡ Some j → HasNoTaskOf j.ticket (remove xs m)
removed-not g n tickets m [] j h e = cc
removed-not g n tickets zero (y ∷ ys) j h e = let f : y ≡ j = cc in subst (λ z. HasNoTaskOf z.ticket ys) f h.1
removed-not g n tickets (suc m) (y ∷ ys) j h e = (apart g n tickets m ys j y h.1 h.2 e, removed-not g n tickets m ys j h.2 e)
  where
    apart : (g : Plan) (n : ℕ) (tickets : ℕ → Ticket) (m : ℕ) (ys : List Task) (j y : Task) → HasNoTaskOf y.ticket ys → AwayTasks g n tickets ys → slice_get ys m ≡ Some j → y.ticket ≡ j.ticket → ⊥
    apart g n tickets m [] j y d h e q = cc
    apart g n tickets zero (z ∷ zs) j y d h e q = let f : z ≡ j = cc in d.0 (ap (λ w. w.ticket) f ∙ sym q)
    apart g n tickets (suc m) (z ∷ zs) j y d h e q = apart g n tickets m zs j y d.1 h.2 e q

pub away-at : (g : Plan) (n : ℕ) (tickets : ℕ → Ticket) (m : ℕ) (xs : List Task) (j : Task) → AwayTasks g n tickets xs → slice_get xs m ≡ Some j → IsAwayTask g n tickets j
away-at g n tickets m [] j h e = cc
away-at g n tickets zero (y ∷ ys) j h e = let f : y ≡ j = cc in subst (IsAwayTask g n tickets) f h.0
away-at g n tickets (suc m) (y ∷ ys) j h e = away-at g n tickets m ys j h.2 e

of-removed : (x m : ℕ) (xs : List Task) (j : Task) → slice_get xs m ≡ Some j → x ≢ j.ticket → HasTaskOf x xs → HasTaskOf x (remove xs m)
of-removed x m [] j e d h = absurd h
of-removed x zero (y ∷ ys) j e d (inl q) = let f : y ≡ j = cc in absurd (d (sym q ∙ ap (λ w. w.ticket) f))
of-removed x zero (y ∷ ys) j e d (inr h) = h
of-removed x (suc m) (y ∷ ys) j e d (inl q) = inl q
of-removed x (suc m) (y ∷ ys) j e d (inr h) = inr (of-removed x m ys j e d h)

pub lists-reselect : (g : Plan) (n : ℕ) (tickets : ℕ → Ticket) (k : Ticket) (m : ℕ) (xs : List Task) (j : Task) → slice_get xs m ≡ Some j → (k.life ≡ Away → ⊥) → WaitingTasks g n tickets xs
    → WaitingTasks g n (with_at tickets j.ticket k) (remove xs m)
lists-reselect g n tickets k m xs j e d l = record {
  tasks = tasks-other g n tickets j.ticket k (remove xs m) (removed-not g n tickets m xs j l.tasks e) (tasks-removed g n tickets m xs l.tasks);
  whole = λ x u h. left x u h (same_or_not x j.ticket);
}
  where
    left : (x : ℕ) → unit_of g x ≡ n → (with_at tickets j.ticket k x).life ≡ Away → (x ≡ j.ticket) ⊎ (x ≢ j.ticket) → HasTaskOf x (remove xs m)
    left x u h (inl q) = absurd (d (ap (λ z. z.life) (sym (with_at-same tickets j.ticket k) ∙ ap (with_at tickets j.ticket k) (sym q)) ∙ h))
    left x u h (inr q) = of-removed x m xs j e q (l.whole x u (ap (λ z. z.life) (sym (with_at-other tickets j.ticket k x q)) ∙ h))
