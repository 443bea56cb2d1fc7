-- A submitter that tries to enter and to queue the ticket of its last line alone makes the step that it would make by its least tickets.
use Rattle.std.proofs.Common.{arith, ◌≡◌, ◌<◌, ◌+◌, ◌==◌, ◌&&◌, Bool, true, false, ℕ, List, [], ◌∷◌, ◌++◌, length, position, Option, Some, None, refl, sym, ap, subst, inl, inr}
use Rattle.std.proofs.lemmas.Bool.{and_parts}
use Rattle.std.proofs.lemmas.Bool.Decides.{nat_tests}
use Rattle.rig_types.specs.declared.step.Entry.{Entry}
use Rattle.rig_types.specs.declared.step.Step.{Step}
use Rattle.rig_types.specs.declared.step.Step.TheVariants as step
use Rattle.desk_law.specs.declared.stage.Stage.{Stage}
use Rattle.desk_law.specs.declared.stage.Stage.TheVariants as stage
use Rattle.desk_law.specs.declared.ticket.Ticket.{Ticket}
use Rattle.desk_law.specs.Desk.{no_ticket, ticket}
use Rattle.world_law.specs.World.{BenchSetting, World, lines_of}
use Rattle.world_law.specs.Lines.{is_unqueued}
use Rattle.world_law.specs.Enabling.{Enabled, MayQueue}
use Rattle.world_law.specs.Laws.{IsHeldBy}
use Rattle.run_law.specs.Serial.{is_built, is_linked, step_of, own_least, tries_submitter, IsFirst}
use Rattle.bench_core.specs.Histories.{IsReplayed}
use Rattle.bench_state.specs.LastLines.{accepted_as, last_ticket}
use Rattle.serial_run.specs.Histories.{tries_last}
use Rattle.bench_state.proofs.LeastPassing.{least_at, least_none, passes_within}
use Rattle.bench_core.proofs.Held.{last_held}

-- ---- along the tries

tail-same : (g : BenchSetting) (w : World) (s : ℕ) (xs ss others : List Step) → ((r : Option Step) → IsFirst g w s ss r → IsFirst g w s others r) → (r : Option Step) → IsFirst g w s (xs ++ ss) r
    → IsFirst g w s (xs ++ others) r
tail-same g w s [] ss others f r h = f r h
tail-same g w s (x ∷ xs) ss others f r (inl h) = inl h
tail-same g w s (x ∷ xs) ss others f r (inr h) = inr (h.0, tail-same g w s xs ss others f r h.1)

-- A step that may be made exactly of the tickets that pass a test. Only this ticket can pass.
record IsOnly (g : BenchSetting) (w : World) (s : ℕ) (make : ℕ → Step) (p : Ticket → Bool) (last : Option ℕ) : Type 0 where
  pub passes : (t : ℕ) → Enabled g w s (make t) → p (ticket w.desk t) ≡ true
  pub may : (t : ℕ) → p (ticket w.desk t) ≡ true → Enabled g w s (make t)
  pub none : p no_ticket ≡ false
  pub only : (t : ℕ) → p (ticket w.desk t) ≡ true → last ≡ Some t

not-true : (b : Bool) → (b ≡ true → ⊥) → b ≡ false
not-true true n = absurd (n refl)
not-true false n = refl

first-same : (g : BenchSetting) (w : World) (s : ℕ) (make : ℕ → Step) (p : Ticket → Bool) (only : Option ℕ) → IsOnly g w s make p only → (ss : List Step) (r : Option Step)
    → IsFirst g w s (step_of make only ++ ss) r → IsFirst g w s (step_of make (position p w.desk.tickets) ++ ss) r
first-same g w s make p None h ss r first =
    subst (λ (o : Option ℕ). IsFirst g w s (step_of make o ++ ss) r) (sym (least_none p w.desk.tickets (λ k l. not-true (p (ticket w.desk k)) (λ e. absurd (no-ticket k (h.only k e)))))) first
  where
    no-ticket : (k : ℕ) → None ≡ Some k → ⊥
    no-ticket k e = absurd cc
first-same g w s make p (Some t) h ss r (inl first) =
    subst (λ (o : Option ℕ). IsFirst g w s (step_of make o ++ ss) r) (sym (least_at p w.desk.tickets t (passes_within p w.desk.tickets t here h.none) (λ k l. not-true (p (ticket w.desk k)) (λ e. absurd (before k l (h.only k e)))) here)) (inl first)
  where
    here : p (ticket w.desk t) ≡ true
    here = h.passes t first.0

    same : (a b : ℕ) → Some a ≡ Some b → a ≡ b
    same a b e = cc

    before : (k : ℕ) → k < t → Some t ≡ Some k → ⊥
    before k l e = omega (arith, l, same t k e)
first-same g w s make p (Some t) h ss r (inr first) =
    subst (λ (o : Option ℕ). IsFirst g w s (step_of make o ++ ss) r) (sym (least_none p w.desk.tickets (λ k l. not-true (p (ticket w.desk k)) (λ e. absurd (first.0 (subst (λ (n : ℕ). Enabled g w s (make n)) (sym (same t k (h.only k e))) (h.may k e))))))) first.1
  where
    same : (a b : ℕ) → Some a ≡ Some b → a ≡ b
    same a b e = cc

-- ---- the tickets of a submitter

equal : (a b : ℕ) → a ≡ b → a == b ≡ true
equal a b e = grind (arith, nat_tests, e)

equal-then : (a b : ℕ) → a == b ≡ true → a ≡ b
equal-then a b e = grind (arith, nat_tests, e)

both : (a b : Bool) → a ≡ true → b ≡ true → a && b ≡ true
both true b e f = f
both false b e f = absurd cc

and-false : (a : Bool) → a && false ≡ false
and-false true = refl
and-false false = refl

built-is : (st : Stage) → is_built st ≡ true → st ≡ stage.Built
built-is stage.Built e = refl
built-is _ e = absurd cc

linked-is : (st : Stage) → is_linked st ≡ true → st ≡ stage.Linked
linked-is stage.Linked e = refl
linked-is _ e = absurd cc

abbrev OnlyHeld : World → (s : ℕ) → Type 0
OnlyHeld w s = (t : ℕ) → IsHeldBy s (ticket w.desk t) → last_ticket w s ≡ Some t

links : (g : BenchSetting) (w : World) (s : ℕ) → OnlyHeld w s
    → IsOnly g w s step.Link (λ (k : Ticket). k.line.submitter == s && is_built k.stage) (last_ticket w s)
links g w s h = record {
  passes = λ t e. both ((ticket w.desk t).line.submitter == s) (is_built (ticket w.desk t).stage) (equal (ticket w.desk t).line.submitter s (sym e.1)) (ap is_built e.0);
  may = λ t e.
      let q : ((ticket w.desk t).line.submitter == s ≡ true) × (is_built (ticket w.desk t).stage ≡ true) = and_parts _ _ e in
      (built-is (ticket w.desk t).stage q.1, sym (equal-then (ticket w.desk t).line.submitter s q.0));
  none = and-false (no_ticket.line.submitter == s);
  only = λ t e.
      let q : ((ticket w.desk t).line.submitter == s ≡ true) × (is_built (ticket w.desk t).stage ≡ true) = and_parts _ _ e in
      h t (equal-then (ticket w.desk t).line.submitter s q.0, ap is_unqueued (built-is (ticket w.desk t).stage q.1));
}

queue-is : (w : World) (s : ℕ) (k : Ticket) (st : Stage) → s < w.desk.submitters → MayQueue w s k st → (st ≡ stage.Linked) × (s ≡ k.line.submitter)
queue-is w s k stage.Linked l m = (refl, m)
queue-is w s k stage.Again l m = absurd (omega (arith, l, m))
queue-is w s k _ l m = absurd m

queues : (g : BenchSetting) (w : World) (s : ℕ) → s < w.desk.submitters → OnlyHeld w s
    → IsOnly g w s step.Queue (λ (k : Ticket). k.line.submitter == s && is_linked k.stage) (last_ticket w s)
queues g w s l h = record {
  passes = λ t e.
      let q : ((ticket w.desk t).stage ≡ stage.Linked) × (s ≡ (ticket w.desk t).line.submitter) = queue-is w s (ticket w.desk t) (ticket w.desk t).stage l e in
      both ((ticket w.desk t).line.submitter == s) (is_linked (ticket w.desk t).stage) (equal (ticket w.desk t).line.submitter s (sym q.1)) (ap is_linked q.0);
  may = λ t e.
      let q : ((ticket w.desk t).line.submitter == s ≡ true) × (is_linked (ticket w.desk t).stage ≡ true) = and_parts _ _ e in
      subst (λ (st : Stage). MayQueue w s (ticket w.desk t) st) (sym (linked-is (ticket w.desk t).stage q.1)) (sym (equal-then (ticket w.desk t).line.submitter s q.0));
  none = and-false (no_ticket.line.submitter == s);
  only = λ t e.
      let q : ((ticket w.desk t).line.submitter == s ≡ true) × (is_linked (ticket w.desk t).stage ≡ true) = and_parts _ _ e in
      h t (equal-then (ticket w.desk t).line.submitter s q.0, ap is_unqueued (linked-is (ticket w.desk t).stage q.1));
}

abbrev build_next : World → (s : ℕ) → List Step
build_next w s = step.Build (record { submitter = s; number = length (lines_of w s) }) ∷ []

pub first_of_submitter : (g : BenchSetting) (es : List Entry) (w : World) (s : ℕ) (r : Option Step) → IsReplayed g es w → s < length g.submitters → s < w.desk.submitters
    → IsFirst g w s (tries_last w s) r → IsFirst g w s (tries_submitter w s) r
first_of_submitter g es w s r replayed l below first =
    tail-same g w s (step.Signal ∷ []) (step_of step.Link (last_ticket w s) ++ (step_of step.Queue (last_ticket w s) ++ (build_next w s))) (step_of step.Link (own_least is_built s w) ++ (step_of step.Queue (own_least is_linked s w) ++ (build_next w s))) by r first
  where
    held : OnlyHeld w s
    held t h = ap accepted_as (last_held g es w s t replayed l h)

    by : (r : Option Step) → IsFirst g w s (step_of step.Link (last_ticket w s) ++ (step_of step.Queue (last_ticket w s) ++ (build_next w s))) r
        → IsFirst g w s (step_of step.Link (own_least is_built s w) ++ (step_of step.Queue (own_least is_linked s w) ++ (build_next w s))) r
    by r h =
        first-same g w s step.Link _ (last_ticket w s) (links g w s held) (step_of step.Queue (own_least is_linked s w) ++ (build_next w s)) r
        (tail-same g w s (step_of step.Link (last_ticket w s)) (step_of step.Queue (last_ticket w s) ++ (build_next w s)) (step_of step.Queue (own_least is_linked s w) ++ (build_next w s)) (λ x y. first-same g w s step.Queue _ (last_ticket w s) (queues g w s below held) (build_next w s) x y) r h)
