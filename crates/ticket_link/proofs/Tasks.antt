-- Connected and waiting tasks are those of their tickets.
use Rattle.std.proofs.Common.{◌≡◌, ℕ, zero, suc, Bool, true, false, List, [], ◌∷◌, refl, ap, sym, ◌∙◌, subst, Some, inl, inr}
use Rattle.std.specs.Prelude.{slice_get}
use Rattle.target_law.specs.Session.{Task}
use Rattle.target_law.specs.Bytes.{Connection}
use Rattle.target_law.specs.Target.{Target}
use Rattle.ticket_fate.specs.Tickets.{Plan, unit_of, Connected, Away, Ticket}
use Rattle.ticket_fate.specs.Linked.{IsPlan, HasTaskOf, HasNoTaskOf, AwayTasks, WorkKept, LinkKept}
use Rattle.ticket_fate.specs.Kept.{AllKept}
use Rattle.ticket_fate.proofs.TicketSteps.{fate_at}
use Rattle.ticket_fate.proofs.TaskLists.{away-at}
use Rattle.ticket_fate.proofs.Reached.{all-kept}
use Rattle.ticket_link.specs.Tags.{IsItsTicket}
use Rattle.ticket_link.specs.Laws.{ConnectedIsItsTicket, WaitingAreTheirTickets}

by-work : (b : Bool) (g : Plan) (count : ℕ) → IsPlan g count → (ks : ℕ → Ticket) (ts : ℕ → Target) → AllKept g count ks ts → (i : ℕ) (c : Connection) → WorkKept b g i ks (ts i) c → IsItsTicket g i ks c
by-work false g count plan ks ts h i c w =
    let unit = (h.each i).units (unit_of g c.task.ticket) (plan.known c.task.ticket) w.target in
    let q = fate_at g c.task.ticket (ks c.task.ticket) unit.0.log Connected (unit.2.each c.task.ticket refl) w.life in
    record { target = w.target; lun = sym w.lun; life = inl w.life; tag = sym q.tag ∙ ap (λ z. z.tag) w.task }
by-work true g count plan ks ts h i c w = record { target = w.target; lun = sym w.lun; life = inr w.life; tag = w.tag }

pub connected-is : ConnectedIsItsTicket
connected-is g count ns us r i c working =
    let h = all-kept g count ns us r in
    by-work c.task.senses g count r.plan ns us h i c (subst (λ l. LinkKept l g i ns (us i)) working (h.each i).link)

-- a place of a list of tasks
not-there : (xs : List Task) (m : ℕ) (k : Task) (x : ℕ) → HasNoTaskOf x xs → slice_get xs m ≡ Some k → k.ticket ≡ x → ⊥
not-there [] m k x d e q = cc
not-there (y ∷ ys) zero k x d e q = let f : y ≡ k = cc in d.0 (ap (λ z. z.ticket) f ∙ q)
not-there (y ∷ ys) (suc m) k x d e q = not-there ys m k x d.1 e q

once-there : (g : Plan) (n : ℕ) (ks : ℕ → Ticket) (xs : List Task) (l m : ℕ) (j k : Task) → AwayTasks g n ks xs → slice_get xs l ≡ Some j → slice_get xs m ≡ Some k → j.ticket ≡ k.ticket → l ≡ m
once-there g n ks [] l m j k h e f q = cc
once-there g n ks (y ∷ ys) zero zero j k h e f q = refl
once-there g n ks (y ∷ ys) zero (suc m) j k h e f q = let s : y ≡ j = cc in absurd (not-there ys m k y.ticket h.1 f (sym q ∙ ap (λ z. z.ticket) (sym s)))
once-there g n ks (y ∷ ys) (suc l) zero j k h e f q = let s : y ≡ k = cc in absurd (not-there ys l j y.ticket h.1 e (q ∙ ap (λ z. z.ticket) (sym s)))
once-there g n ks (y ∷ ys) (suc l) (suc m) j k h e f q = ap suc (once-there g n ks ys l m j k h.2 e f q)

found-there : (x : ℕ) (xs : List Task) → HasTaskOf x xs → (m : ℕ) × (k : Task) × (slice_get xs m ≡ Some k) × (k.ticket ≡ x)
found-there x [] h = absurd h
found-there x (y ∷ ys) (inl q) = (zero, y, refl, q)
found-there x (y ∷ ys) (inr h) = let f = found-there x ys h in (suc f.0, f.1, f.2, f.3)

pub waiting-are : WaitingAreTheirTickets
waiting-are g count ns us r n less =
    let unit = ((all-kept g count ns us r).each (g.units n).target).units n less refl in
    let tasks = unit.2.lists.tasks in (
      unit.0,
      unit.1,
      record {
        each = λ m k e.
            let a = away-at g n ns m unit.0.tasks k tasks e in
            let q = (fate_at g k.ticket (ns k.ticket) unit.0.log Away (unit.2.each k.ticket a.unit) a.life).0 in
            (a.unit, a.life, a.task, sym q.tag ∙ ap (λ z. z.tag) a.task);
        once = λ l m j k e f q. once-there g n ns unit.0.tasks l m j k tasks e f q;
        all = λ x e away.
            let f = found-there x unit.0.tasks (unit.2.lists.whole x e away) in
            let a = away-at g n ns f.0 unit.0.tasks f.1 tasks f.2 in
            (f.0, f.2 ∙ ap Some (sym a.task ∙ ap (λ z. (ns z).task) f.3));
      },
    )
