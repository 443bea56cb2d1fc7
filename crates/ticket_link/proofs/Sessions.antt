-- What holds of a task beside its soundness.
use Rattle.std.proofs.Common.{◌≡◌, ℕ, ◌<◌, Bool, true, false, refl, sym, ◌∙◌, subst, Some}
use Rattle.std.specs.Prelude.{slice_get}
use Rattle.std.proofs.lemmas.Option.{same_Some}
use Rattle.target_law.specs.Session.{Task}
use Rattle.target_law.specs.Bytes.{Connection}
use Rattle.target_law.specs.Target.{LogicalUnit, TaskConnected, Target, unit_at}
use Rattle.ticket_fate.specs.Tickets.{Plan, unit_of, Connected, Away, Ticket}
use Rattle.ticket_fate.specs.Linked.{IsPlan, IsAtWork, UnitKept, WorkKept, LinkKept}
use Rattle.ticket_fate.specs.Kept.{AllKept}
use Rattle.ticket_fate.proofs.TicketSteps.{fate_at}
use Rattle.ticket_fate.proofs.TaskLists.{away-at}
use Rattle.ticket_fate.proofs.Reached.{all-kept}
use Rattle.ticket_link.specs.Sessions.{FreshIsNew, SessionsSayMore}

module _ (g : Plan) (count : ℕ) (plan : IsPlan g count) (ks : ℕ → Ticket) (ts : ℕ → Target) (h : AllKept g count ks ts) where
  work : (i : ℕ) (c : Connection) → (ts i).link ≡ TaskConnected c → (b : Bool) → c.task.senses ≡ b → WorkKept b g i ks (ts i) c
  work i c e b f = subst (λ z. WorkKept z g i ks (ts i) c) f (subst (λ l. LinkKept l g i ks (ts i)) e (h.each i).link)

  at-work-fresh : (i : ℕ) (c : Connection) → IsAtWork g i ks (ts i) c → FreshIsNew c.task
  at-work-fresh i c w =
      let unit = (h.each i).units (unit_of g c.task.ticket) (plan.known c.task.ticket) w.target in
      subst FreshIsNew w.task (fate_at g c.task.ticket (ks c.task.ticket) unit.0.log Connected (unit.2.each c.task.ticket refl) w.life).fresh

  away-fresh : (n m : ℕ) (u : LogicalUnit) (k : Task) → n < count → unit_at (ts (g.units n).target).units (g.units n).lun ≡ Some u → slice_get u.tasks m ≡ Some k → FreshIsNew k
  away-fresh n m u k less there e =
      let old = (h.each (g.units n).target).units n less refl in
      let unit : UnitKept g n ks u = subst (UnitKept g n ks) (same_Some old.0 u (sym old.1 ∙ there)) old.2 in
      let a = away-at g n ks m u.tasks k unit.lists.tasks e in
      subst FreshIsNew a.task (fate_at g k.ticket (ks k.ticket) u.log Away (unit.each k.ticket a.unit) a.life).0.fresh

pub sessions-say-more : SessionsSayMore
sessions-say-more g count ns us r =
    let h = all-kept g count ns us r in
    record {
      shown = λ i c e f. (work g count r.plan ns us h i c e false f).worth;
      fresh = λ i c e f. at-work-fresh g count r.plan ns us h i c (work g count r.plan ns us h i c e false f);
      senses = λ i c e f. (work g count r.plan ns us h i c e true f).shows;
      waits = λ n m u k less there e. away-fresh g count r.plan ns us h n m u k less there e;
    }
