-- A ticket that has no outcome has no sense for its report yet.
use Rattle.std.proofs.Common.{◌≡◌, ◌≢◌, ◌⊎◌, inl, inr, ℕ, Bool, true, false, [], nat_eq, refl, sym, ap, subst, ◌∙◌}
use Rattle.std.proofs.lemmas.Option.{same_Some}
use Rattle.unit_law.specs.Log.{View, with_at, tally}
use Rattle.unit_law.proofs.Views.{with_at-same, with_at-other, same_or_not}
use Rattle.target_law.specs.Bytes.{Connection}
use Rattle.target_law.specs.Session.{Task, Session}
use Rattle.target_law.specs.Target.{TaskConnected, Target, session}
use Rattle.target_law.specs.declared.task_phase.Completion.{Completion}
use Rattle.target_law.specs.declared.task_phase.Completion.TheVariants.{Answered, Refused}
use Rattle.target_law.specs.declared.task_phase.TaskPhase.{TaskPhase}
use Rattle.target_law.specs.declared.task_phase.TaskPhase.TheVariants.{ToChoose, MessageOut, DataIn, DataOut, Status, MessageIn}
use Rattle.ticket_fate.specs.Histories.{Run, none, more}
use Rattle.ticket_fate.specs.Kept.{AllKept}
use Rattle.ticket_fate.specs.Laws.{Reached}
use Rattle.ticket_fate.specs.Linked.{IsPlan, UnitKept, WorkKept, LinkKept, ResetCause, ByBus, ByDevice, lost_life, reset_ticket, log_of}
use Rattle.ticket_fate.specs.Moves as move
use Rattle.ticket_fate.specs.Moves.{TicketMove, Moves, CompletesTicket, target_of, parts_ticket}
use Rattle.ticket_fate.specs.Tickets.{Plan, Life, Unbuilt, Built, Linked, ToRequeue, Waits, Selected, Connected, Away, Rejected, Checked, Asks, AskStarts, AskConnected, AtRogue, Ended, Unlinked, Freed, Ticket, ticket_sent, ticket_asked}
use Rattle.ticket_fate.proofs.Reached.{kept-by, opens-kept}
use Rattle.ticket_fate.proofs.TaskLists.{away-at}

-- a live ticket without an outcome
abbrev pub IsOpenLife : Life → Type 0
IsOpenLife Unbuilt = ⊥
IsOpenLife (Ended o) = ⊥
IsOpenLife (Unlinked o) = ⊥
IsOpenLife (Freed o) = ⊥
IsOpenLife l = Unit {0}

abbrev HasNone : Ticket → Type 0
HasNone k = IsOpenLife k.life → k.sense ≡ []

abbrev AllNone : (ℕ → Ticket) → Type 0
AllNone ks = (x : ℕ) → HasNone (ks x)

-- a ticket with the sense of one in a known life
from : (k : Ticket) (l : Life) → k.life ≡ l → IsOpenLife l → HasNone k → k.sense ≡ []
from k l e o h = h (subst IsOpenLife (sym e) o)

one : (ks : ℕ → Ticket) (y : ℕ) (k : Ticket) → AllNone ks → HasNone k → AllNone (with_at ks y k)
one ks y k a h x = by (same_or_not x y)
  where
    by : (x ≡ y) ⊎ (x ≢ y) → HasNone (with_at ks y k x)
    by (inl q) = subst HasNone (sym (ap (with_at ks y k) q ∙ with_at-same ks y k)) h
    by (inr n) = subst HasNone (sym (with_at-other ks y k x n)) (a x)

stepped : (p : Plan) (x : ℕ) (v : View) (k j : Ticket) → TicketMove p x v k j → HasNone k → HasNone j
stepped p x v k j (move.builds tag e) h o = refl
stepped p x v k j (move.links e) h o = from k Built e tt h
stepped p x v k j (move.queues e) h o = from k Linked e tt h
stepped p x v k j (move.requeues e) h o = from k ToRequeue e tt h
stepped p x v k j (move.selects e a r) h o = from k Waits e tt h
stepped p x v k j (move.times_out e a) h o = from k Waits e tt h
stepped p x v k j (move.cancels e m) h o = from k Waits e tt h
stepped p x v k j (move.takes_again st e l) h o = from k (Rejected st) e tt h
stepped p x v k j (move.takes_refused st e l) h o = absurd o
stepped p x v k j (move.takes r e n) h o = absurd o
stepped p x v k j (move.takes_checked e a) h o = h (subst IsOpenLife (sym e) tt)
stepped p x v k j (move.asks area e l) h o = from k Checked e tt h
stepped p x v k j (move.ask_selects e) h o = from k Asks e tt h
stepped p x v k j (move.takes_sense e) h o = absurd o
stepped p x v k j (move.sweeps_asking e) h o = absurd o
stepped p x v k j (move.selects_rogue e r) h o = from k Waits e tt h
stepped p x v k j (move.rogue_moves status lastp savep tries buffer area e) h o = from k AtRogue e tt h
stepped p x v k j (move.ends_rogue r e) h o = absurd o
stepped p x v k j (move.sweeps e) h o = absurd o
stepped p x v k j (move.unlinks r e) h o = absurd o
stepped p x v k j (move.frees r e) h o = absurd o

sent : (sh : TaskPhase) (at b : ℕ) (k : Ticket) (z : Task) → HasNone k → HasNone (ticket_sent sh at b k z)
sent ToChoose at b k z h = h
sent MessageOut at b k z h = h
sent (DataIn n) at b k z h = h
sent (DataOut n) at b k z h = h
sent (Status v) at b k z h = h
sent (MessageIn n s) at b k z h = h

asked : (sh : TaskPhase) (at b : ℕ) (k : Ticket) (z : Task) → HasNone k → HasNone (ticket_asked sh at b k z)
asked ToChoose at b k z h = h
asked MessageOut at b k z h = h
asked (DataIn n) at b k z h = h
asked (DataOut n) at b k z h = h
asked (Status v) at b k z h = h
asked (MessageIn n s) at b k z h = h

completed : (p : Plan) (v : Completion) (x : ℕ) (k : Ticket) (s : Session) (j : Ticket) → CompletesTicket v p x k s j → k.sense ≡ [] → HasNone j
completed p (Answered st) x k s j z e = λ o. ap (λ (y : Ticket). y.sense) z.2 ∙ e
completed p (Refused st) x k s j z e = λ o. ap (λ (y : Ticket). y.sense) z.1 ∙ e

lost : (b : ResetCause) (l : Life) → IsOpenLife (lost_life b l) → IsOpenLife l
lost b Selected o = tt
lost b Connected o = tt
lost b Away o = tt
lost ByBus Asks o = tt
lost ByDevice Asks o = tt
lost b AskStarts o = tt
lost b AskConnected o = tt
lost b l o = o

reset : (r : Bool) (b : ResetCause) (ends : ℕ) (k : Ticket) → HasNone k → HasNone (reset_ticket r b ends k)
reset true b ends k h o = h (lost b k.life o)
reset false b ends k h o = h o

module _ (p : Plan) (count : ℕ) (ks : ℕ → Ticket) (ts : ℕ → Target) (h : AllKept p count ks ts) (a : AllNone ks) where
  work : (i : ℕ) (c : Connection) → (ts i).link ≡ TaskConnected c → (b : Bool) → c.task.senses ≡ b → WorkKept b p i ks (ts i) c
  work i c e b f = subst (λ z. WorkKept z p i ks (ts i) c) f (subst (λ l. LinkKept l p i ks (ts i)) e (h.each i).link)

  moved : (ns : ℕ → Ticket) (us : ℕ → Target) → Moves p count ks ts ns us → AllNone ns
  moved ns us (move.alone x k u there m) = one ks x k a (stepped p x _ (ks x) k m (a x))
  moved ns us (move.points y lastp savep e) = one ks y _ a (a y)
  moved ns us (move.marks y can) = one ks y _ a (a y)
  moved ns us (move.relinks i l e f may) = a
  moved ns us (move.acts i d u m w there e can) = one ks d.task.ticket _ a (a d.task.ticket)
  moved ns us (move.sends i d at b w plain e byte) = one ks d.task.ticket _ a (sent d.shows at b (ks d.task.ticket) _ (a d.task.ticket))
  moved ns us (move.receives i d n at b w plain e f byte) = one ks d.task.ticket _ a (a d.task.ticket)
  moved ns us (move.hears i d n s w plain e f g) = one ks d.task.ticket _ a (a d.task.ticket)
  moved ns us (move.listens i d bytes w plain) = one ks d.task.ticket _ a (a d.task.ticket)
  moved ns us (move.leaves_bus i d u w plain there e) = one ks d.task.ticket _ a (λ o. from (ks d.task.ticket) Connected (work i d w false plain).life tt (a d.task.ticket))
  moved ns us (move.completes i d u v s k w plain there e z) = one ks d.task.ticket k a (completed p v d.task.ticket (ks d.task.ticket) (session u d) k z (from (ks d.task.ticket) Connected (work i d w false plain).life tt (a d.task.ticket)))
  moved ns us (move.drops_task i d u w plain there e) = one ks d.task.ticket _ a (λ o. from (ks d.task.ticket) Connected (work i d w false plain).life tt (a d.task.ticket))
  moved ns us (move.reselects n m u k less idle there e) =
      let old = (h.each (p.units n).target).units n less refl in
      let unit : UnitKept p n ks u = subst (UnitKept p n ks) (same_Some old.0 u (sym old.1 ∙ there)) old.2 in
      one ks k.ticket _ a (λ o. from (ks k.ticket) Away (away-at p n ks m u.tasks k unit.lists.tasks e).life tt (a k.ticket))
  moved ns us (move.begins y n u idle there lun tag life others) = one ks y _ a (λ o. from (ks y) Selected life tt (a y))
  moved ns us (move.ask_sends i d at b w asks e byte) = one ks d.task.ticket _ a (asked d.shows at b (ks d.task.ticket) _ (a d.task.ticket))
  moved ns us (move.ask_completes i d u v s w asks there e) = one ks d.task.ticket _ a (λ o. from (ks d.task.ticket) AskConnected (work i d w true asks).life tt (a d.task.ticket))
  moved ns us (move.ask_begins y n u idle there lun tag life others) = one ks y _ a (λ o. from (ks y) AskStarts life tt (a y))
  moved ns us (move.resets_idle i b idle can) = λ x. reset (nat_eq (target_of p x) i) b (tally x (log_of p (ts i) x)).ends (ks x) (a x)
  moved ns us (move.resets_work i b d u w plain there can) = λ x.
      reset (nat_eq (target_of p x) i) b (tally x (log_of p (ts i) x)).ends (with_at ks d.task.ticket (parts_ticket ks d) x)
      (one ks d.task.ticket (parts_ticket ks d) a (λ o. from (ks d.task.ticket) Connected (work i d w false plain).life tt (a d.task.ticket)) x)
  moved ns us (move.resets_asking i d u w asks there) = λ x. reset (nat_eq (target_of p x) i) ByBus (tally x (log_of p (ts i) x)).ends (ks x) (a x)

all-moved : (p : Plan) (count : ℕ) → IsPlan p count → (ks : ℕ → Ticket) (ts : ℕ → Target) → AllKept p count ks ts → AllNone ks → (ns : ℕ → Ticket) (us : ℕ → Target) → Run p count ks ts ns us → AllNone ns
all-moved p count plan ks ts h a ns us none = a
all-moved p count plan ks ts h a ns us (more {ms = ms} {us = vs} r m) = moved p count ms vs (kept-by p count plan ks ts h ms vs r) (all-moved p count plan ks ts h a ms vs r) ns us m

pub none-sensed : (p : Plan) (count : ℕ) (ks : ℕ → Ticket) (ts : ℕ → Target) → Reached p count ks ts → (x : ℕ) → IsOpenLife (ks x).life → (ks x).sense ≡ []
none-sensed p count ks ts r x o =
    let first = r.from.0 in
    all-moved p count r.plan first r.from.1 (opens-kept p count first r.from.1 r.from.2) (λ y z. absurd (subst IsOpenLife (r.from.2.unbuilt y) z)) ks ts r.from.3 x o
