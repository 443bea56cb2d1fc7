-- In a joined run RESTART says whether a ticket is marked, and only tickets of units that keep the rules answer.
use Rattle.std.proofs.Common.{◌≡◌, ◌≢◌, ◌⊎◌, inl, inr, ℕ, Bool, true, false, length, nat_eq, refl, sym, ap, subst, ◌∙◌}
use Rattle.std.proofs.lemmas.Option.{same_Some}
use Rattle.unit_law.specs.Log.{View, with_at, tally}
use Rattle.unit_law.specs.Report.{TicketHistory}
use Rattle.unit_law.proofs.Views.{with_at-same, with_at-other, same_or_not}
use Rattle.target_law.specs.declared.task_phase.Completion.{Completion}
use Rattle.target_law.specs.declared.task_phase.Completion.TheVariants.{Answered, Refused}
use Rattle.target_law.specs.declared.task_phase.TaskPhase.{TaskPhase}
use Rattle.target_law.specs.declared.task_phase.TaskPhase.TheVariants.{ToChoose, MessageOut, DataIn, DataOut, Status, MessageIn}
use Rattle.target_law.specs.Session.{Task, Session}
use Rattle.target_law.specs.Bytes.{Connection}
use Rattle.target_law.specs.Target.{TaskConnected, Target, session}
use Rattle.ticket_fate.specs.Tickets.{Plan, unit_of, Life, Selected, Connected, Away, Checked, Asks, AskStarts, AskConnected, Asked, Ticket, ticket_sent, ticket_asked}
use Rattle.ticket_fate.specs.Linked.{IsPlan, UnitKept, WorkKept, LinkKept, ResetCause, ByBus, ByDevice, lost_life, reset_ticket, log_of}
use Rattle.ticket_fate.specs.Moves.{CompletesTicket, parts_ticket, target_of, TicketMove, Moves, alone, points, marks, relinks, acts, sends, receives, hears, listens, leaves_bus, completes, drops_task, reselects, begins, ask_sends, ask_completes, ask_begins, resets_idle, resets_work, resets_asking}
use Rattle.ticket_fate.specs.Moves as move
use Rattle.ticket_fate.specs.Histories.{Run, none, more}
use Rattle.ticket_fate.specs.Kept.{AllKept}
use Rattle.ticket_fate.proofs.TaskLists.{away-at}
use Rattle.ticket_fate.proofs.Reached.{opens-kept, kept-by, recorded}
use Rattle.bus_events.specs.Targets.{targets}
use Rattle.world_law.specs.Opening.{opened}
use Rattle.world_law.specs.Runs.{last}
use Rattle.run_joined.specs.Joined.{no_tickets}
use Rattle.run_joined.proofs.BlockWords.{blocks-agree}
use Rattle.block_words.specs.LiveWords.{MarksAgree, IsOfRules, LivesOfRules, StateAndStatusTell}
use Rattle.block_words.proofs.Marks.{marks-are-told}
use Rattle.block_words.proofs.RunSteps.{within}

-- ---- marks
pub marks-agree : MarksAgree
marks-agree g p ms ks setting bytes r j t e =
    marks-are-told g setting bytes ms r (unit_of p t) t e
    ∙ ap (λ (h : TicketHistory). h.marked) (j.histories t)
    ∙ (recorded p (length g.units) j.joined.tickets.reached.plan no_tickets (targets (opened g).bus) j.opens t ks (targets (last (opened g) ms).bus) j.moves).marked

-- ---- lives of tickets of units that keep the rules
module _ (p : Plan) where
  abbrev Keeps : ℕ → Life → Type 0
  Keeps x l = IsOfRules l → (p.units (unit_of p x)).rogue ≡ false

  abbrev AllKeep : (ℕ → Ticket) → Type 0
  AllKeep ks = (x : ℕ) → Keeps x (ks x).life

  one : (ks : ℕ → Ticket) (y : ℕ) (k : Ticket) → AllKeep ks → Keeps y k.life → AllKeep (with_at ks y k)
  one ks y k h f x = by (same_or_not x y)
    where
      by : (x ≡ y) ⊎ (x ≢ y) → Keeps x (with_at ks y k x).life
      by (inl q) = subst (λ (z : Ticket). Keeps x z.life) (sym (ap (with_at ks y k) q ∙ with_at-same ks y k)) (subst (λ (i : ℕ). Keeps i k.life) (sym q) f)
      by (inr d) = subst (λ (z : Ticket). Keeps x z.life) (sym (with_at-other ks y k x d)) (h x)

  -- from a life that has them
  from : (x : ℕ) (k : Ticket) (l m : Life) → Keeps x k.life → k.life ≡ l → (IsOfRules m → IsOfRules l) → Keeps x m
  from x k l m h e f o = h (subst IsOfRules (sym e) (f o))

  stepped : (x : ℕ) (v : View) (k j : Ticket) → TicketMove p x v k j → Keeps x k.life → Keeps x j.life
  stepped x v k j (move.builds tag e) h o = absurd o
  stepped x v k j (move.links e) h o = absurd o
  stepped x v k j (move.queues e) h o = absurd o
  stepped x v k j (move.requeues e) h o = absurd o
  stepped x v k j (move.selects e a r) h o = r
  stepped x v k j (move.times_out e a) h o = absurd o
  stepped x v k j (move.cancels e m) h o = absurd o
  stepped x v k j (move.takes_again st e l) h o = absurd o
  stepped x v k j (move.takes_refused st e l) h o = absurd o
  stepped x v k j (move.takes r e n) h o = absurd o
  stepped x v k j (move.takes_checked e a) h o = a.keeps
  stepped x v k j (move.asks area e l) h o = from x k Checked Asks h e (λ z. z) o
  stepped x v k j (move.ask_selects e) h o = from x k Asks AskStarts h e (λ z. z) o
  stepped x v k j (move.takes_sense e) h o = absurd o
  stepped x v k j (move.sweeps_asking e) h o = absurd o
  stepped x v k j (move.selects_rogue e r) h o = absurd o
  stepped x v k j (move.rogue_moves status lastp savep tries buffer area e) h o = h o
  stepped x v k j (move.ends_rogue r e) h o = absurd o
  stepped x v k j (move.sweeps e) h o = absurd o
  stepped x v k j (move.unlinks r e) h o = absurd o
  stepped x v k j (move.frees r e) h o = absurd o

  sent : (x : ℕ) (sh : TaskPhase) (at b : ℕ) (k : Ticket) (z : Task) → Keeps x k.life → Keeps x (ticket_sent sh at b k z).life
  sent x ToChoose at b k z h = h
  sent x MessageOut at b k z h = h
  sent x (DataIn n) at b k z h = h
  sent x (DataOut n) at b k z h = h
  sent x (Status v) at b k z h = h
  sent x (MessageIn n s) at b k z h = h

  asked : (x : ℕ) (sh : TaskPhase) (at b : ℕ) (k : Ticket) (z : Task) → Keeps x k.life → Keeps x (ticket_asked sh at b k z).life
  asked x ToChoose at b k z h = h
  asked x MessageOut at b k z h = h
  asked x (DataIn n) at b k z h = h
  asked x (DataOut n) at b k z h = h
  asked x (Status v) at b k z h = h
  asked x (MessageIn n s) at b k z h = h

  completed : (v : Completion) (x : ℕ) (k : Ticket) (s : Session) (j : Ticket) → k.life ≡ Connected → CompletesTicket v p x k s j → Keeps x k.life → Keeps x j.life
  completed (Answered st) x k s j e z h o = h (subst IsOfRules (sym e) tt)
  completed (Refused st) x k s j e z h o = h (subst IsOfRules (sym e) tt)

  lost : (b : ResetCause) (l : Life) → IsOfRules (lost_life b l) → IsOfRules l
  lost b Selected o = tt
  lost b Connected o = tt
  lost b Away o = tt
  lost ByBus Asks o = tt
  lost ByDevice Asks o = tt
  lost b AskStarts o = tt
  lost b AskConnected o = tt
  lost b l o = o

  reset : (x : ℕ) (r : Bool) (b : ResetCause) (ends : ℕ) (k : Ticket) → Keeps x k.life → Keeps x (reset_ticket r b ends k).life
  reset x true b ends k h o = h (lost b k.life o)
  reset x false b ends k h o = h o

  module _ (count : ℕ) (ks : ℕ → Ticket) (ts : ℕ → Target) (h : AllKept p count ks ts) (a : AllKeep ks) where
    work : (i : ℕ) (c : Connection) → (ts i).link ≡ TaskConnected c → (b : Bool) → c.task.senses ≡ b → WorkKept b p i ks (ts i) c
    work i c e b f = subst (λ z. WorkKept z p i ks (ts i) c) f (subst (λ l. LinkKept l p i ks (ts i)) e (h.each i).link)

    moved : (ns : ℕ → Ticket) (us : ℕ → Target) → Moves p count ks ts ns us → AllKeep ns
    moved ns us (alone x k u there m) = one ks x k a (stepped x _ (ks x) k m (a x))
    moved ns us (points y lastp savep e) = one ks y _ a (a y)
    moved ns us (marks y can) = one ks y _ a (a y)
    moved ns us (relinks i l e f may) = a
    moved ns us (acts i d u m w there e can) = one ks d.task.ticket _ a (a d.task.ticket)
    moved ns us (sends i d at b w plain e byte) = one ks d.task.ticket _ a (sent d.task.ticket d.shows at b (ks d.task.ticket) _ (a d.task.ticket))
    moved ns us (receives i d n at b w plain e f byte) = one ks d.task.ticket _ a (a d.task.ticket)
    moved ns us (hears i d n s w plain e f g) = one ks d.task.ticket _ a (a d.task.ticket)
    moved ns us (listens i d bytes w plain) = one ks d.task.ticket _ a (a d.task.ticket)
    moved ns us (leaves_bus i d u w plain there e) = one ks d.task.ticket _ a (from d.task.ticket (ks d.task.ticket) Connected Away (a d.task.ticket) (work i d w false plain).life (λ z. z))
    moved ns us (completes i d u v s k w plain there e z) = one ks d.task.ticket k a (completed v d.task.ticket (ks d.task.ticket) (session u d) k (work i d w false plain).life z (a d.task.ticket))
    moved ns us (drops_task i d u w plain there e) = one ks d.task.ticket _ a (λ o. absurd o)
    moved ns us (reselects n m u k less idle there e) =
        let old = (h.each (p.units n).target).units n less refl in
        let unit : UnitKept p n ks u = subst (UnitKept p n ks) (same_Some old.0 u (sym old.1 ∙ there)) old.2 in
        one ks k.ticket _ a (from k.ticket (ks k.ticket) Away Connected (a k.ticket) (away-at p n ks m u.tasks k unit.lists.tasks e).life (λ z. z))
    moved ns us (begins y n u idle there lun tag life others) = one ks y _ a (from y (ks y) Selected Connected (a y) life (λ z. z))
    moved ns us (ask_sends i d at b w asks e byte) = one ks d.task.ticket _ a (asked d.task.ticket d.shows at b (ks d.task.ticket) _ (a d.task.ticket))
    moved ns us (ask_completes i d u v s w asks there e) = one ks d.task.ticket _ a (from d.task.ticket (ks d.task.ticket) AskConnected Asked (a d.task.ticket) (work i d w true asks).life (λ z. z))
    moved ns us (ask_begins y n u idle there lun tag life others) = one ks y _ a (from y (ks y) AskStarts AskConnected (a y) life (λ z. z))
    moved ns us (resets_idle i b idle can) = λ x. reset x (nat_eq (target_of p x) i) b (tally x (log_of p (ts i) x)).ends (ks x) (a x)
    moved ns us (resets_work i b d u w plain there can) = λ x.
        reset x (nat_eq (target_of p x) i) b (tally x (log_of p (ts i) x)).ends (with_at ks d.task.ticket (parts_ticket ks d) x)
        (one ks d.task.ticket (parts_ticket ks d) a (from d.task.ticket (ks d.task.ticket) Connected Away (a d.task.ticket) (work i d w false plain).life (λ z. z)) x)
    moved ns us (resets_asking i d u w asks there) = λ x. reset x (nat_eq (target_of p x) i) ByBus (tally x (log_of p (ts i) x)).ends (ks x) (a x)

  all-moved : (count : ℕ) → IsPlan p count → (ks : ℕ → Ticket) (ts : ℕ → Target) → AllKept p count ks ts → AllKeep ks → (ns : ℕ → Ticket) (us : ℕ → Target) → Run p count ks ts ns us → AllKeep ns
  all-moved count plan ks ts h a ns us none = a
  all-moved count plan ks ts h a ns us (more {ms = ms} {us = vs} r m) = moved count ms vs (kept-by p count plan ks ts h ms vs r) (all-moved count plan ks ts h a ms vs r) ns us m

pub lives-of-rules : LivesOfRules
lives-of-rules p count ks ts r x o =
    let first = r.from.0 in
    all-moved p count r.plan first r.from.1 (opens-kept p count first r.from.1 r.from.2) (λ y z. absurd (subst IsOfRules (r.from.2.unbuilt y) z)) ks ts r.from.3 x o

-- ---- TakeDone
pub state-and-status-tell : StateAndStatusTell
state-and-status-tell g p ms ks setting bytes r j of t e state status =
    let w = last (opened g) ms in
    blocks-agree g p w ks j.spare t of j.joined (within w.desk t e) (record {
      state = state;
      status = status;
      mark = marks-agree g p ms ks setting bytes r j t e;
      keeps = λ z. lives-of-rules p (length g.units) ks (targets w.bus) j.joined.tickets.reached t (subst IsOfRules (sym z) tt);
    })
