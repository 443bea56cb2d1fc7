-- Each move keeps the status that was told.
use Rattle.std.proofs.Common.{◌≡◌, ◌≢◌, ◌⊎◌, inl, inr, ℕ, zero, suc, Bool, true, false, [], nat_eq, nat_lt, Option, Some, refl, sym, ap, subst, ◌∙◌}
use Rattle.std.specs.Prelude.{if◌then◌else◌, ◌||◌}
use Rattle.std.proofs.lemmas.Option.{same_Some}
use Rattle.scsi_words.specs.declared.phases.kinds.Direction.{Direction}
use Rattle.scsi_words.specs.declared.phases.kinds.Direction.TheVariants.{In, Out, None as NoData}
use Rattle.scsi_words.specs.Statuses.{status_code}
use Rattle.cdb_codec.specs.declared.commands.Cdb.{Cdb}
use Rattle.cdb_codec.specs.declared.commands.Cdb.TheVariants.{RequestSense}
use Rattle.unit_law.specs.Request.{command}
use Rattle.cdb_codec.specs.Forms.{need_of}
use Rattle.unit_law.specs.Log.{View, with_at, tally}
use Rattle.unit_law.proofs.Views.{with_at-same, with_at-other, same_or_not}
use Rattle.target_law.specs.declared.moves.Move.{Move}
use Rattle.target_law.specs.declared.moves.Move.TheVariants as choice
use Rattle.target_law.specs.declared.nexus.Nexus.{Nexus}
use Rattle.target_law.specs.declared.task_phase.Completion.{Completion}
use Rattle.target_law.specs.declared.task_phase.Completion.TheVariants.{Answered, Refused}
use Rattle.target_law.specs.declared.task_phase.ReselectByte.TheVariants as part
use Rattle.target_law.specs.declared.task_phase.TargetMessage.{TargetMessage}
use Rattle.target_law.specs.declared.task_phase.TargetMessage.TheVariants.{Reselection, CommandComplete, SaveThenDisconnect, SaveDataPointer, RestorePointers, Disconnect}
use Rattle.target_law.specs.declared.task_phase.TaskPhase.{TaskPhase}
use Rattle.target_law.specs.declared.task_phase.TaskPhase.TheVariants.{ToChoose, MessageOut, DataIn, DataOut, Status, MessageIn}
use Rattle.target_law.specs.Bytes.{Connection, byte_by, sent_by, took_by, heard_by, one_less, status_told}
use Rattle.target_law.specs.Calls.{target_acted, acted_by, task_reselected, begun, has_tag, has_ended}
use Rattle.target_law.specs.Session.{Task, Session, acted, gone, phased, remaining, began}
use Rattle.target_law.specs.Target.{LogicalUnit, ConnectionState, BusFree, TaskConnected, Target, unit_at, session, linked, on_unit, goes_on, target_reset}
use Rattle.ticket_fate.specs.Tickets.{Plan, Connected, Ticket, ticket_sent, ticket_asked, view_for}
use Rattle.ticket_fate.specs.Linked.{IsPlan, WorkKept, LinkKept, ResetCause, ByBus, reset_ticket, log_of}
use Rattle.ticket_fate.specs.Moves as move
use Rattle.ticket_fate.specs.Moves.{CompletesTicket, IsIdle, parts_ticket, pointed_ticket, marked_ticket, target_of, TicketMove, Moves, alone, points, marks, relinks, acts, sends, receives, hears, listens, leaves_bus, completes, drops_task, reselects, begins, ask_sends, ask_completes, ask_begins, resets_idle, resets_work, resets_asking}
use Rattle.ticket_fate.specs.Histories.{Run, none, more}
use Rattle.ticket_fate.specs.Kept.{AllKept}
use Rattle.ticket_fate.proofs.Reached.{opens-kept, kept-by}
use Rattle.chip_needs.specs.ToldStatus.{ToldIn, ToldBy, IsTold, StatusesAreTold}

-- ---- what is shown
told-by : (b : Bool) (shows : TaskPhase) (status : ℕ) → ToldIn shows status → ToldBy b shows status
told-by true shows status h = tt
told-by false shows status h = h

idle-told : (ks : ℕ → Ticket) (l : ConnectionState) → IsIdle l → IsTold ks l
idle-told ks (TaskConnected c) h = absurd h
idle-told ks l h = tt

-- after a choice no message but one of the four that spend is shown
phased-silent : (d : Direction) (s : Session) (n status : ℕ) → s.shows ≡ ToChoose → ToldIn (phased d s n).shows status
phased-silent In s n status e = tt
phased-silent Out s n status e = tt
phased-silent NoData s n status e = subst (λ (x : TaskPhase). ToldIn x status) (sym e) tt

gone-silent : (left : ℕ) (s : Session) (n status : ℕ) → s.shows ≡ ToChoose → ToldIn (gone left s n).shows status
gone-silent zero s n status e = tt
gone-silent (suc left) s n status e = phased-silent (need_of s.task.cdb).direction s n status e

acted-silent : (m : Move) (s : Session) (status : ℕ) → s.shows ≡ ToChoose → ToldIn (acted m s).shows status
unfolding acted
acted-silent (choice.Go n) s status e = gone-silent (remaining s) s n status e
acted-silent choice.Busy s status e = tt
acted-silent choice.QueueFull s status e = tt
acted-silent choice.Leave s status e = tt
acted-silent choice.SaveLeave s status e = tt
acted-silent choice.Save s status e = tt
acted-silent choice.Restore s status e = tt
acted-silent (choice.Rogue word) s status e = subst (λ (x : TaskPhase). ToldIn x status) (sym e) tt

less-in : (n status : ℕ) → ToldIn (one_less n DataIn) status
less-in zero status = tt
less-in (suc zero) status = tt
less-in (suc (suc n)) status = tt

less-out : (n status : ℕ) → ToldIn (one_less n DataOut) status
less-out zero status = tt
less-out (suc zero) status = tt
less-out (suc (suc n)) status = tt

heard-silent : (n : TargetMessage) (c : Connection) (status : ℕ) → ((v : Completion) → n ≡ CommandComplete v → ⊥) → (n ≡ Disconnect → ⊥) → ToldIn (heard_by n c).shows status
heard-silent (Reselection part.Identify) c status f h = tt
heard-silent (Reselection part.SimpleQueueTag) c status f h = tt
heard-silent (Reselection part.Tag) c status f h = tt
heard-silent SaveThenDisconnect c status f h = tt
heard-silent SaveDataPointer c status f h = tt
heard-silent RestorePointers c status f h = tt
heard-silent (CommandComplete v) c status f h = absurd (f v refl)
heard-silent Disconnect c status f h = absurd (h refl)

-- a byte of the task: the status goes to its ticket, and COMMAND COMPLETE is shown then
sent-told : (sh : TaskPhase) (c : Connection) (at b : ℕ) (k : Ticket) (x : Task) → c.shows ≡ sh → byte_by sh c.task c.lun ≡ Some b → ToldIn sh k.status → ToldIn (sent_by sh c).shows (ticket_sent sh at b k x).status
sent-told ToChoose c at b k x e f h = absurd cc
sent-told MessageOut c at b k x e f h = absurd cc
sent-told (DataIn n) c at b k x e f h = less-in n k.status
sent-told (DataOut n) c at b k x e f h = absurd cc
sent-told (Status v) c at b k x e f h = let z : status_code (status_told v) ≡ b = same_Some (status_code (status_told v)) b f in sym z
sent-told (MessageIn n s) c at b k x e f h = h

sent-senses : (sh : TaskPhase) (c : Connection) → (sent_by sh c).task.senses ≡ c.task.senses
sent-senses ToChoose c = refl
sent-senses MessageOut c = refl
sent-senses (DataIn n) c = refl
sent-senses (DataOut n) c = refl
sent-senses (Status v) c = refl
sent-senses (MessageIn n s) c = refl

sent-ticket : (sh : TaskPhase) (c : Connection) → (sent_by sh c).task.ticket ≡ c.task.ticket
sent-ticket ToChoose c = refl
sent-ticket MessageOut c = refl
sent-ticket (DataIn n) c = refl
sent-ticket (DataOut n) c = refl
sent-ticket (Status v) c = refl
sent-ticket (MessageIn n s) c = refl

asked-status : (sh : TaskPhase) (at b : ℕ) (k : Ticket) (x : Task) → (ticket_asked sh at b k x).status ≡ k.status
asked-status ToChoose at b k x = refl
asked-status MessageOut at b k x = refl
asked-status (DataIn n) at b k x = refl
asked-status (DataOut n) at b k x = refl
asked-status (Status v) at b k x = refl
asked-status (MessageIn n s) at b k x = refl

-- no step of its own is one of a connected ticket
not-connected : (p : Plan) (x : ℕ) (v : View) (k j : Ticket) → TicketMove p x v k j → k.life ≡ Connected → ⊥
not-connected p x v k j (move.builds tag e) z = let y = sym z ∙ e in absurd cc
not-connected p x v k j (move.links e) z = let y = sym z ∙ e in absurd cc
not-connected p x v k j (move.queues e) z = let y = sym z ∙ e in absurd cc
not-connected p x v k j (move.requeues e) z = let y = sym z ∙ e in absurd cc
not-connected p x v k j (move.selects e a r) z = let y = sym z ∙ e in absurd cc
not-connected p x v k j (move.times_out e a) z = let y = sym z ∙ e in absurd cc
not-connected p x v k j (move.cancels e m) z = let y = sym z ∙ e in absurd cc
not-connected p x v k j (move.takes_again st e l) z = let y = sym z ∙ e in absurd cc
not-connected p x v k j (move.takes_refused st e l) z = let y = sym z ∙ e in absurd cc
not-connected p x v k j (move.takes r e n) z = let y = sym z ∙ e in absurd cc
not-connected p x v k j (move.takes_checked e a) z = let y = sym z ∙ e in absurd cc
not-connected p x v k j (move.asks area e l) z = let y = sym z ∙ e in absurd cc
not-connected p x v k j (move.ask_selects e) z = let y = sym z ∙ e in absurd cc
not-connected p x v k j (move.takes_sense e) z = let y = sym z ∙ e in absurd cc
not-connected p x v k j (move.sweeps_asking e) z = let y = sym z ∙ e in absurd cc
not-connected p x v k j (move.selects_rogue e r) z = let y = sym z ∙ e in absurd cc
not-connected p x v k j (move.rogue_moves status lastp savep tries buffer area e) z = let y = sym z ∙ e in absurd cc
not-connected p x v k j (move.ends_rogue r e) z = let y = sym z ∙ e in absurd cc
not-connected p x v k j (move.sweeps e) z = let y = sym z ∙ e in absurd cc
not-connected p x v k j (move.unlinks r e) z = let y = sym z ∙ e in absurd cc
not-connected p x v k j (move.frees r e) z = let y = sym z ∙ e in absurd cc

completed-status : (v : Completion) (p : Plan) (x : ℕ) (k : Ticket) (s : Session) (j : Ticket) → CompletesTicket v p x k s j → j.status ≡ k.status
completed-status (Answered st) p x k s j z = ap (λ (t : Ticket). t.status) z.2
completed-status (Refused st) p x k s j z = ap (λ (t : Ticket). t.status) z.1

reset-status : (r : Bool) (b : ResetCause) (ends : ℕ) (k : Ticket) → (reset_ticket r b ends k).status ≡ k.status
reset-status true b ends k = refl
reset-status false b ends k = refl

-- a task that begins is to choose, or the bus is free
free-told : (t : Target) (ks : ℕ → Ticket) → IsTold ks (target_reset t).link
unfolding target_reset
free-told t ks = tt

begun-told : (ks : ℕ → Ticket) (t : Target) (n : Nexus) (c : Cdb) (u : LogicalUnit) (x : ℕ) → IsTold ks (begun t n c u x).link
begun-told ks t n c u x = by (has_tag u.tasks n.tag || nat_lt 65536 (need_of c).bytes)
  where
    by : (b : Bool) → IsTold ks (if b then linked t BusFree else linked t (TaskConnected (record { lun = n.lun; reselected = false; heard = []; task = began n.tag x c u.rig.disconnects (has_ended u.log x); shows = ToChoose }))).link
    by true = tt
    by false = told-by (began n.tag x c u.rig.disconnects (has_ended u.log x)).senses ToChoose (ks x).status tt

module _ (p : Plan) (count : ℕ) (ks : ℕ → Ticket) (ts : ℕ → Target) (h : AllKept p count ks ts) (a : (i : ℕ) → IsTold ks (ts i).link) where
  abbrev AllTold : (ℕ → Ticket) → (ℕ → Target) → Type 0
  AllTold ns us = (i : ℕ) → IsTold ns (us i).link

  -- the tickets have their status as before
  same-told : (ns : ℕ → Ticket) → ((x : ℕ) → (ns x).status ≡ (ks x).status) → (l : ConnectionState) → IsTold ks l → IsTold ns l
  same-told ns e (TaskConnected c) k = subst (ToldBy c.task.senses c.shows) (sym (e c.task.ticket)) k
  same-told ns e l k = tt

  one-status : (y : ℕ) (k : Ticket) → k.status ≡ (ks y).status → (x : ℕ) → (with_at ks y k x).status ≡ (ks x).status
  one-status y k f x = by (same_or_not x y)
    where
      by : (x ≡ y) ⊎ (x ≢ y) → (with_at ks y k x).status ≡ (ks x).status
      by (inl q) = ap (λ (i : ℕ). (with_at ks y k i).status) q ∙ ap (λ (t : Ticket). t.status) (with_at-same ks y k) ∙ f ∙ ap (λ (i : ℕ). (ks i).status) (sym q)
      by (inr d) = ap (λ (t : Ticket). t.status) (with_at-other ks y k x d)

  -- one target has another link
  at-one : (ns : ℕ → Ticket) (i : ℕ) (t : Target) → IsTold ns t.link → ((j : ℕ) → j ≢ i → IsTold ns (ts j).link) → AllTold ns (with_at ts i t)
  at-one ns i t f o j = by (same_or_not j i)
    where
      by : (j ≡ i) ⊎ (j ≢ i) → IsTold ns (with_at ts i t j).link
      by (inl q) = subst (λ (x : Target). IsTold ns x.link) (sym (ap (with_at ts i t) q ∙ with_at-same ts i t)) f
      by (inr d) = subst (λ (x : Target). IsTold ns x.link) (sym (with_at-other ts i t j d)) (o j d)

  -- all tickets with their status, and one target with another link
  still-one : (y : ℕ) (k : Ticket) (i : ℕ) (t : Target) → k.status ≡ (ks y).status → IsTold (with_at ks y k) t.link → AllTold (with_at ks y k) (with_at ts i t)
  still-one y k i t f g = at-one (with_at ks y k) i t g (λ j d. same-told (with_at ks y k) (one-status y k f) (ts j).link (a j))

  work : (i : ℕ) (c : Connection) → (ts i).link ≡ TaskConnected c → (b : Bool) → c.task.senses ≡ b → WorkKept b p i ks (ts i) c
  work i c e b f = subst (λ z. WorkKept z p i ks (ts i) c) f (subst (λ l. LinkKept l p i ks (ts i)) e (h.each i).link)

  told-at : (i : ℕ) (c : Connection) → (ts i).link ≡ TaskConnected c → ToldBy c.task.senses c.shows (ks c.task.ticket).status
  told-at i c e = subst (IsTold ks) e (a i)

  -- a ticket at another target's link
  elsewhere : (i j : ℕ) (x : ℕ) (ns : ℕ → Ticket) (k : Ticket) → ns ≡ with_at ks x k → j ≢ i → target_of p x ≡ i → IsTold ns (ts j).link
  elsewhere i j x ns k e d t = by (ts j).link refl
    where
      by : (l : ConnectionState) → (ts j).link ≡ l → IsTold ns (ts j).link
      by (TaskConnected c) f =
          let y = c.task.ticket in
          let at : target_of p y ≡ j = at-target c.task.senses (work j c f c.task.senses refl) in
          let ne : y ≢ x = λ z. d (sym at ∙ ap (target_of p) z ∙ t) in
          subst (λ (l : ConnectionState). IsTold ns l) (sym f) (subst (ToldBy c.task.senses c.shows) (sym (ap (λ (f : ℕ → Ticket). (f y).status) e ∙ ap (λ (q : Ticket). q.status) (with_at-other ks x k y ne))) (told-at j c f))
        where
          at-target : (b : Bool) → WorkKept b p j ks (ts j) c → target_of p c.task.ticket ≡ j
          at-target false w = w.target
          at-target true w = w.target
      by l f = subst (IsTold ns) (sym f) tt

  acted-is : (i : ℕ) (c : Connection) (u : LogicalUnit) (m : Move) → (ts i).link ≡ TaskConnected c → unit_at (ts i).units c.lun ≡ Some u → target_acted (ts i) m ≡ goes_on (ts i) c u (acted m (session u c))
  unfolding target_acted
  acted-is i c u m w there =
      ap (λ (l : ConnectionState). acted_by l (ts i) m) w ∙ ap (λ (o : Option LogicalUnit). on_unit o (λ v. goes_on (ts i) c v (acted m (session v c))) (ts i)) there

  stepped : (x : ℕ) (v : View) (k : Ticket) → TicketMove p x v (ks x) k → (i : ℕ) → IsTold (with_at ks x k) (ts i).link
  stepped x v k m i = by (ts i).link refl
    where
      by : (l : ConnectionState) → (ts i).link ≡ l → IsTold (with_at ks x k) (ts i).link
      by (TaskConnected c) e = subst (IsTold (with_at ks x k)) (sym e) (plain c.task.senses refl)
        where
          plain : (b : Bool) → c.task.senses ≡ b → ToldBy c.task.senses c.shows (with_at ks x k c.task.ticket).status
          plain true f = subst (λ (z : Bool). ToldBy z c.shows (with_at ks x k c.task.ticket).status) (sym f) tt
          plain false f =
              let ne : c.task.ticket ≢ x = λ z. not-connected p x v (ks x) k m (ap (λ (y : ℕ). (ks y).life) (sym z) ∙ (work i c e false f).life) in
              subst (ToldBy c.task.senses c.shows) (sym (ap (λ (q : Ticket). q.status) (with_at-other ks x k c.task.ticket ne))) (told-at i c e)
      by l e = subst (IsTold (with_at ks x k)) (sym e) tt

  moved : (ns : ℕ → Ticket) (us : ℕ → Target) → Moves p count ks ts ns us → AllTold ns us
  moved ns us (alone x k u there m) = stepped x (view_for p x u.log) k m
  moved ns us (points y lastp savep e) = λ i. same-told ns (one-status y (pointed_ticket (ks y) lastp savep) refl) (ts i).link (a i)
  moved ns us (marks y can) = λ i. same-told ns (one-status y (marked_ticket (ks y)) refl) (ts i).link (a i)
  moved ns us (relinks i l e f may) = at-one ks i (linked (ts i) l) (idle-told ks l f) (λ j d. a j)
  moved ns us (acts i c u m w there e can) =
      still-one c.task.ticket _ i (target_acted (ts i) m) refl
      (subst (λ (t : Target). IsTold ns t.link) (sym (acted-is i c u m w there)) (told-by (acted m (session u c)).task.senses (acted m (session u c)).shows _ (acted-silent m (session u c) _ e)))
  moved ns us (sends i c at b w plain e byte) =
      at-one ns i _
      (subst (λ (x : ℕ). ToldBy (sent_by c.shows c).task.senses (sent_by c.shows c).shows (ns x).status) (sym (sent-ticket c.shows c))
      (told-by (sent_by c.shows c).task.senses (sent_by c.shows c).shows (ns c.task.ticket).status
      (subst (λ (k : Ticket). ToldIn (sent_by c.shows c).shows k.status) (sym (with_at-same ks c.task.ticket _))
      (sent-told c.shows c at b (ks c.task.ticket) (sent_by c.shows c).task refl byte (subst (λ (z : Bool). ToldBy z c.shows (ks c.task.ticket).status) plain (told-at i c w))))))
      (λ j d. elsewhere i j c.task.ticket ns _ refl d (work i c w false plain).target)
  moved ns us (receives i c n at b w plain e f byte) = still-one c.task.ticket _ i _ refl (told-by (took_by (DataOut n) c b).task.senses _ _ (less-out n _))
  moved ns us (hears i c n s w plain e f g) = still-one c.task.ticket _ i _ refl (told-by (heard_by n c).task.senses _ _ (heard-silent n c _ f g))
  moved ns us (listens i c bytes w plain) = still-one c.task.ticket _ i _ refl (told-by c.task.senses MessageOut _ tt)
  moved ns us (leaves_bus i c u w plain there e) = still-one c.task.ticket _ i _ refl tt
  moved ns us (completes i c u v s k w plain there e z) = still-one c.task.ticket k i _ (completed-status v p c.task.ticket (ks c.task.ticket) (session u c) k z) tt
  moved ns us (drops_task i c u w plain there e) = still-one c.task.ticket _ i _ refl tt
  moved ns us (reselects n m u k less idle there e) = still-one k.ticket (record (ks k.ticket) { life = Connected; task = k }) (p.units n).target (task_reselected (ts (p.units n).target) (p.units n).lun m u (Some k)) refl (told-by k.senses (MessageIn (Reselection part.Identify) false) (ns k.ticket).status tt)
  moved ns us (begins x n u idle there lun tag life others) = still-one x _ (target_of p x) (begun (ts (target_of p x)) n (command (p.requests x)) u x) refl (begun-told ns (ts (target_of p x)) n (command (p.requests x)) u x)
  moved ns us (ask_sends i c at b w asks e byte) =
      still-one c.task.ticket _ i _ (asked-status c.shows at b (ks c.task.ticket) (sent_by c.shows c).task)
      (subst (λ (z : Bool). ToldBy z (sent_by c.shows c).shows (ns (sent_by c.shows c).task.ticket).status) (sym (sent-senses c.shows c ∙ asks)) tt)
  moved ns us (ask_completes i c u v s w asks there e) = still-one c.task.ticket _ i _ refl tt
  moved ns us (ask_begins x n u idle there lun tag life others) = still-one x _ (target_of p x) (begun (ts (target_of p x)) n (RequestSense 18) u x) refl (begun-told ns (ts (target_of p x)) n (RequestSense 18) u x)
  moved ns us (resets_idle i b idle can) = at-one ns i (target_reset (ts i)) (free-told (ts i) ns) (λ j d. same-told ns (λ x. reset-status (nat_eq (target_of p x) i) b (tally x (log_of p (ts i) x)).ends (ks x)) (ts j).link (a j))
  moved ns us (resets_work i b c u w plain there can) =
      at-one ns i (target_reset (ts i)) (free-told (ts i) ns)
      (λ j d. same-told ns (λ x. reset-status (nat_eq (target_of p x) i) b (tally x (log_of p (ts i) x)).ends (with_at ks c.task.ticket (parts_ticket ks c) x) ∙ one-status c.task.ticket (parts_ticket ks c) refl x) (ts j).link (a j))
  moved ns us (resets_asking i c u w asks there) =
      at-one ns i (target_reset (ts i)) (free-told (ts i) ns) (λ j d. same-told ns (λ x. reset-status (nat_eq (target_of p x) i) ByBus (tally x (log_of p (ts i) x)).ends (ks x)) (ts j).link (a j))

all-told : (p : Plan) (count : ℕ) → IsPlan p count → (ks : ℕ → Ticket) (ts : ℕ → Target) → AllKept p count ks ts → ((i : ℕ) → IsTold ks (ts i).link) → (ns : ℕ → Ticket) (us : ℕ → Target) → Run p count ks ts ns us → (i : ℕ) → IsTold ns (us i).link
all-told p count plan ks ts h a ns us none = a
all-told p count plan ks ts h a ns us (more {ms = ms} {us = vs} r m) = moved p count ms vs (kept-by p count plan ks ts h ms vs r) (all-told p count plan ks ts h a ms vs r) ns us m

pub statuses-are-told : StatusesAreTold
statuses-are-told p count ks ts r i =
    all-told p count r.plan r.from.0 r.from.1 (opens-kept p count r.from.0 r.from.1 r.from.2) (λ j. subst (IsTold r.from.0) (sym (r.from.2.free j)) tt) ks ts r.from.3 i
