-- What the chip and the bus do leaves what the desk has of each ticket.
use Rattle.std.proofs.Common.{◌≡◌, ◌≢◌, ℕ, Bool, true, false, nat_eq, refl, ap, sym, ◌∙◌, subst, ◌⊎◌, inl, inr}
use Rattle.std.proofs.lemmas.Option.{same_Some}
use Rattle.rig_types.specs.declared.report.Outcome.TheVariants.{Done, Cut, NoTarget}
use Rattle.scsi_words.specs.declared.statuses.kinds.Status.{Status as StatusByte}
use Rattle.unit_law.specs.Log.{View, with_at, tally}
use Rattle.unit_law.proofs.Views.{with_at-same, with_at-other, same_or_not}
use Rattle.target_law.specs.declared.task_phase.Completion.{Completion}
use Rattle.target_law.specs.declared.task_phase.Completion.TheVariants.{Answered, Refused}
use Rattle.target_law.specs.declared.task_phase.TaskPhase.{TaskPhase}
use Rattle.target_law.specs.declared.task_phase.TaskPhase.TheVariants.{ToChoose, MessageOut, DataIn, DataOut, Status, MessageIn}
use Rattle.target_law.specs.Session.{Task, Session}
use Rattle.target_law.specs.Bytes.{Connection}
use Rattle.target_law.specs.Target as connection_state
use Rattle.target_law.specs.Target.{ConnectionState, BusFree, TakingCommand, TaskConnected, RogueConnected, Target, session}
use Rattle.desk_law.specs.declared.stage.Stage.{Stage}
use Rattle.desk_law.specs.declared.stage.Stage.TheVariants as stage
use Rattle.desk_law.specs.declared.ticket.Ticket.{Ticket as DeskTicket}
use Rattle.desk_law.specs.Desk.{ticket}
use Rattle.ticket_fate.specs.Tickets.{Plan, Life, Unbuilt, Waits, Selected, Connected, Away, Rejected, Finished, Asks, AskStarts, AskConnected, Asked, AtRogue, Ticket, ticket_sent, ticket_asked}
use Rattle.ticket_fate.specs.Linked.{UnitKept, WorkKept, LinkKept, ResetCause, ByBus, ByDevice, lost_life, reset_ticket, log_of}
use Rattle.ticket_fate.specs.Moves.{CompletesTicket, parts_ticket, target_of, TicketMove, selects, times_out, cancels, ask_selects, selects_rogue, Moves, alone, points, marks, relinks, acts, sends, receives, hears, listens, leaves_bus, completes, drops_task, reselects, begins, ask_sends, ask_completes, ask_begins, resets_idle, resets_work, resets_asking}
use Rattle.ticket_fate.specs.Kept.{AllKept}
use Rattle.ticket_fate.proofs.TaskLists.{away-at}
use Rattle.ticket_fate.proofs.Reached.{all-kept}
use Rattle.ticket_fate.specs.Histories.{progress_of}
use Rattle.bus_law.specs.Bus.{BusState}
use Rattle.bus_events.specs.Targets.{targets}
use Rattle.bus_events.specs.BusResets.{parted_by, parted_tickets, after_bus_reset}
use Rattle.desk_law.specs.Desk.{DeskState}
use Rattle.run_joined.specs.DeskLives.{IsStage, outcome_of, IsCounted, IsKept, DeskJoined, IsChipStep, LeavesDesk, ChipLeavesDesk}

-- a life that the desk sees as the one before
record LifeKept (l m : Life) : Type 0 where
  stage_stays : (s : Stage) → IsStage l s → IsStage m s
  unbuilt : l ≡ Unbuilt → m ≡ Unbuilt
  outcome : outcome_of m ≡ outcome_of l
  progress : progress_of m ≡ progress_of l

record Kept (k j : Ticket) : Type 0 where
  life : LifeKept k.life j.life
  tag : j.tag ≡ k.tag
  tries : j.tries ≡ k.tries

same-life : (l : Life) → LifeKept l l
same-life l = record { stage_stays = λ s e. e; unbuilt = λ e. e; outcome = refl; progress = refl }

-- between two lives
between : (l m : Life) → LifeKept l m → (k : Ticket) → k.life ≡ l → LifeKept k.life m
between l m h k e = subst (λ z. LifeKept z m) (sym e) h

both-lives : (l m n : Life) → LifeKept l m → LifeKept m n → LifeKept l n
both-lives l m n a b = record { stage_stays = λ s e. b.stage_stays s (a.stage_stays s e); unbuilt = λ e. b.unbuilt (a.unbuilt e); outcome = b.outcome ∙ a.outcome; progress = b.progress ∙ a.progress }

both : (k j i : Ticket) → Kept k j → Kept j i → Kept k i
both k j i a b = record { life = both-lives k.life j.life i.life a.life b.life; tag = b.tag ∙ a.tag; tries = b.tries ∙ a.tries }

waits-selected : LifeKept Waits Selected
waits-selected = record { stage_stays = λ s e. e; unbuilt = λ e. cc; outcome = refl; progress = refl }

waits-none : LifeKept Waits (Finished NoTarget)
waits-none = record { stage_stays = λ s e. e; unbuilt = λ e. cc; outcome = refl; progress = refl }

waits-cut : LifeKept Waits (Finished Cut)
waits-cut = record { stage_stays = λ s e. e; unbuilt = λ e. cc; outcome = refl; progress = refl }

asks-starts : LifeKept Asks AskStarts
asks-starts = record { stage_stays = λ s e. e; unbuilt = λ e. cc; outcome = refl; progress = refl }

waits-rogue : LifeKept Waits AtRogue
waits-rogue = record { stage_stays = λ s e. inl (let f : stage.Queued ≡ s = same_Some stage.Queued s e in sym f); unbuilt = λ e. cc; outcome = refl; progress = refl }

connected-away : LifeKept Connected Away
connected-away = record { stage_stays = λ s e. e; unbuilt = λ e. cc; outcome = refl; progress = refl }

away-connected : LifeKept Away Connected
away-connected = record { stage_stays = λ s e. e; unbuilt = λ e. cc; outcome = refl; progress = refl }

connected-cut : LifeKept Connected (Finished Cut)
connected-cut = record { stage_stays = λ s e. e; unbuilt = λ e. cc; outcome = refl; progress = refl }

connected-done : LifeKept Connected (Finished Done)
connected-done = record { stage_stays = λ s e. e; unbuilt = λ e. cc; outcome = refl; progress = refl }

connected-rejected : (st : StatusByte) → LifeKept Connected (Rejected st)
connected-rejected st = record { stage_stays = λ s e. e; unbuilt = λ e. cc; outcome = refl; progress = refl }

selected-connected : LifeKept Selected Connected
selected-connected = record { stage_stays = λ s e. e; unbuilt = λ e. cc; outcome = refl; progress = refl }

ask-connected-asked : LifeKept AskConnected Asked
ask-connected-asked = record { stage_stays = λ s e. e; unbuilt = λ e. cc; outcome = refl; progress = refl }

ask-starts-connected : LifeKept AskStarts AskConnected
ask-starts-connected = record { stage_stays = λ s e. e; unbuilt = λ e. cc; outcome = refl; progress = refl }

-- a reset
lost-stage : (b : ResetCause) (l : Life) (s : Stage) → IsStage l s → IsStage (lost_life b l) s
lost-stage ByBus Asks s e = e
lost-stage ByDevice Asks s e = e
lost-stage b l s e = e

lost-unbuilt : (b : ResetCause) (l : Life) → l ≡ Unbuilt → lost_life b l ≡ Unbuilt
lost-unbuilt b l e = ap (lost_life b) e

lost-outcome : (b : ResetCause) (l : Life) → outcome_of (lost_life b l) ≡ outcome_of l
lost-outcome ByBus Asks = refl
lost-outcome ByDevice Asks = refl
lost-outcome b l = refl

lost-progress : (b : ResetCause) (l : Life) → progress_of (lost_life b l) ≡ progress_of l
lost-progress ByBus Asks = refl
lost-progress ByDevice Asks = refl
lost-progress b l = refl

reset-kept : (r : Bool) (b : ResetCause) (ends : ℕ) (k : Ticket) → Kept k (reset_ticket r b ends k)
reset-kept true b ends k = record { life = record { stage_stays = lost-stage b k.life; unbuilt = lost-unbuilt b k.life; outcome = lost-outcome b k.life; progress = lost-progress b k.life }; tag = refl; tries = refl }
reset-kept false b ends k = record { life = same-life k.life; tag = refl; tries = refl }

sent-kept : (sh : TaskPhase) (at b : ℕ) (k : Ticket) (x : Task) → Kept k (ticket_sent sh at b k x)
sent-kept ToChoose at b k x = record { life = same-life k.life; tag = refl; tries = refl }
sent-kept MessageOut at b k x = record { life = same-life k.life; tag = refl; tries = refl }
sent-kept (DataIn n) at b k x = record { life = same-life k.life; tag = refl; tries = refl }
sent-kept (DataOut n) at b k x = record { life = same-life k.life; tag = refl; tries = refl }
sent-kept (Status v) at b k x = record { life = same-life k.life; tag = refl; tries = refl }
sent-kept (MessageIn n s) at b k x = record { life = same-life k.life; tag = refl; tries = refl }

asked-kept : (sh : TaskPhase) (at b : ℕ) (k : Ticket) (x : Task) → Kept k (ticket_asked sh at b k x)
asked-kept ToChoose at b k x = record { life = same-life k.life; tag = refl; tries = refl }
asked-kept MessageOut at b k x = record { life = same-life k.life; tag = refl; tries = refl }
asked-kept (DataIn n) at b k x = record { life = same-life k.life; tag = refl; tries = refl }
asked-kept (DataOut n) at b k x = record { life = same-life k.life; tag = refl; tries = refl }
asked-kept (Status v) at b k x = record { life = same-life k.life; tag = refl; tries = refl }
asked-kept (MessageIn n s) at b k x = record { life = same-life k.life; tag = refl; tries = refl }

completed-kept : (v : Completion) (g : Plan) (t : ℕ) (k : Ticket) (s : Session) (j : Ticket) → k.life ≡ Connected → CompletesTicket v g t k s j → Kept k j
completed-kept (Answered st) g t k s j e z = subst (Kept k) (sym z.2) (record { life = between Connected (Finished Done) connected-done k e; tag = refl; tries = refl })
completed-kept (Refused st) g t k s j e z = subst (Kept k) (sym z.1) (record { life = between Connected (Rejected st) (connected-rejected st) k e; tag = refl; tries = refl })

alone-kept : (p : Plan) (x : ℕ) (v : View) (k j : Ticket) (m : TicketMove p x v k j) → IsChipStep m → Kept k j
alone-kept p x v k j (selects e a r) c = record { life = between Waits Selected waits-selected k e; tag = refl; tries = refl }
alone-kept p x v k j (times_out e a) c = record { life = between Waits (Finished NoTarget) waits-none k e; tag = refl; tries = refl }
alone-kept p x v k j (cancels e a) c = record { life = between Waits (Finished Cut) waits-cut k e; tag = refl; tries = refl }
alone-kept p x v k j (ask_selects e) c = record { life = between Asks AskStarts asks-starts k e; tag = refl; tries = refl }
alone-kept p x v k j (selects_rogue e r) c = record { life = between Waits AtRogue waits-rogue k e; tag = refl; tries = refl }
alone-kept p x v k j m c = absurd c

module _ (p : Plan) (count : ℕ) (ks : ℕ → Ticket) (ts : ℕ → Target) (h : AllKept p count ks ts) where
  abbrev AllLeft : (ℕ → Ticket) → Type 0
  AllLeft ns = (x : ℕ) → Kept (ks x) (ns x)

  unchanged : AllLeft ks
  unchanged x = record { life = same-life (ks x).life; tag = refl; tries = refl }

  one : (y : ℕ) (k : Ticket) → Kept (ks y) k → AllLeft (with_at ks y k)
  one y k f x = by (same_or_not x y)
    where
      by : (x ≡ y) ⊎ (x ≢ y) → Kept (ks x) (with_at ks y k x)
      by (inl q) = subst (λ z. Kept (ks x) z) (sym (ap (with_at ks y k) q ∙ with_at-same ks y k)) (subst (λ z. Kept (ks z) k) (sym q) f)
      by (inr d) = subst (λ z. Kept (ks x) z) (sym (with_at-other ks y k x d)) (record { life = same-life (ks x).life; tag = refl; tries = refl })

  -- a ticket whose life stays
  tasked : (y : ℕ) (k : Ticket) → k.life ≡ (ks y).life → k.tag ≡ (ks y).tag → k.tries ≡ (ks y).tries → AllLeft (with_at ks y k)
  tasked y k e t r = one y k (record { life = subst (λ l. LifeKept (ks y).life l) (sym e) (same-life (ks y).life); tag = t; tries = r })

  work : (i : ℕ) (c : Connection) → (ts i).link ≡ TaskConnected c → (b : Bool) → c.task.senses ≡ b → WorkKept b p i ks (ts i) c
  work i c e b f = subst (λ z. WorkKept z p i ks (ts i) c) f (subst (λ l. LinkKept l p i ks (ts i)) e (h.each i).link)

  left : (ns : ℕ → Ticket) (us : ℕ → Target) (m : Moves p count ks ts ns us) → LeavesDesk m → AllLeft ns
  left ns us (alone x k u there m) c = one x k (alone-kept p x _ (ks x) k m c)
  left ns us (points y lastp savep e) c = tasked y _ refl refl refl
  left ns us (marks y can) c = tasked y _ refl refl refl
  left ns us (relinks i l e f may) c = unchanged
  left ns us (acts i d u m w there e can) c = tasked d.task.ticket _ refl refl refl
  left ns us (sends i d at b w plain e byte) c = one d.task.ticket _ (sent-kept d.shows at b (ks d.task.ticket) _)
  left ns us (receives i d n at b w plain e f byte) c = tasked d.task.ticket _ refl refl refl
  left ns us (hears i d n s w plain e a f) c = tasked d.task.ticket _ refl refl refl
  left ns us (listens i d bytes w plain) c = tasked d.task.ticket _ refl refl refl
  left ns us (leaves_bus i d u w plain there e) c = one d.task.ticket _ (record { life = between Connected Away connected-away (ks d.task.ticket) (work i d w false plain).life; tag = refl; tries = refl })
  left ns us (completes i d u v s k w plain there e z) c = one d.task.ticket k (completed-kept v p d.task.ticket (ks d.task.ticket) (session u d) k (work i d w false plain).life z)
  left ns us (drops_task i d u w plain there e) c = one d.task.ticket _ (record { life = between Connected (Finished Cut) connected-cut (ks d.task.ticket) (work i d w false plain).life; tag = refl; tries = refl })
  left ns us (reselects n m u k less idle there e) c =
      let old = (h.each (p.units n).target).units n less refl in
      let unit : UnitKept p n ks u = subst (UnitKept p n ks) (same_Some old.0 u (sym old.1 ∙ there)) old.2 in
      one k.ticket _ (record { life = between Away Connected away-connected (ks k.ticket) (away-at p n ks m u.tasks k unit.lists.tasks e).life; tag = refl; tries = refl })
  left ns us (begins y n u idle there lun tag life others) c = one y _ (record { life = between Selected Connected selected-connected (ks y) life; tag = refl; tries = refl })
  left ns us (ask_sends i d at b w asks e byte) c = one d.task.ticket _ (asked-kept d.shows at b (ks d.task.ticket) _)
  left ns us (ask_completes i d u v s w asks there e) c = one d.task.ticket _ (record { life = between AskConnected Asked ask-connected-asked (ks d.task.ticket) (work i d w true asks).life; tag = refl; tries = refl })
  left ns us (ask_begins y n u idle there lun tag life others) c = one y _ (record { life = between AskStarts AskConnected ask-starts-connected (ks y) life; tag = refl; tries = refl })
  left ns us (resets_idle i b idle can) c = λ x. reset-kept (nat_eq (target_of p x) i) b (tally x (log_of p (ts i) x)).ends (ks x)
  left ns us (resets_work i b d u w plain there can) c = λ x.
      both (ks x) (with_at ks d.task.ticket (parts_ticket ks d) x) (ns x)
      (one d.task.ticket (parts_ticket ks d) (record { life = between Connected Away connected-away (ks d.task.ticket) (work i d w false plain).life; tag = refl; tries = refl }) x)
      (reset-kept (nat_eq (target_of p x) i) b (tally x (log_of p (ts i) x)).ends (with_at ks d.task.ticket (parts_ticket ks d) x))
  left ns us (resets_asking i d u w asks there) c = λ x. reset-kept (nat_eq (target_of p x) i) ByBus (tally x (log_of p (ts i) x)).ends (ks x)

desk-kept : (p : Plan) (t : ℕ) (x : DeskTicket) (k j : Ticket) → Kept k j → IsKept p t x k → IsKept p t x j
desk-kept p t x k j f h = record {
  stage_is = f.life.stage_stays x.stage h.stage_is;
  tag_is = h.tag_is ∙ sym f.tag;
  unit_is = h.unit_is;
  tries_are = h.tries_are ∙ sym f.tries;
  outcome_is = h.outcome_is ∙ sym f.life.outcome;
  counted_is = subst (λ q. IsCounted q j.tries) (sym f.life.progress) (subst (IsCounted (progress_of k.life)) (sym f.tries) h.counted_is);
}

pub chip-leaves-desk : ChipLeavesDesk
chip-leaves-desk p count ks ts ns us d r m c j =
    let f = left p count ks ts (all-kept p count ks ts r) ns us m c in
    record {
      unbuilt = λ x l. (f x).life.unbuilt (j.unbuilt x l);
      each = λ t l. desk-kept p t (ticket d t) (ks t) (ns t) (f t) (j.each t l);
    }

-- ---- the reset of the bus leaves it too
module _ (p : Plan) (count : ℕ) (b : BusState) (ks : ℕ → Ticket) (h : AllKept p count ks (targets b)) where
  parted-kept : (i : ℕ) (l : ConnectionState) → (targets b i).link ≡ l → AllLeft p count ks (targets b) h (parted_tickets l ks)
  parted-kept i BusFree e = unchanged p count ks (targets b) h
  parted-kept i (connection_state.Selected heard) e = unchanged p count ks (targets b) h
  parted-kept i (TakingCommand n taken) e = unchanged p count ks (targets b) h
  parted-kept i (RogueConnected s n) e = unchanged p count ks (targets b) h
  parted-kept i (TaskConnected c) e = by c.task.senses refl
    where
      by : (s : Bool) → c.task.senses ≡ s → AllLeft p count ks (targets b) h (parted_by s ks c)
      by true f = unchanged p count ks (targets b) h
      by false f =
          one p count ks (targets b) h c.task.ticket (parts_ticket ks c)
          (record { life = between Connected Away connected-away (ks c.task.ticket) (work p count ks (targets b) h i c e false f).life; tag = refl; tries = refl })

  bus-reset-kept : AllLeft p count ks (targets b) h (after_bus_reset p b ks)
  bus-reset-kept x =
      let i = target_of p x in
      both (ks x) (parted_tickets (targets b i).link ks x) (after_bus_reset p b ks x) (parted-kept i (targets b i).link refl x)
      (reset-kept (nat_eq i i) ByBus (tally x (log_of p (targets b i) x)).ends (parted_tickets (targets b i).link ks x))

  pub bus-reset-leaves-desk : (d : DeskState) → DeskJoined p d ks → DeskJoined p d (after_bus_reset p b ks)
  bus-reset-leaves-desk d j = record {
    unbuilt = λ x l. (bus-reset-kept x).life.unbuilt (j.unbuilt x l);
    each = λ t l. desk-kept p t (ticket d t) (ks t) (after_bus_reset p b ks t) (bus-reset-kept t) (j.each t l);
  }
