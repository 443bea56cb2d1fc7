-- Bytes, acknowledged messages, the end of a task and its leaving, of a target that is linked to its tickets.
use Rattle.std.proofs.Common.{◌≡◌, ℕ, zero, suc, ◌≤◌, Bool, false, List, refl, ap, sym, ◌∙◌, subst, Some, inl}
use Rattle.std.specs.Prelude.{slice_get}
use Rattle.unit_law.specs.declared.entry.LogEntry.{LogEntry}
use Rattle.unit_law.specs.Log.{with_at}
use Rattle.target_law.specs.declared.task_phase.ReselectByte.TheVariants as part
use Rattle.target_law.specs.declared.task_phase.TargetMessage.{TargetMessage}
use Rattle.target_law.specs.declared.task_phase.TargetMessage.TheVariants.{Reselection, CommandComplete, SaveThenDisconnect, SaveDataPointer, RestorePointers, Disconnect}
use Rattle.target_law.specs.declared.task_phase.TaskPhase.{TaskPhase}
use Rattle.target_law.specs.declared.task_phase.TaskPhase.TheVariants.{ToChoose, MessageOut, DataIn, DataOut, Status, MessageIn}
use Rattle.target_law.specs.declared.task_phase.Completion.{Completion}
use Rattle.target_law.specs.Bytes.{Connection, advanced, one_less, put, byte_by, sent_by, took_by, heard_by}
use Rattle.target_law.specs.Sound.{IsSound, IsReceiving, IsWorth}
use Rattle.target_law.specs.Target.{LogicalUnit, TaskConnected, Target, unit_at, linked, session}
use Rattle.ticket_fate.specs.Tickets.{Plan, unit_of, Connected, Away, Ticket, view_for, ticket_sent}
use Rattle.ticket_fate.specs.Fates.{HasTask, Fate, TicketKept}
use Rattle.ticket_fate.specs.Senses.{Unasked, SenseFate}
use Rattle.ticket_fate.specs.Linked.{IsPlan, UnitKept, ShownFits, IsAtWork, WorkKept, LinkKept, TargetKept}
use Rattle.ticket_fate.proofs.TicketSteps.{fate_at, sense_at, needs}
use Rattle.ticket_fate.proofs.DataBytes.{given, taken, pointed}
use Rattle.ticket_fate.proofs.TaskLists.{lists-other}
use Rattle.ticket_fate.proofs.SoundSessions.{sent-sound, took-sound, heard-sound, receiving-place}
use Rattle.ticket_fate.proofs.Targets.{not-away, unit-changed, units-ticket-changed, work-is}

-- a ticket changes that isn't away, and nothing of its unit
pub unit-ticket-changed : (g : Plan) (tickets : ℕ → Ticket) (x : ℕ) (k : Ticket) (u : LogicalUnit) → ((tickets x).life ≡ Away → ⊥) → (k.life ≡ Away → ⊥) → TicketKept g x k u.log → UnitKept g (unit_of g x) tickets u
    → UnitKept g (unit_of g x) (with_at tickets x k) u
unit-ticket-changed g tickets x k u d e s h = unit-changed g tickets x k u u (record {
  grows = inl refl;
  stands = s;
  rig = refl;
  plain = h.plain;
  lists = lists-other g (unit_of g x) tickets x k u.tasks d e h.lists;
  others = λ j w. w;
  waits = λ a. absurd (e a);
}) h

-- a connected ticket with other fields
pub again : (g : Plan) (x : ℕ) (old k : Ticket) (log : List LogEntry) → old.life ≡ Connected → k.life ≡ Connected → (k.since ≡ old.since) × (k.before ≡ old.before) × (k.sense ≡ old.sense) → TicketKept g x old log
    → (HasTask g.retries (g.requests x) old.tag old.tries old.buffer old.task (view_for g x log) → HasTask g.retries (g.requests x) k.tag k.tries k.buffer k.task (view_for g x log)) → TicketKept g x k log
again g x old k log e f same s r = record {
  fate = subst (λ l. Fate g x l k (view_for g x log)) (sym f) (r (fate_at g x old log Connected s e));
  sense = subst (λ l. SenseFate g x l k (view_for g x log)) (sym f) (subst (λ z. Unasked z (view_for g x log)) (sym same.2) (sense_at g x old log Connected s e));
  absent = λ a. absurd (needs g x old log Connected s e (λ z. z) a);
  since = subst (λ n. n ≤ (view_for g x log).tally.clears) (sym same.0) s.since;
  before = same.1 ∙ s.before;
}

module _ (g : Plan) (count : ℕ) (plan : IsPlan g count) (i : ℕ) (tickets : ℕ → Ticket) (t : Target) (h : TargetKept g count i tickets t) (c : Connection) (working : t.link ≡ TaskConnected c) (plain : c.task.senses ≡ false) where
  abbrev x : ℕ
  x = c.task.ticket

  at_work : IsAtWork g i tickets t c
  at_work = subst (λ b. WorkKept b g i tickets t c) plain (subst (λ l. LinkKept l g i tickets t) working h.link)

  unit_there : UnitKept g (unit_of g x) tickets (h.units (unit_of g x) (plan.known x) at_work.target).0
  unit_there = (h.units (unit_of g x) (plan.known x) at_work.target).2

  abbrev own_unit : LogicalUnit
  own_unit = (h.units (unit_of g x) (plan.known x) at_work.target).0

  at_lun_there : unit_at t.units c.lun ≡ Some own_unit
  at_lun_there = ap (unit_at t.units) at_work.lun ∙ (h.units (unit_of g x) (plan.known x) at_work.target).1

  -- the connection goes on as another one, with its ticket changed
  pub goes-on : (k : Ticket) (d : Connection) → k.life ≡ Connected → k.task ≡ d.task → d.task.ticket ≡ x → d.task.senses ≡ c.task.senses → d.lun ≡ c.lun → (k.since ≡ (tickets x).since) × (k.before ≡ (tickets x).before) × (k.sense ≡ (tickets x).sense)
      → ((log : List LogEntry) → HasTask g.retries (g.requests x) (tickets x).tag (tickets x).tries (tickets x).buffer c.task (view_for g x log) → HasTask g.retries (g.requests x) k.tag k.tries k.buffer d.task (view_for g x log))
      → ((u : LogicalUnit) → IsSound (session u c) → IsSound (session u d)) → ShownFits d.shows d.task → TargetKept g count i (with_at tickets x k) (linked t (TaskConnected d))
  goes-on k d life task own senses lun same runs sound worth = record {
    units = units-ticket-changed g count plan i tickets t h.units x k (λ u kept. unit-ticket-changed g tickets x k u (not-away (tickets x) at_work.life) (not-away k life)
        (again g x (tickets x) k u.log at_work.life life same (kept.each x refl)
        (λ r. subst (λ z. HasTask g.retries (g.requests x) k.tag k.tries k.buffer z (view_for g x u.log)) (sym task)
        (runs u.log (subst (λ z. HasTask g.retries (g.requests x) (tickets x).tag (tickets x).tries (tickets x).buffer z (view_for g x u.log)) at_work.task r))))
        kept) (TaskConnected d);
    link = subst (λ b. WorkKept b g i (with_at tickets x k) (linked t (TaskConnected d)) d) (sym (senses ∙ plain)) (work-is g i tickets x k (linked t (TaskConnected d)) d own at_work.target (lun ∙ at_work.lun) life task
        (λ u e. sound u (at_work.sound u (ap (unit_at t.units) (sym lun) ∙ e))) worth);
  }

  sound_now : IsSound (session own_unit c)
  sound_now = at_work.sound own_unit at_lun_there

  -- a byte from the target: the host's place is the position
  sent : (sh : TaskPhase) → c.shows ≡ sh → (at b : ℕ) → at ≡ c.task.position → byte_by sh c.task c.lun ≡ Some b
      → TargetKept g count i (with_at tickets x (ticket_sent sh at b (tickets x) (sent_by sh c).task)) (linked t (TaskConnected (sent_by sh c)))
  sent ToChoose e at b place byte = cc
  sent MessageOut e at b place byte = cc
  sent (DataOut n) e at b place byte = cc
  sent (DataIn n) e at b place byte =
      let f : c.task.fresh ≡ false = subst (λ z. ShownFits z c.task) e at_work.worth in
      goes-on (ticket_sent (DataIn n) at b (tickets x) (sent_by (DataIn n) c).task) (sent_by (DataIn n) c) at_work.life refl refl refl refl (refl, refl, refl)
      (λ log r. subst (λ p. HasTask g.retries (g.requests x) (tickets x).tag (tickets x).tries (put (tickets x).buffer p b) (advanced c.task c.task.received) (view_for g x log)) (sym place)
      (given g.retries (g.requests x) (tickets x).tag (tickets x).tries (tickets x).buffer c.task (view_for g x log) own_unit.plain b (plan.accepted x) sound_now.task f r byte))
      (λ u s. sent-sound (DataIn n) u c b e s byte) (less n f)
    where
      less : (n : ℕ) → c.task.fresh ≡ false → ShownFits (one_less n DataIn) (advanced c.task c.task.received)
      less zero f = tt
      less (suc zero) f = tt
      less (suc (suc n)) f = f
  sent (Status v) e at b place byte =
      goes-on (ticket_sent (Status v) at b (tickets x) (sent_by (Status v) c).task) (sent_by (Status v) c) at_work.life refl refl refl refl (refl, refl, refl) (λ log r. r)
      (λ u s. sent-sound (Status v) u c b e s byte) (subst (λ z. ShownFits z c.task) e at_work.worth)
  sent (MessageIn n s) e at b place byte =
      goes-on (ticket_sent (MessageIn n s) at b (tickets x) (sent_by (MessageIn n s) c).task) (sent_by (MessageIn n s) c) at_work.life refl refl refl refl (refl, refl, refl) (λ log r. r)
      (λ u z. sent-sound (MessageIn n s) u c b e z byte) (subst (λ z. ShownFits z c.task) e at_work.worth)

  pub byte-in : (at b : ℕ) → at ≡ c.task.position → byte_by c.shows c.task c.lun ≡ Some b
      → TargetKept g count i (with_at tickets x (ticket_sent c.shows at b (tickets x) (sent_by c.shows c).task)) (linked t (TaskConnected (sent_by c.shows c)))
  byte-in at b place byte = sent c.shows refl at b place byte

  -- a byte to the target in its data phase: the byte of the buffer at the host's place
  pub byte-out : (n at b : ℕ) → c.shows ≡ DataOut n → at ≡ c.task.position → slice_get (tickets x).buffer at ≡ Some b
      → TargetKept g count i (with_at tickets x (record (tickets x) { task = (took_by (DataOut n) c b).task })) (linked t (TaskConnected (took_by (DataOut n) c b)))
  byte-out n at b e place byte =
      let f : c.task.fresh ≡ false = subst (λ z. ShownFits z c.task) e at_work.worth in
      let w : IsReceiving (session own_unit c) n = subst (λ z. IsWorth z (session own_unit c)) e sound_now.worth in
      goes-on (record (tickets x) { task = (took_by (DataOut n) c b).task }) (took_by (DataOut n) c b) at_work.life refl refl refl refl (refl, refl, refl)
      (λ log r. taken g.retries (g.requests x) (tickets x).tag (tickets x).tries (tickets x).buffer c.task (view_for g x log) own_unit.plain b (plan.accepted x) sound_now.task f w.way
      (receiving-place (session own_unit c) n sound_now w) r (ap (slice_get (tickets x).buffer) (sym place) ∙ byte))
      (λ u s. took-sound n u c b e s) (less n f)
    where
      less : (n : ℕ) → c.task.fresh ≡ false → ShownFits (one_less n DataOut) (advanced c.task (put c.task.received c.task.position b))
      less zero f = tt
      less (suc zero) f = tt
      less (suc (suc n)) f = f

  -- a message is acknowledged that leaves the task connected
  pub heard : (n : TargetMessage) (s : Bool) → c.shows ≡ MessageIn n s → ((v : Completion) → n ≡ CommandComplete v → ⊥) → (n ≡ Disconnect → ⊥)
      → TargetKept g count i (with_at tickets x (record (tickets x) { task = (heard_by n c).task })) (linked t (TaskConnected (heard_by n c)))
  heard (Reselection part.Identify) s e d f = goes-on (record (tickets x) { task = c.task }) (heard_by (Reselection part.Identify) c) at_work.life refl refl refl refl (refl, refl, refl) (λ log r. r) (λ u z. heard-sound (Reselection part.Identify) s u c e z) tt
  heard (Reselection part.SimpleQueueTag) s e d f = goes-on (record (tickets x) { task = c.task }) (heard_by (Reselection part.SimpleQueueTag) c) at_work.life refl refl refl refl (refl, refl, refl) (λ log r. r) (λ u z. heard-sound (Reselection part.SimpleQueueTag) s u c e z) tt
  heard (Reselection part.Tag) s e d f = goes-on (record (tickets x) { task = c.task }) (heard_by (Reselection part.Tag) c) at_work.life refl refl refl refl (refl, refl, refl) (λ log r. r) (λ u z. heard-sound (Reselection part.Tag) s u c e z) tt
  heard (CommandComplete v) s e d f = absurd (d v refl)
  heard Disconnect s e d f = absurd (f refl)
  heard SaveThenDisconnect s e d f = goes-on (record (tickets x) { task = (heard_by SaveThenDisconnect c).task }) (heard_by SaveThenDisconnect c) at_work.life refl refl refl refl (refl, refl, refl)
      (λ log r. pointed g.retries (g.requests x) _ _ _ c.task _ c.task.position c.task.position c.task.just_moved r) (λ u z. heard-sound SaveThenDisconnect s u c e z) tt
  heard SaveDataPointer s e d f = goes-on (record (tickets x) { task = (heard_by SaveDataPointer c).task }) (heard_by SaveDataPointer c) at_work.life refl refl refl refl (refl, refl, refl)
      (λ log r. pointed g.retries (g.requests x) _ _ _ c.task _ c.task.position c.task.position c.task.just_moved r) (λ u z. heard-sound SaveDataPointer s u c e z) tt
  heard RestorePointers s e d f = goes-on (record (tickets x) { task = (heard_by RestorePointers c).task }) (heard_by RestorePointers c) at_work.life refl refl refl refl (refl, refl, refl)
      (λ log r. pointed g.retries (g.requests x) _ _ _ c.task _ c.task.saved c.task.saved c.task.just_moved r) (λ u z. heard-sound RestorePointers s u c e z) tt

  -- it hears a message
  pub listened : (heard_bytes : List ℕ) → TargetKept g count i (with_at tickets x (record (tickets x) { task = c.task })) (linked t (TaskConnected (record c { heard = heard_bytes; shows = MessageOut })))
  listened heard_bytes = goes-on (record (tickets x) { task = c.task }) (record c { heard = heard_bytes; shows = MessageOut }) at_work.life refl refl refl refl (refl, refl, refl) (λ log r. r)
      (λ u z. record { task = z.task; worth = tt }) tt
