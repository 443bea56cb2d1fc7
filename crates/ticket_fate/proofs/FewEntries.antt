-- No ticket has more entries in its unit's log than it may have, after every list of moves.
use Rattle.std.proofs.Common.{◌≡◌, ◌≢◌, ℕ, zero, suc, ◌<◌, Bool, true, false, List, [], ◌∷◌, ◌++◌, refl, ap, arith, sym, ◌∙◌, subst, Option, Some, None, ◌⊎◌, inl, inr, cond, nat_lt, remove}
use Rattle.std.specs.Prelude.{◌||◌, fold}
use Rattle.std.proofs.lemmas.Option.{same_Some}
use Rattle.scsi_words.specs.declared.phases.kinds.Direction.{Direction}
use Rattle.scsi_words.specs.declared.phases.kinds.Direction.TheVariants.{In, Out, None as NoData}
use Rattle.cdb_codec.specs.declared.commands.Cdb.{Cdb}
use Rattle.cdb_codec.specs.declared.commands.Cdb.TheVariants.{RequestSense}
use Rattle.cdb_codec.specs.Forms.{need_of}
use Rattle.plain_lun.specs.Performing.{Answered, Performed, perform}
use Rattle.unit_law.specs.declared.entry.LogEntry.{LogEntry}
use Rattle.unit_law.specs.declared.entry.LogEntry.TheVariants.{Refuse, Look, End, Drop, Clear, Sense}
use Rattle.unit_law.specs.Request.{command}
use Rattle.unit_law.specs.Log.{Tally, tally, with_at}
use Rattle.unit_law.proofs.Views.{IsOf, tally-other, tally-clear, with_at-same, with_at-other, same_or_not}
use Rattle.target_law.specs.declared.moves.Move.{Move}
use Rattle.target_law.specs.declared.moves.Move.TheVariants as move
use Rattle.target_law.specs.declared.nexus.Nexus.{Nexus}
use Rattle.target_law.specs.declared.task_phase.ReselectByte.TheVariants as part
use Rattle.target_law.specs.declared.task_phase.TargetMessage.{TargetMessage}
use Rattle.target_law.specs.declared.task_phase.TargetMessage.TheVariants.{Reselection, CommandComplete, SaveThenDisconnect, SaveDataPointer, RestorePointers, Disconnect}
use Rattle.target_law.specs.declared.task_phase.TaskPhase.{TaskPhase}
use Rattle.target_law.specs.declared.task_phase.TaskPhase.TheVariants.{ToChoose, MessageOut, DataIn, DataOut, Status, MessageIn}
use Rattle.target_law.specs.declared.task_phase.Completion.{Completion}
use Rattle.target_law.specs.declared.task_phase.Completion.TheVariants.{Answered as HasAnswered, Refused}
use Rattle.target_law.specs.Session.{Task, Session, Can, remaining, acted, gone, phased, looked, looked_by, closed, closed_by, ended, began}
use Rattle.target_law.specs.Bytes.{Connection, one_less, sent_by, took_by, heard_by, away}
use Rattle.target_law.specs.Lawful.{refused_so_far}
use Rattle.target_law.specs.Target as connection_state
use Rattle.target_law.specs.Target.{LogicalUnit, ConnectionState, BusFree, TakingCommand, TaskConnected, RogueConnected, Target, unit_at, with_unit, session, linked, by_tag, parted, goes_on, unit_after, leaves, unit_left, drops, drops_by, unit_reset, target_reset}
use Rattle.target_law.specs.Calls.{target_acted, acted_by, begun, has_tag, has_ended}
use Rattle.logs_have_room.specs.Room.{IsFew}
use Rattle.logs_have_room.proofs.Room.{few-refuse, few-look, few-end, few-drop, few-sense}
use Rattle.ticket_fate.specs.Tickets.{Plan, unit_of, Connected, Away, AskConnected, Ticket}
use Rattle.ticket_fate.specs.Linked.{IsPlan, HasNoTaskOf, AwayTasks, UnitKept, IsAsking, WorkKept, LinkKept, log_in, log_of}
use Rattle.ticket_fate.specs.Moves.{IsIdle, target_of, Moves, alone, points, marks, relinks, acts, sends, receives, hears, listens, leaves_bus, completes, drops_task, reselects, begins, ask_sends, ask_completes, ask_begins, resets_idle, resets_work, resets_asking}
use Rattle.ticket_fate.specs.Kept.{AllKept}
use Rattle.ticket_fate.specs.Histories.{Run, none, more, tally_in}
use Rattle.ticket_fate.specs.Laws.{Opens, limit_of, EntriesAreFew}
use Rattle.ticket_fate.proofs.TicketSteps.{fate_at, sense_at}
use Rattle.ticket_fate.proofs.TaskLists.{not-of, not-by_tag}
use Rattle.ticket_fate.proofs.Targets.{at-lun, unit-same, unit-other, unit-of-work, runs}
use Rattle.ticket_fate.proofs.LogTurns.{unit-logs, target-logs, drop-other, drops-other}
use Rattle.ticket_fate.proofs.Recorded.{reset-there, idle-parted, begun-units}
use Rattle.ticket_fate.proofs.Reached.{kept-by, opens-kept, all-kept}

-- a ticket that has few entries in the first log has few in the second
abbrev FewTurn : (limit x : ℕ) → List LogEntry → List LogEntry → Type 0
FewTurn limit x old new = IsFew limit (tally x old) → IsFew limit (tally x new)

entry-few : (l x y : ℕ) (old : List LogEntry) (e : LogEntry) → IsOf y e → FewTurn l y old (old ++ e ∷ []) → FewTurn l x old (old ++ e ∷ [])
entry-few l x y old e i f = by (same_or_not x y)
  where
    by : (x ≡ y) ⊎ (x ≢ y) → FewTurn l x old (old ++ e ∷ [])
    by (inl q) = subst (λ z. FewTurn l z old (old ++ e ∷ [])) (sym q) f
    by (inr d) = λ h. subst (IsFew l) (sym (tally-other x y old e i d)) h

-- a choice
looked-by-few : (b : Bool) (l x : ℕ) (s : Session) (p : Performed) → s.task.senses ≡ b → (s.task.senses ≡ false → (tally s.task.ticket s.log).looks ≡ 0) → FewTurn l x s.log (looked_by b s p).log
looked-by-few true l x s p e z = λ h. h
looked-by-few false l x s p e z = entry-few l x s.task.ticket s.log (Look s.task.ticket) refl (λ h. few-look l s.task.ticket s.log h (z e))

looked-few : (o : Option Answered) (l x : ℕ) (s : Session) → s.task.kept ≡ o → (s.task.senses ≡ false → s.task.kept ≡ None → (tally s.task.ticket s.log).looks ≡ 0) → FewTurn l x s.log (looked o s).log
looked-few (Some a) l x s e f = λ h. h
looked-few None l x s e f = looked-by-few s.task.senses l x s (perform s.unit s.task.cdb []) refl (λ b. f b e)

phased-few : (d : Direction) (l x : ℕ) (s : Session) (n : ℕ) → (s.task.senses ≡ false → s.task.kept ≡ None → (tally s.task.ticket s.log).looks ≡ 0) → FewTurn l x s.log (phased d s n).log
phased-few In l x s n f = looked-few s.task.kept l x s refl f
phased-few Out l x s n f = λ h. h
phased-few NoData l x s n f = λ h. h

gone-few : (r l x : ℕ) (s : Session) (n : ℕ) → (s.task.senses ≡ false → s.task.kept ≡ None → (tally s.task.ticket s.log).looks ≡ 0) → FewTurn l x s.log (gone r s n).log
gone-few zero l x s n f = λ h. h
gone-few (suc r) l x s n f = phased-few (need_of s.task.cdb).direction l x s n f

acted-few : (m : Move) (l x : ℕ) (s : Session) → (s.task.senses ≡ false → s.task.kept ≡ None → (tally s.task.ticket s.log).looks ≡ 0) → FewTurn l x s.log (acted m s).log
unfolding acted
acted-few (move.Go n) l x s f = gone-few (remaining s) l x s n f
acted-few move.Busy l x s f = λ h. h
acted-few move.QueueFull l x s f = λ h. h
acted-few move.Leave l x s f = λ h. h
acted-few move.SaveLeave l x s f = λ h. h
acted-few move.Save l x s f = λ h. h
acted-few move.Restore l x s f = λ h. h
acted-few (move.Rogue word) l x s f = λ h. h

-- a refusal is told only where the unit may refuse its ticket once more
abbrev VerdictWithin : Completion → (limit refused : ℕ) → Type 0
VerdictWithin (HasAnswered st) limit refused = Unit {0}
VerdictWithin (Refused st) limit refused = refused < limit

abbrev NoteWithin : TargetMessage → (limit refused : ℕ) → Type 0
NoteWithin (CommandComplete v) limit refused = VerdictWithin v limit refused
NoteWithin n limit refused = Unit {0}

abbrev ShownWithin : TaskPhase → (limit refused : ℕ) → Type 0
ShownWithin ToChoose limit refused = Unit {0}
ShownWithin MessageOut limit refused = Unit {0}
ShownWithin (DataIn n) limit refused = Unit {0}
ShownWithin (DataOut n) limit refused = Unit {0}
ShownWithin (Status v) limit refused = VerdictWithin v limit refused
ShownWithin (MessageIn n sent) limit refused = NoteWithin n limit refused

abbrev UnitWithin : Option LogicalUnit → Connection → Type 0
UnitWithin (Some u) c = ShownWithin c.shows u.rig.refusals (refused_so_far u c.task.ticket)
UnitWithin None c = Unit {0}

abbrev LinkWithin : ConnectionState → Target → Type 0
LinkWithin (TaskConnected c) t = UnitWithin (unit_at t.units c.lun) c
LinkWithin _ t = Unit {0}

any-within : (o : Option LogicalUnit) (c : Connection) → ((limit refused : ℕ) → ShownWithin c.shows limit refused) → UnitWithin o c
any-within (Some u) c f = f _ _
any-within None c f = tt

phased-within : (d : Direction) (s : Session) (n limit refused : ℕ) → s.shows ≡ ToChoose → ShownWithin (phased d s n).shows limit refused
phased-within In s n limit refused e = tt
phased-within Out s n limit refused e = tt
phased-within NoData s n limit refused e = subst (λ z. ShownWithin z limit refused) (sym e) tt

gone-within : (r : ℕ) (s : Session) (n limit refused : ℕ) → s.shows ≡ ToChoose → ShownWithin (gone r s n).shows limit refused
gone-within zero s n limit refused e = tt
gone-within (suc r) s n limit refused e = phased-within (need_of s.task.cdb).direction s n limit refused e

acted-within : (m : Move) (s : Session) (limit : ℕ) → s.shows ≡ ToChoose → Can m s limit (tally s.task.ticket s.log).refusals → ShownWithin (acted m s).shows limit (tally (acted m s).task.ticket (acted m s).log).refusals
unfolding acted
acted-within (move.Go n) s limit e c = gone-within (remaining s) s n limit _ e
acted-within move.Busy s limit e c = c.few
acted-within move.QueueFull s limit e c = c.few
acted-within move.Leave s limit e c = tt
acted-within move.SaveLeave s limit e c = tt
acted-within move.Save s limit e c = tt
acted-within move.Restore s limit e c = tt
acted-within (move.Rogue word) s limit e c = absurd c

in-within : (n limit refused : ℕ) → ShownWithin (one_less n DataIn) limit refused
in-within zero limit refused = tt
in-within (suc zero) limit refused = tt
in-within (suc (suc n)) limit refused = tt

out-within : (n limit refused : ℕ) → ShownWithin (one_less n DataOut) limit refused
out-within zero limit refused = tt
out-within (suc zero) limit refused = tt
out-within (suc (suc n)) limit refused = tt

-- the same verdict
told-within : (sh to : TaskPhase) (o : Option LogicalUnit) (c : Connection) → c.shows ≡ sh → ((limit refused : ℕ) → ShownWithin sh limit refused → ShownWithin to limit refused) → UnitWithin o c → UnitWithin o (record c { shows = to })
told-within sh to (Some u) c e f h = f _ _ (subst (λ z. ShownWithin z u.rig.refusals (refused_so_far u c.task.ticket)) e h)
told-within sh to None c e f h = tt

sent-within : (sh : TaskPhase) (t : Target) (c : Connection) → c.shows ≡ sh → UnitWithin (unit_at t.units c.lun) c → UnitWithin (unit_at t.units (sent_by sh c).lun) (sent_by sh c)
sent-within ToChoose t c e h = h
sent-within MessageOut t c e h = h
sent-within (DataIn n) t c e h = any-within (unit_at t.units c.lun) (sent_by (DataIn n) c) (in-within n)
sent-within (DataOut n) t c e h = h
sent-within (Status v) t c e h = told-within (Status v) (MessageIn (CommandComplete v) false) (unit_at t.units c.lun) c e (λ l r z. z) h
sent-within (MessageIn n s) t c e h = told-within (MessageIn n s) (MessageIn n true) (unit_at t.units c.lun) c e (λ l r z. z) h

heard-within : (n : TargetMessage) (t : Target) (c : Connection) → ((v : Completion) → n ≡ CommandComplete v → ⊥) → UnitWithin (unit_at t.units c.lun) c → UnitWithin (unit_at t.units (heard_by n c).lun) (heard_by n c)
heard-within (Reselection part.Identify) t c d h = any-within (unit_at t.units c.lun) (heard_by (Reselection part.Identify) c) (λ l r. tt)
heard-within (Reselection part.SimpleQueueTag) t c d h = any-within (unit_at t.units c.lun) (heard_by (Reselection part.SimpleQueueTag) c) (λ l r. tt)
heard-within (Reselection part.Tag) t c d h = any-within (unit_at t.units c.lun) (heard_by (Reselection part.Tag) c) (λ l r. tt)
heard-within (CommandComplete v) t c d h = absurd (d v refl)
heard-within SaveThenDisconnect t c d h = any-within (unit_at t.units c.lun) (heard_by SaveThenDisconnect c) (λ l r. tt)
heard-within SaveDataPointer t c d h = any-within (unit_at t.units c.lun) (heard_by SaveDataPointer c) (λ l r. tt)
heard-within RestorePointers t c d h = any-within (unit_at t.units c.lun) (heard_by RestorePointers c) (λ l r. tt)
heard-within Disconnect t c d h = h

idle-within : (l : ConnectionState) (t : Target) → IsIdle l → LinkWithin l t
idle-within BusFree t i = tt
idle-within (connection_state.Selected heard) t i = tt
idle-within (TakingCommand n taken) t i = tt
idle-within (TaskConnected c) t i = absurd i
idle-within (RogueConnected s n) t i = tt

begun-within : (t : Target) (n : Nexus) (c : Cdb) (u : LogicalUnit) (x : ℕ) → LinkWithin (begun t n c u x).link (begun t n c u x)
begun-within t n c u x = by (has_tag u.tasks n.tag || nat_lt 65536 (need_of c).bytes)
    (record { lun = n.lun; reselected = false; heard = []; task = began n.tag x c u.rig.disconnects (has_ended u.log x); shows = ToChoose }) (λ l r. tt)
  where
    by : (b : Bool) (d : Connection) → ((limit refused : ℕ) → ShownWithin d.shows limit refused)
        → LinkWithin (cond b (linked t BusFree) (linked t (TaskConnected d))).link (cond b (linked t BusFree) (linked t (TaskConnected d)))
    by true d f = tt
    by false d f = any-within (unit_at t.units d.lun) d f

reset-within : (t : Target) → LinkWithin (target_reset t).link (target_reset t)
unfolding target_reset
reset-within t = tt

acted-is : (t : Target) (c : Connection) (u : LogicalUnit) (m : Move) → t.link ≡ TaskConnected c → unit_at t.units c.lun ≡ Some u → target_acted t m ≡ goes_on t c u (acted m (session u c))
unfolding target_acted
acted-is t c u m working there = ap (λ l. acted_by l t m) working ∙ at-lun t c.lun _ u there

chosen-within : (t : Target) (c : Connection) (u : LogicalUnit) (m : Move) → t.link ≡ TaskConnected c → unit_at t.units c.lun ≡ Some u → c.shows ≡ ToChoose → Can m (session u c) u.rig.refusals (refused_so_far u c.task.ticket)
    → LinkWithin (target_acted t m).link (target_acted t m)
chosen-within t c u m working there e can =
    let y = acted m (session u c) in
    subst (λ z. LinkWithin z.link z) (sym (acted-is t c u m working there))
    (subst (λ o. UnitWithin o (record c { task = y.task; shows = y.shows })) (sym (unit-same t.units c.lun u (unit_after u y) there)) (acted-within m (session u c) u.rig.refusals e can))

-- the end of a task
ended-few : (o : Option Answered) (l x : ℕ) (s : Session) (p : Performed) → (tally s.task.ticket s.log).ends ≡ 0 → (tally s.task.ticket s.log).drops ≡ 0 → FewTurn l x s.log (ended o s p).log
ended-few (Some a) l x s p e d = entry-few l x s.task.ticket s.log (End s.task.ticket) refl (λ h. few-end l s.task.ticket s.log h e d)
ended-few None l x s p e d = entry-few l x s.task.ticket s.log (End s.task.ticket) refl (λ h. few-end l s.task.ticket s.log h e d)

abbrev MayClose : Bool → Tally → Type 0
MayClose true k = k.senses ≡ 0
MayClose false k = (k.ends ≡ 0) × (k.drops ≡ 0)

closed-by-few : (b : Bool) (l x : ℕ) (s : Session) → MayClose b (tally s.task.ticket s.log) → FewTurn l x s.log (closed_by b s).log
closed-by-few true l x s z = entry-few l x s.task.ticket s.log (Sense s.task.ticket) refl (λ h. few-sense l s.task.ticket s.log h z)
closed-by-few false l x s z = ended-few s.task.kept l x s (perform s.unit s.task.cdb s.task.received) z.0 z.1

closed-few : (v : Completion) (l x : ℕ) (s : Session) → MayClose s.task.senses (tally s.task.ticket s.log) → VerdictWithin v l (tally s.task.ticket s.log).refusals → FewTurn l x s.log (closed v s).log
unfolding closed
closed-few (HasAnswered st) l x s z w = closed-by-few s.task.senses l x s z
closed-few (Refused st) l x s z w = entry-few l x s.task.ticket s.log (Refuse s.task.ticket st) refl (λ h. few-refuse l s.task.ticket s.log h st w)

dropped-few : (b : Bool) (l x : ℕ) (u : LogicalUnit) (k : Task) → (tally k.ticket u.log).ends ≡ 0 → (tally k.ticket u.log).drops ≡ 0 → FewTurn l x u.log (drops_by b u k).log
dropped-few true l x u k e d = λ h. h
dropped-few false l x u k e d = entry-few l x k.ticket u.log (Drop k.ticket k.high) refl (λ h. few-drop l k.ticket u.log h k.high e d)

-- a reset drops at most one task of a ticket, where it has neither End nor Drop
abbrev MayDrop : ℕ → Tally → List Task → Type 0
MayDrop x n [] = Unit {0}
MayDrop x n (k ∷ ks) = (k.senses ≡ false → k.ticket ≡ x → (n.ends ≡ 0) × (n.drops ≡ 0) × HasNoTaskOf x ks) × MayDrop x n ks

drop-few : (b : Bool) (l x : ℕ) (n : Tally) (k : Task) (ks : List Task) (w : LogicalUnit) → k.senses ≡ b → (x ≡ k.ticket) ⊎ (x ≢ k.ticket) → tally x w.log ≡ n → MayDrop x n (k ∷ ks) → IsFew l n
    → ((v : LogicalUnit) → tally x v.log ≡ n → IsFew l (tally x (fold drops v ks).log)) → IsFew l (tally x (fold drops (drops_by b w k) ks).log)
drop-few true l x n k ks w s q e m f rest = rest w e
drop-few false l x n k ks w s (inl q) e m f rest =
    let z = m.0 s (sym q) in
    subst (IsFew l) (sym (drops-other x ks (drops_by false w k) z.2))
    (dropped-few false l x w k (ap (λ y. (tally y w.log).ends) (sym q) ∙ ap (λ y. y.ends) e ∙ z.0) (ap (λ y. (tally y w.log).drops) (sym q) ∙ ap (λ y. y.drops) e ∙ z.1) (subst (IsFew l) (sym e) f))
drop-few false l x n k ks w s (inr d) e m f rest = rest (drops_by false w k) (drop-other x false w k (λ q. d (sym q)) ∙ e)

drops-few : (l x : ℕ) (n : Tally) (ks : List Task) (w : LogicalUnit) → tally x w.log ≡ n → MayDrop x n ks → IsFew l n → IsFew l (tally x (fold drops w ks).log)
drops-few l x n [] w e m f = subst (IsFew l) (sym e) f
drops-few l x n (k ∷ ks) w e m f = drop-few k.senses l x n k ks w refl (same_or_not x k.ticket) e m f (λ v q. drops-few l x n ks v q m.1 f)

away-may : (g : Plan) (m : ℕ) (tickets : ℕ → Ticket) (x : ℕ) (n : Tally) (ks : List Task) → ((tickets x).life ≡ Away → (n.ends ≡ 0) × (n.drops ≡ 0)) → AwayTasks g m tickets ks → MayDrop x n ks
away-may g m tickets x n [] f h = tt
away-may g m tickets x n (k ∷ ks) f h = (
  λ s e. let z = f (ap (λ y. (tickets y).life) (sym e) ∙ h.0.life) in (z.0, z.1, subst (λ y. HasNoTaskOf y ks) e h.1),
  away-may g m tickets x n ks f h.2,
)

may-by : (b : Bool) (x : ℕ) (n : Tally) (k y : Task) (ys zs : List Task) → MayDrop x n (k ∷ y ∷ ys) → MayDrop x n (y ∷ zs) → MayDrop x n (cond b (k ∷ (y ∷ ys)) (y ∷ zs))
may-by true x n k y ys zs f h = f
may-by false x n k y ys zs f h = h

may-by_tag : (x : ℕ) (n : Tally) (k : Task) (ys : List Task) → (k.senses ≡ false → k.ticket ≡ x → (n.ends ≡ 0) × (n.drops ≡ 0)) → HasNoTaskOf k.ticket ys → MayDrop x n ys → MayDrop x n (by_tag k ys)
unfolding by_tag
may-by_tag x n k [] f d m = ((λ s e. let z = f s e in (z.0, z.1, tt)), tt)
may-by_tag x n k (y ∷ ys) f d m =
    may-by (nat_lt k.tag y.tag) x n k y ys (by_tag k ys) ((λ s e. let z = f s e in (z.0, z.1, subst (λ a. HasNoTaskOf a (y ∷ ys)) e d)), m)
    ((λ s e. let z = m.0 s e in (z.0, z.1, not-by_tag x k ys (λ q. d.0 (e ∙ sym q)) z.2)), may-by_tag x n k ys f d.1 m.1)

cleared-few : (l x : ℕ) (log : List LogEntry) → FewTurn l x log (log ++ Clear ∷ [])
cleared-few l x log h = subst (IsFew l) (sym (tally-clear x log)) (record { refusals = h.refusals; looks = h.looks; closes = h.closes; senses = h.senses })

reset-few : (l x : ℕ) (v : LogicalUnit) (log : List LogEntry) → v.log ≡ log → MayDrop x (tally x log) v.tasks → FewTurn l x log (unit_reset v).log
unfolding unit_reset
reset-few l x v log e m f = cleared-few l x (fold drops v v.tasks).log (drops-few l x (tally x log) v.tasks v (ap (tally x) e) m f)

-- a target in place of another one
within-at : (ts : ℕ → Target) (i : ℕ) (t : Target) → ((j : ℕ) → LinkWithin (ts j).link (ts j)) → LinkWithin t.link t → (j : ℕ) → LinkWithin (with_at ts i t j).link (with_at ts i t j)
within-at ts i t f h j = by (same_or_not j i)
  where
    by : (j ≡ i) ⊎ (j ≢ i) → LinkWithin (with_at ts i t j).link (with_at ts i t j)
    by (inl q) = subst (λ z. LinkWithin z.link z) (sym (ap (with_at ts i t) q ∙ with_at-same ts i t)) h
    by (inr d) = subst (λ z. LinkWithin z.link z) (sym (with_at-other ts i t j d)) (f j)

module _ (g : Plan) (count : ℕ) (plan : IsPlan g count) (ks : ℕ → Ticket) (ts : ℕ → Target) (h : AllKept g count ks ts) (x : ℕ) where
  abbrev Turns : (ℕ → Target) → Type 0
  Turns us = FewTurn (limit_of g x) x (log_of g (ts (target_of g x)) x) (log_of g (us (target_of g x)) x)

  -- the units stay
  still : (i : ℕ) (t : Target) → t.units ≡ (ts i).units → Turns (with_at ts i t)
  still i t e = target-logs (FewTurn (limit_of g x) x) (λ l f. f) g ts i x t (λ q. subst (λ z. FewTurn (limit_of g x) x (log_of g (ts i) x) (log_in (unit_at z (g.units (unit_of g x)).lun))) (sym e) (λ f. f))

  -- one unit gets another log
  logs : (i : ℕ) (t : Target) (at : ℕ) (u v : LogicalUnit) → unit_at (ts i).units at ≡ Some u → t.units ≡ with_unit (ts i).units at v → (u.rig ≡ g.units (unit_of g x) → FewTurn (limit_of g x) x u.log v.log) → Turns (with_at ts i t)
  logs i t at u v there e f = target-logs (FewTurn (limit_of g x) x) (λ l f. f) g ts i x t (λ q.
      subst (λ z. FewTurn (limit_of g x) x (log_of g (ts i) x) (log_in (unit_at z (g.units (unit_of g x)).lun))) (sym e)
      (unit-logs (FewTurn (limit_of g x) x) (λ l f. f) (ts i).units at (g.units (unit_of g x)).lun u v there (λ p.
      let old = (h.each i).units (unit_of g x) (plan.known x) q in
      f (ap (λ z. z.rig) (same_Some u old.0 (sym there ∙ ap (unit_at (ts i).units) (sym p) ∙ old.1)) ∙ old.2.rig))))

  -- the unit of a connected sense task
  sense-none : (i : ℕ) (c : Connection) (u : LogicalUnit) → (ts i).link ≡ TaskConnected c → c.task.senses ≡ true → unit_at (ts i).units c.lun ≡ Some u → (tally c.task.ticket u.log).senses ≡ 0
  sense-none i c u working senses there =
      let w : IsAsking g i ks (ts i) c = subst (λ b. WorkKept b g i ks (ts i) c) senses (subst (λ l. LinkKept l g i ks (ts i)) working (h.each i).link) in
      let unit = unit-of-work g count plan i ks (ts i) (h.each i).units c.task.ticket c.lun u w.target w.lun there in
      (sense_at g c.task.ticket (ks c.task.ticket) u.log AskConnected (unit.each c.task.ticket refl) w.life).unasked.senses

  may-close : (i : ℕ) (c : Connection) (u : LogicalUnit) (b : Bool) → (ts i).link ≡ TaskConnected c → c.task.senses ≡ b → unit_at (ts i).units c.lun ≡ Some u → MayClose b (tally c.task.ticket u.log)
  may-close i c u true working e there = sense-none i c u working e there
  may-close i c u false working e there = let q = runs g count plan i ks (ts i) (h.each i) c working e u there in (q.ends, q.drops)

  not-away : (i : ℕ) (c : Connection) → (ts i).link ≡ TaskConnected c → (ks c.task.ticket).life ≡ Away → ⊥
  not-away i c working a = by c.task.senses (subst (λ l. LinkKept l g i ks (ts i)) working (h.each i).link)
    where
      by : (b : Bool) → WorkKept b g i ks (ts i) c → ⊥
      by false w = let z : Connected ≡ Away = sym w.life ∙ a in cc
      by true w = let z : AskConnected ≡ Away = sym w.life ∙ a in cc

  -- target i is reset
  reset-turns : (i : ℕ) → ((u : LogicalUnit) → unit_at (ts i).units (g.units (unit_of g x)).lun ≡ Some u → UnitKept g (unit_of g x) ks u → (v : LogicalUnit)
      × (unit_at (target_reset (ts i)).units (g.units (unit_of g x)).lun ≡ Some (unit_reset v)) × (v.log ≡ u.log) × MayDrop x (tally x u.log) v.tasks) → Turns (with_at ts i (target_reset (ts i)))
  reset-turns i f = target-logs (FewTurn (limit_of g x) x) (λ l f. f) g ts i x (target_reset (ts i)) (λ q.
      let old = (h.each i).units (unit_of g x) (plan.known x) q in
      let n = f old.0 old.1 old.2 in
      subst (λ z. FewTurn (limit_of g x) x (log_in z) (log_of g (target_reset (ts i)) x)) (sym old.1)
      (subst (λ z. FewTurn (limit_of g x) x old.0.log (log_in z)) (sym n.1) (reset-few (limit_of g x) x n.0 old.0.log n.2 n.3)))

  clean-away : (u : LogicalUnit) → UnitKept g (unit_of g x) ks u → (ks x).life ≡ Away → ((tally x u.log).ends ≡ 0) × ((tally x u.log).drops ≡ 0)
  clean-away u kept a = let q = fate_at g x (ks x) u.log Away (kept.each x refl) a in (q.0.ends, q.0.drops)

  idle-turns : (i : ℕ) → parted (ts i).link (ts i) ≡ ts i → Turns (with_at ts i (target_reset (ts i)))
  idle-turns i p = reset-turns i (λ u there kept. (
    u,
    reset-there (ts i) (ts i) (g.units (unit_of g x)).lun u p there,
    refl,
    away-may g (unit_of g x) ks x (tally x u.log) u.tasks (clean-away u kept) kept.lists.tasks,
  ))

  work-turns : (i : ℕ) (c : Connection) (w : LogicalUnit) → (ts i).link ≡ TaskConnected c → unit_at (ts i).units c.lun ≡ Some w → Turns (with_at ts i (target_reset (ts i)))
  work-turns i c w working own = reset-turns i (λ u there kept. by u there kept (same_or_not (g.units (unit_of g x)).lun c.lun))
    where
      p : parted (ts i).link (ts i) ≡ leaves (ts i) c w
      p = ap (λ l. parted l (ts i)) working ∙ at-lun (ts i) c.lun (leaves (ts i) c) w own

      by : (u : LogicalUnit) → unit_at (ts i).units (g.units (unit_of g x)).lun ≡ Some u → UnitKept g (unit_of g x) ks u → ((g.units (unit_of g x)).lun ≡ c.lun) ⊎ ((g.units (unit_of g x)).lun ≢ c.lun)
          → (v : LogicalUnit) × (unit_at (target_reset (ts i)).units (g.units (unit_of g x)).lun ≡ Some (unit_reset v)) × (v.log ≡ u.log) × MayDrop x (tally x u.log) v.tasks
      by u there kept (inl q) =
          let same : u ≡ w = same_Some u w (sym there ∙ ap (unit_at (ts i).units) q ∙ own) in
          let unit : UnitKept g (unit_of g x) ks w = subst (UnitKept g (unit_of g x) ks) same kept in
          let may : MayDrop x (tally x w.log) (by_tag (away c.task) w.tasks) = may-by_tag x (tally x w.log) (away c.task) w.tasks
          (λ s e. let r = runs g count plan i ks (ts i) (h.each i) c working s w own in (ap (λ y. (tally y w.log).ends) (sym e) ∙ r.ends, ap (λ y. (tally y w.log).drops) (sym e) ∙ r.drops))
          (not-of g (unit_of g x) ks c.task.ticket w.tasks (not-away i c working) unit.lists.tasks)
          (away-may g (unit_of g x) ks x (tally x w.log) w.tasks (clean-away w unit) unit.lists.tasks) in (
            unit_left w c.task,
            reset-there (ts i) (leaves (ts i) c w) (g.units (unit_of g x)).lun (unit_left w c.task) p (ap (unit_at (with_unit (ts i).units c.lun (unit_left w c.task))) q ∙ unit-same (ts i).units c.lun w (unit_left w c.task) own),
            ap (λ z. z.log) (sym same),
            subst (λ z. MayDrop x (tally x z.log) (by_tag (away c.task) w.tasks)) (sym same) may,
          )
      by u there kept (inr d) = (
        u,
        reset-there (ts i) (leaves (ts i) c w) (g.units (unit_of g x)).lun u p (unit-other (ts i).units c.lun (g.units (unit_of g x)).lun (unit_left w c.task) d ∙ there),
        refl,
        away-may g (unit_of g x) ks x (tally x u.log) u.tasks (clean-away u kept) kept.lists.tasks,
      )

-- the verdict that is shown
told : (v : Completion) (s : Bool) (c : Connection) (u : LogicalUnit) (t : Target) → t.link ≡ TaskConnected c → unit_at t.units c.lun ≡ Some u → c.shows ≡ MessageIn (CommandComplete v) s → LinkWithin t.link t
    → VerdictWithin v u.rig.refusals (refused_so_far u c.task.ticket)
told v s c u t working there e w =
    let at : UnitWithin (unit_at t.units c.lun) c = subst (λ l. LinkWithin l t) working w in
    subst (λ z. ShownWithin z u.rig.refusals (refused_so_far u c.task.ticket)) e (subst (λ o. UnitWithin o c) there at)

module _ (g : Plan) (count : ℕ) (plan : IsPlan g count) (ks : ℕ → Ticket) (ts : ℕ → Target) (h : AllKept g count ks ts) (within : (i : ℕ) → LinkWithin (ts i).link (ts i)) where
  shown : (i : ℕ) (c : Connection) → (ts i).link ≡ TaskConnected c → UnitWithin (unit_at (ts i).units c.lun) c
  shown i c working = subst (λ l. LinkWithin l (ts i)) working (within i)

  within-on : (ns : ℕ → Ticket) (us : ℕ → Target) → Moves g count ks ts ns us → (j : ℕ) → LinkWithin (us j).link (us j)
  within-on ns us (alone x k u e m) = within
  within-on ns us (points x lastp savep e) = within
  within-on ns us (marks x can) = within
  within-on ns us (relinks i l e f may) = within-at ts i _ within (idle-within l (linked (ts i) l) f)
  within-on ns us (acts i c u m w there e can) = within-at ts i _ within (chosen-within (ts i) c u m w there e can)
  within-on ns us (sends i c at b w free e byte) = within-at ts i _ within (sent-within c.shows (ts i) c refl (shown i c w))
  within-on ns us (receives i c n at b w free e f byte) = within-at ts i _ within (any-within (unit_at (ts i).units c.lun) (took_by (DataOut n) c b) (out-within n))
  within-on ns us (hears i c n s w free e d f) = within-at ts i _ within (heard-within n (ts i) c d (shown i c w))
  within-on ns us (listens i c heard w free) = within-at ts i _ within (any-within (unit_at (ts i).units c.lun) (record c { heard = heard; shows = MessageOut }) (λ l r. tt))
  within-on ns us (leaves_bus i c u w free there e) = within-at ts i _ within tt
  within-on ns us (completes i c u v s k w free there e z) = within-at ts i _ within tt
  within-on ns us (drops_task i c u w free there e) = within-at ts i _ within tt
  within-on ns us (reselects n m u k less idle there e) = within-at ts (g.units n).target _ within
      (any-within (unit_at (with_unit (ts (g.units n).target).units (g.units n).lun (record u { tasks = remove u.tasks m })) (g.units n).lun)
      (record { lun = (g.units n).lun; reselected = true; heard = []; task = k; shows = MessageIn (Reselection part.Identify) false }) (λ l r. tt))
  within-on ns us (begins x n u idle there lun tag life others) = within-at ts (target_of g x) _ within (begun-within (ts (target_of g x)) n (command (g.requests x)) u x)
  within-on ns us (ask_sends i c at b w free e byte) = within-at ts i _ within (sent-within c.shows (ts i) c refl (shown i c w))
  within-on ns us (ask_completes i c u v s w free there e) = within-at ts i _ within tt
  within-on ns us (ask_begins x n u idle there lun tag life others) = within-at ts (target_of g x) _ within (begun-within (ts (target_of g x)) n (RequestSense 18) u x)
  within-on ns us (resets_idle i b idle can) = within-at ts i _ within (reset-within (ts i))
  within-on ns us (resets_work i b c u w free there can) = within-at ts i _ within (reset-within (ts i))
  within-on ns us (resets_asking i c u w free there) = within-at ts i _ within (reset-within (ts i))

  few-on : (ns : ℕ → Ticket) (us : ℕ → Target) → Moves g count ks ts ns us → (x : ℕ) → IsFew (limit_of g x) (tally_in g ts x) → IsFew (limit_of g x) (tally_in g us x)
  few-on ns us (alone y k u e m) x = λ f. f
  few-on ns us (points y lastp savep e) x = λ f. f
  few-on ns us (marks y can) x = λ f. f
  few-on ns us (relinks i l e f may) x = still g count plan ks ts h x i _ refl
  few-on ns us (acts i c u m w there e can) x =
      logs g count plan ks ts h x i _ c.lun u (unit_after u (acted m (session u c))) there (ap (λ z. z.units) (acted-is (ts i) c u m w there))
      (λ r. acted-few m (limit_of g x) x (session u c) (λ free. (runs g count plan i ks (ts i) (h.each i) c w free u there).looks))
  few-on ns us (sends i c at b w free e byte) x = still g count plan ks ts h x i _ refl
  few-on ns us (receives i c n at b w free e f byte) x = still g count plan ks ts h x i _ refl
  few-on ns us (hears i c n s w free e d f) x = still g count plan ks ts h x i _ refl
  few-on ns us (listens i c heard w free) x = still g count plan ks ts h x i _ refl
  few-on ns us (leaves_bus i c u w free there e) x = logs g count plan ks ts h x i _ c.lun u (unit_left u c.task) there refl (λ r f. f)
  few-on ns us (completes i c u v s k w free there e z) x =
      logs g count plan ks ts h x i _ c.lun u (unit_after u (closed v (session u c))) there refl
      (λ r. closed-few v (limit_of g x) x (session u c) (may-close g count plan ks ts h x i c u c.task.senses w refl there)
      (subst (λ y. VerdictWithin v y.refusals (refused_so_far u c.task.ticket)) r (told v s c u (ts i) w there e (within i))))
  few-on ns us (drops_task i c u w free there e) x =
      logs g count plan ks ts h x i _ c.lun u (drops u c.task) there refl
      (λ r. let q = runs g count plan i ks (ts i) (h.each i) c w free u there in dropped-few c.task.senses (limit_of g x) x u c.task q.ends q.drops)
  few-on ns us (reselects n m u k less idle there e) x = logs g count plan ks ts h x (g.units n).target _ (g.units n).lun u (record u { tasks = remove u.tasks m }) there refl (λ r f. f)
  few-on ns us (begins y n u idle there lun tag life others) x = still g count plan ks ts h x (target_of g y) _ (begun-units (ts (target_of g y)) n (command (g.requests y)) u y)
  few-on ns us (ask_sends i c at b w free e byte) x = still g count plan ks ts h x i _ refl
  few-on ns us (ask_completes i c u v s w free there e) x =
      logs g count plan ks ts h x i _ c.lun u (unit_after u (closed v (session u c))) there refl
      (λ r. closed-few v (limit_of g x) x (session u c) (may-close g count plan ks ts h x i c u c.task.senses w refl there)
      (subst (λ y. VerdictWithin v y.refusals (refused_so_far u c.task.ticket)) r (told v s c u (ts i) w there e (within i))))
  few-on ns us (ask_begins y n u idle there lun tag life others) x = still g count plan ks ts h x (target_of g y) _ (begun-units (ts (target_of g y)) n (RequestSense 18) u y)
  few-on ns us (resets_idle i b idle can) x = idle-turns g count plan ks ts h x i (idle-parted (ts i).link idle (ts i))
  few-on ns us (resets_work i b c u w free there can) x = work-turns g count plan ks ts h x i c u w there
  few-on ns us (resets_asking i c u w free there) x = work-turns g count plan ks ts h x i c u w there

-- over a list of moves
record FewKept (g : Plan) (ts : ℕ → Target) : Type 0 where
  few : (x : ℕ) → IsFew (limit_of g x) (tally_in g ts x)
  within : (i : ℕ) → LinkWithin (ts i).link (ts i)

few-none : (l x : ℕ) → IsFew l (tally x [])
unfolding tally
few-none l x = record { refusals = omega arith; looks = omega arith; closes = omega arith; senses = omega arith }

few-by : (g : Plan) (count : ℕ) (plan : IsPlan g count) (ks : ℕ → Ticket) (ts : ℕ → Target) → Opens g count ks ts → (ns : ℕ → Ticket) (us : ℕ → Target) → Run g count ks ts ns us → FewKept g us
few-by g count plan ks ts o ns us none = record {
  few = λ x. subst (λ z. IsFew (limit_of g x) (tally x (log_in z))) (sym (o.units (unit_of g x) (plan.known x))) (few-none (limit_of g x) x);
  within = λ i. subst (λ l. LinkWithin l (ts i)) (sym (o.free i)) tt;
}
few-by g count plan ks ts o ns us (more {ms = ms} {us = vs} r m) =
    let h = kept-by g count plan ks ts (opens-kept g count ks ts o) ms vs r in
    let f = few-by g count plan ks ts o ms vs r in
    record { few = λ x. few-on g count plan ms vs h f.within ns us m x (f.few x); within = within-on g count plan ms vs h f.within ns us m }

pub entries-are-few : EntriesAreFew
entries-are-few g count ns us r x =
    let f = few-by g count r.plan r.from.0 r.from.1 r.from.2 ns us r.from.3 in
    let unit = ((all-kept g count ns us r).each (target_of g x)).units (unit_of g x) (r.plan.known x) refl in
    (unit.0, unit.1, subst (λ z. IsFew (limit_of g x) (tally x (log_in z))) unit.1 (f.few x))
