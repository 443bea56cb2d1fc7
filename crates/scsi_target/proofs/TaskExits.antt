-- What a call makes of the unit of a connected task, and of the device.
use Rattle.std.proofs.Common.{◌≡◌, ℕ, ◌+◌, ◌≤◌, ◌<◌, Bool, true, false, List, [], ◌∷◌, refl, ap, arith, sym, ◌∙◌, Option, Some, None, nat_le, nat_eq, length, length-append, subst, if◌then◌else◌}
use Rattle.std.proofs.lemmas.Bool.Decides.{nat_tests}
use Rattle.plain_lun.specs.Unit.{UnitState}
use Rattle.target_law.specs.declared.task_phase.TargetMessage.{TargetMessage}
use Rattle.target_law.specs.declared.task_phase.TargetMessage.TheVariants as target_message
use Rattle.target_law.specs.declared.task_phase.TaskPhase.{TaskPhase}
use Rattle.target_law.specs.declared.task_phase.TaskPhase.TheVariants as task_phase
use Rattle.target_law.specs.declared.task_phase.Completion.{Completion}
use Rattle.target_law.specs.declared.task_phase.Completion.TheVariants as completion
use Rattle.plain_lun.specs.Performing.{Answered, Performed, perform}
use Rattle.target_law.specs.Session.{Task, Session, closed, closed_by, ended}
use Rattle.target_law.specs.Sound.{IsWaiting}
use Rattle.unit_law.specs.declared.entry.LogEntry.TheVariants.{Refuse, End, Sense}
use Rattle.rig_types.specs.Ranges.{IsUnit}
use Rattle.target_law.specs.Bytes.{Connection, away}
use Rattle.target_law.specs.Target.{LogicalUnit, ConnectionState, BusFree, by_tag, unit_left, session, unit_after}
use Rattle.target_session.specs.Sessions.{session_of, core_after, closed_on, closed_message}
use Rattle.unit_core.specs.declared.Core.{Core}
use Rattle.unit_tasks.specs.Queue.{Queue, AllWait}
use Rattle.unit_tasks.specs.Units.{unit_of}
use Rattle.unit_tasks.specs.declared.queued.QueuedUnit.{QueuedUnit}
use Rattle.scsi_target.specs.Views.{link_of, IsSlot, IsConnected}
use Rattle.scsi_target.specs.declared.connection_state.ConnectionState.TheVariants as held
use Rattle.scsi_target.specs.TaskExits.{IsLastMessage, IsLast, IsMade}

fits : (n m : ℕ) → n ≤ m → nat_le n m ≡ true
fits n m l = grind (arith, nat_tests)

bursts : (n m : ℕ) → m < n → nat_le n m ≡ false
bursts n m l = grind (arith, nat_tests)

chosen : (A : Type 0) (b : Bool) (x y z : A) → b ≡ true → z ≡ x → z ≡ (if b then x else y)
chosen A true x y z e h = h
chosen A false x y z e h = cc

other : (A : Type 0) (b : Bool) (x y z : A) → b ≡ false → z ≡ y → z ≡ (if b then x else y)
other A false x y z e h = h
other A true x y z e h = cc

-- the log has room, and the task is connected no more
pub made_here : (old new : QueuedUnit) (c : Connection) (u : LogicalUnit) → unit_of new ≡ u → new.core.log.room ≡ old.core.log.room → length u.log ≤ old.core.log.room
    → IsSlot false held.BusFree c.lun new → IsMade c.lun old new (held.TaskConnected c) held.BusFree u BusFree
made_here old new c u e r l s = record {
  unit = chosen LogicalUnit (nat_le (length u.log) old.core.log.room) u (unit_of old) (unit_of new) (fits (length u.log) old.core.log.room l) e;
  link = chosen ConnectionState (nat_le (length u.log) old.core.log.room) BusFree (link_of (held.TaskConnected c)) BusFree (fits (length u.log) old.core.log.room l) refl;
  room = r;
  slot = s;
  only = tt;
}

-- it has none, and all is as before
pub made_stays : (old : QueuedUnit) (c : Connection) (u : LogicalUnit) → old.core.log.room < length u.log → IsSlot false (held.TaskConnected c) c.lun old → IsConnected false c old
    → IsMade c.lun old old (held.TaskConnected c) (held.TaskConnected c) u BusFree
made_stays old c u l s h = record {
  unit = other LogicalUnit (nat_le (length u.log) old.core.log.room) u (unit_of old) (unit_of old) (bursts (length u.log) old.core.log.room l) refl;
  link = other ConnectionState (nat_le (length u.log) old.core.log.room) BusFree (link_of (held.TaskConnected c)) (link_of (held.TaskConnected c)) (bursts (length u.log) old.core.log.room l) refl;
  room = refl;
  slot = s;
  only = (refl, h);
}

one_busy : (lun : ℕ) → ◌≡◌ {A = ℕ} (if nat_eq lun lun then 1 else 0) 1
one_busy lun = grind (arith, nat_tests)

-- the unit with one place more that isn't connected
pub places_of : (c : Connection) (q : QueuedUnit) → IsSlot false (held.TaskConnected c) c.lun q → length q.tasks.tasks + q.tasks.idle + 1 ≡ q.tasks.depth
places_of c q s = ap (λ n. length q.tasks.tasks + q.tasks.idle + n) (sym (one_busy c.lun)) ∙ s.places

pub slot_parted : (old new : QueuedUnit) (c : Connection) → IsSlot false (held.TaskConnected c) c.lun old → new.rig ≡ old.rig → new.tasks.depth ≡ old.tasks.depth
    → length new.tasks.tasks + new.tasks.idle ≡ length old.tasks.tasks + old.tasks.idle + 1 → AllWait new.core.lun new.tasks.tasks → length new.core.log.entries ≤ new.core.log.room
    → IsSlot false held.BusFree c.lun new
slot_parted old new c s r d n w l = record {
  lun = ap (λ x. x.lun) r ∙ s.lun;
  unit = subst (λ x. (version : ℕ) × IsUnit version x) (sym r) s.unit;
  rogue = ap (λ x. x.rogue) r ∙ s.rogue;
  depth = d ∙ s.depth ∙ sym (ap (λ x. x.depth) r);
  places = let p = places_of c old s in omega arith;
  waiting = w;
  log = l;
}

-- the task goes among the others
pub made_left : (old : QueuedUnit) (c : Connection) (tasks : Queue) → IsSlot false (held.TaskConnected c) c.lun old → IsConnected false c old
    → tasks ≡ record { tasks = by_tag (away c.task) old.tasks.tasks; idle = old.tasks.idle; depth = old.tasks.depth } → length tasks.tasks ≡ length old.tasks.tasks + 1
    → AllWait old.core.lun tasks.tasks
    → IsMade c.lun old (record { rig = old.rig; core = old.core; tasks = tasks }) (held.TaskConnected c) held.BusFree (unit_left (unit_of old) c.task) BusFree
made_left old c tasks s h e n w =
    made_here old _ c _ (ap (λ (x : Queue). record { rig = old.rig; plain = old.core.lun; log = old.core.log.entries; tasks = x.tasks }) e) refl s.log
    (slot_parted old _ c s refl (ap (λ (x : Queue). x.depth) e) (let i = ap (λ (x : Queue). x.idle) e in omega arith) w s.log)

-- the others wait on
pub all_wait : (old new : UnitState) (ks : List Task) → ((k : Task) → IsWaiting old k → IsWaiting new k) → AllWait old ks → AllWait new ks
all_wait old new ks f all = λ i d l. f _ (all i d l)

-- COMMAND COMPLETE logs one entry
length-ended : (o : Option Answered) (s : Session) (p : Performed) → length (ended o s p).log ≡ length s.log + 1
length-ended (Some kept) s p = length-append s.log (End s.task.ticket ∷ [])
length-ended None s p = length-append s.log (End s.task.ticket ∷ [])

length-closed_by : (b : Bool) (s : Session) → length (closed_by b s).log ≡ length s.log + 1
length-closed_by true s = length-append s.log (Sense s.task.ticket ∷ [])
length-closed_by false s = length-ended s.task.kept s (perform s.unit s.task.cdb s.task.received)

length-closed : (v : Completion) (s : Session) → length (closed v s).log ≡ length s.log + 1
unfolding closed
length-closed (completion.Refused st) s = length-append s.log (Refuse s.task.ticket st ∷ [])
length-closed (completion.Answered st) s = length-closed_by s.task.senses s

length-closed_message : (n : TargetMessage) (s : Session) → IsLastMessage n → length (closed_message n s).log ≡ length s.log + 1
length-closed_message (target_message.CommandComplete v) s i = length-closed v s
length-closed_message (target_message.Reselection p) s i = absurd i
length-closed_message target_message.SaveThenDisconnect s i = absurd i
length-closed_message target_message.SaveDataPointer s i = absurd i
length-closed_message target_message.RestorePointers s i = absurd i
length-closed_message target_message.Disconnect s i = absurd i

length-closed_on : (x : TaskPhase) (s : Session) → IsLast x → length (closed_on x s).log ≡ length s.log + 1
length-closed_on (task_phase.MessageIn n sent) s i = length-closed_message n s i
length-closed_on task_phase.ToChoose s i = absurd i
length-closed_on task_phase.MessageOut s i = absurd i
length-closed_on (task_phase.DataIn n) s i = absurd i
length-closed_on (task_phase.DataOut n) s i = absurd i
length-closed_on (task_phase.Status v) s i = absurd i

pub made_ended : (old : QueuedUnit) (core : Core) (c : Connection) (tasks : Queue) → IsSlot false (held.TaskConnected c) c.lun old → IsLast c.shows
    → length old.core.log.entries < old.core.log.room → core ≡ core_after old.core (closed_on c.shows (session_of old.core c))
    → ((k : Task) → IsWaiting old.core.lun k → IsWaiting core.lun k)
    → tasks ≡ record { tasks = old.tasks.tasks; idle = old.tasks.idle + 1; depth = old.tasks.depth }
    → IsMade c.lun old (record { rig = old.rig; core = core; tasks = tasks }) (held.TaskConnected c) held.BusFree (unit_after (unit_of old) (closed_on c.shows (session (unit_of old) c))) BusFree
made_ended old core c tasks s i l m w e =
    let x : Session = closed_on c.shows (session_of old.core c) in
    let more : length x.log ≡ length old.core.log.entries + 1 = length-closed_on c.shows (session_of old.core c) i in
    let entries : core.log.entries ≡ x.log = ap (λ (y : Core). y.log.entries) m in
    let room : core.log.room ≡ old.core.log.room = ap (λ (y : Core). y.log.room) m in
    let list : tasks.tasks ≡ old.tasks.tasks = ap (λ (y : Queue). y.tasks) e in
    let idle : tasks.idle ≡ old.tasks.idle + 1 = ap (λ (y : Queue). y.idle) e in
    made_here old _ c _ (ap (λ (y : List Task). record { rig = old.rig; plain = core.lun; log = core.log.entries; tasks = y }) list ∙ ap (λ (y : Core). record { rig = old.rig; plain = y.lun; log = y.log.entries; tasks = old.tasks.tasks }) m) room (omega arith)
    (slot_parted old _ c s refl (ap (λ (y : Queue). y.depth) e) (let n = ap length list in omega arith)
    (subst (λ (y : List Task). AllWait core.lun y) (sym list) (all_wait old.core.lun core.lun old.tasks.tasks w s.waiting)) (let n = ap length entries in omega arith))

pub made_unended : (old : QueuedUnit) (c : Connection) → IsSlot false (held.TaskConnected c) c.lun old → IsConnected false c old → IsLast c.shows → old.core.log.room ≤ length old.core.log.entries
    → IsMade c.lun old old (held.TaskConnected c) (held.TaskConnected c) (unit_after (unit_of old) (closed_on c.shows (session (unit_of old) c))) BusFree
made_unended old c s h i l =
    let more : length (closed_on c.shows (session_of old.core c)).log ≡ length old.core.log.entries + 1 = length-closed_on c.shows (session_of old.core c) i in
    made_stays old c _ (omega arith) s h
