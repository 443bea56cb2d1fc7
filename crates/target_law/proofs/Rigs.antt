-- No call of a target changes what the rig says of its units.
use Rattle.std.proofs.Common.{◌≡◌, ℕ, zero, suc, if◌then◌else◌, Bool, true, false, List, [], ◌∷◌, map, refl, ap, ◌∙◌, Option, Some, None, slice_get, remove}
use Rattle.std.specs.Prelude.{fold}
use Rattle.cdb_codec.specs.declared.commands.Cdb.{Cdb}
use Rattle.cdb_codec.specs.Blocks.{cdb_of}
use Rattle.target_law.specs.declared.moves.Move.{Move}
use Rattle.target_law.specs.declared.moves.Move.TheVariants as move
use Rattle.target_law.specs.declared.nexus.Nexus.{Nexus}
use Rattle.target_law.specs.declared.task_phase.ReselectByte.TheVariants as part
use Rattle.target_law.specs.declared.task_phase.TargetMessage.{TargetMessage}
use Rattle.target_law.specs.declared.task_phase.TargetMessage.TheVariants as target_message
use Rattle.target_law.specs.declared.task_phase.TaskPhase.{TaskPhase}
use Rattle.target_law.specs.declared.task_phase.TaskPhase.TheVariants.{ToChoose, MessageOut, DataIn, DataOut, Status, MessageIn}
use Rattle.target_law.specs.Session.{Task, acted, closed}
use Rattle.target_law.specs.Bytes.{Connection}
use Rattle.target_law.specs.Target.{LogicalUnit, ConnectionState, BusFree, Selected, TakingCommand, TaskConnected, RogueConnected, Target, unit_at, with_unit, at_lun, on_unit, session, unit_after, goes_on, ends, leaves, linked, unit_left, drops, drops_by, unit_reset, slot_reset, parted, target_reset}
use Rattle.target_law.specs.Calls.{rogue_acted, target_acted, acted_by, InitiatorMessage, Names, Resets, AbortsTag, Other, message_of, greeted, aborted, told, messaged_by, target_messaged, message_acked, shown_acked, acked_by, target_acked, begun, begun_with, begun_by, target_begun, nexus_of, whole_by, link_takes, link_took, task_reselected, reselected_by, target_reselected}
use Rattle.target_law.specs.Beginning.{begins_if, begins, took_where, target_took, ticket_for}
use Rattle.target_law.specs.Devices.{DeviceState, lie_within, where_room}
use Rattle.target_law.specs.Rigs.{rig_of, rigs}

-- two targets with the same rigs
abbrev pub Same : Target → Target → Type 0
Same t t' = rigs t'.units ≡ rigs t.units

-- a unit in its place
pub rigs-with_unit : (us : List (Option LogicalUnit)) (n : ℕ) (u v : LogicalUnit) → unit_at us n ≡ Some u → v.rig ≡ u.rig → rigs (with_unit us n v) ≡ rigs us
unfolding unit_at with_unit
rigs-with_unit [] n u v e r = cc
rigs-with_unit (x ∷ xs) zero u v e r = let is : x ≡ Some u = e in rw (is, r) refl
rigs-with_unit (x ∷ xs) (suc n) u v e r = ap (λ ys. rig_of x ∷ ys) (rigs-with_unit xs n u v e r)

on-same : (o : Option LogicalUnit) (t : Target) (f : LogicalUnit → Target) → ((u : LogicalUnit) → o ≡ Some u → Same t (f u)) → Same t (on_unit o f t)
on-same None t f g = refl
on-same (Some u) t f g = g u refl

lun-same : (t : Target) (lun : ℕ) (f : LogicalUnit → Target) → ((u : LogicalUnit) → unit_at t.units lun ≡ Some u → Same t (f u)) → Same t (at_lun t lun f)
lun-same t lun f g = on-same (unit_at t.units lun) t f g

left-same : (t : Target) (c : Connection) → Same t (at_lun t c.lun (leaves t c))
left-same t c = lun-same t c.lun (leaves t c) (λ u e. rigs-with_unit t.units c.lun u (unit_left u c.task) e refl)

-- a move
rogue_acted-same : (t : Target) (m : Move) (n : Option Nexus) → Same t (rogue_acted t m n)
rogue_acted-same t (move.Go n) x = refl
rogue_acted-same t move.Busy x = refl
rogue_acted-same t move.QueueFull x = refl
rogue_acted-same t move.Leave x = refl
rogue_acted-same t move.SaveLeave x = refl
rogue_acted-same t move.Save x = refl
rogue_acted-same t move.Restore x = refl
rogue_acted-same t (move.Rogue word) x = refl

acted_by-same : (l : ConnectionState) (t : Target) (m : Move) → Same t (acted_by l t m)
acted_by-same BusFree t m = refl
acted_by-same (Selected heard) t m = refl
acted_by-same (TakingCommand n taken) t m = refl
acted_by-same (TaskConnected c) t m = lun-same t c.lun (λ u. goes_on t c u (acted m (session u c))) (λ u e. rigs-with_unit t.units c.lun u (unit_after u (acted m (session u c))) e refl)
acted_by-same (RogueConnected s n) t m = rogue_acted-same t m n

pub rigs-acted : (t : Target) (m : Move) → Same t (target_acted t m)
unfolding target_acted
rigs-acted t m = acted_by-same t.link t m

-- a reset
pub rig-drops_by : (senses : Bool) (u : LogicalUnit) (k : Task) → (drops_by senses u k).rig ≡ u.rig
rig-drops_by true u k = refl
rig-drops_by false u k = refl

pub rig-drops : (ks : List Task) (u : LogicalUnit) → (fold drops u ks).rig ≡ u.rig
rig-drops [] u = refl
rig-drops (k ∷ ks) u = rig-drops ks (drops u k) ∙ rig-drops_by k.senses u k

pub rig-unit_reset : (u : LogicalUnit) → (unit_reset u).rig ≡ u.rig
unfolding unit_reset
rig-unit_reset u = rig-drops u.tasks u

rigs-slot_reset : (us : List (Option LogicalUnit)) → rigs (map slot_reset us) ≡ rigs us
rigs-slot_reset [] = refl
rigs-slot_reset (None ∷ us) = ap (λ ys. None ∷ ys) (rigs-slot_reset us)
rigs-slot_reset (Some u ∷ us) = ap (λ r. Some r ∷ rigs (map slot_reset us)) (rig-unit_reset u) ∙ ap (λ ys. Some u.rig ∷ ys) (rigs-slot_reset us)

parted-same : (l : ConnectionState) (t : Target) → Same t (parted l t)
parted-same BusFree t = refl
parted-same (Selected heard) t = refl
parted-same (TakingCommand n taken) t = refl
parted-same (TaskConnected c) t = left-same t c
parted-same (RogueConnected s n) t = refl

pub rigs-reset : (t : Target) → Same t (target_reset t)
unfolding target_reset
rigs-reset t = rigs-slot_reset (parted t.link t).units ∙ parted-same t.link t

-- a message to the target
greeted-same : (t : Target) (h : InitiatorMessage) → Same t (greeted t h)
greeted-same t (Names n) = lun-same (linked t BusFree) n.lun (λ u. linked t (TakingCommand n [])) (λ u e. refl)
greeted-same t Resets = rigs-reset t
greeted-same t AbortsTag = refl
greeted-same t Other = refl

aborted-same : (reselected : Bool) (t : Target) (c : Connection) → Same t (at_lun t c.lun (aborted reselected t c))
aborted-same true t c = lun-same t c.lun (aborted true t c) (λ u e. rigs-with_unit t.units c.lun u (drops u c.task) e (rig-drops_by c.task.senses u c.task))
aborted-same false t c = left-same t c

told-same : (h : InitiatorMessage) (t : Target) (c : Connection) → Same t (told h t c)
told-same (Names n) t c = left-same t c
told-same Resets t c = rigs-reset t
told-same AbortsTag t c = aborted-same c.reselected t c
told-same Other t c = left-same t c

messaged_by-same : (l : ConnectionState) (t : Target) → Same t (messaged_by l t)
messaged_by-same BusFree t = refl
messaged_by-same (Selected heard) t = greeted-same t (message_of heard)
messaged_by-same (TakingCommand n taken) t = refl
messaged_by-same (TaskConnected c) t = told-same (message_of c.heard) t c
messaged_by-same (RogueConnected s n) t = refl

pub rigs-messaged : (t : Target) → Same t (target_messaged t)
unfolding target_messaged
rigs-messaged t = messaged_by-same t.link t

-- a message of the target is acknowledged
message_acked-same : (n : TargetMessage) (t : Target) (c : Connection) → Same t (message_acked n t c)
message_acked-same (target_message.CommandComplete v) t c = lun-same t c.lun (λ u. ends t c u (closed v (session u c))) (λ u e. rigs-with_unit t.units c.lun u (unit_after u (closed v (session u c))) e refl)
message_acked-same target_message.Disconnect t c = left-same t c
message_acked-same (target_message.Reselection part.Identify) t c = refl
message_acked-same (target_message.Reselection part.SimpleQueueTag) t c = refl
message_acked-same (target_message.Reselection part.Tag) t c = refl
message_acked-same target_message.SaveThenDisconnect t c = refl
message_acked-same target_message.SaveDataPointer t c = refl
message_acked-same target_message.RestorePointers t c = refl

shown-same : (s : TaskPhase) (t : Target) (c : Connection) → Same t (shown_acked s t c)
shown-same ToChoose t c = refl
shown-same MessageOut t c = refl
shown-same (DataIn n) t c = refl
shown-same (DataOut n) t c = refl
shown-same (Status v) t c = refl
shown-same (MessageIn n sent) t c = message_acked-same n t c

acked_by-same : (l : ConnectionState) (t : Target) → Same t (acked_by l t)
acked_by-same BusFree t = refl
acked_by-same (Selected heard) t = refl
acked_by-same (TakingCommand n taken) t = refl
acked_by-same (TaskConnected c) t = shown-same c.shows t c
acked_by-same (RogueConnected s n) t = refl

pub rigs-acked : (t : Target) → Same t (target_acked t)
unfolding target_acked
rigs-acked t = acked_by-same t.link t

-- a task begins
either-same : (refused : Bool) (t : Target) (k l : ConnectionState) → Same t (if refused then linked t k else linked t l)
either-same true t k l = refl
either-same false t k l = refl

begun-same : (t : Target) (n : Nexus) (c : Cdb) (ticket : ℕ) → Same t (at_lun t n.lun (λ u. begun t n c u ticket))
begun-same t n c ticket = lun-same t n.lun (λ u. begun t n c u ticket) (λ u e. either-same _ t BusFree _)

begun_with-same : (o : Option ℕ) (t : Target) (n : Nexus) (c : Cdb) → Same t (begun_with t n c o)
begun_with-same None t n c = refl
begun_with-same (Some ticket) t n c = begun-same t n c ticket

begun_by-same : (l : ConnectionState) (t : Target) (o : Option ℕ) → Same t (begun_by l t o)
begun_by-same BusFree t o = refl
begun_by-same (Selected heard) t o = refl
begun_by-same (TakingCommand n taken) t o = begun_with-same o t n (cdb_of taken)
begun_by-same (TaskConnected c) t o = refl
begun_by-same (RogueConnected s n) t o = refl

pub rigs-begun : (t : Target) (o : Option ℕ) → Same t (target_begun t o)
unfolding target_begun
rigs-begun t o = begun_by-same t.link t o

-- a reselection
task-same : (t : Target) (lun n : ℕ) (u : LogicalUnit) (o : Option Task) → unit_at t.units lun ≡ Some u → Same t (task_reselected t lun n u o)
task-same t lun n u None e = refl
task-same t lun n u (Some k) e = rigs-with_unit t.units lun u (record u { tasks = remove u.tasks n }) e refl

by-same : (rogue : Bool) (t : Target) (lun n tag : ℕ) (u : LogicalUnit) → unit_at t.units lun ≡ Some u → Same t (reselected_by rogue t lun n tag u)
by-same true t lun n tag u e = refl
by-same false t lun n tag u e = task-same t lun n u (slice_get u.tasks n) e

pub rigs-reselected : (t : Target) (lun n tag : ℕ) → Same t (target_reselected t lun n tag)
unfolding target_reselected
rigs-reselected t lun n tag = lun-same t lun (λ u. reselected_by u.rig.rogue t lun n tag u) (λ u e. by-same u.rig.rogue t lun n tag u e)

-- a byte from the initiator
begins_if-same : (live : Nexus → Option ℕ) (whole : Bool) (t : Target) → Same t (begins_if live whole t)
begins_if-same live true t = rigs-begun t (ticket_for live t (nexus_of t.link))
begins_if-same live false t = refl

took_where-same : (live : Nexus → Option ℕ) (takes : Bool) (t : Target) (b : ℕ) → Same t (took_where live takes t b)
took_where-same live true t b = let l : ConnectionState = link_took t.link b in begins_if-same live (whole_by l) (linked t l)
took_where-same live false t b = refl

pub rigs-took : (live : Nexus → Option ℕ) (t : Target) (b : ℕ) → Same t (target_took live t b)
unfolding target_took
rigs-took live t b = took_where-same live (link_takes t.link) t b

-- where the logs have room for it, or not
where_room-same : (lies : Bool) (d : DeviceState) (t : Target) → rigs t.units ≡ rigs d.target.units → rigs (if lies then record { target = t; rooms = d.rooms } else d).target.units ≡ rigs d.target.units
where_room-same true d t e = e
where_room-same false d t e = refl

pub rigs-where_room : (d : DeviceState) (t : Target) → rigs t.units ≡ rigs d.target.units → rigs (where_room d t).target.units ≡ rigs d.target.units
unfolding where_room
rigs-where_room d t e = where_room-same (lie_within t.units d.rooms) d t e
