-- No call of a target changes what the rig says of a unit, and none makes its disk smaller.
use Rattle.std.proofs.Common.{arith, ◌≡◌, ◌≤◌, ◌+◌, ◌*◌, ◌/◌, ℕ, zero, suc, if◌then◌else◌, Bool, true, false, List, [], ◌∷◌, length, length-append, length-take, length-drop, map, refl, subst, sym, ◌∙◌, Option, Some, None, slice_get, remove}
use Rattle.std.proofs.lemmas.Bool.Decides.{nat_tests}
use Rattle.std.specs.Prelude.{fold}
use Rattle.scsi_words.specs.declared.phases.kinds.Direction.{Direction}
use Rattle.scsi_words.specs.declared.phases.kinds.Direction.TheVariants.{In, Out, None as NoData}
use Rattle.cdb_codec.specs.declared.commands.Cdb.{Cdb}
use Rattle.cdb_codec.specs.declared.commands.Cdb.TheVariants.{TestUnitReady, RequestSense, Read, Write, Inquiry, ReadCapacity, BadField, Other as OtherCommand}
use Rattle.cdb_codec.specs.Blocks.{cdb_of}
use Rattle.cdb_codec.specs.Forms.{need_of}
use Rattle.plain_lun.specs.Unit.{UnitState}
use Rattle.plain_lun.specs.Performing.{Answered, Performed, holds, stored, transferred, ordinary, attended, perform, blocks_at}
use Rattle.plain_lun.specs.Losing.{cleared}
use Rattle.plain_lun.proofs.Laws.{size-dropped}
use Rattle.target_law.specs.declared.moves.Move.{Move}
use Rattle.target_law.specs.declared.moves.Move.TheVariants as move
use Rattle.target_law.specs.declared.nexus.Nexus.{Nexus}
use Rattle.target_law.specs.declared.task_phase.Completion.{Completion}
use Rattle.target_law.specs.declared.task_phase.Completion.TheVariants as completion
use Rattle.target_law.specs.declared.task_phase.ReselectByte.TheVariants as part
use Rattle.target_law.specs.declared.task_phase.TargetMessage.{TargetMessage}
use Rattle.target_law.specs.declared.task_phase.TargetMessage.TheVariants as target_message
use Rattle.target_law.specs.declared.task_phase.TaskPhase.{TaskPhase}
use Rattle.target_law.specs.declared.task_phase.TaskPhase.TheVariants.{ToChoose, MessageOut, DataIn, DataOut, Status, MessageIn}
use Rattle.target_law.specs.Session.{Task, Session, acted, closed, gone, phased, looked, looked_by, closed_by, ended, remaining}
use Rattle.target_law.specs.Bytes.{Connection}
use Rattle.target_law.specs.Target.{LogicalUnit, ConnectionState, BusFree, Selected, TakingCommand, TaskConnected, RogueConnected, Target, unit_at, with_unit, at_lun, on_unit, session, unit_after, goes_on, ends, leaves, linked, unit_left, drops, drops_by, unit_reset, slot_reset, parted, target_reset}
use Rattle.target_law.specs.Calls.{rogue_acted, target_acted, acted_by, InitiatorMessage, Names, Resets, AbortsTag, Other, message_of, greeted, aborted, told, messaged_by, target_messaged, message_acked, shown_acked, acked_by, target_acked, begun, begun_with, begun_by, target_begun, nexus_of, whole_by, link_takes, link_took, task_reselected, reselected_by, target_reselected}
use Rattle.target_law.specs.Beginning.{begins_if, took_where, target_took, ticket_for}
use Rattle.target_law.specs.Devices.{DeviceState, lie_within, where_room}

-- ---- disks

abbrev size : UnitState → ℕ
size u = length u.disk

stored-grows : (disk : List ℕ) (at : ℕ) (bs : List ℕ) → at ≤ length disk → length disk ≤ length (stored disk at bs)
unfolding stored
stored-grows disk at bs h = simp (length-append, length-take, length-drop) (omega (arith, h))

within-disk : (u : UnitState) (lba blocks : ℕ) → holds u lba blocks ≡ true → 512 * lba ≤ size u
unfolding holds
within-disk u lba blocks h = let within : lba + blocks ≤ length u.disk / 512 = grind (arith, nat_tests) in omega arith

transferred-grows : (b : Bool) (u : UnitState) (d bs : List ℕ) → (b ≡ true → size u ≤ length d) → size u ≤ size (transferred b u d bs).unit
transferred-grows true u d bs h = h refl
transferred-grows false u d bs h = omega arith

ordinary-grows : (u : UnitState) (c : Cdb) (bs : List ℕ) → size u ≤ size (ordinary u c bs).unit
ordinary-grows u TestUnitReady bs = omega arith
ordinary-grows u (RequestSense len) bs = omega arith
ordinary-grows u (Read lba blocks six) bs = transferred-grows (holds u lba blocks) u u.disk (blocks_at u.disk lba blocks) (λ e. omega arith)
ordinary-grows u (Write lba blocks six) bs =
    transferred-grows (holds u lba blocks) u (stored u.disk (512 * lba) bs) [] (λ e. stored-grows u.disk (512 * lba) bs (within-disk u lba blocks e))
ordinary-grows u (Inquiry len) bs = omega arith
ordinary-grows u ReadCapacity bs = omega arith
ordinary-grows u BadField bs = omega arith
ordinary-grows u OtherCommand bs = omega arith

attended-grows : (b : Bool) (u : UnitState) (c : Cdb) (bs : List ℕ) → size u ≤ size (attended b u c bs).unit
attended-grows true u c bs = omega arith
attended-grows false u c bs = ordinary-grows u c bs

perform-grows : (u : UnitState) (c : Cdb) (bs : List ℕ) → size u ≤ size (perform u c bs).unit
unfolding perform
perform-grows u (Inquiry len) bs = omega arith
perform-grows u (RequestSense len) bs = omega arith
perform-grows u TestUnitReady bs = attended-grows u.attention u TestUnitReady bs
perform-grows u (Read lba blocks six) bs = attended-grows u.attention u (Read lba blocks six) bs
perform-grows u (Write lba blocks six) bs = attended-grows u.attention u (Write lba blocks six) bs
perform-grows u ReadCapacity bs = attended-grows u.attention u ReadCapacity bs
perform-grows u BadField bs = attended-grows u.attention u BadField bs
perform-grows u OtherCommand bs = attended-grows u.attention u OtherCommand bs

-- ---- sessions

looked-grows : (o : Option Answered) (s : Session) → size s.unit ≤ size (looked o s).unit
looked-grows (Some kept) s = omega arith
looked-grows None s = by s.task.senses
  where
    by : (senses : Bool) → size s.unit ≤ size (looked_by senses s (perform s.unit s.task.cdb [])).unit
    by true = omega arith
    by false = perform-grows s.unit s.task.cdb []

phased-grows : (d : Direction) (s : Session) (n : ℕ) → size s.unit ≤ size (phased d s n).unit
phased-grows In s n = looked-grows s.task.kept s
phased-grows Out s n = omega arith
phased-grows NoData s n = omega arith

gone-grows : (left : ℕ) (s : Session) (n : ℕ) → size s.unit ≤ size (gone left s n).unit
gone-grows zero s n = omega arith
gone-grows (suc left) s n = phased-grows (need_of s.task.cdb).direction s n

acted-grows : (m : Move) (s : Session) → size s.unit ≤ size (acted m s).unit
unfolding acted
acted-grows (move.Go n) s = gone-grows (remaining s) s n
acted-grows move.Busy s = omega arith
acted-grows move.QueueFull s = omega arith
acted-grows move.Leave s = omega arith
acted-grows move.SaveLeave s = omega arith
acted-grows move.Save s = omega arith
acted-grows move.Restore s = omega arith
acted-grows (move.Rogue word) s = omega arith

ended-grows : (o : Option Answered) (s : Session) (p : Performed) → size s.unit ≤ size p.unit → size s.unit ≤ size (ended o s p).unit
ended-grows (Some kept) s p h = omega arith
ended-grows None s p h = h

closed_by-grows : (senses : Bool) (s : Session) → size s.unit ≤ size (closed_by senses s).unit
closed_by-grows true s = perform-grows s.unit (RequestSense 18) []
closed_by-grows false s = ended-grows s.task.kept s (perform s.unit s.task.cdb s.task.received) (perform-grows s.unit s.task.cdb s.task.received)

closed-grows : (v : Completion) (s : Session) → size s.unit ≤ size (closed v s).unit
unfolding closed
closed-grows (completion.Refused st) s = omega arith
closed-grows (completion.Answered st) s = closed_by-grows s.task.senses s

-- ---- units

pub record Grows (u v : LogicalUnit) : Type 0 where
  pub rig : v.rig ≡ u.rig
  pub disk : size u.plain ≤ size v.plain

abbrev pub SlotGrows : Option LogicalUnit → Option LogicalUnit → Type 0
SlotGrows None None = Unit {0}
SlotGrows (Some u) (Some v) = Grows u v
SlotGrows x y = ⊥

abbrev pub UnitsGrow : List (Option LogicalUnit) → List (Option LogicalUnit) → Type 0
UnitsGrow [] [] = Unit {0}
UnitsGrow (x ∷ xs) (y ∷ ys) = SlotGrows x y × UnitsGrow xs ys
UnitsGrow xs ys = ⊥

abbrev pub TargetGrows : Target → Target → Type 0
TargetGrows t t' = UnitsGrow t.units t'.units

slot-stays : (x : Option LogicalUnit) → SlotGrows x x
slot-stays None = tt
slot-stays (Some u) = record { rig = refl; disk = omega arith }

pub units_stay : (us : List (Option LogicalUnit)) → UnitsGrow us us
units_stay [] = tt
units_stay (x ∷ xs) = (slot-stays x, units_stay xs)

slot-on : (x y z : Option LogicalUnit) → SlotGrows x y → SlotGrows y z → SlotGrows x z
slot-on None None None g h = tt
slot-on (Some u) (Some v) (Some w) g h = record { rig = h.rig ∙ g.rig; disk = omega (arith, g.disk, h.disk) }
slot-on None (Some v) z g h = absurd g
slot-on (Some u) None z g h = absurd g
slot-on None None (Some w) g h = absurd h
slot-on (Some u) (Some v) None g h = absurd h

pub units_on : (us vs ws : List (Option LogicalUnit)) → UnitsGrow us vs → UnitsGrow vs ws → UnitsGrow us ws
units_on [] [] [] g h = tt
units_on (x ∷ xs) (y ∷ ys) (z ∷ zs) g h = (slot-on x y z g.0 h.0, units_on xs ys zs g.1 h.1)
units_on [] (y ∷ ys) ws g h = absurd g
units_on (x ∷ xs) [] ws g h = absurd g
units_on [] [] (z ∷ zs) g h = absurd h
units_on (x ∷ xs) (y ∷ ys) [] g h = absurd h

pub unit_grows : (us vs : List (Option LogicalUnit)) (lun : ℕ) → UnitsGrow us vs → SlotGrows (unit_at us lun) (unit_at vs lun)
unfolding unit_at
unit_grows [] [] lun g = tt
unit_grows (x ∷ xs) (y ∷ ys) zero g = g.0
unit_grows (x ∷ xs) (y ∷ ys) (suc lun) g = unit_grows xs ys lun g.1
unit_grows [] (y ∷ ys) lun g = absurd g
unit_grows (x ∷ xs) [] lun g = absurd g

unit-with : (us : List (Option LogicalUnit)) (n : ℕ) (u v : LogicalUnit) → unit_at us n ≡ Some u → Grows u v → UnitsGrow us (with_unit us n v)
unfolding unit_at with_unit
unit-with [] n u v e g = tt
unit-with (x ∷ xs) zero u v e g = let is : x ≡ Some u = e in (subst (λ (o : Option LogicalUnit). SlotGrows o (Some v)) (sym is) g, units_stay xs)
unit-with (x ∷ xs) (suc n) u v e g = (slot-stays x, unit-with xs n u v e g)

-- ---- targets

stays : (t : Target) → TargetGrows t t
stays t = units_stay t.units

on-grows : (o : Option LogicalUnit) (t : Target) (f : LogicalUnit → Target) → ((u : LogicalUnit) → o ≡ Some u → TargetGrows t (f u)) → TargetGrows t (on_unit o f t)
on-grows None t f g = stays t
on-grows (Some u) t f g = g u refl

lun-grows : (t : Target) (lun : ℕ) (f : LogicalUnit → Target) → ((u : LogicalUnit) → unit_at t.units lun ≡ Some u → TargetGrows t (f u)) → TargetGrows t (at_lun t lun f)
lun-grows t lun f g = on-grows (unit_at t.units lun) t f g

left-grows : (t : Target) (c : Connection) → TargetGrows t (at_lun t c.lun (leaves t c))
left-grows t c = lun-grows t c.lun (leaves t c) (λ u e. unit-with t.units c.lun u (unit_left u c.task) e (record { rig = refl; disk = omega arith }))

-- a move
rogue_acted-grows : (t : Target) (m : Move) (n : Option Nexus) → TargetGrows t (rogue_acted t m n)
rogue_acted-grows t (move.Go n) x = stays t
rogue_acted-grows t move.Busy x = stays t
rogue_acted-grows t move.QueueFull x = stays t
rogue_acted-grows t move.Leave x = stays t
rogue_acted-grows t move.SaveLeave x = stays t
rogue_acted-grows t move.Save x = stays t
rogue_acted-grows t move.Restore x = stays t
rogue_acted-grows t (move.Rogue word) x = stays t

acted_by-grows : (l : ConnectionState) (t : Target) (m : Move) → TargetGrows t (acted_by l t m)
acted_by-grows BusFree t m = stays t
acted_by-grows (Selected heard) t m = stays t
acted_by-grows (TakingCommand n taken) t m = stays t
acted_by-grows (TaskConnected c) t m =
    lun-grows t c.lun (λ u. goes_on t c u (acted m (session u c)))
    (λ u e. unit-with t.units c.lun u (unit_after u (acted m (session u c))) e (record { rig = refl; disk = acted-grows m (session u c) }))
acted_by-grows (RogueConnected s n) t m = rogue_acted-grows t m n

pub acted_grows : (t : Target) (m : Move) → TargetGrows t (target_acted t m)
unfolding target_acted
acted_grows t m = acted_by-grows t.link t m

-- a reset
drops_by-grows : (senses : Bool) (u : LogicalUnit) (k : Task) → Grows u (drops_by senses u k)
drops_by-grows true u k = record { rig = refl; disk = omega arith }
drops_by-grows false u k = record { rig = refl; disk = omega (arith, size-dropped u.plain k.cdb k.received) }

drops-grow : (ks : List Task) (u : LogicalUnit) → Grows u (fold drops u ks)
drops-grow [] u = record { rig = refl; disk = omega arith }
drops-grow (k ∷ ks) u =
    let first : Grows u (drops u k) = drops_by-grows k.senses u k in
    let rest : Grows (drops u k) (fold drops (drops u k) ks) = drops-grow ks (drops u k) in
    record { rig = rest.rig ∙ first.rig; disk = omega (arith, first.disk, rest.disk) }

reset-grows : (u : LogicalUnit) → Grows u (unit_reset u)
unfolding unit_reset cleared
reset-grows u = let g : Grows u (fold drops u u.tasks) = drops-grow u.tasks u in record { rig = g.rig; disk = g.disk }

slots-reset-grow : (us : List (Option LogicalUnit)) → UnitsGrow us (map slot_reset us)
slots-reset-grow [] = tt
slots-reset-grow (None ∷ us) = (tt, slots-reset-grow us)
slots-reset-grow (Some u ∷ us) = (reset-grows u, slots-reset-grow us)

pub parted_grows : (l : ConnectionState) (t : Target) → TargetGrows t (parted l t)
parted_grows BusFree t = stays t
parted_grows (Selected heard) t = stays t
parted_grows (TakingCommand n taken) t = stays t
parted_grows (TaskConnected c) t = left-grows t c
parted_grows (RogueConnected s n) t = stays t

pub reset_grows : (t : Target) → TargetGrows t (target_reset t)
unfolding target_reset
reset_grows t = units_on t.units (parted t.link t).units _ (parted_grows t.link t) (slots-reset-grow (parted t.link t).units)

-- a message to the target
greeted-grows : (t : Target) (h : InitiatorMessage) → TargetGrows t (greeted t h)
greeted-grows t (Names n) = lun-grows (linked t BusFree) n.lun (λ u. linked t (TakingCommand n [])) (λ u e. stays t)
greeted-grows t Resets = reset_grows t
greeted-grows t AbortsTag = stays t
greeted-grows t Other = stays t

aborted-grows : (reselected : Bool) (t : Target) (c : Connection) → TargetGrows t (at_lun t c.lun (aborted reselected t c))
aborted-grows true t c = lun-grows t c.lun (aborted true t c) (λ u e. unit-with t.units c.lun u (drops u c.task) e (drops_by-grows c.task.senses u c.task))
aborted-grows false t c = left-grows t c

told-grows : (h : InitiatorMessage) (t : Target) (c : Connection) → TargetGrows t (told h t c)
told-grows (Names n) t c = left-grows t c
told-grows Resets t c = reset_grows t
told-grows AbortsTag t c = aborted-grows c.reselected t c
told-grows Other t c = left-grows t c

messaged_by-grows : (l : ConnectionState) (t : Target) → TargetGrows t (messaged_by l t)
messaged_by-grows BusFree t = stays t
messaged_by-grows (Selected heard) t = greeted-grows t (message_of heard)
messaged_by-grows (TakingCommand n taken) t = stays t
messaged_by-grows (TaskConnected c) t = told-grows (message_of c.heard) t c
messaged_by-grows (RogueConnected s n) t = stays t

pub messaged_grows : (t : Target) → TargetGrows t (target_messaged t)
unfolding target_messaged
messaged_grows t = messaged_by-grows t.link t

-- a message of the target is acknowledged
message_acked-grows : (n : TargetMessage) (t : Target) (c : Connection) → TargetGrows t (message_acked n t c)
message_acked-grows (target_message.CommandComplete v) t c =
    lun-grows t c.lun (λ u. ends t c u (closed v (session u c)))
    (λ u e. unit-with t.units c.lun u (unit_after u (closed v (session u c))) e (record { rig = refl; disk = closed-grows v (session u c) }))
message_acked-grows target_message.Disconnect t c = left-grows t c
message_acked-grows (target_message.Reselection part.Identify) t c = stays t
message_acked-grows (target_message.Reselection part.SimpleQueueTag) t c = stays t
message_acked-grows (target_message.Reselection part.Tag) t c = stays t
message_acked-grows target_message.SaveThenDisconnect t c = stays t
message_acked-grows target_message.SaveDataPointer t c = stays t
message_acked-grows target_message.RestorePointers t c = stays t

shown-grows : (s : TaskPhase) (t : Target) (c : Connection) → TargetGrows t (shown_acked s t c)
shown-grows ToChoose t c = stays t
shown-grows MessageOut t c = stays t
shown-grows (DataIn n) t c = stays t
shown-grows (DataOut n) t c = stays t
shown-grows (Status v) t c = stays t
shown-grows (MessageIn n sent) t c = message_acked-grows n t c

acked_by-grows : (l : ConnectionState) (t : Target) → TargetGrows t (acked_by l t)
acked_by-grows BusFree t = stays t
acked_by-grows (Selected heard) t = stays t
acked_by-grows (TakingCommand n taken) t = stays t
acked_by-grows (TaskConnected c) t = shown-grows c.shows t c
acked_by-grows (RogueConnected s n) t = stays t

pub acked_grows : (t : Target) → TargetGrows t (target_acked t)
unfolding target_acked
acked_grows t = acked_by-grows t.link t

-- a task begins
either-grows : (refused : Bool) (t : Target) (k l : ConnectionState) → TargetGrows t (if refused then linked t k else linked t l)
either-grows true t k l = stays t
either-grows false t k l = stays t

begun_with-grows : (o : Option ℕ) (t : Target) (n : Nexus) (c : Cdb) → TargetGrows t (begun_with t n c o)
begun_with-grows None t n c = stays t
begun_with-grows (Some ticket) t n c = lun-grows t n.lun (λ u. begun t n c u ticket) (λ u e. either-grows _ t BusFree _)

begun_by-grows : (l : ConnectionState) (t : Target) (o : Option ℕ) → TargetGrows t (begun_by l t o)
begun_by-grows BusFree t o = stays t
begun_by-grows (Selected heard) t o = stays t
begun_by-grows (TakingCommand n taken) t o = begun_with-grows o t n (cdb_of taken)
begun_by-grows (TaskConnected c) t o = stays t
begun_by-grows (RogueConnected s n) t o = stays t

begun-grows : (t : Target) (o : Option ℕ) → TargetGrows t (target_begun t o)
unfolding target_begun
begun-grows t o = begun_by-grows t.link t o

-- a reselection
task-grows : (t : Target) (lun n : ℕ) (u : LogicalUnit) (o : Option Task) → unit_at t.units lun ≡ Some u → TargetGrows t (task_reselected t lun n u o)
task-grows t lun n u None e = stays t
task-grows t lun n u (Some k) e = unit-with t.units lun u (record u { tasks = remove u.tasks n }) e (record { rig = refl; disk = omega arith })

by-grows : (rogue : Bool) (t : Target) (lun n tag : ℕ) (u : LogicalUnit) → unit_at t.units lun ≡ Some u → TargetGrows t (reselected_by rogue t lun n tag u)
by-grows true t lun n tag u e = stays t
by-grows false t lun n tag u e = task-grows t lun n u (slice_get u.tasks n) e

pub reselected_grows : (t : Target) (lun n tag : ℕ) → TargetGrows t (target_reselected t lun n tag)
unfolding target_reselected
reselected_grows t lun n tag = lun-grows t lun (λ u. reselected_by u.rig.rogue t lun n tag u) (λ u e. by-grows u.rig.rogue t lun n tag u e)

-- a byte from the initiator
begins_if-grows : (live : Nexus → Option ℕ) (whole : Bool) (t : Target) → TargetGrows t (begins_if live whole t)
begins_if-grows live true t = begun-grows t (ticket_for live t (nexus_of t.link))
begins_if-grows live false t = stays t

took_where-grows : (live : Nexus → Option ℕ) (takes : Bool) (t : Target) (b : ℕ) → TargetGrows t (took_where live takes t b)
took_where-grows live true t b = let l : ConnectionState = link_took t.link b in begins_if-grows live (whole_by l) (linked t l)
took_where-grows live false t b = stays t

pub took_grows : (live : Nexus → Option ℕ) (t : Target) (b : ℕ) → TargetGrows t (target_took live t b)
unfolding target_took
took_grows live t b = took_where-grows live (link_takes t.link) t b

-- where the logs have room for it, or not
where_room-grows : (lies : Bool) (d : DeviceState) (t : Target) → TargetGrows d.target t → TargetGrows d.target (if lies then record { target = t; rooms = d.rooms } else d).target
where_room-grows true d t g = g
where_room-grows false d t g = stays d.target

pub room_grows : (d : DeviceState) (t : Target) → TargetGrows d.target t → TargetGrows d.target (where_room d t).target
unfolding where_room
room_grows d t g = where_room-grows (lie_within t.units d.rooms) d t g
