-- What a reselection makes of the device.
use Rattle.std.proofs.Common.{◌≡◌, ◌≢◌, ℕ, ◌+◌, ◌<◌, Bool, true, false, List, [], refl, ap, arith, sym, ◌∙◌, Option, Some, length, slice_set, subst, map}
use Rattle.std.specs.Prelude.{slice_get, remove}
use Rattle.std.proofs.lemmas.Bool.{eq-eqb, ne_eqb}
use Rattle.plain_lun.specs.Unit.{UnitState}
use Rattle.unit_core.specs.declared.Core.{Core}
use Rattle.target_law.specs.declared.nexus.Nexus.{Nexus}
use Rattle.target_law.specs.declared.rogue_phase.RoguePhase.{RoguePhase}
use Rattle.target_law.specs.declared.rogue_phase.RoguePhase.TheVariants as rogue_shows
use Rattle.target_law.specs.declared.task_phase.ReselectByte.TheVariants as part
use Rattle.target_law.specs.declared.task_phase.TargetMessage.TheVariants as target_message
use Rattle.target_law.specs.declared.task_phase.TaskPhase.TheVariants.{MessageIn}
use Rattle.target_law.specs.Session.{Task}
use Rattle.target_law.specs.Sound.{IsSound, IsWaiting}
use Rattle.target_law.specs.Bytes.{Connection}
use Rattle.target_law.specs.Target.{ConnectionState, TaskConnected, RogueConnected, with_unit}
use Rattle.target_law.specs.Calls.{candidates, candidates_by, target_reselected}
use Rattle.target_session.specs.Sessions.{session_of}
use Rattle.unit_tasks.specs.declared.queued.QueuedUnit.{QueuedUnit}
use Rattle.unit_tasks.specs.Queue.{Queue, AllWait}
use Rattle.unit_tasks.specs.Units.{unit_of}
use Rattle.target_law.specs.Devices.{DeviceState}
use Rattle.scsi_target.specs.Slots.{slot_of, room_of}
use Rattle.scsi_target.specs.Views.{link_of, device_of, busy, IsSlot, IsDevice}
use Rattle.scsi_target.specs.declared.connection_state.ConnectionState.{ConnectionState as HeldState}
use Rattle.scsi_target.specs.declared.connection_state.ConnectionState.TheVariants as held
use Rattle.scsi_target.proofs.Places.{within, unit_there, units_with, rooms_stay, place_set}
use Rattle.scsi_target.proofs.Devices.{device_set, device_relinked}
use Rattle.scsi_target.proofs.DeviceCalls.{free_busy}

-- the candidates of a unit that keeps the rules are its tasks
pub few : (n : ℕ) (q : QueuedUnit) (breaks : Bool) → q.rig.rogue ≡ breaks → breaks ≡ false → n < candidates (unit_of q) → n < length q.tasks.tasks
few n q breaks e f h = subst (λ b. n < candidates_by b (unit_of q)) (e ∙ f) h

-- the unit breaks the rules
pub device_named : (count : ℕ) (slots : List (Option QueuedUnit)) (link : HeldState) (breaks : Bool) (lun tag : ℕ) (q : QueuedUnit) (s : RoguePhase) → IsDevice count slots link breaks → link ≡ held.BusFree → breaks ≡ true → slice_get slots lun ≡ Some (Some q)
    → IsDevice count slots (held.RogueConnected s (Some (record { lun = lun; tag = tag }))) breaks
device_named count slots link breaks lun tag q s i e f g =
    device_relinked count slots link (held.RogueConnected s (Some (record { lun = lun; tag = tag }))) breaks i (λ k. sym (free_busy link k e))
    (f, λ x h. let same : record { lun = lun; tag = tag } ≡ x = cc in let l = within slots lun q g in let a = i.eight in let b = ap (λ (y : Nexus). y.lun) same in omega arith)

named_target : (slots : List (Option QueuedUnit)) (l : ConnectionState) (lun n tag : ℕ) (q : QueuedUnit) → slice_get slots lun ≡ Some (Some q) → q.rig.rogue ≡ true
    → target_reselected (record { units = map slot_of slots; link = l }) lun n tag ≡ record { units = map slot_of slots; link = RogueConnected (rogue_shows.Reselection part.Identify false) (Some (record { lun = lun; tag = tag })) }
unfolding target_reselected
named_target slots l lun n tag q e r = rw (unit_there slots lun q e) rw r refl

pub view_named : (d : DeviceState) (slots : List (Option QueuedUnit)) (link : HeldState) (lun n tag : ℕ) (q : QueuedUnit) (breaks : Bool) → device_of slots link ≡ d → slice_get slots lun ≡ Some (Some q) → q.rig.rogue ≡ breaks → breaks ≡ true
    → device_of slots (held.RogueConnected (rogue_shows.Reselection part.Identify false) (Some (record { lun = lun; tag = tag }))) ≡ record { target = target_reselected d.target lun n tag; rooms = d.rooms }
view_named d slots link lun n tag q breaks v e f g =
    ap (λ t. record { target = t; rooms = map room_of slots }) (sym (named_target slots (link_of link) lun n tag q e (f ∙ g)))
    ∙ ap (λ (x : DeviceState). record { target = target_reselected x.target lun n tag; rooms = x.rooms }) v

-- a task of a unit that keeps the rules
abbrev pub back_with : ℕ → Task → Connection
back_with lun k = record { lun = lun; reselected = true; heard = []; task = k; shows = MessageIn (target_message.Reselection part.Identify) false }

abbrev pub without : QueuedUnit → ℕ → QueuedUnit
without q n = record { rig = q.rig; core = q.core; tasks = record { tasks = remove q.tasks.tasks n; idle = q.tasks.idle; depth = q.tasks.depth } }

back_target : (slots : List (Option QueuedUnit)) (l : ConnectionState) (lun n tag : ℕ) (q : QueuedUnit) (k : Task) → slice_get slots lun ≡ Some (Some q) → q.rig.rogue ≡ false → slice_get q.tasks.tasks n ≡ Some k
    → target_reselected (record { units = map slot_of slots; link = l }) lun n tag ≡ record { units = with_unit (map slot_of slots) lun (unit_of (without q n)); link = TaskConnected (back_with lun k) }
unfolding target_reselected
back_target slots l lun n tag q k e r s = rw (unit_there slots lun q e) rw r rw s refl

pub view_back : (d : DeviceState) (slots : List (Option QueuedUnit)) (link : HeldState) (lun n tag : ℕ) (q : QueuedUnit) (k : Task) (tasks : Queue) (c : Connection) (breaks : Bool) → device_of slots link ≡ d → slice_get slots lun ≡ Some (Some q)
    → q.rig.rogue ≡ breaks → breaks ≡ false → slice_get q.tasks.tasks n ≡ Some k → tasks ≡ record { tasks = remove q.tasks.tasks n; idle = q.tasks.idle; depth = q.tasks.depth } → c ≡ back_with lun k
    → device_of (slice_set slots lun (Some (record { rig = q.rig; core = q.core; tasks = tasks }))) (held.TaskConnected c) ≡ record { target = target_reselected d.target lun n tag; rooms = d.rooms }
view_back d slots link lun n tag q k tasks c breaks v e f g s t h =
    ap (λ (x : Queue). device_of (slice_set slots lun (Some (record { rig = q.rig; core = q.core; tasks = x }))) (held.TaskConnected c)) t
    ∙ ap (λ x. device_of (slice_set slots lun (Some (without q n))) (held.TaskConnected x)) h
    ∙ ap (λ r. record { target = record { units = map slot_of (slice_set slots lun (Some (without q n))); link = TaskConnected (back_with lun k) }; rooms = r }) (rooms_stay slots lun q (without q n) e refl)
    ∙ ap (λ us. record { target = record { units = us; link = TaskConnected (back_with lun k) }; rooms = map room_of slots }) (sym (units_with slots lun (without q n)))
    ∙ ap (λ x. record { target = x; rooms = map room_of slots }) (sym (back_target slots (link_of link) lun n tag q k e (f ∙ g) s))
    ∙ ap (λ (x : DeviceState). record { target = target_reselected x.target lun n tag; rooms = x.rooms }) v

busy_here : (c : Connection) (lun : ℕ) → c.lun ≡ lun → busy (held.TaskConnected c) lun ≡ 1
busy_here c lun e = rw (eq-eqb c.lun lun e) refl

busy_elsewhere : (c : Connection) (lun : ℕ) → c.lun ≢ lun → busy (held.TaskConnected c) lun ≡ 0
busy_elsewhere c lun e = rw (ne_eqb c.lun lun e) refl

slot_back : (breaks : Bool) (link : HeldState) (lun : ℕ) (q : QueuedUnit) (c : Connection) (tasks : Queue) → IsSlot breaks link lun q → link ≡ held.BusFree → c.lun ≡ lun → length tasks.tasks + 1 ≡ length q.tasks.tasks → tasks.idle ≡ q.tasks.idle
    → tasks.depth ≡ q.tasks.depth → AllWait q.core.lun tasks.tasks → IsSlot breaks (held.TaskConnected c) lun (record { rig = q.rig; core = q.core; tasks = tasks })
slot_back breaks link lun q c tasks i e l a b d w = record {
  lun = i.lun;
  unit = i.unit;
  rogue = i.rogue;
  depth = d ∙ i.depth;
  places =
      let f = free_busy link lun e in
      let g : busy (held.TaskConnected c) lun ≡ 1 = busy_here c lun l in
      let p = i.places in
      omega arith;
  waiting = w;
  log = i.log;
}

pub device_back : (count : ℕ) (slots : List (Option QueuedUnit)) (link : HeldState) (breaks : Bool) (lun n : ℕ) (q : QueuedUnit) (k : Task) (tasks : Queue) (c : Connection) → IsDevice count slots link breaks → link ≡ held.BusFree → breaks ≡ false
    → slice_get slots lun ≡ Some (Some q) → tasks ≡ record { tasks = remove q.tasks.tasks n; idle = q.tasks.idle; depth = q.tasks.depth } → length tasks.tasks + 1 ≡ length q.tasks.tasks → c ≡ back_with lun k
    → ((u : UnitState) → AllWait u q.tasks.tasks → IsWaiting u k) → ((u : UnitState) → AllWait u q.tasks.tasks → AllWait u tasks.tasks) → ((core : Core) → IsWaiting core.lun k → IsSound (session_of core c))
    → IsDevice count (slice_set slots lun (Some (record { rig = q.rig; core = q.core; tasks = tasks }))) (held.TaskConnected c) breaks
device_back count slots link breaks lun n q k tasks c i e f s t a h x y z =
    let slot = i.slots_are lun q s in
    let l : c.lun ≡ lun = ap (λ (o : Connection). o.lun) h in
    let w = within slots lun q s in
    device_set count slots link (held.TaskConnected c) breaks lun (record { rig = q.rig; core = q.core; tasks = tasks }) i w
    (slot_back breaks link lun q c tasks slot e l a (ap (λ (o : Queue). o.idle) t) (ap (λ (o : Queue). o.depth) t) (y q.core.lun slot.waiting))
    (λ j d. busy_elsewhere c j (λ g. d (sym g ∙ l)) ∙ sym (free_busy link j e)) (
      record { rig = q.rig; core = q.core; tasks = tasks },
      ap (slice_get (slice_set slots lun (Some (record { rig = q.rig; core = q.core; tasks = tasks })))) l ∙ place_set slots lun (record { rig = q.rig; core = q.core; tasks = tasks }) w,
      record {
        keeps = f;
        sound = z q.core (x q.core.lun slot.waiting);
      },
    )
