-- What a move makes of the device.
use Rattle.std.proofs.Common.{◌≡◌, ℕ, suc, ◌+◌, ◌≤◌, ◌<◌, Bool, true, false, List, [], ◌∷◌, refl, ap, arith, sym, ◌∙◌, Option, Some, None, nat_le, length, slice_set, subst, map, if◌then◌else◌}
use Rattle.std.specs.Prelude.{slice_get}
use Rattle.std.proofs.lemmas.Bool.Decides.{nat_tests}
use Rattle.std.proofs.lemmas.List.{length-map}
use Rattle.std.proofs.lemmas.List.Elements.{All-weaker}
use Rattle.unit_core.specs.declared.Core.{Core}
use Rattle.target_law.specs.declared.moves.Move.{Move}
use Rattle.target_law.specs.declared.moves.Move.TheVariants as move
use Rattle.target_law.specs.declared.nexus.Nexus.{Nexus}
use Rattle.target_law.specs.declared.rogue_phase.RoguePhase.{RoguePhase}
use Rattle.target_law.specs.RoguePhases.{rogue_chosen}
use Rattle.target_law.specs.Session.{Task, Session, acted}
use Rattle.target_law.specs.Sound.{IsSound, IsWaiting}
use Rattle.target_law.specs.Bytes.{Connection}
use Rattle.target_law.specs.Target.{ConnectionState, TaskConnected, RogueConnected, with_unit, session, connection_after}
use Rattle.target_law.specs.Calls.{link_or_free, target_acted}
use Rattle.unit_tasks.specs.declared.queued.QueuedUnit.{QueuedUnit}
use Rattle.unit_tasks.specs.Units.{unit_of}
use Rattle.target_law.specs.Devices.{DeviceState, where_room, lie_within}
use Rattle.scsi_target.specs.Slots.{slot_of, room_of}
use Rattle.scsi_target.specs.Moves.{has_room, core_moved, unit_moved, connection_moved}
use Rattle.scsi_target.specs.Views.{link_of, device_of, busy, IsSlot, IsConnected, IsLinked, IsDevice}
use Rattle.scsi_target.specs.declared.connection_state.ConnectionState.{ConnectionState as HeldState}
use Rattle.scsi_target.specs.declared.connection_state.ConnectionState.TheVariants as held
use Rattle.scsi_target.proofs.Places.{within, unit_there, units_with, units_stay, rooms_stay, room_there, place_set}
use Rattle.target_law.proofs.Rooms.{lie_within-set}
use Rattle.scsi_target.proofs.Devices.{device_set, device_relinked}
use Rattle.scsi_target.proofs.DeviceCalls.{busy_same}
use Rattle.scsi_target.proofs.Parted.{device_lies}

-- the device after a call that changes one unit, which decides by its own room
abbrev pub set_where : Bool → List (Option QueuedUnit) → HeldState → ℕ → QueuedUnit → ConnectionState → DeviceState
set_where true slots old lun new l = record { target = record { units = map slot_of (slice_set slots lun (Some new)); link = l }; rooms = map room_of slots }
set_where false slots old lun new l = device_of slots old

if_set : (b : Bool) (slots : List (Option QueuedUnit)) (old : HeldState) (lun : ℕ) (new : QueuedUnit) (l : ConnectionState)
    → (if b then record { target = record { units = map slot_of (slice_set slots lun (Some new)); link = l }; rooms = map room_of slots } else device_of slots old) ≡ set_where b slots old lun new l
if_set true slots old lun new l = refl
if_set false slots old lun new l = refl

decides : (slots : List (Option QueuedUnit)) (lun : ℕ) (q new : QueuedUnit) → slice_get slots lun ≡ Some (Some q) → lie_within (map slot_of slots) (map room_of slots) ≡ true
    → lie_within (with_unit (map slot_of slots) lun (unit_of new)) (map room_of slots) ≡ nat_le (length new.core.log.entries) q.core.log.room
unfolding with_unit
decides slots lun q new s w =
    let n = within slots lun q s in
    lie_within-set (map slot_of slots) (map room_of slots) lun (Some (unit_of new)) w (rw length-map n) (rw length-map n)
    ∙ ap (nat_le (length new.core.log.entries)) (room_there slots lun q s)

pub where_one : (slots : List (Option QueuedUnit)) (old : HeldState) (lun : ℕ) (q new : QueuedUnit) (l : ConnectionState) → slice_get slots lun ≡ Some (Some q) → lie_within (map slot_of slots) (map room_of slots) ≡ true
    → where_room (device_of slots old) (record { units = with_unit (map slot_of slots) lun (unit_of new); link = l }) ≡ set_where (nat_le (length new.core.log.entries) q.core.log.room) slots old lun new l
unfolding where_room
where_one slots old lun q new l s w =
    ap (λ b. if b then record { target = record { units = with_unit (map slot_of slots) lun (unit_of new); link = l }; rooms = map room_of slots } else device_of slots old) (decides slots lun q new s w)
    ∙ ap (λ us. if nat_le (length new.core.log.entries) q.core.log.room then record { target = record { units = us; link = l }; rooms = map room_of slots } else device_of slots old) (units_with slots lun new)
    ∙ if_set (nat_le (length new.core.log.entries) q.core.log.room) slots old lun new l

-- the connected task's move
moved_view_by : (b : Bool) (slots : List (Option QueuedUnit)) (c : Connection) (q : QueuedUnit) (s : Session) → slice_get slots c.lun ≡ Some (Some q)
    → device_of (slice_set slots c.lun (Some (unit_moved b q s))) (held.TaskConnected (connection_moved b c s)) ≡ set_where b slots (held.TaskConnected c) c.lun (unit_moved true q s) (TaskConnected (connection_after c s))
moved_view_by true slots c q s e = ap (λ r. record { target = record { units = map slot_of (slice_set slots c.lun (Some (unit_moved true q s))); link = TaskConnected (connection_after c s) }; rooms = r }) (rooms_stay slots c.lun q (unit_moved true q s) e refl)
moved_view_by false slots c q s e =
    ap (λ us. record { target = record { units = us; link = TaskConnected c }; rooms = map room_of (slice_set slots c.lun (Some q)) }) (units_stay slots c.lun q q e refl)
    ∙ ap (λ r. record { target = record { units = map slot_of slots; link = TaskConnected c }; rooms = r }) (rooms_stay slots c.lun q q e refl)

moved_target : (slots : List (Option QueuedUnit)) (c : Connection) (q : QueuedUnit) (m : Move) → slice_get slots c.lun ≡ Some (Some q)
    → target_acted (record { units = map slot_of slots; link = TaskConnected c }) m
    ≡ record { units = with_unit (map slot_of slots) c.lun (unit_of (unit_moved true q (acted m (session (unit_of q) c)))); link = TaskConnected (connection_after c (acted m (session (unit_of q) c))) }
unfolding target_acted
moved_target slots c q m e = rw (unit_there slots c.lun q e) refl

pub view_moved : (d : DeviceState) (slots : List (Option QueuedUnit)) (link : HeldState) (c : Connection) (q : QueuedUnit) (m : Move) (lun : ℕ) (p : QueuedUnit) (n : Connection) → device_of slots link ≡ d → link ≡ held.TaskConnected c
    → lun ≡ c.lun → slice_get slots c.lun ≡ Some (Some q) → lie_within (map slot_of slots) (map room_of slots) ≡ true
    → p ≡ unit_moved (has_room q (acted m (session (unit_of q) c))) q (acted m (session (unit_of q) c)) → n ≡ connection_moved (has_room q (acted m (session (unit_of q) c))) c (acted m (session (unit_of q) c))
    → device_of (slice_set slots lun (Some p)) (held.TaskConnected n) ≡ where_room d (target_acted d.target m)
view_moved d slots link c q m lun p n v e l s w f g =
    let t = acted m (session (unit_of q) c) in
    ap (λ x. device_of (slice_set slots x (Some p)) (held.TaskConnected n)) l
    ∙ ap (λ x. device_of (slice_set slots c.lun (Some x)) (held.TaskConnected n)) f
    ∙ ap (λ x. device_of (slice_set slots c.lun (Some (unit_moved (has_room q t) q t))) (held.TaskConnected x)) g
    ∙ moved_view_by (has_room q t) slots c q t s
    ∙ sym (where_one slots (held.TaskConnected c) c.lun q (unit_moved true q t) (TaskConnected (connection_after c t)) s w)
    ∙ ap (where_room (device_of slots (held.TaskConnected c))) (sym (moved_target slots c q m s))
    ∙ ap (λ (x : DeviceState). where_room x (target_acted x.target m)) (ap (device_of slots) (sym e) ∙ v)

-- the connection and the log after it
moved_lun : (b : Bool) (c : Connection) (s : Session) → (connection_moved b c s).lun ≡ c.lun
moved_lun true c s = refl
moved_lun false c s = refl

moved_log : (b : Bool) (q : QueuedUnit) (s : Session) → has_room q s ≡ b → length q.core.log.entries ≤ q.core.log.room → length (core_moved b q.core s).log.entries ≤ (core_moved b q.core s).log.room
moved_log true q s e h = grind (arith, nat_tests)
moved_log false q s e h = h

-- a unit's place, of which the unit itself and its log have changed
pub slot_moved : (breaks : Bool) (old new : HeldState) (place : ℕ) (q : QueuedUnit) (core : Core) → IsSlot breaks old place q → busy new place ≡ busy old place
    → ((k : Task) → IsWaiting q.core.lun k → IsWaiting core.lun k) → length core.log.entries ≤ core.log.room → IsSlot breaks new place (record { rig = q.rig; core = core; tasks = q.tasks })
slot_moved breaks old new place q core i b w l = record {
  lun = i.lun;
  unit = i.unit;
  rogue = i.rogue;
  depth = i.depth;
  places = ap (λ n. length q.tasks.tasks + q.tasks.idle + n) b ∙ i.places;
  waiting = All-weaker (IsWaiting q.core.lun) (IsWaiting core.lun) w q.tasks.tasks i.waiting;
  log = l;
}

moved_by : (count : ℕ) (slots : List (Option QueuedUnit)) (breaks : Bool) (c : Connection) (q : QueuedUnit) (s : Session) (b : Bool) (n : Connection) → IsDevice count slots (held.TaskConnected c) breaks
    → slice_get slots c.lun ≡ Some (Some q) → has_room q s ≡ b → n.lun ≡ c.lun → IsConnected breaks c q
    → IsSound (session (unit_of (unit_moved b q s)) n) → ((k : Task) → IsWaiting q.core.lun k → IsWaiting (core_moved b q.core s).lun k)
    → IsDevice count (slice_set slots c.lun (Some (unit_moved b q s))) (held.TaskConnected n) breaks
moved_by count slots breaks c q s b n i e r l h f w =
    let slot = i.slots_are c.lun q e in
    device_set count slots (held.TaskConnected c) (held.TaskConnected n) breaks c.lun (unit_moved b q s) i (within slots c.lun q e)
    (slot_moved breaks (held.TaskConnected c) (held.TaskConnected n) c.lun q (core_moved b q.core s) slot (busy_same c n c.lun l) w (moved_log b q s r slot.log))
    (λ k d. busy_same c n k l) (
      unit_moved b q s,
      ap (λ x. slice_get (slice_set slots c.lun (Some (unit_moved b q s))) x) l ∙ place_set slots c.lun (unit_moved b q s) (within slots c.lun q e),
      record {
        keeps = h.keeps;
        sound = f;
      },
    )

pub device_moved : (count : ℕ) (slots : List (Option QueuedUnit)) (link : HeldState) (breaks : Bool) (c : Connection) (q : QueuedUnit) (m : Move) (lun : ℕ) (p : QueuedUnit) (n : Connection) → IsDevice count slots link breaks
    → link ≡ held.TaskConnected c → lun ≡ c.lun → slice_get slots c.lun ≡ Some (Some q) → IsConnected breaks c q
    → p ≡ unit_moved (has_room q (acted m (session (unit_of q) c))) q (acted m (session (unit_of q) c)) → n ≡ connection_moved (has_room q (acted m (session (unit_of q) c))) c (acted m (session (unit_of q) c))
    → IsSound (session (unit_of p) n) → ((k : Task) → IsWaiting q.core.lun k → IsWaiting p.core.lun k)
    → IsDevice count (slice_set slots lun (Some p)) (held.TaskConnected n) breaks
device_moved count slots link breaks c q m lun p n i e l s h f g o w =
    let t = acted m (session (unit_of q) c) in
    let b = has_room q t in
    subst (λ x. IsDevice count (slice_set slots x (Some p)) (held.TaskConnected n) breaks) (sym l) (subst (λ (x : QueuedUnit). IsDevice count (slice_set slots c.lun (Some x)) (held.TaskConnected n) breaks) (sym f)
    (moved_by count slots breaks c q t b n (subst (λ x. IsDevice count slots x breaks) e i) s refl (ap (λ (x : Connection). x.lun) g ∙ moved_lun b c t) h
    (subst (λ (x : QueuedUnit). IsSound (session (unit_of x) n)) f o) (subst (λ (x : QueuedUnit). (k : Task) → IsWaiting q.core.lun k → IsWaiting x.core.lun k) f w)))

-- the move of a target that breaks the rules
rogue_busy : (new : HeldState) (o : Option RoguePhase) (n : Option Nexus) (k : ℕ) → link_of new ≡ link_or_free o n → busy new k ≡ 0
rogue_busy held.BusFree o n k e = refl
rogue_busy (held.Selected h) o n k e = refl
rogue_busy (held.TakingCommand x b) o n k e = refl
rogue_busy (held.RogueConnected s x) o n k e = refl
rogue_busy (held.TaskConnected c) None n k e = cc
rogue_busy (held.TaskConnected c) (Some s) n k e = cc

rogue_linked : (new : HeldState) (o : Option RoguePhase) (n : Option Nexus) (slots : List (Option QueuedUnit)) (breaks : Bool) → link_of new ≡ link_or_free o n → breaks ≡ true → ((x : Nexus) → n ≡ Some x → x.lun < 8) → IsLinked new slots breaks
rogue_linked held.BusFree o n slots breaks e r f = tt
rogue_linked (held.Selected h) None n slots breaks e r f = cc
rogue_linked (held.Selected h) (Some s) n slots breaks e r f = cc
rogue_linked (held.TakingCommand x b) None n slots breaks e r f = cc
rogue_linked (held.TakingCommand x b) (Some s) n slots breaks e r f = cc
rogue_linked (held.TaskConnected c) None n slots breaks e r f = cc
rogue_linked (held.TaskConnected c) (Some s) n slots breaks e r f = cc
rogue_linked (held.RogueConnected y x) None n slots breaks e r f = cc
rogue_linked (held.RogueConnected y x) (Some s) n slots breaks e r f = (r, λ z g. f z (let h : x ≡ n = cc in sym h ∙ g))

pub device_rogue : (count : ℕ) (slots : List (Option QueuedUnit)) (old new : HeldState) (breaks : Bool) (y : RoguePhase) (n : Option Nexus) (o : Option RoguePhase) → IsDevice count slots old breaks → old ≡ held.RogueConnected y n → link_of new ≡ link_or_free o n
    → IsDevice count slots new breaks
device_rogue count slots old new breaks y n o i e f =
    let h = subst (λ l. IsLinked l slots breaks) e i.linked in
    device_relinked count slots old new breaks i (λ k. rogue_busy new o n k f ∙ sym (ap (λ l. busy l k) e)) (rogue_linked new o n slots breaks f h.0 h.1)

all_lie : (slots : List (Option QueuedUnit)) (old : HeldState) (l : ConnectionState) → lie_within (map slot_of slots) (map room_of slots) ≡ true
    → where_room (device_of slots old) (record { units = map slot_of slots; link = l }) ≡ record { target = record { units = map slot_of slots; link = l }; rooms = map room_of slots }
unfolding where_room
all_lie slots old l w = rw w refl

rogue_target_acted : (slots : List (Option QueuedUnit)) (y : RoguePhase) (n : Option Nexus) (word : ℕ) → target_acted (record { units = map slot_of slots; link = RogueConnected y n }) (move.Rogue word) ≡ record { units = map slot_of slots; link = link_or_free (rogue_chosen word) n }
unfolding target_acted
rogue_target_acted slots y n word = refl

pub view_rogue : (d : DeviceState) (slots : List (Option QueuedUnit)) (old new : HeldState) (y : RoguePhase) (n : Option Nexus) (m : Move) (word : ℕ) → device_of slots old ≡ d → lie_within (map slot_of slots) (map room_of slots) ≡ true → old ≡ held.RogueConnected y n
    → m ≡ move.Rogue word → link_of new ≡ link_or_free (rogue_chosen word) n → device_of slots new ≡ where_room d (target_acted d.target m)
view_rogue d slots old new y n m word v w e g f =
    ap (λ l. record { target = record { units = map slot_of slots; link = l }; rooms = map room_of slots }) f
    ∙ sym (all_lie slots (held.RogueConnected y n) (link_or_free (rogue_chosen word) n) w)
    ∙ ap (where_room (device_of slots (held.RogueConnected y n))) (sym (rogue_target_acted slots y n word))
    ∙ ap (λ x. where_room (device_of slots (held.RogueConnected y n)) (target_acted (device_of slots (held.RogueConnected y n)).target x)) (sym g)
    ∙ ap (λ (x : DeviceState). where_room x (target_acted x.target m)) (ap (device_of slots) (sym e) ∙ v)
