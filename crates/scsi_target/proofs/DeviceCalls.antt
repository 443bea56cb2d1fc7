-- What the calls of a connected task, a selection and a reselection make of the device.
use Rattle.std.proofs.Common.{◌≡◌, ℕ, ◌<◌, Bool, true, false, List, refl, ap, arith, sym, ◌∙◌, Option, Some, None, slice_index_or, subst, map}
use Rattle.std.specs.Prelude.{slice_get}
use Rattle.std.specs.List.{list_any}
use Rattle.target_law.specs.declared.moves.Move.{Move}
use Rattle.target_law.specs.declared.task_phase.TaskPhase.TheVariants.{ToChoose}
use Rattle.target_law.specs.Sound.{IsSound}
use Rattle.unit_core.specs.declared.Core.{Core}
use Rattle.target_session.specs.Sessions.{session_of}
use Rattle.target_law.specs.Bytes.{Connection}
use Rattle.target_law.specs.Target.{Target}
use Rattle.target_law.specs.Calls.{is_free, is_rogue, slot_is_rogue, IsToChoose, selected_by, target_selected}
use Rattle.target_law.specs.Lawful.{May, Named, NamesOf, CanOf, IsThere}
use Rattle.unit_tasks.specs.declared.queued.QueuedUnit.{QueuedUnit}
use Rattle.unit_tasks.specs.Units.{unit_of}
use Rattle.target_law.specs.Devices.{DeviceState}
use Rattle.scsi_target.specs.Slots.{slot_of, room_of, At}
use Rattle.scsi_target.specs.Views.{link_of, device_of, busy, IsConnected, IsLinked, IsDevice}
use Rattle.scsi_target.specs.declared.connection_state.ConnectionState.{ConnectionState as HeldState}
use Rattle.scsi_target.specs.declared.connection_state.ConnectionState.TheVariants as held
use Rattle.scsi_target.proofs.Places.{back, is_unit, not_none, in_range, unit_there}
use Rattle.scsi_target.proofs.Devices.{device_relinked, same_link}

-- a device that isn't connected
pub free_link : (d : DeviceState) (slots : List (Option QueuedUnit)) (link : HeldState) → device_of slots link ≡ d → is_free d.target.link ≡ true → link ≡ held.BusFree
free_link d slots held.BusFree v e = refl
free_link d slots (held.Selected h) v e = let f : false ≡ true = subst (λ (x : DeviceState). is_free x.target.link ≡ true) (sym v) e in cc
free_link d slots (held.TakingCommand n b) v e = let f : false ≡ true = subst (λ (x : DeviceState). is_free x.target.link ≡ true) (sym v) e in cc
free_link d slots (held.TaskConnected c) v e = let f : false ≡ true = subst (λ (x : DeviceState). is_free x.target.link ≡ true) (sym v) e in cc
free_link d slots (held.RogueConnected s n) v e = let f : false ≡ true = subst (λ (x : DeviceState). is_free x.target.link ≡ true) (sym v) e in cc

pub free_busy : (link : HeldState) (k : ℕ) → link ≡ held.BusFree → busy link k ≡ 0
free_busy link k e = ap (λ l. busy l k) e

-- a selection's link
selected_busy : (link : HeldState) (breaks : Bool) (k : ℕ) → link_of link ≡ selected_by breaks → busy link k ≡ 0
selected_busy held.BusFree breaks k e = refl
selected_busy (held.Selected h) breaks k e = refl
selected_busy (held.TakingCommand n b) breaks k e = refl
selected_busy (held.RogueConnected s n) breaks k e = refl
selected_busy (held.TaskConnected c) true k e = cc
selected_busy (held.TaskConnected c) false k e = cc

selected_linked : (link : HeldState) (breaks : Bool) (slots : List (Option QueuedUnit)) → link_of link ≡ selected_by breaks → IsLinked link slots breaks
selected_linked held.BusFree breaks slots e = tt
selected_linked (held.Selected h) false slots e = refl
selected_linked (held.Selected h) true slots e = cc
selected_linked (held.TakingCommand n b) true slots e = cc
selected_linked (held.TakingCommand n b) false slots e = cc
selected_linked (held.RogueConnected s n) true slots e = (refl, λ x f. let g : n ≡ None = cc in cc)
selected_linked (held.RogueConnected s n) false slots e = cc
selected_linked (held.TaskConnected c) true slots e = cc
selected_linked (held.TaskConnected c) false slots e = cc

pub device_selected : (count : ℕ) (slots : List (Option QueuedUnit)) (old new : HeldState) (breaks : Bool) → IsDevice count slots old breaks → old ≡ held.BusFree → link_of new ≡ selected_by breaks → IsDevice count slots new breaks
device_selected count slots old new breaks i f e =
    device_relinked count slots old new breaks i (λ k. selected_busy new breaks k e ∙ sym (free_busy old k f)) (selected_linked new breaks slots e)

pub view_selected : (d : DeviceState) (slots : List (Option QueuedUnit)) (old new : HeldState) (breaks : Bool) → device_of slots old ≡ d → list_any slot_is_rogue (map slot_of slots) ≡ breaks → link_of new ≡ selected_by breaks
    → device_of slots new ≡ record { target = target_selected d.target; rooms = d.rooms }
unfolding is_rogue
view_selected d slots old new breaks v k e =
    subst (λ (x : DeviceState). device_of slots new ≡ record { target = target_selected x.target; rooms = x.rooms }) v (ap (λ l. record { target = record { units = map slot_of slots; link = l }; rooms = map room_of slots }) (e ∙ ap selected_by (sym k)))

-- the connected task of a device, with its unit
pub working : (count : ℕ) (slots : List (Option QueuedUnit)) (link : HeldState) (breaks : Bool) (c : Connection) → IsDevice count slots link breaks → link ≡ held.TaskConnected c → At slots c.lun (IsConnected breaks c)
working count slots link breaks c i e = same_link slots link breaks c i.linked e

pub working_within : (count : ℕ) (slots : List (Option QueuedUnit)) (link : HeldState) (breaks : Bool) (c : Connection) (lun : ℕ) → IsDevice count slots link breaks → link ≡ held.TaskConnected c → lun ≡ c.lun → lun < count
working_within count slots link breaks c lun i e s = let a = working count slots link breaks c i e in let l = in_range count slots link breaks c.lun a.0 i a.1 in omega arith

pub working_none : (count : ℕ) (slots : List (Option QueuedUnit)) (link : HeldState) (breaks : Bool) (c : Connection) (lun : ℕ) (o : Option QueuedUnit) → IsDevice count slots link breaks → link ≡ held.TaskConnected c → lun ≡ c.lun
    → o ≡ slice_index_or slots lun o → o ≡ None → ⊥
working_none count slots link breaks c lun o i e s r n = let a = working count slots link breaks c i e in not_none slots c.lun a.0 o a.1 (r ∙ ap (λ x. slice_index_or slots x o) s) n

pub working_unit : (count : ℕ) (slots : List (Option QueuedUnit)) (link : HeldState) (breaks : Bool) (c : Connection) (lun : ℕ) (q : QueuedUnit) (o : Option QueuedUnit) → IsDevice count slots link breaks → link ≡ held.TaskConnected c → lun ≡ c.lun
    → o ≡ slice_index_or slots lun o → o ≡ Some q → (slice_get slots c.lun ≡ Some (Some q)) × IsConnected breaks c q
working_unit count slots link breaks c lun q o i e s r n =
    let a = working count slots link breaks c i e in
    let same : a.0 ≡ q = is_unit slots c.lun a.0 q o a.1 (r ∙ ap (λ x. slice_index_or slots x o) s) n in
    (a.1 ∙ ap (λ (x : QueuedUnit). Some (Some x)) same, subst (λ x. IsConnected breaks c x) same a.2)

-- what is said of the target, of a device with a connected task
pub at_work : (d : DeviceState) (slots : List (Option QueuedUnit)) (link : HeldState) (c : Connection) (P : Target → Type 0) → device_of slots link ≡ d → link ≡ held.TaskConnected c → P (device_of slots (held.TaskConnected c)).target → P d.target
at_work d slots link c P v e h = subst (λ (x : DeviceState). P x.target) v (subst (λ l. P (device_of slots l).target) (sym e) h)

pub of_work : (d : DeviceState) (slots : List (Option QueuedUnit)) (link : HeldState) (c : Connection) (P : Target → Type 0) → device_of slots link ≡ d → link ≡ held.TaskConnected c → P d.target → P (device_of slots (held.TaskConnected c)).target
of_work d slots link c P v e h = subst (λ l. P (device_of slots l).target) e (subst (λ (x : DeviceState). P x.target) (sym v) h)

pub to_choose : (d : DeviceState) (slots : List (Option QueuedUnit)) (link : HeldState) (c : Connection) → device_of slots link ≡ d → link ≡ held.TaskConnected c → IsToChoose d.target.link → c.shows ≡ ToChoose
to_choose d slots link c v e h = of_work d slots link c (λ t. IsToChoose t.link) v e h

pub named_in : (d : DeviceState) (slots : List (Option QueuedUnit)) (link : HeldState) (c : Connection) (q : QueuedUnit) (word : ℕ) (m : Move) → device_of slots link ≡ d → link ≡ held.TaskConnected c → slice_get slots c.lun ≡ Some (Some q)
    → NamesOf (unit_of q) c word m → Named d.target word m
named_in d slots link c q word m v e s h = at_work d slots link c (λ t. Named t word m) v e (back slots c.lun (λ u. NamesOf u c word m) q s h)

pub may_in : (d : DeviceState) (slots : List (Option QueuedUnit)) (link : HeldState) (c : Connection) (q : QueuedUnit) (m : Move) → device_of slots link ≡ d → link ≡ held.TaskConnected c → slice_get slots c.lun ≡ Some (Some q)
    → c.shows ≡ ToChoose → CanOf (unit_of q) c m → May d.target m
may_in d slots link c q m v e s h k = at_work d slots link c (λ t. May t m) v e (h, back slots c.lun (λ u. CanOf u c m) q s k)

pub can_of : (d : DeviceState) (slots : List (Option QueuedUnit)) (link : HeldState) (c : Connection) (q : QueuedUnit) (m : Move) → device_of slots link ≡ d → link ≡ held.TaskConnected c → slice_get slots c.lun ≡ Some (Some q)
    → May d.target m → CanOf (unit_of q) c m
can_of d slots link c q m v e s h =
    let p = of_work d slots link c (λ t. May t m) v e h in
    subst (λ x. IsThere x (λ u. CanOf u c m)) (unit_there slots c.lun q s) p.1

pub busy_same : (old new : Connection) (k : ℕ) → new.lun ≡ old.lun → busy (held.TaskConnected new) k ≡ busy (held.TaskConnected old) k
busy_same old new k l = rw l refl

-- a connection of the same task, which is sound where the old one is
told_connected : (breaks : Bool) (old new : Connection) (q : QueuedUnit) → ((core : Core) → IsSound (session_of core old) → IsSound (session_of core new)) → IsConnected breaks old q → IsConnected breaks new q
told_connected breaks old new q f h = record {
  keeps = h.keeps;
  sound = f q.core h.sound;
}

pub device_told : (count : ℕ) (slots : List (Option QueuedUnit)) (link : HeldState) (breaks : Bool) (c new : Connection) → IsDevice count slots link breaks → link ≡ held.TaskConnected c → new.lun ≡ c.lun
    → ((core : Core) → IsSound (session_of core c) → IsSound (session_of core new)) → IsDevice count slots (held.TaskConnected new) breaks
device_told count slots link breaks c new i e l f =
    let a = working count slots link breaks c i e in
    device_relinked count slots link (held.TaskConnected new) breaks i (λ k. busy_same c new k l ∙ sym (ap (λ x. busy x k) e)) (a.0, ap (λ n. slice_get slots n) l ∙ a.1, told_connected breaks c new a.0 f a.2)
