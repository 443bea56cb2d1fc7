-- What a device is after an acknowledged message.
use Rattle.std.proofs.Common.{◌≡◌, ℕ, Bool, false, List, refl, ap, sym, ◌∙◌, Option, Some, None, map, subst, nat_eq, if◌then◌else◌}
use Rattle.std.specs.Prelude.{slice_get}
use Rattle.target_law.specs.declared.nexus.Nexus.{Nexus}
use Rattle.target_law.specs.declared.rogue_phase.RoguePhase.{RoguePhase}
use Rattle.target_law.specs.declared.task_phase.ReselectByte.TheVariants as part
use Rattle.target_law.specs.declared.task_phase.TargetMessage.{TargetMessage}
use Rattle.target_law.specs.declared.task_phase.TargetMessage.TheVariants as target_message
use Rattle.target_law.specs.declared.task_phase.TaskPhase.{TaskPhase}
use Rattle.target_law.specs.declared.task_phase.TaskPhase.TheVariants as task_phase
use Rattle.target_law.specs.Sound.{IsSound}
use Rattle.target_law.specs.Bytes.{Connection, heard_by}
use Rattle.target_law.specs.RoguePhases.{rogue_heard}
use Rattle.target_law.specs.Target.{LogicalUnit, ConnectionState, BusFree, TaskConnected, RogueConnected, Target, at_lun, linked, with_unit, unit_after, session}
use Rattle.target_law.specs.Calls.{shown_acked, message_acked, acked_by, target_acked}
use Rattle.target_session.specs.Sessions.{session_of, heard_on, closed_on}
use Rattle.unit_core.specs.declared.Core.{Core}
use Rattle.unit_tasks.specs.declared.queued.QueuedUnit.{QueuedUnit}
use Rattle.target_law.specs.Devices.{where_room}
use Rattle.scsi_target.specs.Slots.{slot_of, room_of}
use Rattle.scsi_target.specs.Views.{link_of, device_of, IsDevice, HoldsOn}
use Rattle.scsi_target.specs.declared.connection_state.ConnectionState.{ConnectionState as HeldState}
use Rattle.scsi_target.specs.declared.connection_state.ConnectionState.TheVariants as held
use Rattle.scsi_target.specs.declared.task_exit.TaskExit.{TaskExit}
use Rattle.scsi_target.specs.declared.task_exit.TaskExit.TheVariants.{Disconnected, Aborted, Completed}
use Rattle.scsi_target.specs.TaskExits.{May, exit_of, exit_of_message, target_by}
use Rattle.scsi_target.proofs.Devices.{device_relinked}
use Rattle.target_law.proofs.Rooms.{where_true}
use Rattle.scsi_target.proofs.Parted.{device_lies}

-- the same device with a link that holds on
pub device_on : (count : ℕ) (slots : List (Option QueuedUnit)) (old new : HeldState) (breaks : Bool) → IsDevice count slots old breaks → HoldsOn old new → IsDevice count slots new breaks
device_on count slots old new breaks i h = device_relinked count slots old new breaks i h.busy (h.linked slots breaks i.linked)

-- a connected task with the same LUN and tag that is sound still
pub connected_on : (c d : Connection) → d.lun ≡ c.lun → d.task.tag ≡ c.task.tag → ((core : Core) → IsSound (session_of core c) → IsSound (session_of core d)) → HoldsOn (held.TaskConnected c) (held.TaskConnected d)
connected_on c d e f s = record {
  busy = λ k. ap (λ n. if nat_eq n k then 1 else 0) e;
  linked = λ slots rogue a. (
    a.0,
    subst (λ n. slice_get slots n ≡ Some (Some a.0)) (sym e) a.1,
    record {
      keeps = a.2.keeps;
      sound = s a.0.core a.2.sound;
    },
  );
}

-- only the link of the target changes
pub where_linked : (count : ℕ) (slots : List (Option QueuedUnit)) (link : HeldState) (breaks : Bool) (to : ConnectionState) → IsDevice count slots link breaks
    → where_room (device_of slots link) (linked (device_of slots link).target to) ≡ record { target = record { units = map slot_of slots; link = to }; rooms = map room_of slots }
where_linked count slots link breaks to i = where_true (device_of slots link) (linked (device_of slots link).target to) (device_lies count slots link breaks i)

pub acked_is : (t : Target) → target_acked t ≡ acked_by t.link t
unfolding target_acked
acked_is t = refl

pub heard_lun : (n : TargetMessage) (c : Connection) → (heard_by n c).lun ≡ c.lun
heard_lun (target_message.Reselection part.Identify) c = refl
heard_lun (target_message.Reselection part.SimpleQueueTag) c = refl
heard_lun (target_message.Reselection part.Tag) c = refl
heard_lun (target_message.CommandComplete v) c = refl
heard_lun target_message.SaveThenDisconnect c = refl
heard_lun target_message.SaveDataPointer c = refl
heard_lun target_message.RestorePointers c = refl
heard_lun target_message.Disconnect c = refl

pub heard_tag : (n : TargetMessage) (c : Connection) → (heard_by n c).task.tag ≡ c.task.tag
heard_tag (target_message.Reselection part.Identify) c = refl
heard_tag (target_message.Reselection part.SimpleQueueTag) c = refl
heard_tag (target_message.Reselection part.Tag) c = refl
heard_tag (target_message.CommandComplete v) c = refl
heard_tag target_message.SaveThenDisconnect c = refl
heard_tag target_message.SaveDataPointer c = refl
heard_tag target_message.RestorePointers c = refl
heard_tag target_message.Disconnect c = refl

pub on_lun : (x : TaskPhase) (c : Connection) → (heard_on x c).lun ≡ c.lun
on_lun (task_phase.MessageIn n sent) c = heard_lun n c
on_lun task_phase.ToChoose c = refl
on_lun task_phase.MessageOut c = refl
on_lun (task_phase.DataIn n) c = refl
on_lun (task_phase.DataOut n) c = refl
on_lun (task_phase.Status v) c = refl

pub on_tag : (x : TaskPhase) (c : Connection) → (heard_on x c).task.tag ≡ c.task.tag
on_tag (task_phase.MessageIn n sent) c = heard_tag n c
on_tag task_phase.ToChoose c = refl
on_tag task_phase.MessageOut c = refl
on_tag (task_phase.DataIn n) c = refl
on_tag (task_phase.DataOut n) c = refl
on_tag (task_phase.Status v) c = refl

-- a task ends only after COMMAND COMPLETE
may_exit_message : (n : TargetMessage) (sent : Bool) (how : TaskExit) → exit_of_message n ≡ Some how → May how (task_phase.MessageIn n sent)
may_exit_message (target_message.CommandComplete v) sent Completed e = tt
may_exit_message (target_message.CommandComplete v) sent Disconnected e = tt
may_exit_message (target_message.CommandComplete v) sent Aborted e = tt
may_exit_message target_message.Disconnect sent Disconnected e = tt
may_exit_message target_message.Disconnect sent Aborted e = tt
may_exit_message target_message.Disconnect sent Completed e = cc
may_exit_message (target_message.Reselection p) sent how e = cc
may_exit_message target_message.SaveThenDisconnect sent how e = cc
may_exit_message target_message.SaveDataPointer sent how e = cc
may_exit_message target_message.RestorePointers sent how e = cc

pub may_part : (x : TaskPhase) (how : TaskExit) → exit_of x ≡ Some how → May how x
may_part (task_phase.MessageIn n sent) how e = may_exit_message n sent how e
may_part task_phase.ToChoose how e = cc
may_part task_phase.MessageOut how e = cc
may_part (task_phase.DataIn n) how e = cc
may_part (task_phase.DataOut n) how e = cc
may_part (task_phase.Status v) how e = cc

-- what the acknowledged message makes of the target, where the task leaves the bus
message_exits : (n : TargetMessage) (sent : Bool) (how : TaskExit) (t : Target) (c : Connection) → c.shows ≡ task_phase.MessageIn n sent → exit_of_message n ≡ Some how → message_acked n t c ≡ target_by how t c
message_exits (target_message.CommandComplete v) sent Completed t c e p =
    ap (λ (x : TaskPhase). at_lun t c.lun (λ u. record { units = with_unit t.units c.lun (unit_after u (closed_on x (session u c))); link = BusFree })) (sym e)
message_exits (target_message.CommandComplete v) sent Disconnected t c e p = cc
message_exits (target_message.CommandComplete v) sent Aborted t c e p = cc
message_exits target_message.Disconnect sent Disconnected t c e p = refl
message_exits target_message.Disconnect sent Aborted t c e p = cc
message_exits target_message.Disconnect sent Completed t c e p = cc
message_exits (target_message.Reselection m) sent how t c e p = cc
message_exits target_message.SaveThenDisconnect sent how t c e p = cc
message_exits target_message.SaveDataPointer sent how t c e p = cc
message_exits target_message.RestorePointers sent how t c e p = cc

shown_parts : (x : TaskPhase) (how : TaskExit) (t : Target) (c : Connection) → c.shows ≡ x → exit_of x ≡ Some how → shown_acked x t c ≡ target_by how t c
shown_parts (task_phase.MessageIn n sent) how t c e p = message_exits n sent how t c e p
shown_parts task_phase.ToChoose how t c e p = cc
shown_parts task_phase.MessageOut how t c e p = cc
shown_parts (task_phase.DataIn n) how t c e p = cc
shown_parts (task_phase.DataOut n) how t c e p = cc
shown_parts (task_phase.Status v) how t c e p = cc

pub acked_parts : (us : List (Option LogicalUnit)) (c : Connection) (how : TaskExit) → exit_of c.shows ≡ Some how
    → target_acked (record { units = us; link = TaskConnected c }) ≡ target_by how (record { units = us; link = TaskConnected c }) c
acked_parts us c how p = acked_is _ ∙ shown_parts c.shows how _ c refl p

-- and where it stays
message_stays : (n : TargetMessage) (us : List (Option LogicalUnit)) (c : Connection) → exit_of_message n ≡ None → message_acked n (record { units = us; link = TaskConnected c }) c ≡ record { units = us; link = TaskConnected (heard_by n c) }
message_stays (target_message.Reselection m) us c p = refl
message_stays target_message.SaveThenDisconnect us c p = refl
message_stays target_message.SaveDataPointer us c p = refl
message_stays target_message.RestorePointers us c p = refl
message_stays (target_message.CommandComplete v) us c p = cc
message_stays target_message.Disconnect us c p = cc

shown_stays : (x : TaskPhase) (us : List (Option LogicalUnit)) (c : Connection) → exit_of x ≡ None → shown_acked x (record { units = us; link = TaskConnected c }) c ≡ record { units = us; link = TaskConnected (heard_on x c) }
shown_stays (task_phase.MessageIn n sent) us c p = message_stays n us c p
shown_stays task_phase.ToChoose us c p = refl
shown_stays task_phase.MessageOut us c p = refl
shown_stays (task_phase.DataIn n) us c p = refl
shown_stays (task_phase.DataOut n) us c p = refl
shown_stays (task_phase.Status v) us c p = refl

pub acked_stays : (count : ℕ) (slots : List (Option QueuedUnit)) (c d : Connection) → IsDevice count slots (held.TaskConnected c) false → exit_of c.shows ≡ None → d ≡ heard_on c.shows c
    → device_of slots (held.TaskConnected d) ≡ where_room (device_of slots (held.TaskConnected c)) (target_acked (device_of slots (held.TaskConnected c)).target)
acked_stays count slots c d i p e =
    ap (λ (x : Connection). device_of slots (held.TaskConnected x)) e
    ∙ sym (where_linked count slots (held.TaskConnected c) false (TaskConnected (heard_on c.shows c)) i)
    ∙ ap (λ (t : Target). where_room (device_of slots (held.TaskConnected c)) t) (sym (acked_is _ ∙ shown_stays c.shows (map slot_of slots) c p))

pub acked_rogue : (count : ℕ) (slots : List (Option QueuedUnit)) (s x : RoguePhase) (n : Option Nexus) (breaks : Bool) → IsDevice count slots (held.RogueConnected s n) breaks → x ≡ rogue_heard s
    → device_of slots (held.RogueConnected x n) ≡ where_room (device_of slots (held.RogueConnected s n)) (target_acked (device_of slots (held.RogueConnected s n)).target)
acked_rogue count slots s x n breaks i e =
    ap (λ (y : RoguePhase). device_of slots (held.RogueConnected y n)) e
    ∙ sym (where_linked count slots (held.RogueConnected s n) breaks (RogueConnected (rogue_heard s) n) i)
    ∙ ap (λ (t : Target). where_room (device_of slots (held.RogueConnected s n)) t) (sym (acked_is _))

-- where nothing is done, the device is as before
pub where_same : (count : ℕ) (slots : List (Option QueuedUnit)) (link : HeldState) (breaks : Bool) (t : Target) → IsDevice count slots link breaks → t ≡ (device_of slots link).target
    → device_of slots link ≡ where_room (device_of slots link) t
where_same count slots link breaks t i e = sym (ap (λ (x : Target). where_room (device_of slots link) x) e ∙ where_linked count slots link breaks (link_of link) i)

-- the units of a connected task keep the rules
pub keeps_rules : (count : ℕ) (slots : List (Option QueuedUnit)) (c : Connection) (breaks : Bool) → IsDevice count slots (held.TaskConnected c) breaks → breaks ≡ false
keeps_rules count slots c breaks i = i.linked.2.keeps

pub rogue_holds_on : (s x : RoguePhase) (n : Option Nexus) → HoldsOn (held.RogueConnected s n) (held.RogueConnected x n)
rogue_holds_on s x n = record {
  busy = λ k. refl;
  linked = λ slots rogue i. i;
}

-- any other link stays
pub acked_other : (l : HeldState) (us : List (Option LogicalUnit)) → ((c : Connection) → l ≡ held.TaskConnected c → ⊥) → ((s : RoguePhase) (n : Option Nexus) → l ≡ held.RogueConnected s n → ⊥)
    → target_acked (record { units = us; link = link_of l }) ≡ record { units = us; link = link_of l }
acked_other held.BusFree us f g = acked_is _
acked_other (held.Selected heard) us f g = acked_is _
acked_other (held.TakingCommand n block) us f g = acked_is _
acked_other (held.TaskConnected c) us f g = absurd (f c refl)
acked_other (held.RogueConnected s n) us f g = absurd (g s n refl)
