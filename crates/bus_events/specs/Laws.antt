-- What each call of the bus makes of its targets, of a connected task above all.
use Rattle.std.specs.Prelude.{◌≡◌, ℕ, ◌<◌, ◌%◌, ◌/◌, Bool, true, false, List, [], length, Option, Some, None}
use Rattle.scsi_words.specs.declared.phases.kinds.Phase.{Phase as BusPhase}
use Rattle.rig_types.specs.declared.rig.Unit.{Unit as RigUnit}
use Rattle.chip_step.specs.Event.{Event, Phase, Shown, ByteIn, ByteOut, Select, Reselect, SetAtn, ClearAck, Leave}
use Rattle.chip_step.specs.declared.scsi_bus.Settled.TheVariants.{Selected, Reselected}
use Rattle.target_law.specs.declared.moves.Move.{Move}
use Rattle.target_law.specs.declared.nexus.Nexus.{Nexus}
use Rattle.target_law.specs.declared.task_phase.TargetMessage.{TargetMessage}
use Rattle.target_law.specs.declared.task_phase.TaskPhase.TheVariants.{ToChoose, MessageOut, MessageIn}
use Rattle.target_law.specs.Bytes.{Connection, phase_of, byte_by, sent_by, takes_by, took_by}
use Rattle.target_law.specs.Target.{LogicalUnit, TaskConnected, unit_at, linked}
use Rattle.target_law.specs.Calls.{target_selected, target_reselected, target_acted, message_of, told, message_acked}
use Rattle.bus_law.specs.Bus.{BusState}
use Rattle.bus_law.specs.Choices.{named_by}
use Rattle.bus_law.specs.Moves.{moves}
use Rattle.bus_events.specs.Targets.{targets, HasTask, HasRoom, Makes}

-- a call of the bus
abbrev pub Calls : Event → (old new : BusState) → Type 0
Calls event old new = (units : List RigUnit) × (live : ℕ → Nexus → Option ℕ) × moves units live old event new

-- Phase: a task that shows a phase stays; one that is to choose hears a message where ATN is asserted, and else makes the move that the word names
pub record PhaseMakes : Type 0 where
  pub stays : (old new : BusState) (word : ℕ) (shown : Option BusPhase) (id : ℕ) (c : Connection) (p : BusPhase) → Calls (Phase word shown) old new → HasTask old id c → phase_of c.shows ≡ Some p
      → (targets new ≡ targets old) × (shown ≡ Some p)
  pub hears : (old new : BusState) (word : ℕ) (shown : Option BusPhase) (id : ℕ) (c : Connection) → Calls (Phase word shown) old new → HasTask old id c → c.shows ≡ ToChoose → old.atn ≡ true
      → Makes old id (linked (targets old id) (TaskConnected (record c { heard = []; shows = MessageOut }))) new
  pub acts : (old new : BusState) (word : ℕ) (p : BusPhase) (id : ℕ) (c : Connection) (u : LogicalUnit) (m : Move) → Calls (Phase word (Some p)) old new → HasTask old id c → c.shows ≡ ToChoose → old.atn ≡ false
      → unit_at (targets old id).units c.lun ≡ Some u → named_by u c word ≡ Some m → HasRoom old id (target_acted (targets old id) m) → Makes old id (target_acted (targets old id) m) new

-- Shown changes nothing
abbrev pub ShownMakes : Type 0
ShownMakes = (old new : BusState) (shown : Option BusPhase) → Calls (Shown shown) old new → new ≡ old

-- ByteIn: the byte is the task's, and the task has sent it; without a byte nothing changes
pub record ByteInMakes : Type 0 where
  pub sends : (old new : BusState) (byte id : ℕ) (c : Connection) → Calls (ByteIn (Some byte)) old new → HasTask old id c
      → ((b : ℕ) × (byte_by c.shows c.task c.lun ≡ Some b) × (byte ≡ b % 256)) × Makes old id (linked (targets old id) (TaskConnected (sent_by c.shows c))) new
  pub none : (old new : BusState) (id : ℕ) → Calls (ByteIn None) old new → old.connected ≡ Some id → new ≡ old

-- ByteOut: a task takes the byte exactly where it shows a phase that takes one
pub record ByteOutMakes : Type 0 where
  pub takes : (old new : BusState) (byte : ℕ) (taken : Bool) (id : ℕ) (c : Connection) → Calls (ByteOut byte taken) old new → HasTask old id c → takes_by c.shows ≡ true
      → (taken ≡ true) × Makes old id (linked (targets old id) (TaskConnected (took_by c.shows c byte))) new
  pub refuses : (old new : BusState) (byte : ℕ) (taken : Bool) (id : ℕ) (c : Connection) → Calls (ByteOut byte taken) old new → HasTask old id c → takes_by c.shows ≡ false → (taken ≡ false) × (new ≡ old)

-- Select: the target is selected and connected, where none reselects
pub record SelectMakes : Type 0 where
  pub selects : (old new : BusState) (target word : ℕ) → Calls (Select target word Selected) old new → target < length old.devices → Makes old target (target_selected (targets old target)) new × (new.connected ≡ Some target)
  pub reselects : (old new : BusState) (target word by : ℕ) → Calls (Select target word (Reselected by)) old new → by < length old.devices
      → ((lun number : ℕ) × Makes old by (target_reselected (targets old by) lun number (word / 256 % 256)) new) × (new.connected ≡ Some by)

-- Reselect: a candidate comes, or nothing changes
pub record ReselectMakes : Type 0 where
  pub comes : (old new : BusState) (word by : ℕ) → Calls (Reselect word (Some by)) old new → by < length old.devices
      → ((lun number : ℕ) × Makes old by (target_reselected (targets old by) lun number (word / 256 % 256)) new) × (new.connected ≡ Some by)
  pub none : (old new : BusState) (word : ℕ) → Calls (Reselect word None) old new → new ≡ old

-- SetAtn: asserted, it changes no target; released while a task shows MSG_OUT, the task hears its message
pub record SetAtnMakes : Type 0 where
  pub asserts : (old new : BusState) → Calls (SetAtn true) old new → targets new ≡ targets old
  pub tells : (old new : BusState) (id : ℕ) (c : Connection) → Calls (SetAtn false) old new → HasTask old id c → c.shows ≡ MessageOut → HasRoom old id (told (message_of c.heard) (targets old id) c)
      → Makes old id (told (message_of c.heard) (targets old id) c) new

-- ClearAck: the message that was sent acts
abbrev pub ClearAckMakes : Type 0
ClearAckMakes = (old new : BusState) (id : ℕ) (c : Connection) (n : TargetMessage) (sent : Bool) → Calls ClearAck old new → HasTask old id c → old.ack ≡ true → c.shows ≡ MessageIn n sent
    → HasRoom old id (message_acked n (targets old id) c) → Makes old id (message_acked n (targets old id) c) new

-- Leave: on a free bus nothing changes; a task that shows a phase stays
pub record LeaveMakes : Type 0 where
  pub free : (old new : BusState) (word : ℕ) (gone : Bool) → Calls (Leave word gone) old new → old.connected ≡ None → (new ≡ old) × (gone ≡ true)
  pub stays : (old new : BusState) (word : ℕ) (gone : Bool) (id : ℕ) (c : Connection) (p : BusPhase) → Calls (Leave word gone) old new → HasTask old id c → phase_of c.shows ≡ Some p
      → (targets new ≡ targets old) × (gone ≡ false)
