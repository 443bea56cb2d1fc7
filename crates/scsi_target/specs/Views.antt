-- How the fields of a device show its state, and what holds of them.
use Rattle.std.specs.Prelude.{◌≡◌, ℕ, ◌+◌, ◌<◌, ◌≤◌, ◌==◌, if◌then◌else◌, Bool, true, false, List, [], ◌∷◌, ◌++◌, length, map, slice_get, Option, Some}
use Rattle.std.specs.List.{list_any}
use Rattle.cdb_codec.specs.Blocks.{length_of}
use Rattle.rig_types.specs.Ranges.{IsUnit}
use Rattle.target_law.specs.declared.nexus.Nexus.{Nexus}
use Rattle.target_law.specs.Sound.{IsSound}
use Rattle.target_law.specs.Bytes.{Connection}
use Rattle.target_law.specs.Target.{ConnectionState, BusFree, Selected, TakingCommand, TaskConnected, RogueConnected, session}
use Rattle.target_law.specs.Calls.{slot_is_rogue}
use Rattle.unit_tasks.specs.Units.{unit_of}
use Rattle.unit_tasks.specs.Queue.{AllWait}
use Rattle.unit_tasks.specs.declared.queued.QueuedUnit.{QueuedUnit}
use Rattle.target_law.specs.Devices.{DeviceState}
use Rattle.scsi_target.specs.Slots.{slot_of, room_of, At}
use Rattle.scsi_target.specs.declared.connection_state.ConnectionState.{ConnectionState as HeldState}
use Rattle.scsi_target.specs.declared.connection_state.ConnectionState.TheVariants as held

abbrev pub link_of : HeldState → ConnectionState
link_of held.BusFree = BusFree
link_of (held.Selected heard) = Selected heard.bytes.items
link_of (held.TakingCommand n block) = TakingCommand n block.bytes.items
link_of (held.TaskConnected c) = TaskConnected c
link_of (held.RogueConnected s n) = RogueConnected s n

abbrev pub device_of : List (Option QueuedUnit) → HeldState → DeviceState
device_of slots link = record { target = record { units = map slot_of slots; link = link_of link }; rooms = map room_of slots }

-- how many tasks of a LUN are connected
abbrev pub busy : HeldState → ℕ → ℕ
busy (held.TaskConnected c) lun = if c.lun == lun then 1 else 0
busy _ lun = 0

-- a unit of a LUN: in range, with tasks that wait at it, and a place for each task of its depth; `rogue` says whether the target's units
-- break the rules
pub record IsSlot (breaks : Bool) (link : HeldState) (place : ℕ) (q : QueuedUnit) : Type 0 where
  pub lun : q.rig.lun ≡ place
  pub unit : (version : ℕ) × IsUnit version q.rig
  pub rogue : q.rig.rogue ≡ breaks
  pub depth : q.tasks.depth ≡ q.rig.depth
  pub places : length q.tasks.tasks + q.tasks.idle + busy link place ≡ q.tasks.depth
  pub waiting : AllWait q.core.lun q.tasks.tasks
  pub log : length q.core.log.entries ≤ q.core.log.room

-- a connected task is one of a unit that keeps the rules, and is sound
pub record IsConnected (rogue : Bool) (c : Connection) (q : QueuedUnit) : Type 0 where
  pub keeps : rogue ≡ false
  pub sound : IsSound (session (unit_of q) c)

-- the bytes of a command descriptor block are no more than the first one says
abbrev pub IsBlock : List ℕ → Type 0
IsBlock [] = Unit {0}
IsBlock (b ∷ bs) = length (b ∷ bs) ≤ length_of b

abbrev pub IsLinked : HeldState → List (Option QueuedUnit) → Bool → Type 0
IsLinked held.BusFree slots rogue = Unit {0}
IsLinked (held.Selected heard) slots rogue = rogue ≡ false
IsLinked (held.TakingCommand n block) slots rogue = (rogue ≡ false) × IsBlock block.bytes.items × At slots n.lun (λ q. Unit {0})
IsLinked (held.TaskConnected c) slots rogue = At slots c.lun (IsConnected rogue c)
IsLinked (held.RogueConnected s n) slots rogue = (rogue ≡ true) × ((x : Nexus) → n ≡ Some x → x.lun < 8)

-- eight places, each unit in its own
pub record IsDevice (count : ℕ) (slots : List (Option QueuedUnit)) (link : HeldState) (rogue : Bool) : Type 0 where
  pub counted : count ≡ 8
  pub eight : length slots ≡ 8
  pub slots_are : (place : ℕ) (q : QueuedUnit) → slice_get slots place ≡ Some (Some q) → IsSlot rogue link place q
  pub known : list_any slot_is_rogue (map slot_of slots) ≡ rogue
  pub linked : IsLinked link slots rogue

-- a link that was changed holds on with each unit, and as many tasks are connected
pub record HoldsOn (old new : HeldState) : Type 0 where
  pub busy : (k : ℕ) → busy new k ≡ busy old k
  pub linked : (slots : List (Option QueuedUnit)) (rogue : Bool) → IsLinked old slots rogue → IsLinked new slots rogue

-- a link of some device
abbrev pub IsHeld : HeldState → Type 0
IsHeld link = (slots : List (Option QueuedUnit)) × (rogue : Bool) × IsLinked link slots rogue

-- a block after a byte, which it takes where it isn't whole
abbrev pub block_took : Bool → List ℕ → ℕ → List ℕ
block_took true bytes b = bytes
block_took false bytes b = bytes ++ b ∷ []
