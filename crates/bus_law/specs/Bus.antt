-- The bus with all targets of a rig: a device for each SCSI ID of a target, of which at most one is connected. Sources: SCSI-2 6.1 phases,
-- 6.2.2 reset condition; own is that the bus keeps the phase that was asked for last.
use Rattle.std.specs.Prelude.{ℕ, ◌==◌, is_none, Bool, true, false, List, [], filter, map, slice_index_or, slice_set, Option, Some, None}
use Rattle.std.specs.List.{range_with_len}
use Rattle.scsi_words.specs.declared.phases.kinds.Phase.{Phase as BusPhase}
use Rattle.rig_types.specs.declared.rig.Unit.{Unit as RigUnit}
use Rattle.chip_step.specs.Laws.{Signals}
use Rattle.target_law.specs.Target.{ConnectionState, BusFree, target_reset}
use Rattle.target_law.specs.Calls.{is_free, link_phase}
use Rattle.target_law.specs.Devices.{DeviceState, device_opened, where_room}

-- the devices by SCSI ID, 0 to 6, where 7 is the host's; which one is connected; ATN and ACK; and the phase that was asked for last
pub record BusState : Type 0 where
  pub devices : List DeviceState
  pub connected : Option ℕ
  pub atn : Bool
  pub ack : Bool
  pub asked : Option BusPhase

-- a device without units stands where there is none
abbrev pub no_device : DeviceState
no_device = record { target = record { units = []; link = BusFree }; rooms = [] }

abbrev pub device_at : BusState → ℕ → DeviceState
device_at b id = slice_index_or b.devices id no_device

abbrev pub device_of : BusState → Option ℕ → DeviceState
device_of b None = no_device
device_of b (Some id) = device_at b id

-- the link of the connected device
abbrev pub link_on : BusState → ConnectionState
link_on b = (device_of b b.connected).target.link

abbrev pub signals_of : BusState → Signals
signals_of b = record { free = is_none b.connected; atn = b.atn; ack = b.ack; shown = link_phase (link_on b) }

-- the bus with another device at an ID
abbrev pub with_device : BusState → ℕ → DeviceState → BusState
with_device b id d = record b { devices = slice_set b.devices id d }

-- The bus after a call that made this of its connected device. Where the device has left the bus, neither ATN nor ACK stays asserted.
abbrev pub free_if : Bool → BusState → BusState
free_if true b = record b { connected = None; atn = false; ack = false }
free_if false b = b

abbrev pub becomes : BusState → ℕ → DeviceState → BusState
becomes b id d = free_if (is_free d.target.link) (with_device b id d)

-- the units of a target, in the order of the rig
abbrev pub units_of : List RigUnit → ℕ → List RigUnit
units_of units id = filter (λ (u : RigUnit). u.target == id) units

-- the bus at its opening: it is free, and each unit at its own opening
abbrev pub bus_opened : List RigUnit → BusState
bus_opened units = record {
  devices = map (λ (id : ℕ). device_opened (units_of units id)) (range_with_len 0 7);
  connected = None;
  atn = false;
  ack = false;
  asked = None;
}

-- a device after a reset of its target; where a log has no room for its entries, it is as before
abbrev pub device_reset : DeviceState → DeviceState
device_reset d = where_room d (target_reset d.target)

-- a bus reset resets the units of every target, absent ones too, and frees the bus
abbrev pub bus_reset : BusState → BusState
bus_reset b = record {
  devices = map device_reset b.devices;
  connected = None;
  atn = false;
  ack = false;
  asked = None;
}
