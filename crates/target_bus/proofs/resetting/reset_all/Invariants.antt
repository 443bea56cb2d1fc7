use Rattle.std.proofs.Common.{◌≡◌, ◌<◌, ℕ, slice_index_or, vec_len}
use Rattle.scsi_target.specs.Devices.{KeepsPlaces}
use Rattle.bus_law.specs.Bus.{no_device, device_reset}
use Rattle.target_bus.proofs.Resets.{first_changed}
use Rattle.target_bus.proofs.resetting.reset_all.Given as goal

abbrev pub invariant-loop-i : goal.invariant-loop-i
invariant-loop-i l = record {
  devices : l.devices.items ≡ first_changed device_reset l.i l.fn.devices.items;
  count : vec_len l.devices ≡ vec_len l.fn.devices;
  places : (k : ℕ) → k < l.i → KeepsPlaces (slice_index_or l.fn.devices.items k no_device);
}
