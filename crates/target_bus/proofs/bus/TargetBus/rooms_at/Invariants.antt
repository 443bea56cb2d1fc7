use Rattle.std.proofs.Common.{◌≡◌, ◌<◌, ℕ, length, slice_index_or}
use Rattle.target_bus.specs.Rooms.{IsRoomOf}
use Rattle.target_bus.proofs.bus.TargetBus.rooms_at.Given as goal

abbrev pub invariant-loop-lun : goal.invariant-loop-lun
invariant-loop-lun l = record {
  each : (k : ℕ) → k < l.lun → IsRoomOf l.device k (slice_index_or l.rooms k 0);
  eight : length l.rooms ≡ 8;
}
