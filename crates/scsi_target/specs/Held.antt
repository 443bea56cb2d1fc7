-- What holds of a device between its calls.
use Rattle.std.specs.Prelude.{ℕ, Bool, List, Option}
use Rattle.target_law.specs.Sound.{HaveDistinctTags}
use Rattle.unit_tasks.specs.declared.queued.QueuedUnit.{QueuedUnit}
use Rattle.scsi_target.specs.Views.{device_of, IsDevice}
use Rattle.scsi_target.specs.declared.connection_state.ConnectionState.{ConnectionState as HeldState}

-- its fields show a device, and no two tasks of a unit have one tag
pub record IsHeldDevice (count : ℕ) (slots : List (Option QueuedUnit)) (link : HeldState) (rogue : Bool) : Type 0 where
  pub device : IsDevice count slots link rogue
  pub tags : HaveDistinctTags (device_of slots link).target
