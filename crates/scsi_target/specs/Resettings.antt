-- What a reset asks and makes of the units, with a connected task among the others. No public contract rests on these.
use Rattle.std.specs.Prelude.{ℕ, zero, suc, List, [], ◌∷◌, Option}
use Rattle.target_law.specs.Session.{Task}
use Rattle.target_law.specs.Target.{unit_left}
use Rattle.unit_tasks.specs.Units.{unit_of, holding}
use Rattle.unit_tasks.specs.declared.queued.QueuedUnit.{QueuedUnit}
use Rattle.scsi_target.specs.Slots.{slot_after}
use Rattle.scsi_target.specs.declared.connection_state.ConnectionState.{ConnectionState as HeldState}
use Rattle.scsi_target.specs.declared.connection_state.ConnectionState.TheVariants as held

-- a unit with one more task among the others
abbrev pub with_task : QueuedUnit → Task → QueuedUnit
with_task q k = holding q (unit_left (unit_of q) k) q.tasks.idle

-- the first n places after their reset
unfoldable pub reset_first : ℕ → List (Option QueuedUnit) → List (Option QueuedUnit)
reset_first zero slots = slots
reset_first (suc n) [] = []
reset_first (suc n) (q ∷ slots) = slot_after q ∷ reset_first n slots

-- no task is connected
abbrev pub HasNoTask : HeldState → Type 0
HasNoTask (held.TaskConnected c) = ⊥
HasNoTask _ = Unit {0}
