-- The eight places for the units of a device.
use Rattle.std.specs.Prelude.{◌≡◌, ℕ, ◌&&◌, Bool, true, List, [], ◌∷◌, slice_get, Option, Some, None}
use Rattle.target_law.specs.Target.{LogicalUnit}
use Rattle.target_law.specs.Calls.{slot_has_unit, slot_answers}
use Rattle.unit_tasks.specs.Units.{unit_of}
use Rattle.unit_tasks.specs.Resets.{can_reset, reset_by}
use Rattle.unit_tasks.specs.declared.queued.QueuedUnit.{QueuedUnit}

abbrev pub slot_of : Option QueuedUnit → Option LogicalUnit
slot_of None = None
slot_of (Some q) = Some (unit_of q)

abbrev pub room_of : Option QueuedUnit → ℕ
room_of None = 0
room_of (Some q) = q.core.log.room

-- there is a unit in a place, and one that answers a selection
abbrev pub has_unit_in : Option QueuedUnit → Bool
has_unit_in o = slot_has_unit (slot_of o)

abbrev pub answers_in : Option QueuedUnit → Bool
answers_in o = slot_answers (slot_of o)

-- the unit of a LUN is there, and this holds of it
abbrev pub At : List (Option QueuedUnit) → ℕ → (QueuedUnit → Type 0) → Type 0
At slots lun P = (q : QueuedUnit) × (slice_get slots lun ≡ Some (Some q)) × P q

-- a place after a reset of its unit
abbrev pub slot_after : Option QueuedUnit → Option QueuedUnit
slot_after None = None
slot_after (Some q) = Some (reset_by true q)

-- each log has room for the entries of a reset
abbrev pub slot_can_reset : Option QueuedUnit → Bool
slot_can_reset None = true
slot_can_reset (Some q) = can_reset q

unfoldable pub all_can_reset : List (Option QueuedUnit) → Bool
all_can_reset [] = true
all_can_reset (q ∷ qs) = slot_can_reset q && all_can_reset qs
