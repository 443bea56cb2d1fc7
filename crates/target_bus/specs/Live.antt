-- The bus with what knows the rig's units and the live tickets.
use Rattle.std.specs.Prelude.{◌≡◌, ℕ, List, Option}
use Rattle.rig_types.specs.declared.rig.Unit.{Unit as RigUnit}
use Rattle.chip_step.specs.Event.{Event}
use Rattle.target_law.specs.declared.nexus.Nexus.{Nexus}
use Rattle.bus_law.specs.Bus.{BusState}
use Rattle.bus_law.specs.Moves.{moves}

-- the call of the bus, for these units and live tickets, which stay
abbrev pub MovesWith : {T : Type 0} → (T → List RigUnit) → (T → ℕ → Nexus → Option ℕ) → BusState → T → Event → BusState → T → Type 0
MovesWith units live b tickets event b' tickets' = moves (units tickets) (live tickets) b event b' × (tickets' ≡ tickets)
