-- The room of the logs of a bus suffices for each call. Source: own.
use Rattle.std.specs.Prelude.{ℕ, ◌+◌, ◌<◌, ◌==◌, Bool, true, List, length, Option, Some}
use Rattle.rig_types.specs.declared.rig.Unit.{Unit as RigUnit}
use Rattle.chip_step.specs.Event.{Event}
use Rattle.target_law.specs.declared.nexus.Nexus.{Nexus}
use Rattle.target_law.specs.Target.{LogicalUnit}
use Rattle.target_law.specs.Devices.{room_at}
use Rattle.bus_law.specs.Bus.{BusState, device_at}
use Rattle.bus_law.specs.Moves.{moves}
use Rattle.ticket_fate.specs.Tickets.{Plan, Ticket}
use Rattle.ticket_fate.specs.Histories.{count_if}
use Rattle.ticket_room.specs.Rooms.{AreBelow, HasSpare, HasLog}
use Rattle.bus_events.specs.Targets.{targets}
use Rattle.bus_events.specs.Tickets.{resets_device, tickets_after}
use Rattle.bus_events.specs.Needs.{Needs, HasRoomFor}
use Rattle.bus_events.specs.TicketLaws.{AreJoined}

-- each unit's log has room for all that its live tickets may still log, and for so many entries more, by unit
abbrev pub AreReserved : Plan → List RigUnit → (built : ℕ) → BusState → (ℕ → Ticket) → (spare : ℕ → ℕ) → Type 0
AreReserved g units built b ks spare =
    (n : ℕ) → n < length units → (u : LogicalUnit) → HasLog g n (targets b) u → HasSpare g n built ks u.log (room_at (device_at b (g.units n).target) (g.units n).lun) (spare n)

-- BUS DEVICE RESET logs a Clear in each unit of the connected target
abbrev pub clears_at : (resets : Bool) (connected : Option ℕ) (target : ℕ) → ℕ
clears_at true (Some i) target = count_if (target == i) 1
clears_at resets connected target = 0

-- then the call has room, and as much to spare is left, but for those Clears
abbrev pub CallsHaveRoom : Type 0
CallsHaveRoom = (g : Plan) (units : List RigUnit) (live : ℕ → Nexus → Option ℕ) (old : BusState) (event : Event) (new : BusState) (ks : ℕ → Ticket) (built : ℕ) (spare : ℕ → ℕ)
    → AreJoined g units old ks → moves units live old event new → Needs g live old event ks → AreBelow built ks
    → AreReserved g units built old ks (λ n. spare n + clears_at (resets_device old event) old.connected (g.units n).target)
    → HasRoomFor old event × AreReserved g units built new (tickets_after g old event new ks) spare
