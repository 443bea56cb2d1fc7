-- A bus reset resets each target in turn; and the room that Builds, acts and bus resets make. Source: own.
use Rattle.std.specs.Prelude.{◌≡◌, ℕ, ◌+◌, ◌≤◌, ◌<◌, Bool, true, false, List, length}
use Rattle.unit_law.specs.Report.{TicketHistory}
use Rattle.rig_types.specs.declared.rig.Unit.{Unit as RigUnit}
use Rattle.unit_law.specs.Log.{with_at}
use Rattle.target_law.specs.Bytes.{Connection}
use Rattle.target_law.specs.Target.{LogicalUnit, ConnectionState, TaskConnected, Target}
use Rattle.target_law.specs.Devices.{room_at}
use Rattle.bus_law.specs.Bus.{BusState, device_at, bus_reset}
use Rattle.bus_law.specs.Rooms.{with_room_at, with_all_room}
use Rattle.ticket_fate.specs.Tickets.{Plan, Ticket}
use Rattle.ticket_fate.specs.Linked.{ByBus, reset_tickets}
use Rattle.ticket_fate.specs.Moves.{parts_ticket, target_of}
use Rattle.ticket_fate.specs.Histories.{Run, none, more, noted, noted_by, tally_in}
use Rattle.ticket_room.specs.Rooms.{AreBelow, live_count, HasSpare, HasLog}
use Rattle.bus_events.specs.Targets.{targets}
use Rattle.bus_events.specs.TicketLaws.{AreJoined}
use Rattle.bus_events.specs.Rooms.{AreReserved}

-- a connected task goes among the others first; a sense task is dropped without an entry
abbrev pub parted_by : (senses : Bool) → (ℕ → Ticket) → Connection → ℕ → Ticket
parted_by false ks c = with_at ks c.task.ticket (parts_ticket ks c)
parted_by true ks c = ks

abbrev pub parted_tickets : ConnectionState → (ℕ → Ticket) → ℕ → Ticket
parted_tickets (TaskConnected c) ks = parted_by c.task.senses ks c
parted_tickets link ks = ks

-- each ticket is reset with its target
abbrev pub after_bus_reset : Plan → BusState → (ℕ → Ticket) → ℕ → Ticket
after_bus_reset g b ks x = reset_tickets g (target_of g x) ByBus (targets b (target_of g x)) (parted_tickets (targets b (target_of g x)).link ks) x

-- the history of a ticket, from one that it had before these moves
abbrev pub history_on : {g : Plan} {count : ℕ} {ks : ℕ → Ticket} {ts : ℕ → Target} → ℕ → {ns : ℕ → Ticket} {us : ℕ → Target} → Run g count ks ts ns us → TicketHistory → TicketHistory
history_on x none h = h
history_on x (more r m) h = noted x m (history_on x r h)

-- what a bus reset says of a ticket: its unit's log before and after it, no mark, and that the bus was reset
abbrev pub noted_reset : Plan → BusState → (ℕ → Ticket) → ℕ → TicketHistory → TicketHistory
noted_reset g b ks x h = noted_by (ks x) (tally_in g (targets b) x) (tally_in g (targets (bus_reset b)) x) false true false h

-- a bus reset is a list of moves, each a reset of one target, which says so of each ticket; what holds of tickets and targets goes on; and each log
-- had room, for one Clear
pub record BusResets (g : Plan) (units : List RigUnit) (b : BusState) (ks : ℕ → Ticket) (built : ℕ) (spare : ℕ → ℕ) : Type 0 where
  pub run : Run g (length units) ks (targets b) (after_bus_reset g b ks) (targets (bus_reset b))
  pub notes : (x : ℕ) (h : TicketHistory) → history_on x run h ≡ noted_reset g b ks x h
  pub joined : AreJoined g units (bus_reset b) (after_bus_reset g b ks)
  pub reserved : AreReserved g units built (bus_reset b) (after_bus_reset g b ks) spare

abbrev pub BusResetsMove : Type 0
BusResetsMove = (g : Plan) (units : List RigUnit) (b : BusState) (ks : ℕ → Ticket) (built : ℕ) (spare : ℕ → ℕ) → AreJoined g units b ks → AreBelow built ks → AreReserved g units built b ks (λ n. spare n + 1)
    → BusResets g units b ks built spare

-- each device has a place for the room of each LUN, and the LUNs of the rig are below 8
pub record HasPlaces (g : Plan) (units : List RigUnit) (b : BusState) : Type 0 where
  pub rooms : (i : ℕ) → i < length b.devices → length (device_at b i).rooms ≡ 8
  pub luns : (n : ℕ) → n < length units → (g.units n).lun < 8

-- no more tickets of a unit live than its depth
abbrev pub LiveWithinDepth : Plan → ℕ → (built : ℕ) → (ℕ → Ticket) → Type 0
LiveWithinDepth g n built ks = live_count g n ks built ≤ (g.units n).depth

-- The room that is made for all units, or for those of one target, suffices, with two entries to spare. It changes no target, and no log has less.
pub record RoomIsMade : Type 0 where
  pub all : (g : Plan) (units : List RigUnit) (b : BusState) (ks : ℕ → Ticket) (built : ℕ) → AreJoined g units b ks → HasPlaces g units b → ((n : ℕ) → n < length units → LiveWithinDepth g n built ks)
      → AreReserved g units built (with_all_room b) ks (λ n. 2) × (targets (with_all_room b) ≡ targets b)
  pub one : (g : Plan) (units : List RigUnit) (b : BusState) (ks : ℕ → Ticket) (built i : ℕ) → AreJoined g units b ks → HasPlaces g units b → i < length b.devices
      → (n : ℕ) → n < length units → (g.units n).target ≡ i → LiveWithinDepth g n built ks → (u : LogicalUnit) → HasLog g n (targets (with_room_at b i)) u
      → HasSpare g n built ks u.log (room_at (device_at (with_room_at b i) (g.units n).target) (g.units n).lun) 2
  pub same : (b : BusState) (i : ℕ) → targets (with_room_at b i) ≡ targets b
  pub grows : (g : Plan) (units : List RigUnit) (b : BusState) (i : ℕ) → HasPlaces g units b → (n : ℕ) → n < length units
      → room_at (device_at b (g.units n).target) (g.units n).lun ≤ room_at (device_at (with_room_at b i) (g.units n).target) (g.units n).lun
  pub places : (g : Plan) (units : List RigUnit) (b : BusState) → HasPlaces g units b → ((i : ℕ) → HasPlaces g units (with_room_at b i)) × HasPlaces g units (with_all_room b) × HasPlaces g units (bus_reset b)
