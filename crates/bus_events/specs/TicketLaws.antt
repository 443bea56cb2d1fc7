-- Each call of the bus is a move of tickets and targets.
use Rattle.std.specs.Prelude.{◌≡◌, ℕ, ◌<◌, Bool, true, false, List, length, slice_get, Option, Some, None, ◌⊎◌}
use Rattle.rig_types.specs.declared.rig.Unit.{Unit as RigUnit}
use Rattle.chip_step.specs.Event.{Event, Select}
use Rattle.chip_step.specs.declared.scsi_bus.Settled.TheVariants.{Selected, TimedOut}
use Rattle.target_law.specs.declared.nexus.Nexus.{Nexus}
use Rattle.target_law.specs.Target.{LogicalUnit, Target, unit_at}
use Rattle.bus_law.specs.Bus.{BusState}
use Rattle.bus_law.specs.Moves.{moves}
use Rattle.bus_law.specs.Laws.{OneConnected}
use Rattle.ticket_fate.specs.Tickets.{Plan, Ticket}
use Rattle.ticket_fate.specs.Laws.{Reached}
use Rattle.ticket_link.specs.CallMoves.{CallMoves, DeviceResetMoves}
use Rattle.ticket_link.specs.Tags.{TagsApart}
use Rattle.bus_events.specs.Targets.{targets}
use Rattle.bus_events.specs.Tickets.{resets_device, tickets_after}
use Rattle.bus_events.specs.Needs.{Needs, HasRoomFor}

-- the tickets and the targets of the bus are such as a list of moves reaches, over the units of the rig; a tag of a unit names one live
-- ticket; one target is connected, or none; and the bus has no unit but those of the rig
pub record AreJoined (g : Plan) (units : List RigUnit) (b : BusState) (ks : ℕ → Ticket) : Type 0 where
  pub reached : Reached g (length units) ks (targets b)
  pub rig : (n : ℕ) → n < length units → slice_get units n ≡ Some (g.units n)
  pub apart : TagsApart g ks
  pub connected : OneConnected b
  pub whole : (i lun : ℕ) (u : LogicalUnit) → unit_at (targets b i).units lun ≡ Some u → (n : ℕ) × (n < length units) × ((g.units n).target ≡ i) × ((g.units n).lun ≡ lun)

-- BUS DEVICE RESET is a reset of the connected target; by any other call nothing changes, or it is one move that resets nothing
abbrev pub Follows : (resets : Bool) (connected : Option ℕ) (g : Plan) (count : ℕ) → (ks : ℕ → Ticket) (ts : ℕ → Target) (ns : ℕ → Ticket) (us : ℕ → Target) → Type 0
Follows false connected g count ks ts ns us = ((ns ≡ ks) × (us ≡ ts)) ⊎ CallMoves g count ks ts ns us
Follows true connected g count ks ts ns us = (i : ℕ) × (connected ≡ Some i) × DeviceResetMoves i g count ks ts ns us

-- a call of the bus, with what it asks
pub record NeedingCall (g : Plan) (units : List RigUnit) (live : ℕ → Nexus → Option ℕ) (old : BusState) (event : Event) (new : BusState) (ks : ℕ → Ticket) : Type 0 where
  pub joined : AreJoined g units old ks
  pub call : moves units live old event new
  pub needs : Needs g live old event ks
  pub room : HasRoomFor old event

-- each call of the bus is one move at most, of the tickets as `tickets_after` says and of the bus's targets
abbrev pub CallsMove : Type 0
CallsMove = (g : Plan) (units : List RigUnit) (live : ℕ → Nexus → Option ℕ) (old : BusState) (event : Event) (new : BusState) (ks : ℕ → Ticket) → NeedingCall g units live old event new ks
    → Follows (resets_device old event) old.connected g (length units) ks (targets old) (tickets_after g old event new ks) (targets new)

-- so what holds of tickets and targets goes on
abbrev pub CallsStayJoined : Type 0
CallsStayJoined = (g : Plan) (units : List RigUnit) (live : ℕ → Nexus → Option ℕ) (old : BusState) (event : Event) (new : BusState) (ks : ℕ → Ticket) → NeedingCall g units live old event new ks
    → AreJoined g units new (tickets_after g old event new ks)

-- a target that is selected has a unit that is there; where a selection times out on a free bus, every unit of the target is absent
pub record SelectionsTell : Type 0 where
  pub selected : (g : Plan) (units : List RigUnit) (live : ℕ → Nexus → Option ℕ) (old new : BusState) (ks : ℕ → Ticket) (target word : ℕ) → AreJoined g units old ks → moves units live old (Select target word Selected) new
      → (n : ℕ) × (n < length units) × ((g.units n).target ≡ target) × ((g.units n).absent ≡ false)
  pub timed_out : (g : Plan) (units : List RigUnit) (live : ℕ → Nexus → Option ℕ) (old new : BusState) (ks : ℕ → Ticket) (target word : ℕ) → AreJoined g units old ks → moves units live old (Select target word TimedOut) new
      → old.connected ≡ None → (n : ℕ) → n < length units → (g.units n).target ≡ target → (g.units n).absent ≡ true
