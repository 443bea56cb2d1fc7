-- A step of the chip beside the tickets: each call of the bus with what it asks of them, and the moves of a ticket that no call makes. Source: own.
use Rattle.std.specs.Prelude.{◌≡◌, ℕ, ◌+◌, Bool, true, List, Option, Some}
use Rattle.rig_types.specs.declared.rig.Unit.{Unit as RigUnit}
use Rattle.rig_types.specs.declared.step.Step.TheVariants as step
use Rattle.unit_law.specs.Log.{with_at}
use Rattle.chip_step.specs.Chip.{state}
use Rattle.chip_step.specs.Event.{Event}
use Rattle.chip_step.specs.Step.{ChipStep}
use Rattle.target_law.specs.declared.nexus.Nexus.{Nexus}
use Rattle.target_law.specs.Target.{LogicalUnit, Target, unit_at}
use Rattle.bus_law.specs.Bus.{BusState}
use Rattle.bus_law.specs.Moves.{moves}
use Rattle.ticket_fate.specs.Tickets.{Plan, unit_of, Connected, Ticket, view_for}
use Rattle.ticket_fate.specs.Moves.{target_of, TicketMove, pointed_ticket}
use Rattle.bus_events.specs.Targets.{targets}
use Rattle.bus_events.specs.Tickets.{resets_device, tickets_after}
use Rattle.bus_events.specs.Needs.{Needs}
use Rattle.bus_events.specs.Rooms.{clears_at}
use Rattle.run_law.specs.Changes.{resets_device as reset_in_run}
use Rattle.world_law.specs.ChipSteps.{RunsChip}
use Rattle.world_law.specs.Runs.{Moment, Steps}
use Rattle.world_law.specs.World.{BenchSetting, World, live}
use Rattle.world_law.specs.declared.reply.Reply.{Reply}
use Rattle.run_joined.specs.DeskLives.{IsChipStep}
use Rattle.run_joined.specs.Joined.{IsJoined, StepJoins}

-- the bus with the tickets, and with the entries that each unit's log has room for beside those of its live tickets
pub record TicketBus : Type 0 where
  pub bus : BusState
  pub tickets : ℕ → Ticket
  pub spare : ℕ → ℕ

-- A call of the bus that finds what it asks of the tickets. The tickets become what it makes of them. BUS DEVICE RESET takes the room of a Clear in each
-- unit of the connected target, and comes only where the run says that the target is reset.
pub record Calls (p : Plan) (units : List RigUnit) (live_at : ℕ → Nexus → Option ℕ) (caused : ℕ → Bool) (old : TicketBus) (event : Event) (new : TicketBus) : Type 0 where
  pub call : moves units live_at old.bus event new.bus
  pub needs : Needs p live_at old.bus event old.tickets
  pub made : new.tickets ≡ tickets_after p old.bus event new.bus old.tickets
  pub room : (n : ℕ) → old.spare n ≡ new.spare n + clears_at (resets_device old.bus event) old.bus.connected (p.units n).target
  pub reset : (i : ℕ) → resets_device old.bus event ≡ true → old.bus.connected ≡ Some i → caused i ≡ true

-- the chip's own moves of tickets: a ticket is selected, or its selection timed out, or it is cancelled; or its pointers are written
pub data OwnMoves (p : Plan) (ts : ℕ → Target) (ks : ℕ → Ticket) : (ℕ → Ticket) → Type 0 where
  none : OwnMoves p ts ks ks
  steps : {ns : ℕ → Ticket} → OwnMoves p ts ks ns → (x : ℕ) (k : Ticket) (u : LogicalUnit) → unit_at (ts (target_of p x)).units (p.units (unit_of p x)).lun ≡ Some u
      → (m : TicketMove p x (view_for p x u.log) (ns x) k) → IsChipStep m → OwnMoves p ts ks (with_at ns x k)
  writes : {ns : ℕ → Ticket} → OwnMoves p ts ks ns → (x lastp savep : ℕ) → (ns x).life ≡ Connected → OwnMoves p ts ks (with_at ns x (pointed_ticket (ns x) lastp savep))

-- a step of the chip each call of which finds what it asks, and then its own moves of tickets
pub record ChipMoves (p : Plan) (caused : ℕ → Bool) (old : World) (word : ℕ) (answer : Reply) (new : World) (ks : ℕ → Ticket) (spare : ℕ → ℕ) (ns : ℕ → Ticket) (left : ℕ → ℕ) : Type 0 where
  pub ran : RunsChip old word answer new
  pub called : ℕ → Ticket
  pub calls : ChipStep (Calls p old.desk.units (live old.desk) caused) word (state old.memory old.regs (record { bus = old.bus; tickets = ks; spare = spare })) ran.end
      (state new.memory new.regs (record { bus = new.bus; tickets = called; spare = left }))
  pub own : OwnMoves p (targets new.bus) called ns

-- whether the run says that a target is reset by the connection of a device reset
abbrev pub caused_by : BenchSetting → World → Moment → ℕ → Bool
caused_by g old m i = reset_in_run g i (record { before = old; moment = m })

-- such a step is joined, with these tickets and this room
abbrev pub ChipStepsJoin : Type 0
ChipStepsJoin =
    (g : BenchSetting) (p : Plan) (old : World) (m : Moment) (ks ns : ℕ → Ticket) (spare left : ℕ → ℕ) (word : ℕ) → Steps g old m → m.entry.step ≡ step.Chip word
    → ChipMoves p (caused_by g old m) old word m.reply m.after ks spare ns left → IsJoined g p old ks spare → (s : StepJoins g p old m ks) × (s.tickets ≡ ns) × (s.spare ≡ left)
