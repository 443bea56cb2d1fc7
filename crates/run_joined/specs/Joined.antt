-- A world of a run beside tickets and targets, and what a step of the bench makes of both. Source: own.
use Rattle.std.specs.Prelude.{◌≡◌, ℕ, ◌≤◌, Bool, true, false, [], length, Some}
use Rattle.rig_types.specs.declared.step.Step.{Step}
use Rattle.rig_types.specs.declared.step.Step.TheVariants as step
use Rattle.cdb_codec.specs.declared.commands.Cdb.TheVariants.{TestUnitReady}
use Rattle.unit_law.specs.Report.{TicketHistory}
use Rattle.target_law.specs.Session.{began}
use Rattle.desk_law.specs.Desk.{DeskState, ticket, is_rogue, is_sensing}
use Rattle.desk_law.specs.Rings.{done_ticket}
use Rattle.world_law.specs.World.{BenchSetting, IsBenchSetting, World}
use Rattle.world_law.specs.Opening.{opened}
use Rattle.world_law.specs.Runs.{Moment, Steps}
use Rattle.run_law.specs.History.{noted}
use Rattle.ticket_fate.specs.Tickets.{Plan, unit_of, Unbuilt, Ticket}
use Rattle.ticket_fate.specs.Histories.{Run}
use Rattle.ticket_fate.specs.Linked.{IsPlan}
use Rattle.ticket_fate.specs.Laws.{Opens}
use Rattle.bus_events.specs.Targets.{targets}
use Rattle.bus_events.specs.TicketLaws.{AreJoined}
use Rattle.bus_events.specs.Rooms.{AreReserved}
use Rattle.bus_events.specs.BusResets.{HasPlaces, history_on}
use Rattle.word_owners.specs.KeptDesks.{AreKept}
use Rattle.run_joined.specs.DeskLives.{DeskJoined, WordsAgree, IsLostToReset}
use Rattle.run_joined.specs.Plans.{IsPlanOf}

-- the desk has what the rig says
pub record IsDeskOf (g : BenchSetting) (d : DeskState) : Type 0 where
  pub version : d.version ≡ g.version
  pub units : d.units ≡ g.units
  pub retries : d.retries ≡ g.retries
  pub autosense : d.autosense ≡ g.autosense

-- The tickets and the bus of a world are such as a list of moves reaches; the desk has each ticket's stage, tag, unit, tries and outcome; and each
-- unit's log has room for all that its live tickets may still log, and for so many entries more, by unit, of which at most 2 are ever kept.
pub record IsJoined (g : BenchSetting) (p : Plan) (w : World) (ks : ℕ → Ticket) (spare : ℕ → ℕ) : Type 0 where
  pub tickets : AreJoined p g.units w.bus ks
  pub desk : DeskJoined p w.desk ks
  pub rig : IsDeskOf g w.desk
  pub places : HasPlaces p g.units w.bus
  pub reserved : AreReserved p g.units (length w.desk.tickets) w.bus ks spare
  pub most : (n : ℕ) → spare n ≤ 2

-- ---- the opening

-- no ticket is built
abbrev pub unbuilt_ticket : Ticket
unbuilt_ticket = record {
  life = Unbuilt;
  tag = 0;
  status = 0;
  lastp = 0;
  savep = 0;
  buffer = [];
  area = [];
  sense = [];
  marked = false;
  tries = 0;
  since = 0;
  clears = 0;
  before = 0;
  logged = 0;
  bus_reset = false;
  task = began 0 0 TestUnitReady 0 false;
}

abbrev pub no_tickets : ℕ → Ticket
no_tickets x = unbuilt_ticket

-- it is an opening of the machine of tickets, with no room to spare
abbrev pub OpeningIsJoined : Type 0
OpeningIsJoined =
    (g : BenchSetting) (p : Plan) → IsBenchSetting g → IsPlan p (length g.units) → IsPlanOf g (opened g) p
    → Opens p (length g.units) no_tickets (targets (opened g).bus) × IsJoined g p (opened g) no_tickets (λ n. 0)

-- ---- a step

-- A list of moves leads to the world after the step, and says of each ticket what the step says of it.
pub record StepJoins (g : BenchSetting) (p : Plan) (old : World) (m : Moment) (ks : ℕ → Ticket) : Type 0 where
  pub tickets : ℕ → Ticket
  pub spare : ℕ → ℕ
  pub moves : Run p (length g.units) ks (targets old.bus) tickets (targets m.after.bus)
  pub joined : IsJoined g p m.after tickets spare
  pub notes : (x : ℕ) (h : TicketHistory) → noted g (unit_of p x) x h (record { before = old; moment = m }) ≡ history_on x moves h

-- the steps that are joined by what the words of a block tell, and by the chip's program
abbrev pub is_by_words : Step → Bool
is_by_words (step.Chip word) = true
is_by_words step.TakeDone = true
is_by_words (step.Sweep t) = true
is_by_words _ = false

-- every other step of the driver is joined: Build, Link, Queue, Signal, Fix, Restart, Unlink, Free, Sense, each act, and the reset of the bus
abbrev pub DriverStepsJoin : Type 0
DriverStepsJoin =
    (g : BenchSetting) (p : Plan) (old : World) (m : Moment) (ks : ℕ → Ticket) (spare : ℕ → ℕ) → IsBenchSetting g → IsPlanOf g m.after p → Steps g old m → AreKept old.desk → AreKept m.after.desk
    → is_by_words m.entry.step ≡ false → IsJoined g p old ks spare → StepJoins g p old m ks

-- so are TakeDone, where the words of the ticket's block tell what its life says, and Sweep of a ticket that a reset took from the chip
pub record WordStepsJoin : Type 0 where
  pub taken : (g : BenchSetting) (p : Plan) (old : World) (m : Moment) (ks : ℕ → Ticket) (spare : ℕ → ℕ) (t : ℕ) → Steps g old m → m.entry.step ≡ step.TakeDone
      → done_ticket old.memory old.desk ≡ Some t → WordsAgree p old.desk old.memory t (ticket old.desk t) (ks t) (ks t).life → IsJoined g p old ks spare → StepJoins g p old m ks
  pub swept : (g : BenchSetting) (p : Plan) (old : World) (m : Moment) (ks : ℕ → Ticket) (spare : ℕ → ℕ) (t : ℕ) → Steps g old m → m.entry.step ≡ step.Sweep t
      → IsLostToReset (ks t).life (is_sensing (ticket old.desk t).stage) (is_rogue old.desk (ticket old.desk t)) → IsJoined g p old ks spare → StepJoins g p old m ks
