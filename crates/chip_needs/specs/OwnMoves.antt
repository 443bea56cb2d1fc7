-- The chip's own moves of tickets, which no call of the bus makes, at any point of a run. Source: own.
use Rattle.std.specs.Prelude.{ℕ, List}
use Rattle.bus_events.specs.Targets.{targets}
use Rattle.ticket_fate.specs.Tickets.{Plan, Ticket}
use Rattle.world_law.specs.Opening.{opened}
use Rattle.world_law.specs.Runs.{Moment, last}
use Rattle.world_law.specs.World.{BenchSetting}
use Rattle.run_joined.specs.ChipCalls.{OwnMoves}
use Rattle.run_joined.specs.JoinedRuns.{RunJoins}

-- a joined run is joined with the tickets after such moves too: that a ticket is selected may be said at any later step
abbrev pub OwnMovesStand : Type 0
OwnMovesStand = (g : BenchSetting) (p : Plan) (ms : List Moment) (ks ns : ℕ → Ticket) → RunJoins g p ms ks → OwnMoves p (targets (last (opened g) ms).bus) ks ns → RunJoins g p ms ns
