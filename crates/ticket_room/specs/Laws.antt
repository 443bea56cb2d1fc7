-- Laws of the room of logs over every list of moves from the opening.
use Rattle.std.specs.Prelude.{◌≢◌, ℕ, suc, ◌+◌, ◌*◌, ◌≤◌, ◌<◌, List, length}
use Rattle.unit_law.specs.declared.entry.LogEntry.{LogEntry}
use Rattle.unit_law.specs.Log.{with_at}
use Rattle.target_law.specs.Target.{LogicalUnit, Target}
use Rattle.ticket_fate.specs.Tickets.{Plan, unit_of, Ticket}
use Rattle.ticket_fate.specs.Moves.{Moves}
use Rattle.ticket_fate.specs.Laws.{Reached}
use Rattle.ticket_link.specs.Tags.{IsBuild}
use Rattle.ticket_room.specs.Rooms.{AreBelow, live_count, HasSpare, clears_in, HasLog}

-- each move but a Build leaves a log within its room, with as much to spare, but for a Clear of a reset
abbrev pub LogsStayWithin : Type 0
LogsStayWithin = (g : Plan) (count : ℕ) (ks : ℕ → Ticket) (ts : ℕ → Target) (ns : ℕ → Ticket) (us : ℕ → Target) → Reached g count ks ts → (m : Moves g count ks ts ns us) → (IsBuild m → ⊥)
    → (built n room spare : ℕ) (u v : LogicalUnit) → AreBelow built ks → n < count → HasLog g n ts u → HasLog g n us v → HasSpare g n built ks u.log room (spare + clears_in n m) → HasSpare g n built ns v.log room spare

pub record ReservesSuffice : Type 0 where
  -- the room that is reserved at a Build, an act and a bus reset: for as many tickets as may live, and two Clears
  pub reserved : (g : Plan) (n built : ℕ) (ks : ℕ → Ticket) (log : List LogEntry) (room : ℕ) → live_count g n ks built ≤ (g.units n).depth
      → length log + ((g.units n).depth * ((g.units n).refusals + 3) + 2) ≤ room → HasSpare g n built ks log room 2
  -- a ticket of another unit changes
  pub elsewhere : (g : Plan) (n built x : ℕ) (ks : ℕ → Ticket) (k : Ticket) (log : List LogEntry) (room spare : ℕ) → unit_of g x ≢ n → HasSpare g n built ks log room spare
      → HasSpare g n built (with_at ks x k) log room spare
  -- a number more, that isn't built yet
  pub unbuilt : (g : Plan) (n built : ℕ) (ks : ℕ → Ticket) (log : List LogEntry) (room spare : ℕ) → AreBelow built ks → HasSpare g n built ks log room spare → HasSpare g n (suc built) ks log room spare
