-- Build enters a ticket whose block, tag and buffer are its own.
use Rattle.std.specs.Prelude.{ℕ, List}
use Rattle.rig_types.specs.Ranges.{IsRig}
use Rattle.rig_types.specs.declared.step.Line.{Line}
use Rattle.unit_law.specs.Request.{RequestData}
use Rattle.desk_law.specs.Desk.{DeskState}
use Rattle.desk_law.specs.Building.{Builds}
use Rattle.word_owners.specs.Tickets.{tickets_of, AreTickets}
use Rattle.word_owners.specs.Spaces.{OwnsSpace}
use Rattle.word_owners.specs.FreePlaces.{HasDepths}

-- what is asked of live tickets, of how many live, and of what they own
pub record AreBuilt (d : DeskState) : Type 0 where
  pub tickets : AreTickets (tickets_of d)
  pub depths : HasDepths d
  pub space : OwnsSpace d

abbrev pub TicketsBuilt : Type 0
TicketsBuilt =
    (retries step_limit : ℕ) (old new : DeskState) (memory memory' : List ℕ) (l : Line) (r : RequestData) (t : ℕ) → IsRig old.version old.units retries step_limit
    → Builds old memory l r t new memory' → AreBuilt old → AreBuilt new
