-- The plan of a run: the requests of its tickets, and what the rig says. Source: own.
use Rattle.std.specs.Prelude.{◌≡◌, ℕ, ◌<◌, List, length, slice_get, Some}
use Rattle.ticket_fate.specs.Tickets.{Plan}
use Rattle.ticket_fate.specs.Linked.{IsPlan}
use Rattle.desk_law.specs.Desk.{ticket}
use Rattle.world_law.specs.World.{BenchSetting, IsBenchSetting, World, request_at}
use Rattle.world_law.specs.Opening.{opened}
use Rattle.world_law.specs.Runs.{Moment, Steps, IsRun, last}
use Rattle.word_owners.specs.Worlds.{HasBytes}

-- the request of each ticket is that of its line; units, retries and autosense are the rig's
pub record IsPlanOf (g : BenchSetting) (w : World) (p : Plan) : Type 0 where
  pub requests : (t : ℕ) → t < length w.desk.tickets → request_at g (ticket w.desk t).line ≡ Some (p.requests t)
  pub units : (n : ℕ) → n < length g.units → slice_get g.units n ≡ Some (p.units n)
  pub retries : p.retries ≡ g.retries
  pub autosense : p.autosense ≡ g.autosense

-- every run has a plan, in which each request is one that the driver accepts
abbrev pub PlansExist : Type 0
PlansExist =
    (g : BenchSetting) → IsBenchSetting g → HasBytes g → (moments : List Moment) → IsRun g (opened g) moments → (p : Plan) × IsPlan p (length g.units) × IsPlanOf g (last (opened g) moments) p

-- it was the plan before each step
abbrev pub PlansStay : Type 0
PlansStay = (g : BenchSetting) (old : World) (m : Moment) (p : Plan) → Steps g old m → IsPlanOf g m.after p → IsPlanOf g old p
