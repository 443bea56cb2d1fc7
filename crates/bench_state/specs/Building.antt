-- What Build makes of a line that the desk refuses, and of one that it takes (own).
use Rattle.std.specs.Prelude.{◌<◌, ◌++◌, ◌∷◌, ℕ, List, [], length, slice_set, slice_index_or, Option, Some, None}
use Rattle.rig_types.specs.declared.commands.Command.{Command}
use Rattle.unit_law.specs.Request.{RequestData, plain}
use Rattle.bus_law.specs.Bus.{BusState}
use Rattle.bus_law.specs.Rooms.{with_room_at}
use Rattle.desk_law.specs.declared.refused.Refused.{Refused}
use Rattle.desk_law.specs.Desk.{DeskState, unit}
use Rattle.desk_law.specs.Refusals.{Refuses}
use Rattle.world_law.specs.declared.reply.Decided.{Decided}
use Rattle.world_law.specs.World.{World}

-- the desk refuses a command for this reason
abbrev pub RefusedFor : Option Command → World → Refused → Type 0
RefusedFor None w r = ⊥
RefusedFor (Some c) w r = Refuses w.desk (plain c.request) r

-- nothing refuses a request
abbrev pub IsNotRefused : DeskState → RequestData → Type 0
IsNotRefused d r = (a : Refused) → Refuses d r a → ⊥

-- room was made in the logs of a request's target
abbrev pub with_room_for : DeskState → RequestData → BusState → BusState
with_room_for d r b = with_room_at b (unit d r.unit).target

-- one more line of a submitter is decided
abbrev pub one_decided : List (List Decided) → (submitter : ℕ) → Decided → List (List Decided)
one_decided lss s x = slice_set lss s (slice_index_or lss s [] ++ x ∷ [])

-- a submitter's next line may be decided: there is room for it
pub record MayDecide (lss : List (List Decided)) (rooms : List ℕ) (submitter : ℕ) : Type 0 where
  pub there : submitter < length lss
  pub room : length (slice_index_or lss submitter []) < slice_index_or rooms submitter 0
  pub few : length (slice_index_or lss submitter []) < 2147483648
