-- Build in the world: a line is accepted or refused (own).
use Rattle.std.specs.Prelude.{◌≡◌, ℕ, Bool, true, false, [], ◌∷◌, ◌++◌, slice_set, Option, Some, None}
use Rattle.rig_types.specs.declared.commands.Command.{Command}
use Rattle.rig_types.specs.declared.commands.WhenFull.{WhenFull}
use Rattle.rig_types.specs.declared.commands.WhenFull.TheVariants.{Wait}
use Rattle.rig_types.specs.declared.step.Line.{Line}
use Rattle.unit_law.specs.Request.{RequestData, plain}
use Rattle.desk_law.specs.declared.refused.Refused.{Refused}
use Rattle.desk_law.specs.declared.refused.Refused.TheVariants.{LunFull, RegionFull}
use Rattle.desk_law.specs.Desk.{unit}
use Rattle.desk_law.specs.Refusals.{Refuses}
use Rattle.desk_law.specs.Building.{Builds}
use Rattle.world_law.specs.declared.reply.Decided.{Decided}
use Rattle.world_law.specs.declared.reply.Decided.TheVariants as line
use Rattle.world_law.specs.declared.reply.Reply.{Reply}
use Rattle.world_law.specs.declared.reply.Reply.TheVariants as reply
use Rattle.world_law.specs.World.{World, lines_of}
use Rattle.bus_law.specs.Rooms.{with_room_at}

-- the next line of a submitter is decided
abbrev pub decides : World → Line → Decided → World
decides w l x = record w { lines = slice_set w.lines l.submitter (lines_of w l.submitter ++ x ∷ []) }

-- where the unit or the region is full, a command that waits is tried again
abbrev pub is_tried_again : WhenFull → Refused → Bool
is_tried_again Wait (LunFull depth) = true
is_tried_again Wait (RegionFull len) = true
is_tried_again when_full r = false

abbrev pub refuses : (again : Bool) → World → Line → Refused → World
refuses true w l r = w
refuses false w l r = decides w l (line.Refused r)

-- the desk builds the ticket, and the logs of its unit's target get their room
pub record Accepts (old : World) (l : Line) (r : RequestData) (t : ℕ) (new : World) : Type 0 where
  pub builds : Builds old.desk old.memory l r t new.desk new.memory
  pub world : new ≡ record (decides old l (line.Accepted t)) {
    memory = new.memory;
    desk = new.desk;
    bus = with_room_at old.bus (unit old.desk r.unit).target;
  }

abbrev pub BuildsBy : World → Line → Command → Reply → World → Type 0
BuildsBy old l c (reply.Built t) new = Accepts old l (plain c.request) t new
BuildsBy old l c (reply.Refused r) new = Refuses old.desk (plain c.request) r × (new ≡ refuses (is_tried_again c.when_full r) old l r)
BuildsBy old l c _ new = ⊥

abbrev pub BuildsOf : Option Command → World → Line → Reply → World → Type 0
BuildsOf None old l answer new = ⊥
BuildsOf (Some c) old l answer new = BuildsBy old l c answer new
