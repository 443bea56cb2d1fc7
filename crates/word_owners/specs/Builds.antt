-- Build keeps the invariant.
use Rattle.std.specs.Prelude.{◌≡◌, ℕ, List, length}
use Rattle.bench_words.specs.Bytes.{IsBytes}
use Rattle.rig_types.specs.declared.rig.Unit.{Unit as RigUnit}
use Rattle.rig_types.specs.Ranges.{IsRig}
use Rattle.rig_types.specs.declared.step.Line.{Line}
use Rattle.unit_law.specs.Request.{RequestData}
use Rattle.desk_law.specs.Desk.{DeskState}
use Rattle.desk_law.specs.Building.{Builds}
use Rattle.world_law.specs.World.{World}
use Rattle.world_law.specs.Builds.{Accepts}
use Rattle.word_owners.specs.Tickets.{AreChecked}
use Rattle.word_owners.specs.Spaces.{OwnsSpace}
use Rattle.word_owners.specs.FreePlaces.{HasDepths}
use Rattle.word_owners.specs.BuiltTickets.{AreBuilt}
use Rattle.word_owners.specs.Additions.{AddsTicket}
use Rattle.word_owners.specs.Parts.{Counts}
use Rattle.word_owners.specs.Holds.{Spot, Holds}

-- the command and the data of a request are bytes
pub record IsOfBytes (r : RequestData) : Type 0 where
  pub cdb : IsBytes r.cdb
  pub data_bytes : IsBytes r.bytes

-- Build adds its ticket to the desk, and writes its block and its buffer alone
abbrev pub BuildAdds : Type 0
BuildAdds =
    (retries step_limit : ℕ) (w : World) (desk : DeskState) (m : List ℕ) (l : Line) (r : RequestData) (t : ℕ) → IsRig w.desk.version w.desk.units retries step_limit → IsOfBytes r
    → length w.memory ≡ 0x400000 → IsBytes w.memory → AreChecked w.desk → AreBuilt w.desk → Builds w.desk w.memory l r t desk m → AddsTicket w m desk t

-- so an accepted line keeps the invariant, wherever the chip is or stands in a stop, and what live tickets own
abbrev pub BuildsHold : Type 0
BuildsHold =
    (retries step_limit version : ℕ) (units : List RigUnit) (s : Spot) (c : Counts) (w new : World) (l : Line) (r : RequestData) (t : ℕ) → IsRig version units retries step_limit → IsOfBytes r
    → HasDepths w.desk → OwnsSpace w.desk → Accepts w l r t new → Holds version units s c w → Holds version units s c new × AreBuilt new.desk
