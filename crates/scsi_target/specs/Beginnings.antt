-- The link where a task is made of a command. No public contract rests on these.
use Rattle.std.specs.Prelude.{◌≡◌, ℕ, ◌<◌, nat_lt, ◌||◌, if◌then◌else◌, Bool, false, List, [], length}
use Rattle.cdb_codec.specs.declared.commands.Cdb.{Cdb}
use Rattle.cdb_codec.specs.Forms.{need_of}
use Rattle.target_law.specs.declared.nexus.Nexus.{Nexus}
use Rattle.target_law.specs.declared.task_phase.TaskPhase.TheVariants.{ToChoose}
use Rattle.target_law.specs.Session.{Task, began}
use Rattle.target_law.specs.Target.{LogicalUnit, ConnectionState, BusFree, TaskConnected}
use Rattle.target_law.specs.Calls.{has_tag, has_ended}

-- no task is made where the unit has one of the tag, or the command needs too many bytes
abbrev pub makes_none : List Task → (tag : ℕ) → Cdb → Bool
makes_none tasks tag c = has_tag tasks tag || nat_lt 65536 (need_of c).bytes

abbrev pub link_begun : Nexus → Cdb → LogicalUnit → (ticket : ℕ) → ConnectionState
link_begun n c u ticket =
    if makes_none u.tasks n.tag c then BusFree
    else TaskConnected (record {
      lun = n.lun;
      reselected = false;
      heard = [];
      task = began n.tag ticket c u.rig.disconnects (has_ended u.log ticket);
      shows = ToChoose;
    })

-- a unit that has no task of the tag has a place for one more
abbrev pub HasPlaceFor : Nexus → LogicalUnit → Type 0
HasPlaceFor n u = has_tag u.tasks n.tag ≡ false → length u.tasks < u.rig.depth
