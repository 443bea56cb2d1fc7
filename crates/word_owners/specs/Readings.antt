-- What the driver reads from the rings is what it takes it for (own).
use Rattle.std.specs.Prelude.{◌≡◌, ◌≢◌, ℕ, true, List}
use Rattle.bench_words.specs.Memory.{word_at}
use Rattle.rig_types.specs.declared.rig.Unit.{Unit as RigUnit}
use Rattle.host_map.specs.declared.TheConstants.{RINGP, IDLE}
use Rattle.desk_law.specs.Rings.{is_start_slot}
use Rattle.world_law.specs.Stops.{is_done}
use Rattle.world_law.specs.World.{World}
use Rattle.word_owners.specs.Parts.{Counts}
use Rattle.word_owners.specs.Holds.{Spot, Holds}

-- RINGP is a start slot, and a done slot that isn't idle has a ticket to take
pub record ReadsRings (w : World) : Type 0 where
  pub ringp : is_start_slot (word_at w.memory RINGP) ≡ true
  pub done : word_at w.memory w.desk.take ≢ IDLE → is_done w ≡ true

abbrev pub RingsAreRead : Type 0
RingsAreRead = (version : ℕ) (units : List RigUnit) (s : Spot) (c : Counts) (w : World) → Holds version units s c w → ReadsRings w
