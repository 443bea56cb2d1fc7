-- What ownership reads of the desk: of each ticket its fixed part and its stage (own).
use Rattle.std.specs.Prelude.{◌≡◌, ◌≢◌, ◌⊎◌, ℕ, ◌<◌, ◌≤◌, ◌&&◌, Bool, true, false, not, List, length, slice_index, slice_index_or, if◌then◌else◌}
use Rattle.scsi_words.specs.declared.phases.kinds.Direction.{Direction}
use Rattle.scsi_words.specs.declared.phases.kinds.Direction.TheVariants.{In}
use Rattle.rig_types.specs.declared.rig.Unit.{Unit as RigUnit}
use Rattle.host_map.specs.Places.{IsCommandBlock}
use Rattle.sense_job.specs.Turning.{sense_area}
use Rattle.desk_law.specs.declared.stage.Stage.{Stage}
use Rattle.desk_law.specs.declared.stage.Stage.TheVariants.{Built, Check, Queued, Sensing, Ended, Unlinked, Freed}
use Rattle.desk_law.specs.declared.ticket.Ticket.{Ticket}
use Rattle.desk_law.specs.Desk.{DeskState, ticket, no_unit}
use Rattle.desk_law.specs.Blocks.{own, begins_at}

-- Its block, the number of its unit, its tag and direction, the addresses of its buffer in order, where its data pointers begin, and whether its
-- block was turned into a REQUEST SENSE.
pub record Fixed : Type 0 where
  pub block : ℕ
  pub unit : ℕ
  pub tag : ℕ
  pub direction : Direction
  pub own : List ℕ
  pub begins : ℕ
  pub turned : Bool

-- the units of the rig, and of each ticket by its number the fixed part and the stage
pub record Tickets : Type 0 where
  pub units : List RigUnit
  pub fixed : ℕ → Fixed
  pub stage : ℕ → Stage

-- a block is turned from the Sense step on: a ticket that was checked is turned in each later stage
abbrev pub is_check : Stage → Bool
is_check Check = true
is_check _ = false

abbrev pub fixed_of : Ticket → Fixed
fixed_of k = record {
  block = k.block;
  unit = k.unit;
  tag = k.tag;
  direction = k.direction;
  own = own k;
  begins = begins_at k;
  turned = k.checked && not (is_check k.stage);
}

abbrev pub tickets_of : DeskState → Tickets
tickets_of d = record { units = d.units; fixed = λ t. fixed_of (ticket d t); stage = λ t. (ticket d t).stage }

-- ---- of one ticket

abbrev pub block_of : Tickets → ℕ → ℕ
block_of ts t = (ts.fixed t).block

abbrev pub unit_of : Tickets → ℕ → RigUnit
unit_of ts t = slice_index_or ts.units (ts.fixed t).unit no_unit

abbrev pub target_of : Tickets → ℕ → ℕ
target_of ts t = (unit_of ts t).target

-- what its data pointers denote, and the way that its data go: its buffer, and in the sense area of its block once that is turned
abbrev pub goal : Fixed → List ℕ
goal f = if f.turned then sense_area f.block else f.own

abbrev pub way : Fixed → Direction
way f = if f.turned then In else f.direction

-- it lives from its Build to its Free, its block is with the chip or on the way there, and its tag entry holds its block
abbrev pub IsLive : Stage → Type 0
IsLive s = s ≢ Freed

abbrev pub IsActive : Stage → Type 0
IsActive s = (s ≡ Queued) ⊎ (s ≡ Sensing)

pub record IsBound (s : Stage) : Type 0 where
  pub live : s ≢ Freed
  pub linked : s ≢ Built
  pub still : s ≢ Unlinked

-- a turned block is that of a ticket whose sense is or was asked for
abbrev pub IsTurned : Stage → Type 0
IsTurned Sensing = Unit {0}
IsTurned (Ended o) = Unit {0}
IsTurned Unlinked = Unit {0}
IsTurned Freed = Unit {0}
IsTurned _ = ⊥

-- Live tickets have command blocks, units of the rig and tags of a byte. Two of them have two blocks, two tags of one unit, and share no byte of
-- their buffers, which lie in the buffer region.
pub record AreTickets (ts : Tickets) : Type 0 where
  pub block : (t : ℕ) → IsLive (ts.stage t) → IsCommandBlock (block_of ts t)
  pub unit : (t : ℕ) → IsLive (ts.stage t) → (ts.fixed t).unit < length ts.units
  pub tag : (t : ℕ) → IsLive (ts.stage t) → (ts.fixed t).tag < 256
  pub blocks : (t u : ℕ) → IsLive (ts.stage t) → IsLive (ts.stage u) → t ≢ u → block_of ts t ≢ block_of ts u
  pub tags : (t u : ℕ) → IsLive (ts.stage t) → IsLive (ts.stage u) → t ≢ u → (ts.fixed t).unit ≡ (ts.fixed u).unit → (ts.fixed t).tag ≢ (ts.fixed u).tag
  pub turned : (t : ℕ) → (ts.fixed t).turned ≡ true → IsTurned (ts.stage t)
  pub within : (t i : ℕ) → IsLive (ts.stage t) → i < length (ts.fixed t).own → (0x200000 ≤ slice_index (ts.fixed t).own i) × (slice_index (ts.fixed t).own i < 0x400000)
  pub apart : (t u i j : ℕ) → IsLive (ts.stage t) → IsLive (ts.stage u) → t ≢ u → i < length (ts.fixed t).own → j < length (ts.fixed u).own
      → slice_index (ts.fixed t).own i ≢ slice_index (ts.fixed u).own j

-- a ticket whose sense is to be asked for, or is asked for, is marked as checked
abbrev pub IsAskedFor : Stage → Type 0
IsAskedFor s = (s ≡ Check) ⊎ (s ≡ Sensing)

abbrev pub AreChecked : DeskState → Type 0
AreChecked d = (t : ℕ) → IsAskedFor (ticket d t).stage → (ticket d t).checked ≡ true
