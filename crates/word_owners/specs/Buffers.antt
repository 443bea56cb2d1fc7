-- What a ticket moves lies in its own buffer, or in the sense area of its block once that is turned.
use Rattle.std.specs.Prelude.{◌≡◌, ◌≢◌, ℕ, ◌+◌, ◌<◌, ◌≤◌, List, length, slice_index, Some}
use Rattle.rig_types.specs.declared.rig.Unit.{Unit as RigUnit}
use Rattle.cmd_block.specs.declared.Field.TheVariants.{Lastp, Savep}
use Rattle.phase_fix.specs.declared.moves.DataMove.{DataMove}
use Rattle.phase_fix.specs.Remain.{field, count_of, address_of, remain}
use Rattle.bench_words.specs.Memory.{word_at}
use Rattle.world_law.specs.declared.reply.Reply.{Reply}
use Rattle.world_law.specs.World.{World}
use Rattle.world_law.specs.ChipSteps.{RunsChip}
use Rattle.word_owners.specs.Tickets.{Fixed, tickets_of, block_of, target_of, goal, way, IsLive}
use Rattle.word_owners.specs.Pointers.{IsSuffix, IsPointer}
use Rattle.word_owners.specs.Points.{Moves}
use Rattle.word_owners.specs.Parts.{Counts}
use Rattle.word_owners.specs.Holds.{Spot, Holds, Running}

-- ---- the data pointers

-- LASTP and SAVEP of a block each denote a suffix of what its ticket moves, in its direction, through entries none of which is empty
pub record PointersStay (view : ℕ → ℕ) (f : Fixed) : Type 0 where
  pub last : IsSuffix (remain view f.block (field view f.block Lastp)) (goal f)
  pub saved : IsSuffix (remain view f.block (field view f.block Savep)) (goal f)
  pub last_moves : IsPointer view f.block (way f) (goal f) (field view f.block Lastp)
  pub saved_moves : IsPointer view f.block (way f) (goal f) (field view f.block Savep)

-- those of every live ticket do, wherever the invariant holds
abbrev pub PointersStayInBuffers : Type 0
PointersStayInBuffers =
    (version : ℕ) (units : List RigUnit) (s : Spot) (c : Counts) (w : World) (t : ℕ) → Holds version units s c w → IsLive ((tickets_of w.desk).stage t)
    → PointersStay (word_at w.memory) ((tickets_of w.desk).fixed t)

-- ---- the data

-- the address is one of those that the ticket moves
abbrev pub IsOwn : Fixed → ℕ → Type 0
IsOwn f a = (i : ℕ) × (i < length (goal f)) × (slice_index (goal f) i ≡ a)

-- At a data move DSA is the block of a live ticket, every address of the move's entry is one of the ticket's, and a byte changes only there, while
-- the target of the ticket's unit is connected.
pub record DataStays (t : ℕ) (x : DataMove) (w new : World) : Type 0 where
  pub live : IsLive ((tickets_of w.desk).stage t)
  pub dsa : w.regs.dsa ≡ block_of (tickets_of w.desk) t
  pub entry : (a : ℕ) → address_of (word_at w.memory) w.regs.dsa x.entry ≤ a → a < address_of (word_at w.memory) w.regs.dsa x.entry + count_of (word_at w.memory) w.regs.dsa x.entry → IsOwn ((tickets_of w.desk).fixed t) a
  pub changes : (a : ℕ) → slice_index new.memory a ≢ slice_index w.memory a → IsOwn ((tickets_of w.desk).fixed t) a × (w.bus.connected ≡ Some (target_of (tickets_of w.desk) t))

abbrev pub DataStayInBuffers : Type 0
DataStayInBuffers =
    (version : ℕ) (units : List RigUnit) (t : ℕ) (x : DataMove) (c : Counts) (w new : World) (word : ℕ) (answer : Reply) → RunsChip w word answer new → Holds version units (Running (Moves t x)) c w → DataStays t x w new

-- two live tickets have no address in common
abbrev pub BuffersApart : Type 0
BuffersApart =
    (version : ℕ) (units : List RigUnit) (s : Spot) (c : Counts) (w : World) (t u a : ℕ) → Holds version units s c w → IsLive ((tickets_of w.desk).stage t) → IsLive ((tickets_of w.desk).stage u) → t ≢ u
    → IsOwn ((tickets_of w.desk).fixed t) a → IsOwn ((tickets_of w.desk).fixed u) a → ⊥
