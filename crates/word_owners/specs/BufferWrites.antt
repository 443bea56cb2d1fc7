-- Which steps of the chip change the buffer region.
use Rattle.std.specs.Prelude.{◌≡◌, ◌≢◌, ℕ, ◌≤◌, List, slice_index}
use Rattle.rig_types.specs.declared.rig.Unit.{Unit as RigUnit}
use Rattle.phase_fix.specs.declared.moves.DataMove.{DataMove}
use Rattle.world_law.specs.declared.reply.Reply.{Reply}
use Rattle.world_law.specs.World.{World}
use Rattle.world_law.specs.ChipSteps.{RunsChip}
use Rattle.word_owners.specs.Points.{Point, Moves}
use Rattle.word_owners.specs.Parts.{Counts}
use Rattle.word_owners.specs.Holds.{Holds, Running}

-- a byte of the buffer region changes only where the chip stands at a data move
abbrev pub OnlyDataMovesWrite : Type 0
OnlyDataMovesWrite =
    (version : ℕ) (units : List RigUnit) (p : Point) (c : Counts) (w new : World) (word : ℕ) (answer : Reply) (a : ℕ) → RunsChip w word answer new → Holds version units (Running p) c w → 0x200000 ≤ a
    → slice_index new.memory a ≢ slice_index w.memory a → (t : ℕ) × (x : DataMove) × (p ≡ Moves t x)
