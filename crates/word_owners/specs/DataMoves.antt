-- Laws of the data moves: what a step at one of them leaves.
use Rattle.std.specs.Prelude.{◌⊎◌, ℕ, ◌+◌, ◌==◌, List, if◌then◌else◌}
use Rattle.rig_types.specs.declared.rig.Unit.{Unit as RigUnit}
use Rattle.phase_fix.specs.declared.moves.DataMove.{DataMove}
use Rattle.phase_fix.specs.declared.moves.DataPhase.{DataPhase}
use Rattle.phase_fix.specs.declared.moves.DataPhase.TheVariants.{In, Out}
use Rattle.phase_fix.specs.declared.moves.Entry.{Entry}
use Rattle.phase_fix.specs.declared.moves.Entry.TheVariants.{Segment, Context}
use Rattle.world_law.specs.World.{World}
use Rattle.world_law.specs.ChipSteps.{RunsChip}
use Rattle.world_law.specs.declared.reply.Reply.{Reply}
use Rattle.word_owners.specs.Points.{Point, Moves, At340, At3C8, BehindContext}
use Rattle.word_owners.specs.Parts.{Counts}
use Rattle.word_owners.specs.Holds.{Holds, Running, Mismatched, Broken}

-- where the chip goes on behind a data move of a ticket: at the next segment, behind the last one, or behind the context
abbrev pub behind_last : ℕ → DataPhase → Point
behind_last t In = At340 t
behind_last t Out = At3C8 t

abbrev pub behind_move : ℕ → DataPhase → Entry → Point
behind_move t phase (Segment j) = if j == 15 then behind_last t phase else Moves t (record { phase = phase; entry = Segment (j + 1) })
behind_move t phase (Context k) = BehindContext t phase k

-- all its bytes moved; or it was broken off, with as many left as DBC says; or the bus was free, and is to be reset
abbrev pub AfterMove : ℕ → List RigUnit → ℕ → DataMove → Counts → World → Type 0
AfterMove version units t x c new =
    Holds version units (Running (behind_move t x.phase x.entry)) c new
    ⊎ (Holds version units (Mismatched t x new.regs.dbc) c new ⊎ Holds version units Broken c new)

-- each of the 36 data moves, whatever the bus answers
abbrev pub DataMovesHold : Type 0
DataMovesHold = (version : ℕ) (units : List RigUnit) (t : ℕ) (x : DataMove) (c : Counts) (w new : World) (word : ℕ) (answer : Reply) → RunsChip w word answer new → Holds version units (Running (Moves t x)) c w → AfterMove version units t x c new
