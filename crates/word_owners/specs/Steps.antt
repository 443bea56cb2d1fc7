-- The law of a step of the chip: it leads to a spot that may follow, for every answer of the bus.
use Rattle.std.specs.Prelude.{ℕ, List}
use Rattle.rig_types.specs.declared.rig.Unit.{Unit as RigUnit}
use Rattle.world_law.specs.declared.reply.Reply.{Reply}
use Rattle.world_law.specs.World.{World}
use Rattle.world_law.specs.ChipSteps.{RunsChip}
use Rattle.word_owners.specs.Answering.{AreAnswering}
use Rattle.word_owners.specs.Points.{Point}
use Rattle.word_owners.specs.Parts.{Counts}
use Rattle.word_owners.specs.Holds.{Holds, Running}
use Rattle.word_owners.specs.Nexts.{IsNext, Leads}

-- a step of the chip at each point
abbrev pub ChipStepsHold : Type 0
ChipStepsHold =
    (version : ℕ) (units : List RigUnit) (p : Point) (c : Counts) (w new : World) (word : ℕ) (answer : Reply) → AreAnswering units w.bus
    → RunsChip w word answer new → Holds version units (Running p) c w → Leads (IsNext p) version units c new
