-- The list of a lock over a bench: pairs of a caller and a step. The world that it leads to, and what may be answered after it (own).
use Rattle.std.specs.Prelude.{◌≡◌, ℕ, List, map, length}
use Rattle.rig_types.specs.declared.step.Step.{Step}
use Rattle.rig_types.specs.declared.step.Entry.{Entry}
use Rattle.bench_lock.specs.Log.{entry}
use Rattle.world_law.specs.declared.reply.Reply.{Reply}
use Rattle.world_law.specs.World.{BenchSetting, World}
use Rattle.world_law.specs.Opening.{opened}
use Rattle.world_law.specs.Runs.{Moment, IsRun, last}
use Rattle.world_law.specs.Answers.{Answers}

abbrev pub pair_of : Entry → ℕ × Step
pair_of e = entry e.caller e.step

abbrev pub pairs_of : List Entry → List (ℕ × Step)
pairs_of es = map pair_of es

-- the steps of a run
abbrev pub steps_of : List Moment → List (ℕ × Step)
steps_of ms = map (λ (m : Moment). pair_of m.entry) ms

-- these steps are a run from one world to another
pub record Goes (g : BenchSetting) (old : World) (es : List (ℕ × Step)) (new : World) : Type 0 where
  pub moments : List Moment
  pub run : IsRun g old moments
  pub are : steps_of moments ≡ es
  pub world : last old moments ≡ new

-- the list is lawful, and this is the world that it leads to
abbrev pub LeadsTo : BenchSetting → List (ℕ × Step) → World → Type 0
LeadsTo g es w = Goes g (opened g) es w

-- The replies that a rig and a work allow after a lawful list: the bench answers them in the world of that list.
pub record Allows (g : BenchSetting) (es : List (ℕ × Step)) (caller : ℕ) (s : Step) (answer : Reply) : Type 0 where
  pub old : World
  pub new : World
  pub leads : LeadsTo g es old
  pub answers : Answers g (length es) old caller s answer new
