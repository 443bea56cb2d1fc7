-- Callers of a bench that run beside each other: what they begin with, and how they end (own).
use Rattle.std.specs.Prelude.{◌≡◌, ◌≤◌, ℕ, nat_lt, true, List, [], length, map, Some, MatchBool}
use Rattle.rig_types.specs.declared.step.Step.{Step}
use Rattle.rig_types.specs.declared.commands.Command.{Command}
use Rattle.rig_types.specs.declared.commands.WhenFull.{WhenFull}
use Rattle.bench_lock.specs.Log.{Begins}
use Rattle.bench_lock.specs.declared.view.View.{View}
use Rattle.world_law.specs.World.{BenchSetting, World, commands_of, lines_of}
use Rattle.world_law.specs.Lines.{drained}
use Rattle.seat_law.specs.Worlds.{LeadsTo}
use Rattle.seat_law.specs.Standing.{rests, IsAt}
use Rattle.bench_pool.specs.declared.worker.WorkerFault.{WorkerFault}
use Rattle.bench_pool.specs.declared.worker.WorkerFault.TheVariants as fault

-- ---- the beginning

-- what a submitter does at each of its commands where there is no room; and each submitter
abbrev pub line_choices : List Command → List WhenFull
line_choices cs = map (λ (c : Command). c.when_full) cs

abbrev pub choices_of : List (List Command) → List (List WhenFull)
choices_of css = map line_choices css

-- a seat of a bench at its opening, whose work has these choices: no step was made yet
pub record IsFresh (choices : List (List WhenFull)) (v : View BenchSetting Step) : Type 0 where
  pub setting : BenchSetting
  pub opening : v.opening ≡ Some setting
  pub are : choices_of setting.submitters ≡ choices
  pub seen : v.seen ≡ []
  pub own : v.own ≡ []
  pub base : v.base ≡ 0

-- the seat's submitter, at whose commands it has these choices, rests, and so many of its lines are decided
pub record RestsAfter (choices : List WhenFull) (s count : ℕ) (v : View BenchSetting Step) : Type 0 where
  pub setting : BenchSetting
  pub world : World
  pub at : IsAt v setting world rests
  pub own : s ≡ v.caller
  pub are : line_choices (commands_of setting s) ≡ choices
  pub decided : length (lines_of world s) ≡ count

-- ---- the end

-- the list begins with one in whose world all lines of a submitter are decided
pub record DecidesLines (g : BenchSetting) (s : ℕ) (es : List (ℕ × Step)) : Type 0 where
  pub before : List (ℕ × Step)
  pub begins : Begins before es
  pub world : World
  pub leads : LeadsTo g before world
  pub all : length (lines_of world s) ≡ length (commands_of g s)

-- the list begins with one that is drained
pub record Drains (g : BenchSetting) (es : List (ℕ × Step)) : Type 0 where
  pub before : List (ℕ × Step)
  pub begins : Begins before es
  pub world : World
  pub leads : LeadsTo g before world
  pub is_drained : drained g world ≡ true

-- a caller has done its work: a submitter's lines are decided, and any other caller ends where all is drained
abbrev pub Finishes : BenchSetting → (caller : ℕ) → List (ℕ × Step) → Type 0
Finishes g caller es = MatchBool (nat_lt caller (length g.submitters)) (DecidesLines g caller es) (Drains g es)

-- why a caller gives up: the list has as many entries as the rig allows, or memory is wanting
abbrev pub GivesUp : BenchSetting → List (ℕ × Step) → WorkerFault → Type 0
GivesUp g es fault.StepLimit = g.step_limit ≤ length es
GivesUp g es fault.OutOfMemory = Unit {0}
