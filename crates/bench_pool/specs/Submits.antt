-- What submit asks of its seat, and what it leaves (own). `own` are the seat's entries before the call.
use Rattle.std.specs.Prelude.{◌≡◌, ◌<◌, ◌+◌, ℕ, List, [], ◌∷◌, ◌++◌, length, take, Option, Some, None, Result, Ok, Err}
use Rattle.rig_types.specs.declared.step.Line.{Line}
use Rattle.rig_types.specs.declared.step.Step.{Step}
use Rattle.rig_types.specs.declared.step.Step.TheVariants as step
use Rattle.rig_types.specs.declared.commands.WhenFull.{WhenFull}
use Rattle.bench_lock.specs.Log.{entry}
use Rattle.bench_lock.specs.declared.view.View.{View}
use Rattle.world_law.specs.declared.reply.Decided.{Decided}
use Rattle.world_law.specs.declared.reply.Decided.TheVariants as line
use Rattle.world_law.specs.World.{BenchSetting, World, lines_of, decided}
use Rattle.seat_law.specs.Standing.{Standing, rests, has_built, IsAt}
use Rattle.seat_law.specs.Outcomes.{SeesFull, IsLineOf}
use Rattle.bench_pool.specs.declared.line_steps.SubmitFault.{SubmitFault}
use Rattle.bench_pool.specs.declared.line_steps.SubmitFault.TheVariants as fault

-- the seat's submitter rests: no signal is due of it and it has no ticket to link or queue. The line is its next one
pub record MayBegin (v : View BenchSetting Step) (l : Line) (f : WhenFull) : Type 0 where
  pub setting : BenchSetting
  pub world : World
  pub at : IsAt v setting world rests
  pub line : IsLineOf v setting l f
  pub next : length (lines_of world l.submitter) ≡ l.number

-- the line was decided so, and is the last of its submitter that was
pub record HasDecided (v : View BenchSetting Step) (l : Line) (d : Decided) (p : Standing) : Type 0 where
  pub setting : BenchSetting
  pub world : World
  pub at : IsAt v setting world p
  pub caller : l.submitter ≡ v.caller
  pub next : length (lines_of world l.submitter) ≡ l.number + 1
  pub decided : decided world l ≡ d

-- the four steps of a line that has this ticket
abbrev pub line_steps : (caller : ℕ) → Line → (t : ℕ) → List (ℕ × Step)
line_steps s l t = entry s (step.Build l) ∷ entry s (step.Link t) ∷ entry s (step.Queue t) ∷ entry s step.Signal ∷ []

-- of the four steps the first so many are made
pub record HasMade (own : List (ℕ × Step)) (v : View BenchSetting Step) (l : Line) (t count : ℕ) : Type 0 where
  pub are : v.own ≡ own ++ take count (line_steps l.submitter l t)

abbrev pub HasBuilt : List (ℕ × Step) → View BenchSetting Step → Line → (t : ℕ) → Type 0
HasBuilt own v l t = HasDecided v l (line.Accepted t) (has_built t) × HasMade own v l t 1

abbrev pub HasSubmitted : List (ℕ × Step) → View BenchSetting Step → Line → (t : ℕ) → Type 0
HasSubmitted own v l t = HasDecided v l (line.Accepted t) rests × HasMade own v l t 4

-- the list is full, and of the line's steps at most three are made
pub record StopsFull (own : List (ℕ × Step)) (v : View BenchSetting Step) (l : Line) : Type 0 where
  pub setting : BenchSetting
  pub full : SeesFull v setting
  pub ticket : ℕ
  pub count : ℕ
  pub few : count < 4
  pub made : HasMade own v l ticket count

abbrev pub Faults : List (ℕ × Step) → View BenchSetting Step → Line → WhenFull → SubmitFault → Type 0
Faults own v l f (fault.Refused r) = HasDecided v l (line.Refused r) rests × HasMade own v l 0 1
Faults own v l f fault.StepLimit = StopsFull own v l
Faults own v l f fault.OutOfMemory = MayBegin v l f × (v.own ≡ own)

-- one try to build
abbrev pub IsTried : List (ℕ × Step) → View BenchSetting Step → Line → WhenFull → Option (Result ℕ SubmitFault) → Type 0
IsTried own v l f None = MayBegin v l f × (v.own ≡ own)
IsTried own v l f (Some (Ok t)) = HasBuilt own v l t
IsTried own v l f (Some (Err e)) = Faults own v l f e

abbrev pub FindsFull : List (ℕ × Step) → View BenchSetting Step → BenchSetting → SubmitFault → Type 0
FindsFull own v g e = (e ≡ fault.StepLimit) × SeesFull v g × (v.own ≡ own)
