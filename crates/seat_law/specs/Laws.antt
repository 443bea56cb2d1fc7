-- Laws of lists and of submitters.
use Rattle.std.specs.Prelude.{◌≡◌, ◌<◌, ◌⊎◌, ℕ, true, false, List, [], ◌++◌, length}
use Rattle.rig_types.specs.declared.step.Step.{Step}
use Rattle.rig_types.specs.declared.step.Step.TheVariants.{Build}
use Rattle.rig_types.specs.declared.step.Line.{Line}
use Rattle.rig_types.specs.declared.commands.WhenFull.{WhenFull}
use Rattle.bench_lock.specs.Log.{entries_of}
use Rattle.bench_lock.specs.declared.view.View.{View}
use Rattle.bench_lock.specs.Stepped.{Stepped}
use Rattle.world_law.specs.declared.reply.Reply.{Reply}
use Rattle.world_law.specs.declared.reply.Reply.TheVariants as reply
use Rattle.world_law.specs.declared.reply.Seen.{Seen}
use Rattle.world_law.specs.World.{BenchSetting, World, lines_of}
use Rattle.world_law.specs.Runs.{is_recorded}
use Rattle.world_law.specs.Lines.{drained}
use Rattle.world_law.specs.Answers.{Answers}
use Rattle.seat_law.specs.Worlds.{Goes, LeadsTo, Allows}
use Rattle.seat_law.specs.Standing.{Standing, rests, StandsIn, IsNext, after_next, IsAt}
use Rattle.seat_law.specs.Outcomes.{SeesWorld, SeesFull, SeesDrained, NextAnswered, BuildAnswered, IsLineOf}

-- a list leads to one world, and a longer one goes on from there
abbrev pub LeadsOnce : Type 0
LeadsOnce = (g : BenchSetting) (es : List (ℕ × Step)) (a b : World) → LeadsTo g es a → LeadsTo g es b → a ≡ b

abbrev pub GoesOn : Type 0
GoesOn = (g : BenchSetting) (es more : List (ℕ × Step)) (old new : World) → LeadsTo g es old → LeadsTo g (es ++ more) new → Goes g old more new

-- steps of others leave a submitter where it stands, with the lines that are decided of it
abbrev pub OthersLeaveStanding : Type 0
OthersLeaveStanding = (g : BenchSetting) (es others : List (ℕ × Step)) (old new : World) (s : ℕ) (p : Standing) → s < length g.submitters
    → entries_of s others ≡ [] → LeadsTo g es old → LeadsTo g (es ++ others) new → StandsIn old s p → StandsIn new s p × (lines_of new s ≡ lines_of old s)

-- So a submitter's Link, Queue and Signal are never answered NotNow: they are made, or the list is full.
pub record IsMade (s : ℕ) (p : Standing) (old : World) (answer : Reply) (new : World) : Type 0 where
  pub made : answer ≡ reply.Made
  pub stands : StandsIn new s (after_next p)
  pub lines : lines_of new s ≡ lines_of old s

pub record IsFull (g : BenchSetting) (count : ℕ) (old : World) (answer : Reply) (new : World) : Type 0 where
  pub full : count ≡ g.step_limit
  pub left : drained g old ≡ false
  pub answer_is : answer ≡ reply.StepLimit
  pub same : new ≡ old

abbrev pub AnsweredAtOnce : Type 0
AnsweredAtOnce = (g : BenchSetting) (es : List (ℕ × Step)) (old : World) (s : ℕ) (p : Standing) (x : Step) (answer : Reply) (new : World) → s < length g.submitters
    → LeadsTo g es old → StandsIn old s p → IsNext p x → Answers g (length es) old s x answer new → IsMade s p old answer new ⊎ IsFull g (length es) old answer new

-- ---- at a seat

abbrev pub SeatSteps : BenchSetting → View BenchSetting Step → View BenchSetting Step → Step → Reply → (front : ℕ) → Type 0
SeatSteps o v v2 x answer front = Stepped Allows is_recorded o v v2 x answer front

-- A submitter that rests is told what becomes of its line, and after Build its steps are made at once or the list is full.
abbrev pub SubmitterTold : Type 0
SubmitterTold = (o g : BenchSetting) (w : World) (l : Line) (f : WhenFull) (v v2 : View BenchSetting Step) (answer : Reply) (front : ℕ) → IsAt v g w rests
    → IsLineOf v g l f → SeatSteps o v v2 (Build l) answer front → BuildAnswered v g w l f v2 answer

abbrev pub SubmitterServed : Type 0
SubmitterServed = (o g : BenchSetting) (w : World) (p : Standing) (v v2 : View BenchSetting Step) (x : Step) (answer : Reply) (front : ℕ) → IsAt v g w p
    → IsNext p x → SeatSteps o v v2 x answer front → NextAnswered v g w p x v2 answer

-- what any caller is told by NotNow and by StepLimit is so of the list that its seat has then seen
abbrev pub ToldDrained : Type 0
ToldDrained = (o g : BenchSetting) (v v2 : View BenchSetting Step) (x : Step) (answer : Reply) (front : ℕ) → SeesWorld v g → SeatSteps o v v2 x answer front
    → (y : Seen) → answer ≡ reply.NotNow y → y.drained ≡ true → SeesDrained v2 g

abbrev pub ToldFull : Type 0
ToldFull = (o g : BenchSetting) (v v2 : View BenchSetting Step) (x : Step) (answer : Reply) (front : ℕ) → SeesWorld v g → SeatSteps o v v2 x answer front
    → answer ≡ reply.StepLimit → SeesFull v2 g
