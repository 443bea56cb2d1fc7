-- What a submitter's steps are answered, and what its seat knows then (own).
use Rattle.std.specs.Prelude.{◌≡◌, true, false, [], ◌∷◌, ◌++◌, length, Some, MatchBool}
use Rattle.rig_types.specs.declared.step.Line.{Line}
use Rattle.rig_types.specs.declared.step.Step.{Step}
use Rattle.rig_types.specs.declared.step.Step.TheVariants.{Build}
use Rattle.rig_types.specs.declared.commands.Command.{Command}
use Rattle.rig_types.specs.declared.commands.WhenFull.{WhenFull}
use Rattle.bench_lock.specs.Log.{entry}
use Rattle.bench_lock.specs.declared.view.View.{View}
use Rattle.bench_lock.specs.Views.{IsOwn}
use Rattle.world_law.specs.declared.reply.Decided.{Decided}
use Rattle.world_law.specs.declared.reply.Decided.TheVariants as line
use Rattle.world_law.specs.declared.reply.Reply.{Reply}
use Rattle.world_law.specs.declared.reply.Reply.TheVariants as reply
use Rattle.world_law.specs.World.{BenchSetting, World, lines_of, command_at}
use Rattle.world_law.specs.Lines.{drained}
use Rattle.world_law.specs.Builds.{is_tried_again}
use Rattle.seat_law.specs.Worlds.{LeadsTo}
use Rattle.seat_law.specs.Standing.{Standing, rests, has_built, after_next, IsAt}

-- the list that the seat has seen leads to this world, and since the opening has no entries of its caller but its own
pub record SeesWorld (v : View BenchSetting Step) (g : BenchSetting) : Type 0 where
  pub world : World
  pub opening : v.opening ≡ Some g
  pub leads : LeadsTo g v.seen world
  pub own : IsOwn v v.seen

-- the list that the seat has seen is full, and isn't drained
pub record SeesFull (v : View BenchSetting Step) (g : BenchSetting) : Type 0 where
  pub world : World
  pub opening : v.opening ≡ Some g
  pub leads : LeadsTo g v.seen world
  pub own : IsOwn v v.seen
  pub full : length v.seen ≡ g.step_limit
  pub left : drained g world ≡ false

-- the list that the seat has seen is drained
pub record SeesDrained (v : View BenchSetting Step) (g : BenchSetting) : Type 0 where
  pub world : World
  pub opening : v.opening ≡ Some g
  pub leads : LeadsTo g v.seen world
  pub own : IsOwn v v.seen
  pub is_drained : drained g world ≡ true

-- From v, in the world w, to v2 in another: the submitter stands at p, and the list has no more entries of it.
pub record Waits (v : View BenchSetting Step) (g : BenchSetting) (w : World) (v2 : View BenchSetting Step) (p : Standing) : Type 0 where
  pub world : World
  pub caller : v2.caller ≡ v.caller
  pub at : IsAt v2 g world p
  pub lines : lines_of world v.caller ≡ lines_of w v.caller
  pub own : v2.own ≡ v.own

-- this step is its one more entry
pub record Moves (v : View BenchSetting Step) (g : BenchSetting) (w : World) (x : Step) (v2 : View BenchSetting Step) (p : Standing) : Type 0 where
  pub world : World
  pub caller : v2.caller ≡ v.caller
  pub at : IsAt v2 g world p
  pub lines : lines_of world v.caller ≡ lines_of w v.caller
  pub own : v2.own ≡ v.own ++ entry v.caller x ∷ []

-- and decides a line
pub record Decides (v : View BenchSetting Step) (g : BenchSetting) (w : World) (l : Line) (d : Decided) (v2 : View BenchSetting Step) (p : Standing) : Type 0 where
  pub world : World
  pub caller : v2.caller ≡ v.caller
  pub at : IsAt v2 g world p
  pub lines : lines_of world v.caller ≡ lines_of w v.caller ++ d ∷ []
  pub own : v2.own ≡ v.own ++ entry v.caller (Build l) ∷ []

-- the answer to a submitter's next step after Build
abbrev pub NextAnswered : View BenchSetting Step → BenchSetting → World → Standing → Step → View BenchSetting Step → Reply → Type 0
NextAnswered v g w p x v2 reply.Made = Moves v g w x v2 (after_next p)
NextAnswered v g w p x v2 reply.StepLimit = SeesFull v2 g × (v2.own ≡ v.own)
NextAnswered v g w p x v2 _ = ⊥

-- the answer to its Build of a line, while it rests
abbrev pub BuildAnswered : View BenchSetting Step → BenchSetting → World → Line → WhenFull → View BenchSetting Step → Reply → Type 0
BuildAnswered v g w l f v2 (reply.Built t) = Decides v g w l (line.Accepted t) v2 (has_built t)
BuildAnswered v g w l f v2 (reply.Refused r) = MatchBool (is_tried_again f r) (Waits v g w v2 rests) (Decides v g w l (line.Refused r) v2 rests)
BuildAnswered v g w l f v2 (reply.NotNow s) = Waits v g w v2 rests
BuildAnswered v g w l f v2 reply.OutOfMemory = Waits v g w v2 rests
BuildAnswered v g w l f v2 reply.StepLimit = SeesFull v2 g × (v2.own ≡ v.own)
BuildAnswered v g w l f v2 _ = ⊥

-- a line of the seat's caller, with what its command does where there is no room
pub record IsLineOf (v : View BenchSetting Step) (g : BenchSetting) (l : Line) (f : WhenFull) : Type 0 where
  pub own : l.submitter ≡ v.caller
  pub command : Command
  pub is : command_at g l ≡ Some command
  pub when_full : command.when_full ≡ f
