-- Runs: lists of recorded steps (own).
use Rattle.std.specs.Prelude.{◌≡◌, ℕ, not, Bool, true, false, List, [], ◌∷◌, map, filter_map, Option, Some, None}
use Rattle.rig_types.specs.declared.step.Step.{Step}
use Rattle.rig_types.specs.declared.step.Step.TheVariants as step
use Rattle.rig_types.specs.declared.step.Entry.{Entry}
use Rattle.rig_types.specs.declared.commands.Command.{Command}
use Rattle.world_law.specs.declared.reply.Reply.{Reply}
use Rattle.world_law.specs.declared.reply.Reply.TheVariants as reply
use Rattle.world_law.specs.World.{BenchSetting, World, command_at}
use Rattle.world_law.specs.Opening.{opened}
use Rattle.world_law.specs.Enabling.{Enabled}
use Rattle.world_law.specs.Builds.{is_tried_again}
use Rattle.world_law.specs.Steps.{Does}

-- a recorded step, its reply, and the world after it
pub record Moment : Type 0 where
  pub entry : Entry
  pub reply : Reply
  pub after : World

-- ---- which replies are recorded

-- an answer that leaves the world isn't
abbrev pub changes_world : Reply → Bool
changes_world reply.Idle = false
changes_world (reply.NotNow s) = false
changes_world reply.StepLimit = false
changes_world reply.OutOfMemory = false
changes_world (reply.BusyFront a) = false
changes_world (reply.BusyStop c) = false
changes_world _ = true

-- nor is a refusal of a command that waits
abbrev pub decides_line : Option Command → Reply → Bool
decides_line (Some c) (reply.Refused r) = not (is_tried_again c.when_full r)
decides_line c answer = changes_world answer

abbrev pub is_recorded : BenchSetting → Step → Reply → Bool
is_recorded g (step.Build l) answer = decides_line (command_at g l) answer
is_recorded g s answer = changes_world answer

-- ---- runs

-- one recorded step
pub record Steps (g : BenchSetting) (w : World) (m : Moment) : Type 0 where
  pub enabled : Enabled g w m.entry.caller m.entry.step
  pub does : Does g w m.entry.caller m.entry.step m.reply m.after
  pub recorded : is_recorded g m.entry.step m.reply ≡ true

-- steps one behind the other, from a world on
abbrev pub IsRun : BenchSetting → World → List Moment → Type 0
IsRun g w [] = Unit {0}
IsRun g w (m ∷ ms) = Steps g w m × IsRun g m.after ms

-- the world after a run, its entries, and the tickets that were accepted in it
abbrev pub last : World → List Moment → World
last w [] = w
last w (m ∷ ms) = last m.after ms

abbrev pub entries : List Moment → List Entry
entries ms = map (λ (m : Moment). m.entry) ms

abbrev pub built : Reply → Option ℕ
built (reply.Built t) = Some t
built _ = None

abbrev pub accepted : List Moment → List ℕ
accepted ms = filter_map (λ (m : Moment). built m.reply) ms

-- a list of entries is lawful where a run from the opening has it
pub record IsLawful (g : BenchSetting) (es : List Entry) : Type 0 where
  pub moments : List Moment
  pub run : IsRun g (opened g) moments
  pub are : entries moments ≡ es
