-- Laws of replays.
use Rattle.std.specs.Prelude.{◌≡◌, ◌≢◌, ◌≤◌, true, List, length, map, Result, Err}
use Rattle.trace_text.specs.declared.types.TraceLine.{TraceLine}
use Rattle.trace_text.specs.Grammar.{line_of}
use Rattle.refusal_lines.specs.declared.refusal.Refusal.{Refusal}
use Rattle.refusal_lines.specs.declared.refusal.Refusal.TheVariants as refusals
use Rattle.world_law.specs.World.{BenchSetting, World}
use Rattle.world_law.specs.Opening.{opened}
use Rattle.world_law.specs.Lines.{drained}
use Rattle.world_law.specs.Runs.{Moment, IsRun, last, entries}
use Rattle.replay_run.specs.Replays.{ReplaysTo, ReplayAnswers}

-- a trace has one answer, but for want of memory: one world, or one fault at one line, or the limit
abbrev pub OneReplay : Type 0
OneReplay = (g : BenchSetting) (lines : List TraceLine) (a b : Result World Refusal) → ReplayAnswers g lines a → ReplayAnswers g lines b
    → a ≢ Err refusals.OutOfMemory → b ≢ Err refusals.OutOfMemory → a ≡ b

-- the lines of a run within the limit that drains the bench are replayed, to the world of the run
abbrev pub RunsReplay : Type 0
RunsReplay = (g : BenchSetting) (ms : List Moment) → IsRun g (opened g) ms → length ms ≤ g.step_limit → drained g (last (opened g) ms) ≡ true
    → ReplaysTo g (map line_of (entries ms)) (last (opened g) ms)
