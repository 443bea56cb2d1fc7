-- Whose signals are counted: those of the submitters and of the three callers behind them.
use Rattle.std.specs.Prelude.{◌≡◌, ℕ, ◌+◌, ◌<◌, true, length}
use Rattle.rig_types.specs.declared.step.Step.{Step}
use Rattle.desk_law.specs.Desk.{DeskState, ticket, lives}
use Rattle.world_law.specs.declared.reply.Reply.{Reply}
use Rattle.world_law.specs.World.{BenchSetting, World}
use Rattle.world_law.specs.Enabling.{Enabled}
use Rattle.world_law.specs.Steps.{Does}

-- The desk has so many submitters, each caller has its count of due signals, and the line of a live ticket is one of a submitter.
pub record HasCallers (submitters : ℕ) (d : DeskState) : Type 0 where
  pub are : d.submitters ≡ submitters
  pub counted : length d.due ≡ submitters + 3
  pub submitter : (t : ℕ) → lives (ticket d t) ≡ true → (ticket d t).line.submitter < submitters

-- each step keeps that
abbrev pub CallersKept : Type 0
CallersKept =
    (g : BenchSetting) (w : World) (caller : ℕ) (s : Step) (answer : Reply) (new : World) → Enabled g w caller s → Does g w caller s answer new → HasCallers (length g.submitters) w.desk
    → HasCallers (length g.submitters) new.desk
