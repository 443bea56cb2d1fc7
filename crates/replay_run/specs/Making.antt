-- What a line makes of a list and its world, and what is left after the last line (own).
use Rattle.std.specs.Prelude.{◌≡◌, ◌≢◌, ◌+◌, ℕ, false, [], ◌∷◌, ◌++◌, length, unwrap_or, Option}
use Rattle.rig_types.specs.declared.step.Entry.{Entry}
use Rattle.rig_types.specs.declared.step.Step.{Step}
use Rattle.rig_types.specs.declared.step.Step.TheVariants as step
use Rattle.trace_text.specs.declared.types.TraceLine.{TraceLine}
use Rattle.trace_text.specs.Grammar.{line_of}
use Rattle.refusal_lines.specs.declared.fault.Fault.{Fault}
use Rattle.refusal_lines.specs.declared.fault.Fault.TheVariants as fault
use Rattle.refusal_lines.specs.declared.refusal.Refusal.{Refusal}
use Rattle.refusal_lines.specs.declared.refusal.Refusal.TheVariants as refusals
use Rattle.desk_law.specs.declared.stage.Stage.{Stage}
use Rattle.desk_law.specs.declared.stage.Stage.TheVariants as stage
use Rattle.desk_law.specs.declared.ticket.Ticket.{Ticket}
use Rattle.desk_law.specs.Desk.{ticket, aborter, reaper, chip}
use Rattle.world_law.specs.World.{World}
use Rattle.world_law.specs.Lines.{drained}
use Rattle.world_law.specs.Runs.{Moment, Steps}
use Rattle.world_law.specs.Answers.{WithinLimit}
use Rattle.bench_core.specs.Histories.{History}
use Rattle.replay_run.specs.Replays.{Knows}

-- ---- the caller of a line

-- a Linked ticket is queued by its submitter, each other by the reaper
abbrev pub queue_caller_by : World → Ticket → Stage → ℕ
queue_caller_by w k stage.Linked = k.line.submitter
queue_caller_by w k _ = reaper w.desk

abbrev pub queue_caller : World → (t : ℕ) → ℕ
queue_caller w t = queue_caller_by w (ticket w.desk t) (ticket w.desk t).stage

-- the one caller that may make a step, where the line of a Signal gives this one
abbrev pub caller_by : World → (given : Option ℕ) → Step → ℕ
caller_by w given (step.Build l) = l.submitter
caller_by w given (step.Link t) = (ticket w.desk t).line.submitter
caller_by w given (step.Queue t) = queue_caller w t
caller_by w given step.Signal = unwrap_or given 0
caller_by w given (step.Chip word) = chip w.desk
caller_by w given (step.Act k) = aborter w.desk
caller_by w given _ = reaper w.desk

abbrev pub caller_of : World → TraceLine → ℕ
caller_of w line = caller_by w line.caller line.step

-- ---- a step

-- the step is made, and is one more entry
pub record MakesStep (e : Entry) (old new : History) : Type 0 where
  pub setting : new.setting ≡ old.setting
  pub moment : Moment
  pub is : moment.entry ≡ e
  pub steps : Steps old.setting old.world moment
  pub entries : new.entries ≡ old.entries ++ e ∷ []

-- the fault is that of the line behind the list: no moment that is recorded has the entry
abbrev pub StepFaults : Entry → History → Fault → Type 0
StepFaults e h (fault.TraceStep number) = (number ≡ length h.entries + 1) × ((m : Moment) → Steps h.setting h.world m → m.entry ≢ e)
StepFaults e h _ = ⊥

abbrev pub RefusesStep : Entry → History → Refusal → Type 0
RefusesStep e h (refusals.Bad f) = StepFaults e h f
RefusesStep e h refusals.OutOfMemory = Unit {0}
RefusesStep e h _ = ⊥

-- ---- a line

-- a step that has the line is made, and is one more entry
pub record MakesLine (line : TraceLine) (old new : History) : Type 0 where
  pub setting : new.setting ≡ old.setting
  pub entry : Entry
  pub is : line_of entry ≡ line
  pub entries : new.entries ≡ old.entries ++ entry ∷ []

-- the line is of this number, the limit leaves place for it, and the work doesn't have what it names
pub record IsUnknownLine (line : TraceLine) (h : History) (number : ℕ) : Type 0 where
  pub number_is : number ≡ length h.entries + 1
  pub free : WithinLimit h.setting (length h.entries) h.world
  pub unknown : Knows h.setting line.step → ⊥

-- the same, where it is known but no step that has it can be made and recorded
pub record IsRefusedLine (line : TraceLine) (h : History) (number : ℕ) : Type 0 where
  pub number_is : number ≡ length h.entries + 1
  pub free : WithinLimit h.setting (length h.entries) h.world
  pub known : Knows h.setting line.step
  pub none : (m : Moment) → Steps h.setting h.world m → line_of m.entry ≢ line

abbrev pub LineFaults : TraceLine → History → Fault → Type 0
LineFaults line h (fault.UnknownStep number) = IsUnknownLine line h number
LineFaults line h (fault.TraceStep number) = IsRefusedLine line h number
LineFaults line h _ = ⊥

-- the list has as many entries as the rig allows, and the bench isn't drained
abbrev pub IsAtLimit : History → Type 0
IsAtLimit h = (length h.entries ≡ h.setting.step_limit) × (drained h.setting h.world ≡ false)

abbrev pub RefusesLine : TraceLine → History → Refusal → Type 0
RefusesLine line h (refusals.Bad f) = LineFaults line h f
RefusesLine line h refusals.StepLimit = IsAtLimit h
RefusesLine line h refusals.OutOfMemory = Unit {0}
RefusesLine line h _ = ⊥

-- ---- the end

abbrev pub EndFaults : History → Fault → Type 0
EndFaults h fault.NotDrained = (length h.entries ≢ h.setting.step_limit) × (drained h.setting h.world ≡ false)
EndFaults h _ = ⊥

abbrev pub RefusesEnd : History → Refusal → Type 0
RefusesEnd h (refusals.Bad f) = EndFaults h f
RefusesEnd h refusals.StepLimit = IsAtLimit h
RefusesEnd h _ = ⊥
