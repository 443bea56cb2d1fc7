-- Laws of the world and of runs.
use Rattle.std.specs.Prelude.{◌≡◌, ◌≢◌, ◌⊎◌, ◌<◌, ◌≤◌, ℕ, ◌==◌, Bool, true, false, List, [], ◌∷◌, ◌++◌, length, slice_set}
use Rattle.std.specs.List.{range_with_len, list_any, All, AllPairs}
use Rattle.rig_types.specs.declared.step.Line.{Line}
use Rattle.rig_types.specs.declared.step.Step.{Step}
use Rattle.rig_types.specs.declared.step.Entry.{Entry}
use Rattle.rig_types.specs.declared.report.Report.{Report}
use Rattle.rig_types.specs.declared.commands.Command.{Command}
use Rattle.opening_memory.specs.Opening.{IsOpening}
use Rattle.desk_law.specs.declared.ticket.Ticket.{Ticket}
use Rattle.desk_law.specs.Desk.{ticket, lives, due}
use Rattle.world_law.specs.declared.reply.Decided.TheVariants.{Accepted}
use Rattle.world_law.specs.declared.reply.Reply.{Reply}
use Rattle.world_law.specs.declared.reply.Reply.TheVariants.{OutOfMemory}
use Rattle.world_law.specs.World.{BenchSetting, World, commands_of, lines_of, decided}
use Rattle.world_law.specs.Opening.{memory_opened, opened}
use Rattle.world_law.specs.Lines.{is_unqueued, drained}
use Rattle.world_law.specs.Enabling.{Enabled}
use Rattle.world_law.specs.Steps.{Does}
use Rattle.world_law.specs.Runs.{Moment, is_recorded, Steps, IsRun, last, accepted, entries, IsLawful}
use Rattle.world_law.specs.Answers.{Answers}
use Rattle.world_law.specs.Traces.{trace}

-- a run one moment longer is the run, and then this moment in the world after it, and the world after both is the moment's
abbrev pub GoesOn : Type 0
GoesOn = (g : BenchSetting) (w : World) (ms : List Moment) (m : Moment) → IsRun g w ms → Steps g (last w ms) m → IsRun g w (ms ++ m ∷ [])

abbrev pub WentOn : Type 0
WentOn = (g : BenchSetting) (w : World) (ms : List Moment) (m : Moment) → IsRun g w (ms ++ m ∷ []) → IsRun g w ms × Steps g (last w ms) m

abbrev pub EndsAfter : Type 0
EndsAfter = (w : World) (ms : List Moment) (m : Moment) → last w (ms ++ m ∷ []) ≡ m.after

-- host memory at the opening holds the words of its table, and 0 elsewhere
abbrev pub OpensMemory : Type 0
OpensMemory = (g : BenchSetting) → length g.units ≤ 16 → IsOpening (memory_opened g.version g.units) g.version g.units

-- in a drained world no step is enabled
abbrev pub RestsDrained : Type 0
RestsDrained = (g : BenchSetting) (w : World) (caller : ℕ) (s : Step) → drained g w ≡ true → Enabled g w caller s → ⊥

-- whether a step is enabled is decided
abbrev pub EnabledOrNot : Type 0
EnabledOrNot = (g : BenchSetting) (w : World) (caller : ℕ) (s : Step) → Enabled g w caller s ⊎ (Enabled g w caller s → ⊥)

-- a step has one answer, and leaves one world
abbrev pub DoesOnce : Type 0
DoesOnce = (g : BenchSetting) (old : World) (caller : ℕ) (s : Step) (a b : Reply) (new other : World) → Does g old caller s a new
    → Does g old caller s b other → (a ≡ b) × (new ≡ other)

-- a list of entries has one run from a world on
abbrev pub RunsOnce : Type 0
RunsOnce = (g : BenchSetting) (w : World) (ms ns : List Moment) → entries ms ≡ entries ns → IsRun g w ms → IsRun g w ns → ms ≡ ns

-- a trace has one lawful list
abbrev pub TracesOne : Type 0
TracesOne = (g : BenchSetting) (es fs : List Entry) → IsLawful g es → IsLawful g fs → trace es ≡ trace fs → es ≡ fs

-- every call has one answer, but for want of memory, and leaves one world
abbrev pub AnswersOnce : Type 0
AnswersOnce = (g : BenchSetting) (count : ℕ) (old : World) (caller : ℕ) (s : Step) (a b : Reply) (new other : World) → Answers g count old caller s a new
    → Answers g count old caller s b other → a ≢ OutOfMemory → b ≢ OutOfMemory → (a ≡ b) × (new ≡ other)

-- the moments after a call: one more where its answer is recorded
abbrev pub more_if : (recorded : Bool) → Moment → List Moment → List Moment
more_if true m ms = ms ++ m ∷ []
more_if false m ms = ms

abbrev pub then_called : BenchSetting → List Moment → Moment → List Moment
then_called g ms m = more_if (is_recorded g m.entry.step m.reply) m ms

-- so a call after a run leads to a run: an answer that isn't recorded leaves the world
pub record RunsOn (g : BenchSetting) (ms : List Moment) (m : Moment) : Type 0 where
  pub run : IsRun g (opened g) (then_called g ms m)
  pub world : last (opened g) (then_called g ms m) ≡ m.after

abbrev pub AnswersRunOn : Type 0
AnswersRunOn = (g : BenchSetting) (ms : List Moment) (m : Moment) → IsRun g (opened g) ms
    → Answers g (length ms) (last (opened g) ms) m.entry.caller m.entry.step m.reply m.after → RunsOn g ms m

-- the tickets of a run are numbered as they were accepted, every report is of one of them, two reports are of two, and every ticket that is
-- freed has one
abbrev pub is_report_of : ℕ → Report → Bool
is_report_of t r = r.ticket == t

pub record NumbersTickets (w : World) (ms : List Moment) : Type 0 where
  pub numbered : accepted ms ≡ range_with_len 0 (length (last w ms).desk.tickets)
  pub reported : All (λ (r : Report). r.ticket < length (last w ms).desk.tickets) (last w ms).reports
  pub once : AllPairs (λ (a : Report) (b : Report). a.ticket ≢ b.ticket) (last w ms).reports
  pub all : (t : ℕ) → t < length (last w ms).desk.tickets → lives (ticket (last w ms).desk t) ≡ false → list_any (is_report_of t) (last w ms).reports ≡ true

abbrev pub ReportsAccepted : Type 0
ReportsAccepted = (g : BenchSetting) (ms : List Moment) → IsRun g (opened g) ms → NumbersTickets (opened g) ms

-- so where the world is drained, every accepted ticket has a report
abbrev pub ReportsAll : Type 0
ReportsAll = (g : BenchSetting) (ms : List Moment) (t : ℕ) → IsRun g (opened g) ms → drained g (last (opened g) ms) ≡ true
    → t < length (last (opened g) ms).desk.tickets → list_any (is_report_of t) (last (opened g) ms).reports ≡ true

-- a ticket that was freed stays so
abbrev pub StaysFreed : Type 0
StaysFreed = (g : BenchSetting) (old : World) (m : Moment) (t : ℕ) → Steps g old m → t < length old.desk.tickets → lives (ticket old.desk t) ≡ false
    → lives (ticket m.after.desk t) ≡ false

-- a ticket keeps what Build gave it: its line, its unit and tag, its block, its direction and its buffer
pub record KeepsTicket (old new : Ticket) : Type 0 where
  pub line : new.line ≡ old.line
  pub unit : new.unit ≡ old.unit
  pub tag : new.tag ≡ old.tag
  pub block : new.block ≡ old.block
  pub direction : new.direction ≡ old.direction
  pub pieces : new.pieces ≡ old.pieces

abbrev pub TicketsKept : Type 0
TicketsKept = (g : BenchSetting) (old : World) (m : Moment) (t : ℕ) → Steps g old m → t < length old.desk.tickets → KeepsTicket (ticket old.desk t) (ticket m.after.desk t)

-- a line that was accepted as a ticket is the line of that ticket, and the line of a ticket was accepted as that ticket
pub record IsMatched (w : World) : Type 0 where
  pub of_line : (l : Line) (t : ℕ) → decided w l ≡ Accepted t → (t < length w.desk.tickets) × ((ticket w.desk t).line ≡ l)
  pub of_ticket : (t : ℕ) → t < length w.desk.tickets → decided w (ticket w.desk t).line ≡ Accepted t

abbrev pub LinesMatch : Type 0
LinesMatch = (g : BenchSetting) (ms : List Moment) → IsRun g (opened g) ms → IsMatched (last (opened g) ms)

-- a step of another caller leaves what a submitter has still to do: its next line, its due signals, and its tickets that are Built or Linked
abbrev pub IsHeldBy : (s : ℕ) → Ticket → Type 0
IsHeldBy s k = (k.line.submitter ≡ s) × (is_unqueued k.stage ≡ true)

pub record LeavesSubmitter (s : ℕ) (old new : World) : Type 0 where
  pub lines : lines_of new s ≡ lines_of old s
  pub due : due new.desk s ≡ due old.desk s
  pub held : (t : ℕ) → IsHeldBy s (ticket old.desk t) → ticket new.desk t ≡ ticket old.desk t
  pub no_more : (t : ℕ) → IsHeldBy s (ticket new.desk t) → ticket new.desk t ≡ ticket old.desk t

abbrev pub OthersLeave : Type 0
OthersLeave = (g : BenchSetting) (old : World) (m : Moment) (s : ℕ) → s < old.desk.submitters → s ≢ m.entry.caller → Steps g old m
    → LeavesSubmitter s old m.after

-- the setting in which a submitter has one more line, at its end
abbrev pub longer : BenchSetting → (s : ℕ) → Command → BenchSetting
longer g s c = record g { submitters = slice_set g.submitters s (commands_of g s ++ c ∷ []) }

-- its world at the opening is the same
abbrev pub OpensAlike : Type 0
OpensAlike = (g : BenchSetting) (s : ℕ) (c : Command) → opened (longer g s c) ≡ opened g

-- a run stays a run there
abbrev pub Extends : Type 0
Extends = (g : BenchSetting) (s : ℕ) (c : Command) (ms : List Moment) → s < length g.submitters → IsRun g (opened g) ms
    → IsRun (longer g s c) (opened (longer g s c)) ms
