-- Who may queue a ticket: its submitter where it is Linked, and else no one but the reaper.
use Rattle.std.proofs.Common.{◌≡◌, ◌≢◌, ℕ, length, Result, Ok, Err, IfErr, refl, sym, ap, subst, ◌∙◌}
use Rattle.rig_types.specs.declared.step.Entry.{Entry}
use Rattle.rig_types.specs.declared.step.Step.{Step}
use Rattle.rig_types.specs.declared.step.Step.TheVariants as step
use Rattle.trace_text.specs.declared.types.TraceLine.{TraceLine}
use Rattle.trace_text.specs.Grammar.{line_caller, line_of}
use Rattle.refusal_lines.specs.declared.fault.Fault.{Fault}
use Rattle.refusal_lines.specs.declared.fault.Fault.TheVariants as fault
use Rattle.refusal_lines.specs.declared.refusal.Refusal.{Refusal}
use Rattle.refusal_lines.specs.declared.refusal.Refusal.TheVariants as refusals
use Rattle.desk_law.specs.declared.stage.Stage.{Stage}
use Rattle.desk_law.specs.declared.stage.Stage.TheVariants as stage
use Rattle.desk_law.specs.declared.ticket.Ticket.{Ticket}
use Rattle.desk_law.specs.Desk.{reaper, ticket}
use Rattle.world_law.specs.World.{BenchSetting, World}
use Rattle.world_law.specs.Enabling.{Enabled, MayQueue}
use Rattle.world_law.specs.Runs.{Moment, Steps}
use Rattle.world_law.specs.Answers.{WithinLimit}
use Rattle.bench_core.specs.Histories.{History}
use Rattle.replay_run.specs.Replays.{Knows}
use Rattle.replay_run.specs.Making.{queue_caller_by, caller_by, caller_of, StepFaults, RefusesStep, LineFaults, RefusesLine}

pub by_submitter : (w : World) (k : Ticket) (s : Stage) (caller : ℕ) → caller ≡ k.line.submitter → MayQueue w caller k s → caller ≡ queue_caller_by w k s
by_submitter w k stage.Built caller e m = absurd m
by_submitter w k stage.Linked caller e m = e
by_submitter w k stage.Queued caller e m = absurd m
by_submitter w k stage.Again caller e m = m
by_submitter w k stage.Check caller e m = absurd m
by_submitter w k stage.Sensing caller e m = absurd m
by_submitter w k (stage.Ended o) caller e m = absurd m
by_submitter w k stage.Unlinked caller e m = absurd m
by_submitter w k stage.Freed caller e m = absurd m

pub by_reaper : (w : World) (k : Ticket) (s : Stage) (caller : ℕ) → caller ≡ k.line.submitter → (MayQueue w caller k s → ⊥) → reaper w.desk ≡ queue_caller_by w k s
by_reaper w k stage.Built caller e none = refl
by_reaper w k stage.Linked caller e none = absurd (none e)
by_reaper w k stage.Queued caller e none = refl
by_reaper w k stage.Again caller e none = refl
by_reaper w k stage.Check caller e none = refl
by_reaper w k stage.Sensing caller e none = refl
by_reaper w k (stage.Ended o) caller e none = refl
by_reaper w k stage.Unlinked caller e none = refl
by_reaper w k stage.Freed caller e none = refl

-- ---- the caller of a recorded step

queued-by : (w : World) (k : Ticket) (s : Stage) (caller : ℕ) → MayQueue w caller k s → caller ≡ queue_caller_by w k s
queued-by w k stage.Built caller m = absurd m
queued-by w k stage.Linked caller m = m
queued-by w k stage.Queued caller m = absurd m
queued-by w k stage.Again caller m = m
queued-by w k stage.Check caller m = absurd m
queued-by w k stage.Sensing caller m = absurd m
queued-by w k (stage.Ended o) caller m = absurd m
queued-by w k stage.Unlinked caller m = absurd m
queued-by w k stage.Freed caller m = absurd m

made-by : (g : BenchSetting) (w : World) (caller : ℕ) (s : Step) → Enabled g w caller s → caller ≡ caller_by w (line_caller s caller) s
made-by g w caller (step.Build l) h = h.own
made-by g w caller (step.Link t) h = h.1
made-by g w caller (step.Queue t) h = queued-by w (ticket w.desk t) (ticket w.desk t).stage caller h
made-by g w caller step.Signal h = refl
made-by g w caller (step.Chip word) h = h.0
made-by g w caller step.Fix h = h.0
made-by g w caller (step.Sweep t) h = h.0
made-by g w caller step.Restart h = h.0
made-by g w caller step.TakeDone h = h.0
made-by g w caller (step.Unlink t) h = h.0
made-by g w caller (step.Free t) h = h.0
made-by g w caller (step.Act k) h = h.by
made-by g w caller step.ResetBus h = h.0
made-by g w caller (step.Sense t) h = h.0

abbrev entry_of : World → TraceLine → Entry
entry_of w line = record { caller = caller_of w line; step = line.step }

-- a recorded step that has the line is that of its caller
only_entry : (g : BenchSetting) (w : World) (line : TraceLine) (m : Moment) → Steps g w m → line_of m.entry ≡ line → m.entry ≡ entry_of w line
only_entry g w line m steps is =
    let with_caller : ℕ → Entry = λ n. record { caller = n; step = m.entry.step } in
    let own : m.entry ≡ entry_of w (line_of m.entry) = ap with_caller (made-by g w m.entry.caller m.entry.step steps.enabled) in
    own ∙ ap (λ (l : TraceLine). entry_of w l) is

-- the line that doesn't give its caller has no recorded step
pub none_gives : (g : BenchSetting) (w : World) (line : TraceLine) → (line_caller line.step (caller_of w line) ≢ line.caller) → (m : Moment) → Steps g w m → line_of m.entry ≢ line
none_gives g w line not m steps is =
    let e : m.entry ≡ entry_of w line = only_entry g w line m steps is in
    let given : line_caller m.entry.step m.entry.caller ≡ line.caller = ap (λ (l : TraceLine). l.caller) is in
    not (ap (λ (x : Entry). line_caller x.step x.caller) (sym e) ∙ given)

-- what refuses the step of its caller refuses the line
faults-line : (line : TraceLine) (h : History) (f : Fault) → WithinLimit h.setting (length h.entries) h.world → Knows h.setting line.step
    → StepFaults (entry_of h.world line) h f → LineFaults line h f
faults-line line h (fault.TraceStep n) free known s =
    record { number_is = s.0; free = free; known = known; none = λ m steps is. s.1 m steps (only_entry h.setting h.world line m steps is) }
faults-line line h (fault.UnknownStep n) free known s = absurd s
faults-line line h (fault.TraceLine n) free known s = absurd s
faults-line line h fault.NotDrained free known s = absurd s
faults-line line h (fault.Rig key kind) free known s = absurd s
faults-line line h (fault.Work key kind) free known s = absurd s
faults-line line h (fault.Source n k) free known s = absurd s

refuses-line : (line : TraceLine) (h : History) (r : Refusal) → WithinLimit h.setting (length h.entries) h.world → Knows h.setting line.step
    → RefusesStep (entry_of h.world line) h r → RefusesLine line h r
refuses-line line h (refusals.Bad f) free known s = faults-line line h f free known s
refuses-line line h refusals.OutOfMemory free known s = tt
refuses-line line h refusals.Usage free known s = absurd s
refuses-line line h refusals.Read free known s = absurd s
refuses-line line h refusals.Write free known s = absurd s
refuses-line line h refusals.StepLimit free known s = absurd s
refuses-line line h refusals.TooLong free known s = absurd s

pub line_refused : (line : TraceLine) (h : History) (caller : ℕ) (r : Result (Unit {0}) Refusal) → caller ≡ caller_of h.world line
    → WithinLimit h.setting (length h.entries) h.world → Knows h.setting line.step
    → IfErr r (RefusesStep (record { caller = caller; step = line.step }) h) → IfErr r (RefusesLine line h)
line_refused line h caller (Ok x) e free known s = tt
line_refused line h caller (Err r) e free known s =
    refuses-line line h r free known (subst (λ (n : ℕ). RefusesStep (record { caller = n; step = line.step }) h r) e s)
