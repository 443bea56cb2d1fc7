-- What each recorded step leaves: of the tickets, the reports, the lines and the due signals.
use Rattle.std.proofs.Common.{arith, ◌≡◌, ◌≢◌, ◌<◌, ◌≤◌, ℕ, zero, suc, ◌+◌, ◌==◌, Bool, true, false, ◌&&◌, ◌||◌, not, List, [], ◌∷◌, ◌++◌, length, slice_get, slice_set, slice_index_or, Option, Some, None, refl, sym, ap, subst, ◌∙◌, ◌⊎◌, inl, inr}
use Rattle.std.specs.List.{list_any}
use Rattle.std.proofs.lemmas.Bool.{and_parts}
use Rattle.std.proofs.lemmas.Bool.Decides.{nat_tests}
use Rattle.std.proofs.lemmas.List.{get_or-set_other}
use Rattle.rig_types.specs.declared.commands.Command.{Command}
use Rattle.rig_types.specs.declared.acts.Act.{Act}
use Rattle.rig_types.specs.declared.acts.ActKind.{ActKind}
use Rattle.rig_types.specs.declared.acts.ActKind.TheVariants.{Abort, Device, Bus}
use Rattle.rig_types.specs.declared.step.Line.{Line}
use Rattle.rig_types.specs.declared.step.Step.{Step}
use Rattle.rig_types.specs.declared.step.Step.TheVariants as step
use Rattle.rig_types.specs.declared.report.Report.{Report}
use Rattle.chip_regs.specs.Registers.{cause_of}
use Rattle.chip_regs.specs.declared.registers.Cause.{Cause}
use Rattle.chip_regs.specs.declared.registers.Cause.TheVariants as cause
use Rattle.chip_step.specs.declared.outcome.StepEnd.{StepEnd}
use Rattle.chip_step.specs.declared.outcome.StepEnd.TheVariants as end
use Rattle.unit_law.specs.Request.{plain}
use Rattle.desk_law.specs.declared.refused.Refused.{Refused}
use Rattle.desk_law.specs.declared.stage.Stage.{Stage}
use Rattle.desk_law.specs.declared.stage.Stage.TheVariants as stage
use Rattle.desk_law.specs.declared.ticket.Ticket.{Ticket}
use Rattle.desk_law.specs.Desk.{DeskState, aborter, reaper, no_ticket, ticket, is_freed, is_queued, is_sensing, due}
use Rattle.desk_law.specs.Rings.{passed, waits, done_ticket}
use Rattle.desk_law.specs.Building.{new_ticket}
use Rattle.desk_law.specs.Calls.{queue_caller}
use Rattle.desk_law.specs.Taking.{taken_by, taken, is_again, is_check}
use Rattle.desk_law.specs.Reporting.{report_at}
use Rattle.world_law.specs.declared.reply.Decided.{Decided}
use Rattle.world_law.specs.declared.reply.Decided.TheVariants as line
use Rattle.world_law.specs.declared.reply.Reply.{Reply}
use Rattle.world_law.specs.declared.reply.Reply.TheVariants as reply
use Rattle.world_law.specs.declared.reply.Stop.{Stop}
use Rattle.world_law.specs.declared.reply.Stop.TheVariants as stop
use Rattle.world_law.specs.World.{BenchSetting, World, commands_of, lines_of, command_at, decided, front}
use Rattle.world_law.specs.Lines.{is_unqueued}
use Rattle.world_law.specs.Stops.{is_clear, loses, job_done, to_sweep, is_done_by}
use Rattle.world_law.specs.Enabling.{MayBuild, MayQueue, IsEnded, Enabled}
use Rattle.world_law.specs.ChipSteps.{reply_for}
use Rattle.world_law.specs.Repairs.{fixed, not_fixed, Fixes}
use Rattle.world_law.specs.Builds.{refuses, is_tried_again, BuildsBy, BuildsOf}
use Rattle.world_law.specs.Acts.{is_late, marks, aborts, device_resets, cause_at, bus_resets, acts_by, ActsOf}
use Rattle.world_law.specs.Steps.{TakesOf, Does}
use Rattle.world_law.specs.Runs.{built}
use Rattle.world_law.specs.Laws.{is_report_of}

abbrev at : List Ticket → ℕ → Ticket
at ks t = slice_index_or ks t no_ticket

-- ---- what a step does to the tickets: nothing, or one of them goes on, or one is added

-- A ticket goes on that isn't freed. It keeps its line; and it is the caller's, or none that its submitter has still to queue.
pub record GoesOn (caller : ℕ) (old new : Ticket) : Type 0 where
  pub live : is_freed old.stage ≡ false
  pub line : new.line ≡ old.line
  pub whose : (caller ≡ old.line.submitter) ⊎ ((is_unqueued old.stage ≡ false) × (is_unqueued new.stage ≡ false))

-- the reports tell of a ticket
abbrev pub IsTold : List Report → ℕ → Type 0
IsTold rs t = list_any (is_report_of t) rs ≡ true

-- one that is freed is told of
pub record OneChanges (told : List Report) (caller : ℕ) (old new : List Ticket) : Type 0 where
  pub number : ℕ
  pub ticket : Ticket
  pub freed : (is_freed ticket.stage ≡ false) ⊎ IsTold told number
  pub goes_on : GoesOn caller (at old number) ticket
  pub are : new ≡ slice_set old number ticket

pub record OneMore (caller : ℕ) (old new : List Ticket) : Type 0 where
  pub ticket : Ticket
  pub live : is_freed ticket.stage ≡ false
  pub by : ticket.line.submitter ≡ caller
  pub are : new ≡ old ++ ticket ∷ []

abbrev pub Changes : (told : List Report) → (caller : ℕ) → (old new : List Ticket) → Type 0
Changes told caller old new = (new ≡ old) ⊎ (OneChanges told caller old new ⊎ OneMore caller old new)

-- ---- and to the rest

abbrev pub Counted : List Ticket → Option ℕ → List Ticket → Type 0
Counted old number new = ((number ≡ None) × (length new ≡ length old)) ⊎ ((number ≡ Some (length old)) × (length new ≡ length old + 1))

-- a report is of a ticket that is freed by this step
pub record OneReport (old new : World) : Type 0 where
  pub report : Report
  pub are : new.reports ≡ old.reports ++ report ∷ []
  pub live : is_freed (ticket old.desk report.ticket).stage ≡ false
  pub freed : is_freed (ticket new.desk report.ticket).stage ≡ true

abbrev pub Reports : World → World → Type 0
Reports old new = (new.reports ≡ old.reports) ⊎ OneReport old new

-- the caller's next line is decided
pub record OneLine (g : BenchSetting) (caller : ℕ) (old new : World) : Type 0 where
  pub decided : Decided
  pub there : length (lines_of old caller) < length (commands_of g caller)
  pub are : new.lines ≡ slice_set old.lines caller (lines_of old caller ++ decided ∷ [])

abbrev pub LinesGo : BenchSetting → ℕ → World → World → Type 0
LinesGo g caller old new = (new.lines ≡ old.lines) ⊎ OneLine g caller old new

pub record Effect (g : BenchSetting) (caller : ℕ) (old : World) (answer : Reply) (new : World) : Type 0 where
  pub tickets : Changes new.reports caller old.desk.tickets new.desk.tickets
  pub counted : Counted old.desk.tickets (built answer) new.desk.tickets
  pub reports : Reports old new
  pub lines : LinesGo g caller old new
  pub due : (s : ℕ) → s < old.desk.submitters → s ≢ caller → due new.desk s ≡ due old.desk s
  pub submitters : new.desk.submitters ≡ old.desk.submitters

-- ---- lists of tickets

pub not-freed-within : (ks : List Ticket) (t : ℕ) → is_freed (at ks t).stage ≡ false → t < length ks
not-freed-within [] t e = absurd cc
not-freed-within (k ∷ ks) zero e = omega arith
not-freed-within (k ∷ ks) (suc t) e = omega (arith, not-freed-within ks t e)

set-length : (ks : List Ticket) (t : ℕ) (k : Ticket) → length (slice_set ks t k) ≡ length ks
set-length [] t k = refl
set-length (x ∷ xs) zero k = omega arith
set-length (x ∷ xs) (suc t) k = omega (arith, set-length xs t k)

more-length : (ks : List Ticket) (k : Ticket) → length (ks ++ k ∷ []) ≡ length ks + 1
more-length [] k = refl
more-length (x ∷ xs) k = omega (arith, more-length xs k)

-- ---- a step that leads to a world has the effect of that world

led : (g : BenchSetting) (caller : ℕ) (old made : World) (answer a : Reply) (new : World) → a ≡ answer → new ≡ made → Effect g caller old answer made → Effect g caller old a new
led g caller old made answer a new e m x =
    subst (λ (y : Reply). Effect g caller old y new) (sym e) (subst (λ (y : World). Effect g caller old answer y) (sym m) x)

-- the desk, the lines and the reports stay
quiet : (g : BenchSetting) (caller : ℕ) (old made : World) (answer : Reply) → built answer ≡ None → made.desk ≡ old.desk → made.lines ≡ old.lines → made.reports ≡ old.reports
    → Effect g caller old answer made
quiet g caller old made answer n d l r = record {
  tickets = inl (ap (λ (x : DeskState). x.tickets) d);
  counted = inl (n, ap (λ (x : DeskState). length x.tickets) d);
  reports = inl r;
  lines = inl l;
  due = λ s below other. ap (λ (x : DeskState). due x s) d;
  submitters = ap (λ (x : DeskState). x.submitters) d;
}

-- one ticket goes on, and perhaps a signal becomes due
abbrev DueStays : ℕ → DeskState → DeskState → Type 0
DueStays caller old new = (s : ℕ) → s < old.submitters → s ≢ caller → due new s ≡ due old s

goes : (g : BenchSetting) (caller : ℕ) (old made : World) (answer : Reply) (t : ℕ) (k : Ticket) → built answer ≡ None → made.desk.tickets ≡ slice_set old.desk.tickets t k → GoesOn caller (ticket old.desk t) k
    → (is_freed k.stage ≡ false) ⊎ IsTold made.reports t → DueStays caller old.desk made.desk → made.desk.submitters ≡ old.desk.submitters → made.lines ≡ old.lines → Reports old made
    → Effect g caller old answer made
goes g caller old made answer t k n e go f d u l r = record {
  tickets = inr (inl (record { number = t; ticket = k; freed = f; goes_on = go; are = e }));
  counted = inl (n, ap (λ (ks : List Ticket). length ks) e ∙ set-length old.desk.tickets t k);
  reports = r;
  lines = inl l;
  due = d;
  submitters = u;
}

-- a signal becomes due, or one less
signal : (g : BenchSetting) (caller : ℕ) (old made : World) (answer : Reply) → built answer ≡ None → made.desk.tickets ≡ old.desk.tickets → DueStays caller old.desk made.desk
    → made.desk.submitters ≡ old.desk.submitters → made.lines ≡ old.lines → made.reports ≡ old.reports → Effect g caller old answer made
signal g caller old made answer n e d u l r = record {
  tickets = inl e;
  counted = inl (n, ap (λ (ks : List Ticket). length ks) e);
  reports = inl r;
  lines = inl l;
  due = d;
  submitters = u;
}

-- ---- due signals

unpaid : (caller s n : ℕ) (due : List ℕ) → s ≢ caller → slice_index_or (slice_set due caller n) s 0 ≡ slice_index_or due s 0
unpaid caller s n due e = get_or-set_other due caller s n 0 e

-- of a caller behind the submitters
behind : (caller by n : ℕ) (d : DeskState) → d.submitters ≤ by → (s : ℕ) → s < d.submitters → s ≢ caller → slice_index_or (slice_set d.due by n) s 0 ≡ slice_index_or d.due s 0
behind caller by n d h s below other = unpaid by s n d.due (λ e. absurd (omega (arith, h, below, e)))

-- ---- stages

stage-is : (s x : Stage) (f : Stage → Bool) (b : Bool) → s ≡ x → f x ≡ b → f s ≡ b
stage-is s x f b e h = ap (λ (y : Stage). f y) e ∙ h

unqueued-of-ended : (s : Stage) → IsEnded s → (is_freed s ≡ false) × (is_unqueued s ≡ false)
unqueued-of-ended (stage.Ended o) h = (refl, refl)
unqueued-of-ended stage.Built h = absurd h
unqueued-of-ended stage.Linked h = absurd h
unqueued-of-ended stage.Queued h = absurd h
unqueued-of-ended stage.Again h = absurd h
unqueued-of-ended stage.Check h = absurd h
unqueued-of-ended stage.Sensing h = absurd h
unqueued-of-ended stage.Unlinked h = absurd h
unqueued-of-ended stage.Freed h = absurd h

-- a ticket that is Queued or Sensing
on-its-way : (s : Stage) (b : Bool) → (is_queued s || is_sensing s) && b ≡ true → (is_freed s ≡ false) × (is_unqueued s ≡ false)
on-its-way stage.Queued b h = (refl, refl)
on-its-way stage.Sensing b h = (refl, refl)
on-its-way stage.Built b h = absurd cc
on-its-way stage.Linked b h = absurd cc
on-its-way stage.Again b h = absurd cc
on-its-way stage.Check b h = absurd cc
on-its-way (stage.Ended o) b h = absurd cc
on-its-way stage.Unlinked b h = absurd cc
on-its-way stage.Freed b h = absurd cc

queued-way : (s : Stage) (b : Bool) → is_queued s && b ≡ true → (is_freed s ≡ false) × (is_unqueued s ≡ false)
queued-way stage.Queued b h = (refl, refl)
queued-way stage.Sensing b h = absurd cc
queued-way stage.Built b h = absurd cc
queued-way stage.Linked b h = absurd cc
queued-way stage.Again b h = absurd cc
queued-way stage.Check b h = absurd cc
queued-way (stage.Ended o) b h = absurd cc
queued-way stage.Unlinked b h = absurd cc
queued-way stage.Freed b h = absurd cc

either-way : (s : Stage) (b : Bool) → (is_queued s && b) || is_sensing s ≡ true → (is_freed s ≡ false) × (is_unqueued s ≡ false)
either-way stage.Queued b h = (refl, refl)
either-way stage.Sensing b h = (refl, refl)
either-way stage.Built b h = absurd cc
either-way stage.Linked b h = absurd cc
either-way stage.Again b h = absurd cc
either-way stage.Check b h = absurd cc
either-way (stage.Ended o) b h = absurd cc
either-way stage.Unlinked b h = absurd cc
either-way stage.Freed b h = absurd cc

lost-way : (w : World) (k : Ticket) (o : Option Cause) → loses w k o ≡ true → (is_freed k.stage ≡ false) × (is_unqueued k.stage ≡ false)
lost-way w k (Some cause.Rst) h = either-way k.stage (not (waits w.memory w.desk k)) h
lost-way w k (Some (cause.Sir v)) h =
    queued-way k.stage (not (waits w.memory w.desk k)) (and_parts (passed w.memory w.desk k) _ (and_parts (v == job_done) _ h).1).0
lost-way w k None h = absurd cc
lost-way w k (Some cause.Iid) h = absurd cc
lost-way w k (Some cause.Bf) h = absurd cc
lost-way w k (Some cause.Ma) h = absurd cc
lost-way w k (Some cause.Udc) h = absurd cc
lost-way w k (Some cause.Sto) h = absurd cc

swept-way : (w : World) (k : Ticket) → to_sweep w k ≡ true → (is_freed k.stage ≡ false) × (is_unqueued k.stage ≡ false)
swept-way w k h = lost-way w k (cause_of w.regs) (and_parts _ _ (and_parts _ _ (and_parts (is_clear w.stop) _ h).1).1).1

-- whatever is made of a ticket that is taken
taken-as : (sensing again check : Bool) (m : List ℕ) (k : Ticket)
    → ((taken_by sensing again check m k).line ≡ k.line) × (is_unqueued (taken_by sensing again check m k).stage ≡ false) × (is_freed (taken_by sensing again check m k).stage ≡ false)
taken-as true again check m k = (refl, refl, refl)
taken-as false true check m k = (refl, refl, refl)
taken-as false false true m k = (refl, refl, refl)
taken-as false false false m k = (refl, refl, refl)

-- ---- Build

refused : (again : Bool) (g : BenchSetting) (caller : ℕ) (old : World) (l : Line) (r : Refused) → MayBuild g old caller l → Effect g caller old (reply.Refused r) (refuses again old l r)
refused true g caller old l r e = quiet g caller old old (reply.Refused r) refl refl refl refl
refused false g caller old l r e = record {
  tickets = inl refl;
  counted = inl (refl, refl);
  reports = inl refl;
  lines = inr (record {
    decided = line.Refused r;
    there = subst (λ (s : ℕ). length (lines_of old s) < length (commands_of g s)) (sym e.own) (omega (arith, e.there, e.next));
    are = ap (λ (s : ℕ). slice_set old.lines s (lines_of old s ++ line.Refused r ∷ [])) (sym e.own);
  });
  due = λ s below other. refl;
  submitters = refl;
}

builds : (g : BenchSetting) (caller : ℕ) (c : Command) (old : World) (l : Line) (a : Reply) (new : World) → MayBuild g old caller l → BuildsBy old l c a new → Effect g caller old a new
builds g caller c old l (reply.Built t) new e m = record {
  tickets = inr (inr (record {
    ticket = new_ticket old.desk l (plain c.request) m.builds.chunks;
    live = refl;
    by = sym e.own;
    are = ap (λ (d : DeskState). d.tickets) m.builds.desk;
  }));
  counted = inr (ap (λ (n : ℕ). Some n) m.builds.numbered, ap (λ (d : DeskState). length d.tickets) m.builds.desk ∙ more-length old.desk.tickets _);
  reports = inl (ap (λ (w : World). w.reports) m.world);
  lines = inr (record {
    decided = line.Accepted t;
    there = subst (λ (s : ℕ). length (lines_of old s) < length (commands_of g s)) (sym e.own) (omega (arith, e.there, e.next));
    are = ap (λ (w : World). w.lines) m.world ∙ ap (λ (s : ℕ). slice_set old.lines s (lines_of old s ++ line.Accepted t ∷ [])) (sym e.own);
  });
  due = λ s below other. ap (λ (d : DeskState). due d s) m.builds.desk;
  submitters = ap (λ (d : DeskState). d.submitters) m.builds.desk;
}
builds g caller c old l (reply.Refused r) new e m =
    led g caller old (refuses (is_tried_again c.when_full r) old l r) (reply.Refused r) (reply.Refused r) new refl m.1 (refused (is_tried_again c.when_full r) g caller old l r e)
builds g caller c old l _ new e m = absurd m

builds-of : (g : BenchSetting) (caller : ℕ) (o : Option Command) (old : World) (l : Line) (a : Reply) (new : World) → MayBuild g old caller l → BuildsOf o old l a new → Effect g caller old a new
builds-of g caller None old l a new e m = absurd m
builds-of g caller (Some c) old l a new e m = builds g caller c old l a new e m

-- ---- Queue

queues-by : (s : Stage) (w : World) (caller : ℕ) (k new : Ticket) → k.stage ≡ s → MayQueue w caller k s → new.line ≡ k.line → is_unqueued new.stage ≡ false → GoesOn caller k new
queues-by stage.Linked w caller k new e m l u = record { live = stage-is k.stage stage.Linked is_freed false e refl; line = l; whose = inl m }
queues-by stage.Again w caller k new e m l u = record { live = stage-is k.stage stage.Again is_freed false e refl; line = l; whose = inr (stage-is k.stage stage.Again is_unqueued false e refl, u) }
queues-by stage.Built w caller k new e m l u = absurd m
queues-by stage.Queued w caller k new e m l u = absurd m
queues-by stage.Check w caller k new e m l u = absurd m
queues-by stage.Sensing w caller k new e m l u = absurd m
queues-by (stage.Ended o) w caller k new e m l u = absurd m
queues-by stage.Unlinked w caller k new e m l u = absurd m
queues-by stage.Freed w caller k new e m l u = absurd m

queue-due : (s : Stage) (w : World) (caller n : ℕ) (k : Ticket) → MayQueue w caller k s → (x : ℕ) → x < w.desk.submitters → x ≢ caller
    → slice_index_or (slice_set w.desk.due (queue_caller s w.desk k) n) x 0 ≡ slice_index_or w.desk.due x 0
queue-due stage.Linked w caller n k m x below other = unpaid k.line.submitter x n w.desk.due (λ e. other (e ∙ sym m))
queue-due stage.Again w caller n k m x below other = behind caller (reaper w.desk) n w.desk (omega arith) x below other
queue-due stage.Built w caller n k m x below other = absurd m
queue-due stage.Queued w caller n k m x below other = absurd m
queue-due stage.Check w caller n k m x below other = absurd m
queue-due stage.Sensing w caller n k m x below other = absurd m
queue-due (stage.Ended o) w caller n k m x below other = absurd m
queue-due stage.Unlinked w caller n k m x below other = absurd m
queue-due stage.Freed w caller n k m x below other = absurd m

-- ---- the others

not-built : (e : StepEnd) → built (reply_for e) ≡ None
not-built end.Idle = refl
not-built end.Ran = refl
not-built (end.Stopped c) = refl

fixes : (g : BenchSetting) (caller : ℕ) (old : World) (a : Reply) (new : World) → a ≡ reply.Made → Fixes old new → Effect g caller old a new
fixes g caller old a new e h = elim h [
  | inl x ↦ led g caller old (fixed old x.move) reply.Made a new e x.world (quiet g caller old (fixed old x.move) reply.Made refl refl refl refl)
  | inr x ↦ led g caller old (not_fixed old) reply.Made a new e x.1 (quiet g caller old (not_fixed old) reply.Made refl refl refl refl)
]

takes-by : (g : BenchSetting) (caller : ℕ) (o : Option ℕ) (old : World) (a : Reply) (new : World) → is_done_by old o ≡ true → TakesOf o old a new → Effect g caller old a new
takes-by g caller None old a new d m = absurd m
takes-by g caller (Some t) old a new d m =
    let k : Ticket = ticket old.desk t in
    let w : (is_freed k.stage ≡ false) × (is_unqueued k.stage ≡ false) = on-its-way k.stage _ d in
    let x : ((taken old.desk old.memory k).line ≡ k.line) × (is_unqueued (taken old.desk old.memory k).stage ≡ false) × (is_freed (taken old.desk old.memory k).stage ≡ false) =
    taken-as (is_sensing k.stage) (is_again old.desk old.memory k) (is_check old.desk old.memory k) old.memory k in
    led g caller old _ (reply.Taken t) a new m.0 m.1
    (goes g caller old _ (reply.Taken t) t (taken old.desk old.memory k) refl refl (record { live = w.0; line = x.0; whose = inr (w.1, x.1) }) (inl x.2) (λ s below other. refl) refl refl (inl refl))

marked : (g : BenchSetting) (caller : ℕ) (late : Bool) (old : World) (t : ℕ) → Effect g caller old (marks late old t).answer (marks late old t).world
marked g caller true old t = quiet g caller old _ reply.TooLate refl refl refl refl
marked g caller false old t = quiet g caller old _ reply.Marked refl refl refl refl

aborted : (g : BenchSetting) (caller : ℕ) (d : Decided) (old : World) → Effect g caller old (aborts old d).answer (aborts old d).world
aborted g caller line.Open old = quiet g caller old _ reply.NeverAccepted refl refl refl refl
aborted g caller (line.Accepted t) old = marked g caller (is_late (ticket old.desk t).stage) old t
aborted g caller (line.Refused r) old = quiet g caller old _ reply.NeverAccepted refl refl refl refl

fronted : (g : BenchSetting) (caller : ℕ) (idle : Bool) (old : World) (target : ℕ) → Effect g caller old (device_resets idle old target).answer (device_resets idle old target).world
fronted g caller true old target =
    signal g caller old _ reply.Started refl refl (λ s below other. behind caller (aborter old.desk) _ old.desk (omega arith) s below other) refl refl refl
fronted g caller false old target = quiet g caller old old (reply.BusyFront (front old)) refl refl refl refl

bus-acts : (g : BenchSetting) (caller : ℕ) (s : Stop) (old : World) → Effect g caller old (bus_resets s old).answer (bus_resets s old).world
bus-acts g caller stop.Run old = quiet g caller old _ reply.Started refl refl refl refl
bus-acts g caller stop.Mismatch old = quiet g caller old old (reply.BusyStop (cause_at old)) refl refl refl refl
bus-acts g caller stop.Clear old = quiet g caller old old (reply.BusyStop (cause_at old)) refl refl refl refl
bus-acts g caller stop.MustReset old = quiet g caller old _ reply.Started refl refl refl refl

acts : (g : BenchSetting) (caller : ℕ) (k : ActKind) (old : World) → Effect g caller old (acts_by old k).answer (acts_by old k).world
acts g caller (Abort l) old = aborted g caller (decided old l) old
acts g caller (Device target) old = fronted g caller _ old target
acts g caller Bus old = bus-acts g caller old.stop old

acts-of : (g : BenchSetting) (caller : ℕ) (o : Option Act) (old : World) (a : Reply) (new : World) → ActsOf o old a new → Effect g caller old a new
acts-of g caller None old a new m = absurd m
acts-of g caller (Some x) old a new m = led g caller old _ _ a new m.0 m.1 (acts g caller x.kind old)

-- a ticket that goes on to a stage in which its submitter has nothing more to do with it
on-to : (caller : ℕ) (old new : Ticket) → (is_freed old.stage ≡ false) × (is_unqueued old.stage ≡ false) → new.line ≡ old.line → is_unqueued new.stage ≡ false → GoesOn caller old new
on-to caller old new w l u = record { live = w.0; line = l; whose = inr (w.1, u) }

of-stage : (k : Ticket) (x : Stage) → k.stage ≡ x → is_freed x ≡ false → is_unqueued x ≡ false → (is_freed k.stage ≡ false) × (is_unqueued k.stage ≡ false)
of-stage k x e f u = (stage-is k.stage x is_freed false e f, stage-is k.stage x is_unqueued false e u)

told-last : (rs : List Report) (r : Report) → list_any (is_report_of r.ticket) (rs ++ r ∷ []) ≡ true
told-last [] r = same-number r.ticket
  where
    same-number : (n : ℕ) → (n == n) || false ≡ true
    same-number n = grind (arith, nat_tests)
told-last (x ∷ xs) r = or-true (x.ticket == r.ticket) (list_any (is_report_of r.ticket) (xs ++ r ∷ [])) (told-last xs r)
  where
    or-true : (a b : Bool) → b ≡ true → a || b ≡ true
    or-true true b h = refl
    or-true false b h = h

set-freed : (ks : List Ticket) (t : ℕ) (k : Ticket) → t < length ks → is_freed k.stage ≡ true → is_freed (at (slice_set ks t k) t).stage ≡ true
set-freed [] t k l f = absurd (omega (arith, l))
set-freed (x ∷ xs) zero k l f = f
set-freed (x ∷ xs) (suc t) k l f = set-freed xs t k (omega (arith, l)) f

pub effect : (g : BenchSetting) (old : World) (caller : ℕ) (s : Step) (a : Reply) (new : World) → Enabled g old caller s → Does g old caller s a new → Effect g caller old a new
effect g old caller (step.Build l) a new e m = builds-of g caller (command_at g l) old l a new e m
effect g old caller (step.Link t) a new e m =
    led g caller old _ reply.Made a new m.0 m.1
    (goes g caller old _ reply.Made t _ refl refl (record { live = stage-is (ticket old.desk t).stage stage.Built is_freed false e.0 refl; line = refl; whose = inl e.1 }) (inl refl) (λ x below other. refl) refl refl (inl refl))
effect g old caller (step.Queue t) a new e m =
    let k : Ticket = ticket old.desk t in
    led g caller old _ reply.Made a new m.0 m.1
    (goes g caller old _ reply.Made t (record k { stage = stage.Queued; tries = k.tries + 1 }) refl refl (queues-by k.stage old caller k _ refl e refl refl) (inl refl) (queue-due k.stage old caller _ k e) refl refl (inl refl))
effect g old caller step.Signal a new e m =
    led g caller old _ reply.Made a new m.0 m.1
    (signal g caller old _ reply.Made refl refl (λ s below other. unpaid caller s _ old.desk.due other) refl refl refl)
effect g old caller (step.Chip word) a new e m =
    led g caller old _ (reply_for m.end) a new m.answer_is m.world (quiet g caller old _ (reply_for m.end) (not-built m.end) refl refl refl)
effect g old caller step.Fix a new e m = fixes g caller old a new m.0 m.1
effect g old caller (step.Sweep t) a new e m =
    let k : Ticket = ticket old.desk t in
    led g caller old _ reply.Made a new m.0 m.1
    (goes g caller old _ reply.Made t _ refl refl (on-to caller k _ (swept-way old k e.1) refl refl) (inl refl) (λ s below other. refl) refl refl (inl refl))
effect g old caller step.Restart a new e m = led g caller old _ reply.Made a new m.0 m.1 (quiet g caller old _ reply.Made refl refl refl refl)
effect g old caller step.TakeDone a new e m = takes-by g caller (done_ticket old.memory old.desk) old a new e.1 m
effect g old caller (step.Unlink t) a new e m =
    let k : Ticket = ticket old.desk t in
    led g caller old _ reply.Made a new m.0 m.1
    (goes g caller old _ reply.Made t _ refl refl (on-to caller k _ (unqueued-of-ended k.stage e.1) refl refl) (inl refl) (λ s below other. refl) refl refl (inl refl))
effect g old caller (step.Free t) a new e m =
    let k : Ticket = ticket old.desk t in
    let w : (is_freed k.stage ≡ false) × (is_unqueued k.stage ≡ false) = of-stage k stage.Unlinked e.1 refl refl in
    let ks : new.desk.tickets ≡ slice_set old.desk.tickets t (record k { stage = stage.Freed }) = ap (λ (d : DeskState). d.tickets) m.frees.desk in
    goes g caller old new a t (record k { stage = stage.Freed }) (ap (λ (x : Reply). built x) m.answer_is) ks (on-to caller k _ w refl refl) (inr (ap (λ (rs : List Report). list_any (is_report_of t) rs) (ap (λ (x : World). x.reports) m.world) ∙ told-last old.reports (report_at old.desk old.memory t)))
    (λ s below other. ap (λ (d : DeskState). due d s) m.frees.desk) (ap (λ (d : DeskState). d.submitters) m.frees.desk) (ap (λ (x : World). x.lines) m.world)
    (inr (record {
      report = report_at old.desk old.memory t;
      are = ap (λ (x : World). x.reports) m.world;
      live = w.0;
      freed = ap (λ (xs : List Ticket). is_freed (at xs t).stage) ks ∙ set-freed old.desk.tickets t (record k { stage = stage.Freed }) (not-freed-within old.desk.tickets t w.0) refl;
    }))
effect g old caller (step.Act k) a new e m = acts-of g caller (slice_get g.acts k) old a new m
effect g old caller step.ResetBus a new e m = led g caller old _ reply.Started a new m.0 m.1 (quiet g caller old _ reply.Started refl refl refl refl)
effect g old caller (step.Sense t) a new e m =
    let k : Ticket = ticket old.desk t in
    led g caller old _ reply.Made a new m.0 m.1
    (goes g caller old _ reply.Made t _ refl refl (on-to caller k _ (of-stage k stage.Check e.2 refl refl) refl refl) (inl refl)
    (λ s below other. behind caller (reaper old.desk) _ old.desk (omega arith) s below other) refl refl (inl refl))
