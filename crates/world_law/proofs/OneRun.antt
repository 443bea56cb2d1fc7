-- A list of entries has one run, and a trace one lawful list.
use Rattle.std.proofs.Common.{◌≡◌, ℕ, List, [], ◌∷◌, refl, sym, ap, subst, ◌∙◌}
use Rattle.chip_step.specs.Chip.{Chip}
use Rattle.chip_step.specs.declared.outcome.StepEnd.{StepEnd}
use Rattle.bus_law.specs.Bus.{BusState}
use Rattle.bus_law.proofs.OneAnswer.{steps_once}
use Rattle.rig_types.specs.declared.step.Step.{Step}
use Rattle.rig_types.specs.declared.step.Step.TheVariants as step
use Rattle.rig_types.specs.declared.step.Entry.{Entry}
use Rattle.desk_law.specs.declared.stage.Stage.{Stage}
use Rattle.desk_law.specs.declared.stage.Stage.TheVariants as stage
use Rattle.desk_law.specs.declared.ticket.Ticket.{Ticket}
use Rattle.desk_law.specs.Desk.{ticket}
use Rattle.world_law.specs.declared.reply.Reply.{Reply}
use Rattle.world_law.specs.World.{BenchSetting, World, live}
use Rattle.world_law.specs.Opening.{opened}
use Rattle.world_law.specs.Enabling.{MayQueue, Enabled}
use Rattle.world_law.specs.ChipSteps.{chip_of, after_chip, reply_for, RunsChip}
use Rattle.world_law.specs.Steps.{Does}
use Rattle.world_law.specs.Runs.{Moment, Steps, IsRun, entries, IsLawful}
use Rattle.world_law.specs.Traces.{TraceEntry, caller_told, trace_entry, trace}
use Rattle.world_law.proofs.DriverSteps.{once}

-- ---- one step

chip-once : (old : World) (word : ℕ) (a b : Reply) (new other : World) → RunsChip old word a new → RunsChip old word b other → (a ≡ b) × (new ≡ other)
chip-once old word a b new other h k =
    let e : (h.end ≡ k.end) × (h.chip ≡ k.chip) =
    steps_once old.desk.units (live old.desk) word (chip_of old) h.end k.end h.chip k.chip h.ran k.ran in
    let made : StepEnd → World = λ x. after_chip old x h.chip in
    (h.answer_is ∙ ap (λ (x : StepEnd). reply_for x) e.0 ∙ sym k.answer_is, h.world ∙ ap made e.0 ∙ ap (λ (c : Chip BusState). after_chip old k.end c) e.1 ∙ sym k.world)

pub does_once : (g : BenchSetting) (old : World) (caller : ℕ) (s : Step) (a b : Reply) (new other : World) → Does g old caller s a new → Does g old caller s b other → (a ≡ b) × (new ≡ other)
does_once g old caller (step.Chip word) a b new other h k = chip-once old word a b new other h k
does_once g old caller (step.Build l) a b new other h k = once g old caller (step.Build l) a b new other tt h k
does_once g old caller (step.Link t) a b new other h k = once g old caller (step.Link t) a b new other tt h k
does_once g old caller (step.Queue t) a b new other h k = once g old caller (step.Queue t) a b new other tt h k
does_once g old caller step.Signal a b new other h k = once g old caller step.Signal a b new other tt h k
does_once g old caller step.Fix a b new other h k = once g old caller step.Fix a b new other tt h k
does_once g old caller (step.Sweep t) a b new other h k = once g old caller (step.Sweep t) a b new other tt h k
does_once g old caller step.Restart a b new other h k = once g old caller step.Restart a b new other tt h k
does_once g old caller step.TakeDone a b new other h k = once g old caller step.TakeDone a b new other tt h k
does_once g old caller (step.Unlink t) a b new other h k = once g old caller (step.Unlink t) a b new other tt h k
does_once g old caller (step.Free t) a b new other h k = once g old caller (step.Free t) a b new other tt h k
does_once g old caller (step.Act n) a b new other h k = once g old caller (step.Act n) a b new other tt h k
does_once g old caller step.ResetBus a b new other h k = once g old caller step.ResetBus a b new other tt h k
does_once g old caller (step.Sense t) a b new other h k = once g old caller (step.Sense t) a b new other tt h k

-- ---- one moment

moment-once : (g : BenchSetting) (w : World) (m n : Moment) → m.entry ≡ n.entry → Steps g w m → Steps g w n → m ≡ n
moment-once g w m n e h k =
    let does : Does g w m.entry.caller m.entry.step n.reply n.after = subst (λ (x : Entry). Does g w x.caller x.step n.reply n.after) (sym e) k.does in
    let r : (m.reply ≡ n.reply) × (m.after ≡ n.after) = does_once g w m.entry.caller m.entry.step m.reply n.reply m.after n.after h.does does in
    let with_entry : Entry → Moment = λ x. record { entry = x; reply = m.reply; after = m.after } in
    let with_reply : Reply → Moment = λ x. record { entry = n.entry; reply = x; after = m.after } in
    let with_after : World → Moment = λ x. record { entry = n.entry; reply = n.reply; after = x } in
    ap with_entry e ∙ ap with_reply r.0 ∙ ap with_after r.1

-- ---- the caller that a trace doesn't tell is fixed by the world

queue-caller : (w : World) (k : Ticket) (s : Stage) (a b : ℕ) → MayQueue w a k s → MayQueue w b k s → a ≡ b
queue-caller w k stage.Linked a b h i = h ∙ sym i
queue-caller w k stage.Again a b h i = h ∙ sym i
queue-caller w k stage.Built a b h i = absurd h
queue-caller w k stage.Queued a b h i = absurd h
queue-caller w k stage.Check a b h i = absurd h
queue-caller w k stage.Sensing a b h i = absurd h
queue-caller w k (stage.Ended o) a b h i = absurd h
queue-caller w k stage.Unlinked a b h i = absurd h
queue-caller w k stage.Freed a b h i = absurd h

one-caller : (g : BenchSetting) (w : World) (s : Step) (a b : ℕ) → caller_told s a ≡ caller_told s b → Enabled g w a s → Enabled g w b s → a ≡ b
one-caller g w (step.Build l) a b e h k = h.own ∙ sym k.own
one-caller g w (step.Link t) a b e h k = h.1 ∙ sym k.1
one-caller g w (step.Queue t) a b e h k = queue-caller w (ticket w.desk t) (ticket w.desk t).stage a b h k
one-caller g w step.Signal a b e h k = cc
one-caller g w (step.Chip word) a b e h k = h.0 ∙ sym k.0
one-caller g w step.Fix a b e h k = h.0 ∙ sym k.0
one-caller g w (step.Sweep t) a b e h k = h.0 ∙ sym k.0
one-caller g w step.Restart a b e h k = h.0 ∙ sym k.0
one-caller g w step.TakeDone a b e h k = h.0 ∙ sym k.0
one-caller g w (step.Unlink t) a b e h k = h.0 ∙ sym k.0
one-caller g w (step.Free t) a b e h k = h.0 ∙ sym k.0
one-caller g w (step.Act n) a b e h k = h.by ∙ sym k.by
one-caller g w step.ResetBus a b e h k = h.0 ∙ sym k.0
one-caller g w (step.Sense t) a b e h k = h.0 ∙ sym k.0

entry-is : (x y : Entry) → x.caller ≡ y.caller → x.step ≡ y.step → x ≡ y
entry-is x y c s =
    let with_caller : ℕ → Entry = λ n. record { caller = n; step = x.step } in
    let with_step : Step → Entry = λ z. record { caller = y.caller; step = z } in
    ap with_caller c ∙ ap with_step s

one-entry : (g : BenchSetting) (w : World) (x y : Entry) → trace_entry x ≡ trace_entry y → Enabled g w x.caller x.step → Enabled g w y.caller y.step → x ≡ y
one-entry g w x y e h k =
    let s : x.step ≡ y.step = ap (λ (t : TraceEntry). t.step) e in
    let told : caller_told x.step x.caller ≡ caller_told x.step y.caller = ap (λ (t : TraceEntry). t.caller) e ∙ ap (λ (z : Step). caller_told z y.caller) (sym s) in
    let there : Enabled g w y.caller x.step = subst (λ (z : Step). Enabled g w y.caller z) (sym s) k in
    entry-is x y (one-caller g w x.step x.caller y.caller told h there) s

-- ---- runs

first-is : {A : Type 0} (x y : A) (xs ys : List A) → x ∷ xs ≡ y ∷ ys → x ≡ y
first-is x y xs ys e = cc

rest-is : {A : Type 0} (x y : A) (xs ys : List A) → x ∷ xs ≡ y ∷ ys → xs ≡ ys
rest-is x y xs ys e = cc

pub one_run : (g : BenchSetting) (w : World) (ms ns : List Moment) → trace (entries ms) ≡ trace (entries ns) → IsRun g w ms → IsRun g w ns → ms ≡ ns
one_run g w [] [] e h k = refl
one_run g w [] (n ∷ ns) e h k = absurd cc
one_run g w (m ∷ ms) [] e h k = absurd cc
one_run g w (m ∷ ms) (n ∷ ns) e h k =
    let t : trace_entry m.entry ≡ trace_entry n.entry = first-is (trace_entry m.entry) (trace_entry n.entry) (trace (entries ms)) (trace (entries ns)) e in
    let x : m ≡ n = moment-once g w m n (one-entry g w m.entry n.entry t h.0.enabled k.0.enabled) h.0 k.0 in
    let later : IsRun g m.after ns = subst (λ (y : Moment). IsRun g y.after ns) (sym x) k.1 in
    let rest : ms ≡ ns = one_run g m.after ms ns (rest-is (trace_entry m.entry) (trace_entry n.entry) (trace (entries ms)) (trace (entries ns)) e) h.1 later in
    ap (λ (y : Moment). y ∷ ms) x ∙ ap (λ (ys : List Moment). n ∷ ys) rest

pub runs_once : (g : BenchSetting) (w : World) (ms ns : List Moment) → entries ms ≡ entries ns → IsRun g w ms → IsRun g w ns → ms ≡ ns
runs_once g w ms ns e h k = one_run g w ms ns (ap trace e) h k

pub one_list : (g : BenchSetting) (es fs : List Entry) → IsLawful g es → IsLawful g fs → trace es ≡ trace fs → es ≡ fs
one_list g es fs h k e =
    let same : trace (entries h.moments) ≡ trace (entries k.moments) = ap trace h.are ∙ e ∙ ap trace (sym k.are) in
    sym h.are ∙ ap entries (one_run g (opened g) h.moments k.moments same h.run k.run) ∙ k.are
