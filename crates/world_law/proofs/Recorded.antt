-- What is answered to a call is recorded exactly where it is a moment of a run, and leaves the world where it isn't.
use Rattle.std.proofs.Common.{◌≡◌, ◌≢◌, ℕ, Bool, true, false, not, List, length, slice_get, Option, Some, None, refl, sym, ap, ◌∙◌}
use Rattle.rig_types.specs.declared.commands.Command.{Command}
use Rattle.rig_types.specs.declared.acts.Act.{Act}
use Rattle.rig_types.specs.declared.acts.ActKind.{ActKind}
use Rattle.rig_types.specs.declared.acts.ActKind.TheVariants.{Abort, Device, Bus}
use Rattle.rig_types.specs.declared.step.Line.{Line}
use Rattle.rig_types.specs.declared.step.Step.{Step}
use Rattle.rig_types.specs.declared.step.Step.TheVariants as step
use Rattle.chip_step.specs.Chip.{Chip}
use Rattle.chip_step.specs.declared.outcome.StepEnd.{StepEnd}
use Rattle.chip_step.specs.declared.outcome.StepEnd.TheVariants as ends
use Rattle.bus_law.specs.Bus.{BusState}
use Rattle.bus_law.specs.Moves.{moves}
use Rattle.desk_law.specs.declared.refused.Refused.{Refused}
use Rattle.desk_law.specs.Desk.{ticket}
use Rattle.desk_law.specs.Rings.{done_ticket}
use Rattle.world_law.specs.declared.reply.Decided.{Decided}
use Rattle.world_law.specs.declared.reply.Decided.TheVariants as line
use Rattle.world_law.specs.declared.reply.Reply.{Reply}
use Rattle.world_law.specs.declared.reply.Reply.TheVariants as reply
use Rattle.world_law.specs.declared.reply.Stop.{Stop}
use Rattle.world_law.specs.declared.reply.Stop.TheVariants as stop
use Rattle.world_law.specs.World.{BenchSetting, World, command_at, decided, live}
use Rattle.world_law.specs.Opening.{opened}
use Rattle.world_law.specs.ChipSteps.{chip_of, after_chip, reply_for, RunsChip}
use Rattle.world_law.specs.Builds.{refuses, is_tried_again, BuildsBy, BuildsOf}
use Rattle.world_law.specs.Acts.{is_late, marks, aborts, device_resets, bus_resets, acts_by, ActsOf}
use Rattle.world_law.specs.Steps.{TakesOf, Does}
use Rattle.world_law.specs.Runs.{Moment, changes_world, decides_line, is_recorded, Steps, IsRun, last}
use Rattle.world_law.specs.Answers.{Answers, at_limit, not_now, no_memory, done}
use Rattle.world_law.specs.Laws.{RunsOn}
use Rattle.world_law.proofs.Idle.{idle_stays}
use Rattle.world_law.proofs.OneRun.{does_once}
use Rattle.world_law.proofs.RunLaws.{goes_on, ends_after}

-- ---- an answer that isn't recorded leaves the world

-- such an answer is recorded
is-recorded : {P : Type 0} (a b : Reply) → a ≡ b → changes_world b ≡ true → changes_world a ≡ false → P
is-recorded a b e t f = let c : true ≡ false = sym t ∙ ap changes_world (sym e) ∙ f in absurd cc

refused : (again : Bool) (old : World) (l : Line) (r : Refused) → not again ≡ false → refuses again old l r ≡ old
refused true old l r e = refl
refused false old l r e = absurd cc

builds : (c : Command) (old : World) (l : Line) (a : Reply) (new : World) → BuildsBy old l c a new → decides_line (Some c) a ≡ false → new ≡ old
builds c old l (reply.Built t) new m e = absurd cc
builds c old l (reply.Refused r) new m e = m.1 ∙ refused (is_tried_again c.when_full r) old l r e
builds c old l _ new m e = absurd m

builds-of : (o : Option Command) (old : World) (l : Line) (a : Reply) (new : World) → BuildsOf o old l a new → decides_line o a ≡ false → new ≡ old
builds-of None old l a new m e = absurd m
builds-of (Some c) old l a new m e = builds c old l a new m e

idle-end : (end : StepEnd) → changes_world (reply_for end) ≡ false → end ≡ ends.Idle
idle-end ends.Idle e = refl
idle-end ends.Ran e = absurd cc
idle-end (ends.Stopped c) e = absurd cc

rests : (old : World) (word : ℕ) (a : Reply) (new : World) → RunsChip old word a new → changes_world a ≡ false → new ≡ old
rests old word a new h e =
    let i : h.end ≡ ends.Idle = idle-end h.end (ap changes_world (sym h.answer_is) ∙ e) in
    let same : h.chip ≡ chip_of old = idle_stays (moves old.desk.units (live old.desk)) word (chip_of old) h.end h.chip h.ran i in
    let with_end : StepEnd → World = λ x. after_chip old x h.chip in
    h.world ∙ ap with_end i ∙ ap (λ (c : Chip BusState). after_chip old ends.Idle c) same

marks-stay : (late : Bool) (old : World) (t : ℕ) → changes_world (marks late old t).answer ≡ true
marks-stay true old t = refl
marks-stay false old t = refl

aborts-told : (d : Decided) (old : World) → changes_world (aborts old d).answer ≡ true
aborts-told line.Open old = refl
aborts-told (line.Accepted t) old = marks-stay (is_late (ticket old.desk t).stage) old t
aborts-told (line.Refused r) old = refl

fronts : (idle : Bool) (old : World) (target : ℕ) → changes_world (device_resets idle old target).answer ≡ false → (device_resets idle old target).world ≡ old
fronts true old target e = absurd cc
fronts false old target e = refl

bus-stays : (s : Stop) (old : World) → changes_world (bus_resets s old).answer ≡ false → (bus_resets s old).world ≡ old
bus-stays stop.Run old e = absurd cc
bus-stays stop.Mismatch old e = refl
bus-stays stop.Clear old e = refl
bus-stays stop.MustReset old e = absurd cc

acts : (k : ActKind) (old : World) → changes_world (acts_by old k).answer ≡ false → (acts_by old k).world ≡ old
acts (Abort l) old e = is-recorded (aborts old (decided old l)).answer (aborts old (decided old l)).answer refl (aborts-told (decided old l) old) e
acts (Device target) old e = fronts _ old target e
acts Bus old e = bus-stays old.stop old e

acts-of : (o : Option Act) (old : World) (a : Reply) (new : World) → ActsOf o old a new → changes_world a ≡ false → new ≡ old
acts-of None old a new m e = absurd m
acts-of (Some x) old a new m e = m.1 ∙ acts x.kind old (ap changes_world (sym m.0) ∙ e)

takes : (o : Option ℕ) (old : World) (a : Reply) (new : World) → TakesOf o old a new → changes_world a ≡ false → new ≡ old
takes None old a new m e = absurd m
takes (Some t) old a new m e = is-recorded a (reply.Taken t) m.0 refl e

pub unrecorded_stays : (g : BenchSetting) (old : World) (caller : ℕ) (s : Step) (a : Reply) (new : World) → Does g old caller s a new → is_recorded g s a ≡ false → new ≡ old
unrecorded_stays g old caller (step.Build l) a new m e = builds-of (command_at g l) old l a new m e
unrecorded_stays g old caller (step.Link t) a new m e = is-recorded a reply.Made m.0 refl e
unrecorded_stays g old caller (step.Queue t) a new m e = is-recorded a reply.Made m.0 refl e
unrecorded_stays g old caller step.Signal a new m e = is-recorded a reply.Made m.0 refl e
unrecorded_stays g old caller (step.Chip word) a new m e = rests old word a new m e
unrecorded_stays g old caller step.Fix a new m e = is-recorded a reply.Made m.0 refl e
unrecorded_stays g old caller (step.Sweep t) a new m e = is-recorded a reply.Made m.0 refl e
unrecorded_stays g old caller step.Restart a new m e = is-recorded a reply.Made m.0 refl e
unrecorded_stays g old caller step.TakeDone a new m e = takes (done_ticket old.memory old.desk) old a new m e
unrecorded_stays g old caller (step.Unlink t) a new m e = is-recorded a reply.Made m.0 refl e
unrecorded_stays g old caller (step.Free t) a new m e = is-recorded a reply.Made m.answer_is refl e
unrecorded_stays g old caller (step.Act k) a new m e = acts-of (slice_get g.acts k) old a new m e
unrecorded_stays g old caller step.ResetBus a new m e = is-recorded a reply.Started m.0 refl e
unrecorded_stays g old caller (step.Sense t) a new m e = is-recorded a reply.Made m.0 refl e

-- ---- an answer that leaves the world is recorded for no step

unchanging : (o : Option Command) (a : Reply) → changes_world a ≡ false → decides_line o a ≡ false
unchanging None a e = e
unchanging (Some c) (reply.Refused r) e = absurd cc
unchanging (Some c) _ e = e

unrecorded : (g : BenchSetting) (s : Step) (a : Reply) → changes_world a ≡ false → is_recorded g s a ≡ false
unrecorded g (step.Build l) a e = unchanging (command_at g l) a e
unrecorded g _ a e = e

refuses-all : (g : BenchSetting) (s : Step) (a b : Reply) → a ≡ b → changes_world b ≡ false → is_recorded g s a ≡ false
refuses-all g s a b e f = unrecorded g s a (ap changes_world e ∙ f)

-- ---- calls

-- what is recorded is a moment, and what isn't leaves the world
pub record IsNoted (g : BenchSetting) (old : World) (m : Moment) : Type 0 where
  pub steps : is_recorded g m.entry.step m.reply ≡ true → Steps g old m
  pub stays : is_recorded g m.entry.step m.reply ≡ false → m.after ≡ old

refusal : (g : BenchSetting) (old : World) (m : Moment) (b : Reply) → m.reply ≡ b → changes_world b ≡ false → m.after ≡ old → IsNoted g old m
refusal g old m b e f same = record {
  steps = λ t. let c : true ≡ false = sym t ∙ refuses-all g m.entry.step m.reply b e f in absurd cc;
  stays = λ n. same;
}

pub noted : (g : BenchSetting) (count : ℕ) (old : World) (m : Moment) → Answers g count old m.entry.caller m.entry.step m.reply m.after → IsNoted g old m
noted g count old m (at_limit full live e same) = refusal g old m reply.StepLimit e refl same
noted g count old m (not_now free not e same) = refusal g old m _ e refl same
noted g count old m (no_memory free may want e same) = refusal g old m reply.OutOfMemory e refl same
noted g count old m (done free may does) = record {
  steps = λ t. record { enabled = may; does = does; recorded = t };
  stays = λ n. unrecorded_stays g old m.entry.caller m.entry.step m.reply m.after does n;
}

pub runs_on : (g : BenchSetting) (ms : List Moment) (m : Moment) → IsRun g (opened g) ms → Answers g (length ms) (last (opened g) ms) m.entry.caller m.entry.step m.reply m.after → RunsOn g ms m
runs_on g ms m r h = by (is_recorded g m.entry.step m.reply) refl
  where
    n : IsNoted g (last (opened g) ms) m
    n = noted g (length ms) (last (opened g) ms) m h

    by : (b : Bool) → is_recorded g m.entry.step m.reply ≡ b → RunsOn g ms m
    by true e = record {
      run = rw e (goes_on g (opened g) ms m r (n.steps e));
      world = rw e (ends_after (opened g) ms m);
    }
    by false e = record { run = rw e r; world = rw e (sym (n.stays e)) }

-- ---- one answer

kept : (a b : Reply) → a ≡ b → a ≢ b → ⊥
kept a b e n = n e

-- the list is full, or a step of this caller is enabled or isn't: two of these don't go together
pub answers_once : (g : BenchSetting) (count : ℕ) (old : World) (caller : ℕ) (s : Step) (a b : Reply) (new other : World) → Answers g count old caller s a new → Answers g count old caller s b other
    → a ≢ reply.OutOfMemory → b ≢ reply.OutOfMemory → (a ≡ b) × (new ≡ other)
answers_once g count old caller s a b new other (no_memory free may want e same) k m n = absurd (m e)
answers_once g count old caller s a b new other h (no_memory free may want e same) m n = absurd (n e)
answers_once g count old caller s a b new other (at_limit full live e same) (at_limit full' live' e' same') m n = (e ∙ sym e', same ∙ sym same')
answers_once g count old caller s a b new other (at_limit full live e same) (not_now free not e' same') m n = let c : true ≡ false = sym (free full) ∙ live in absurd cc
answers_once g count old caller s a b new other (at_limit full live e same) (done free may does) m n = let c : true ≡ false = sym (free full) ∙ live in absurd cc
answers_once g count old caller s a b new other (not_now free not e same) (at_limit full live e' same') m n = let c : true ≡ false = sym (free full) ∙ live in absurd cc
answers_once g count old caller s a b new other (not_now free not e same) (not_now free' not' e' same') m n = (e ∙ sym e', same ∙ sym same')
answers_once g count old caller s a b new other (not_now free not e same) (done free' may does) m n = absurd (not may)
answers_once g count old caller s a b new other (done free may does) (at_limit full live e' same') m n = let c : true ≡ false = sym (free full) ∙ live in absurd cc
answers_once g count old caller s a b new other (done free may does) (not_now free' not e same) m n = absurd (not may)
answers_once g count old caller s a b new other (done free may does) (done free' may' does') m n = does_once g old caller s a b new other does does'
