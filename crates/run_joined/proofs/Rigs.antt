-- The desk keeps what the rig says, and only Build adds a ticket.
use Rattle.std.proofs.Common.{◌≡◌, ℕ, Bool, true, false, List, Option, Some, None, refl, ap, ◌∙◌, inl, inr}
use Rattle.rig_types.specs.declared.acts.Act.{Act}
use Rattle.rig_types.specs.declared.acts.ActKind.{ActKind}
use Rattle.rig_types.specs.declared.acts.ActKind.TheVariants.{Abort, Device, Bus}
use Rattle.rig_types.specs.declared.commands.Command.{Command}
use Rattle.rig_types.specs.declared.step.Line.{Line}
use Rattle.rig_types.specs.declared.step.Step.{Step}
use Rattle.rig_types.specs.declared.step.Step.TheVariants as step
use Rattle.std.specs.Prelude.{slice_get, length}
use Rattle.chip_step.specs.declared.outcome.StepEnd.{StepEnd}
use Rattle.chip_step.specs.declared.outcome.StepEnd.TheVariants.{Ran, Idle, Stopped}
use Rattle.host_map.specs.declared.TheConstants.{FRONT_IDLE}
use Rattle.desk_law.specs.declared.refused.Refused.{Refused}
use Rattle.desk_law.specs.Desk.{DeskState, ticket}
use Rattle.desk_law.specs.Rings.{done_ticket}
use Rattle.world_law.specs.declared.reply.Decided.{Decided}
use Rattle.world_law.specs.declared.reply.Decided.TheVariants as line
use Rattle.world_law.specs.declared.reply.Reply.{Reply}
use Rattle.world_law.specs.declared.reply.Reply.TheVariants as reply
use Rattle.world_law.specs.declared.reply.Stop.{Stop}
use Rattle.world_law.specs.declared.reply.Stop.TheVariants as stop
use Rattle.world_law.specs.World.{BenchSetting, World, command_at, decided, front}
use Rattle.world_law.specs.ChipSteps.{reply_for}
use Rattle.world_law.specs.Acts.{Acted, is_late, marks, aborts, device_resets, bus_resets, acts_by, ActsOf}
use Rattle.world_law.specs.Builds.{refuses, is_tried_again, BuildsBy, BuildsOf}
use Rattle.world_law.specs.Repairs.{Fixes}
use Rattle.world_law.specs.Runs.{built}
use Rattle.world_law.specs.Steps.{TakesOf, Does}
use Rattle.word_owners.specs.BenchSteps.{is_build}
use Rattle.run_joined.specs.Joined.{IsDeskOf}

pub record SameRig (old new : DeskState) : Type 0 where
  pub version : new.version ≡ old.version
  pub units : new.units ≡ old.units
  pub retries : new.retries ≡ old.retries
  pub autosense : new.autosense ≡ old.autosense

pub as-before : (d : DeskState) → SameRig d d
as-before d = record { version = refl; units = refl; retries = refl; autosense = refl }

pub as-made : (old : DeskState) (made new : World) → new ≡ made → SameRig old made.desk → SameRig old new.desk
as-made old made new e h = record {
  version = ap (λ (w : World). w.desk.version) e ∙ h.version;
  units = ap (λ (w : World). w.desk.units) e ∙ h.units;
  retries = ap (λ (w : World). w.desk.retries) e ∙ h.retries;
  autosense = ap (λ (w : World). w.desk.autosense) e ∙ h.autosense;
}

pub by-desk : (old made new : DeskState) → new ≡ made → SameRig old made → SameRig old new
by-desk old made new e h = record {
  version = ap (λ (d : DeskState). d.version) e ∙ h.version;
  units = ap (λ (d : DeskState). d.units) e ∙ h.units;
  retries = ap (λ (d : DeskState). d.retries) e ∙ h.retries;
  autosense = ap (λ (d : DeskState). d.autosense) e ∙ h.autosense;
}

pub same-rig : {old : DeskState} {new : DeskState} → new.version ≡ old.version → new.units ≡ old.units → new.retries ≡ old.retries → new.autosense ≡ old.autosense → SameRig old new
same-rig v u r a = record { version = v; units = u; retries = r; autosense = a }

refused-rig : (again : Bool) (old : World) (l : Line) (r : Refused) → SameRig old.desk (refuses again old l r).desk
refused-rig true old l r = as-before old.desk
refused-rig false old l r = as-before old.desk

build-rig : (k : Option Command) (old : World) (l : Line) (a : Reply) (new : World) → BuildsOf k old l a new → SameRig old.desk new.desk
build-rig None old l a new m = absurd m
build-rig (Some c) old l (reply.Built t) new m = by-desk old.desk _ new.desk m.builds.desk (same-rig refl refl refl refl)
build-rig (Some c) old l (reply.Refused r) new m = as-made old.desk _ new m.1 (refused-rig (is_tried_again c.when_full r) old l r)
build-rig (Some c) old l _ new m = absurd m

takes-rig : (o : Option ℕ) (old : World) (a : Reply) (new : World) → TakesOf o old a new → SameRig old.desk new.desk
takes-rig None old a new m = absurd m
takes-rig (Some t) old a new m = as-made old.desk _ new m.1 (same-rig refl refl refl refl)

marks-rig : (late : Bool) (old : World) (t : ℕ) → SameRig old.desk (marks late old t).world.desk
marks-rig true old t = as-before old.desk
marks-rig false old t = as-before old.desk

aborts-rig : (d : Decided) (old : World) → SameRig old.desk (aborts old d).world.desk
aborts-rig line.Open old = as-before old.desk
aborts-rig (line.Accepted t) old = marks-rig (is_late (ticket old.desk t).stage) old t
aborts-rig (line.Refused r) old = as-before old.desk

fronts-rig : (idle : Bool) (old : World) (target : ℕ) → SameRig old.desk (device_resets idle old target).world.desk
fronts-rig true old target = same-rig refl refl refl refl
fronts-rig false old target = as-before old.desk

bus-rig : (s : Stop) (old : World) → SameRig old.desk (bus_resets s old).world.desk
bus-rig stop.Run old = as-before old.desk
bus-rig stop.Mismatch old = as-before old.desk
bus-rig stop.Clear old = as-before old.desk
bus-rig stop.MustReset old = as-before old.desk

act-rig : (k : ActKind) (old : World) → SameRig old.desk (acts_by old k).world.desk
act-rig (Abort l) old = aborts-rig (decided old l) old
act-rig (Device target) old = fronts-rig _ old target
act-rig Bus old = bus-rig old.stop old

acts-rig : (o : Option Act) (old : World) (a : Reply) (new : World) → ActsOf o old a new → SameRig old.desk new.desk
acts-rig None old a new m = absurd m
acts-rig (Some x) old a new m = as-made old.desk (acts_by old x.kind).world new m.1 (act-rig x.kind old)

fixes-rig : (old new : World) → Fixes old new → SameRig old.desk new.desk
fixes-rig old new (inl x) = as-made old.desk _ new x.world (as-before old.desk)
fixes-rig old new (inr x) = as-made old.desk _ new x.1 (as-before old.desk)

pub rig-stays : (g : BenchSetting) (old : World) (caller : ℕ) (s : Step) (a : Reply) (new : World) → Does g old caller s a new → SameRig old.desk new.desk
rig-stays g old caller (step.Build l) a new m = build-rig (command_at g l) old l a new m
rig-stays g old caller (step.Link t) a new m = as-made old.desk _ new m.1 (same-rig refl refl refl refl)
rig-stays g old caller (step.Queue t) a new m = as-made old.desk _ new m.1 (same-rig refl refl refl refl)
rig-stays g old caller step.Signal a new m = as-made old.desk _ new m.1 (same-rig refl refl refl refl)
rig-stays g old caller (step.Chip word) a new m = as-made old.desk _ new m.world (as-before old.desk)
rig-stays g old caller step.Fix a new m = fixes-rig old new m.1
rig-stays g old caller (step.Sweep t) a new m = as-made old.desk _ new m.1 (same-rig refl refl refl refl)
rig-stays g old caller step.Restart a new m = as-made old.desk _ new m.1 (as-before old.desk)
rig-stays g old caller step.TakeDone a new m = takes-rig (done_ticket old.memory old.desk) old a new m
rig-stays g old caller (step.Unlink t) a new m = as-made old.desk _ new m.1 (same-rig refl refl refl refl)
rig-stays g old caller (step.Free t) a new m = by-desk old.desk _ new.desk m.frees.desk (same-rig refl refl refl refl)
rig-stays g old caller (step.Act k) a new m = acts-rig (slice_get g.acts k) old a new m
rig-stays g old caller step.ResetBus a new m = as-made old.desk _ new m.1 (as-before old.desk)
rig-stays g old caller (step.Sense t) a new m = as-made old.desk _ new m.1 (same-rig refl refl refl refl)

pub desk-stays : (g : BenchSetting) (old new : DeskState) → SameRig old new → IsDeskOf g old → IsDeskOf g new
desk-stays g old new s h = record { version = s.version ∙ h.version; units = s.units ∙ h.units; retries = s.retries ∙ h.retries; autosense = s.autosense ∙ h.autosense }

-- ---- no other step than Build answers that a ticket was built
chip-builds : (e : StepEnd) → built (reply_for e) ≡ None
chip-builds Ran = refl
chip-builds Idle = refl
chip-builds (Stopped cause) = refl

takes-builds : (o : Option ℕ) (old : World) (a : Reply) (new : World) → TakesOf o old a new → built a ≡ None
takes-builds None old a new m = absurd m
takes-builds (Some t) old a new m = ap built m.0

marks-builds : (late : Bool) (old : World) (t : ℕ) → built (marks late old t).answer ≡ None
marks-builds true old t = refl
marks-builds false old t = refl

aborts-builds : (d : Decided) (old : World) → built (aborts old d).answer ≡ None
aborts-builds line.Open old = refl
aborts-builds (line.Accepted t) old = marks-builds (is_late (ticket old.desk t).stage) old t
aborts-builds (line.Refused r) old = refl

fronts-builds : (idle : Bool) (old : World) (target : ℕ) → built (device_resets idle old target).answer ≡ None
fronts-builds true old target = refl
fronts-builds false old target = refl

bus-builds : (s : Stop) (old : World) → built (bus_resets s old).answer ≡ None
bus-builds stop.Run old = refl
bus-builds stop.Mismatch old = refl
bus-builds stop.Clear old = refl
bus-builds stop.MustReset old = refl

act-builds : (k : ActKind) (old : World) → built (acts_by old k).answer ≡ None
act-builds (Abort l) old = aborts-builds (decided old l) old
act-builds (Device target) old = fronts-builds _ old target
act-builds Bus old = bus-builds old.stop old

acts-builds : (o : Option Act) (old : World) (a : Reply) (new : World) → ActsOf o old a new → built a ≡ None
acts-builds None old a new m = absurd m
acts-builds (Some x) old a new m = ap built m.0 ∙ act-builds x.kind old

pub none-built : (g : BenchSetting) (old : World) (caller : ℕ) (s : Step) (a : Reply) (new : World) → is_build s ≡ false → Does g old caller s a new → built a ≡ None
none-built g old caller (step.Build l) a new b m = absurd cc
none-built g old caller (step.Link t) a new b m = ap built m.0
none-built g old caller (step.Queue t) a new b m = ap built m.0
none-built g old caller step.Signal a new b m = ap built m.0
none-built g old caller (step.Chip word) a new b m = ap built m.answer_is ∙ chip-builds m.end
none-built g old caller step.Fix a new b m = ap built m.0
none-built g old caller (step.Sweep t) a new b m = ap built m.0
none-built g old caller step.Restart a new b m = ap built m.0
none-built g old caller step.TakeDone a new b m = takes-builds (done_ticket old.memory old.desk) old a new m
none-built g old caller (step.Unlink t) a new b m = ap built m.0
none-built g old caller (step.Free t) a new b m = ap built m.answer_is
none-built g old caller (step.Act k) a new b m = acts-builds (slice_get g.acts k) old a new m
none-built g old caller step.ResetBus a new b m = ap built m.0
none-built g old caller (step.Sense t) a new b m = ap built m.0
