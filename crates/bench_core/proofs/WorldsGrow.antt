-- Over a run what the rig says of each unit stays, and no disk becomes smaller.
use Rattle.std.proofs.Common.{◌≡◌, ℕ, Bool, true, false, List, [], ◌∷◌, slice_get, Option, Some, None, sym, ap, subst, inl, inr}
use Rattle.rig_types.specs.declared.commands.Command.{Command}
use Rattle.rig_types.specs.declared.acts.Act.{Act}
use Rattle.rig_types.specs.declared.acts.ActKind.{ActKind}
use Rattle.rig_types.specs.declared.acts.ActKind.TheVariants.{Abort, Device, Bus}
use Rattle.rig_types.specs.declared.step.Line.{Line}
use Rattle.rig_types.specs.declared.step.Entry.{Entry}
use Rattle.rig_types.specs.declared.step.Step.{Step}
use Rattle.rig_types.specs.declared.step.Step.TheVariants as step
use Rattle.desk_law.specs.declared.refused.Refused.{Refused}
use Rattle.desk_law.specs.Desk.{ticket}
use Rattle.desk_law.specs.Rings.{done_ticket}
use Rattle.bus_law.specs.Bus.{BusState}
use Rattle.world_law.specs.declared.reply.Decided.{Decided}
use Rattle.world_law.specs.declared.reply.Decided.TheVariants as line
use Rattle.world_law.specs.declared.reply.Reply.{Reply}
use Rattle.world_law.specs.declared.reply.Reply.TheVariants as reply
use Rattle.world_law.specs.declared.reply.Stop.{Stop}
use Rattle.world_law.specs.declared.reply.Stop.TheVariants as stop
use Rattle.world_law.specs.World.{BenchSetting, World, command_at, decided}
use Rattle.world_law.specs.Opening.{opened}
use Rattle.world_law.specs.Repairs.{Fixes}
use Rattle.world_law.specs.Builds.{refuses, is_tried_again, BuildsBy, BuildsOf}
use Rattle.world_law.specs.Acts.{is_late, marks, aborts, device_resets, bus_resets, acts_by, ActsOf}
use Rattle.world_law.specs.Steps.{TakesOf, Does}
use Rattle.world_law.specs.Runs.{Moment, IsRun, last}
use Rattle.bench_core.specs.Histories.{IsReplayed}
use Rattle.bench_core.proofs.BusesGrow.{BusGrows, bus_stays, bus_on, step_grows, room_at_grows, reset_bus_grows}

abbrev pub WorldGrows : World → World → Type 0
WorldGrows old new = BusGrows old.bus new.bus

stays : (w : World) → WorldGrows w w
stays w = bus_stays w.bus

-- a step that leads to this world
led : (old made new : World) → new ≡ made → WorldGrows old made → WorldGrows old new
led old made new e h = subst (λ (w : World). WorldGrows old w) (sym e) h

refused : (again : Bool) (old : World) (l : Line) (r : Refused) → WorldGrows old (refuses again old l r)
refused true old l r = stays old
refused false old l r = stays old

builds : (c : Command) (old : World) (l : Line) (a : Reply) (new : World) → BuildsBy old l c a new → WorldGrows old new
builds c old l (reply.Built t) new m = subst (λ (b : BusState). BusGrows old.bus b) (sym (ap (λ (w : World). w.bus) m.world)) (room_at_grows old.bus _)
builds c old l (reply.Refused r) new m = led old (refuses (is_tried_again c.when_full r) old l r) new m.1 (refused (is_tried_again c.when_full r) old l r)
builds c old l _ new m = absurd m

builds-of : (o : Option Command) (old : World) (l : Line) (a : Reply) (new : World) → BuildsOf o old l a new → WorldGrows old new
builds-of None old l a new m = absurd m
builds-of (Some c) old l a new m = builds c old l a new m

fixes : (old new : World) → Fixes old new → WorldGrows old new
fixes old new h = elim h [
  | inl x ↦ led old _ new x.world (stays old)
  | inr x ↦ led old _ new x.1 (stays old)
]

takes : (o : Option ℕ) (old : World) (a : Reply) (new : World) → TakesOf o old a new → WorldGrows old new
takes None old a new m = absurd m
takes (Some t) old a new m = led old _ new m.1 (stays old)

marked : (late : Bool) (old : World) (t : ℕ) → WorldGrows old (marks late old t).world
marked true old t = stays old
marked false old t = stays old

aborted : (d : Decided) (old : World) → WorldGrows old (aborts old d).world
aborted line.Open old = stays old
aborted (line.Accepted t) old = marked (is_late (ticket old.desk t).stage) old t
aborted (line.Refused r) old = stays old

fronts : (idle : Bool) (old : World) (target : ℕ) → WorldGrows old (device_resets idle old target).world
fronts true old target = room_at_grows old.bus target
fronts false old target = stays old

bus-reset : (s : Stop) (old : World) → WorldGrows old (bus_resets s old).world
bus-reset stop.Run old = reset_bus_grows old.bus
bus-reset stop.Mismatch old = stays old
bus-reset stop.Clear old = stays old
bus-reset stop.MustReset old = reset_bus_grows old.bus

acts : (k : ActKind) (old : World) → WorldGrows old (acts_by old k).world
acts (Abort l) old = aborted (decided old l) old
acts (Device target) old = fronts _ old target
acts Bus old = bus-reset old.stop old

acts-of : (o : Option Act) (old : World) (a : Reply) (new : World) → ActsOf o old a new → WorldGrows old new
acts-of None old a new m = absurd m
acts-of (Some x) old a new m = led old (acts_by old x.kind).world new m.1 (acts x.kind old)

pub does_grow : (g : BenchSetting) (old : World) (caller : ℕ) (s : Step) (a : Reply) (new : World) → Does g old caller s a new → WorldGrows old new
does_grow g old caller (step.Build l) a new m = builds-of (command_at g l) old l a new m
does_grow g old caller (step.Link t) a new m = led old _ new m.1 (stays old)
does_grow g old caller (step.Queue t) a new m = led old _ new m.1 (stays old)
does_grow g old caller step.Signal a new m = led old _ new m.1 (stays old)
does_grow g old caller (step.Chip word) a new m =
    subst (λ (w : World). WorldGrows old w) (sym m.world) (step_grows _ _ word _ m.end m.chip m.ran)
does_grow g old caller step.Fix a new m = fixes old new m.1
does_grow g old caller (step.Sweep t) a new m = led old _ new m.1 (stays old)
does_grow g old caller step.Restart a new m = led old _ new m.1 (stays old)
does_grow g old caller step.TakeDone a new m = takes (done_ticket old.memory old.desk) old a new m
does_grow g old caller (step.Unlink t) a new m = led old _ new m.1 (stays old)
does_grow g old caller (step.Free t) a new m = led old _ new m.world (stays old)
does_grow g old caller (step.Act k) a new m = acts-of (slice_get g.acts k) old a new m
does_grow g old caller step.ResetBus a new m = led old _ new m.1 (reset_bus_grows old.bus)
does_grow g old caller (step.Sense t) a new m = led old _ new m.1 (stays old)

run-grows : (g : BenchSetting) (ms : List Moment) (w : World) → IsRun g w ms → WorldGrows w (last w ms)
run-grows g [] w r = stays w
run-grows g (m ∷ ms) w r =
    bus_on w.bus m.after.bus (last m.after ms).bus (does_grow g w m.entry.caller m.entry.step m.reply m.after r.0.does) (run-grows g ms m.after r.1)

pub replayed_grows : (g : BenchSetting) (es : List Entry) (w : World) → IsReplayed g es w → WorldGrows (opened g) w
replayed_grows g es w h = subst (λ (x : World). WorldGrows (opened g) x) h.world (run-grows g h.moments (opened g) h.run)
