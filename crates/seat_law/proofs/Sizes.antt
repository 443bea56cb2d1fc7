-- The lists of a world keep their lengths over a run: one of lines for each submitter, and the due signals of each caller.
use Rattle.std.proofs.Common.{◌≡◌, Bool, true, false, ℕ, ◌+◌, List, [], ◌∷◌, length, slice_get, slice_set, Option, Some, None, refl, sym, ap, subst, ◌∙◌, inl, inr}
use Rattle.std.proofs.lemmas.List.{length-set, length-replicate}
use Rattle.rig_types.specs.declared.commands.Command.{Command}
use Rattle.rig_types.specs.declared.acts.Act.{Act}
use Rattle.rig_types.specs.declared.acts.ActKind.{ActKind}
use Rattle.rig_types.specs.declared.acts.ActKind.TheVariants.{Abort, Device, Bus}
use Rattle.rig_types.specs.declared.step.Line.{Line}
use Rattle.rig_types.specs.declared.step.Step.{Step}
use Rattle.rig_types.specs.declared.step.Step.TheVariants as step
use Rattle.desk_law.specs.declared.refused.Refused.{Refused}
use Rattle.desk_law.specs.Desk.{DeskState, aborter, reaper, ticket}
use Rattle.desk_law.specs.Rings.{done_ticket}
use Rattle.world_law.specs.declared.reply.Decided.{Decided}
use Rattle.world_law.specs.declared.reply.Decided.TheVariants as line
use Rattle.world_law.specs.declared.reply.Reply.{Reply}
use Rattle.world_law.specs.declared.reply.Reply.TheVariants as reply
use Rattle.world_law.specs.declared.reply.Stop.{Stop}
use Rattle.world_law.specs.declared.reply.Stop.TheVariants as stop
use Rattle.world_law.specs.World.{BenchSetting, World, command_at, decided}
use Rattle.world_law.specs.Opening.{opened}
use Rattle.world_law.specs.Repairs.{Fixes}
use Rattle.world_law.specs.Builds.{refuses, is_tried_again, BuildsBy, BuildsOf}
use Rattle.world_law.specs.Acts.{is_late, marks, aborts, device_resets, bus_resets, acts_by, ActsOf}
use Rattle.world_law.specs.Steps.{TakesOf, Does}
use Rattle.world_law.specs.Runs.{Moment, Steps, IsRun, last}
use Rattle.world_law.proofs.Effects.{Effect, LinesGo, effect}
use Rattle.seat_law.specs.Worlds.{LeadsTo}

abbrev KeepsSize : DeskState → DeskState → Type 0
KeepsSize old new = length new.due ≡ length old.due

same : (old new : DeskState) → new.due ≡ old.due → KeepsSize old new
same old new e = ap (λ (ns : List ℕ). length ns) e

stays : (d : DeskState) → KeepsSize d d
stays d = refl

set-size : (ns : List ℕ) (at n : ℕ) → length (slice_set ns at n) ≡ length ns
set-size ns at n = length-set ns at n

-- a step that leads to this world
led : (old made new : World) → new ≡ made → KeepsSize old.desk made.desk → KeepsSize old.desk new.desk
led old made new e h = subst (λ (w : World). KeepsSize old.desk w.desk) (sym e) h

refused : (again : Bool) (old : World) (l : Line) (r : Refused) → KeepsSize old.desk (refuses again old l r).desk
refused true old l r = stays old.desk
refused false old l r = stays old.desk

builds : (c : Command) (old : World) (l : Line) (a : Reply) (new : World) → BuildsBy old l c a new → KeepsSize old.desk new.desk
builds c old l (reply.Built t) new m = same old.desk new.desk (ap (λ (d : DeskState). d.due) m.builds.desk)
builds c old l (reply.Refused r) new m = led old (refuses (is_tried_again c.when_full r) old l r) new m.1 (refused (is_tried_again c.when_full r) old l r)
builds c old l _ new m = absurd m

builds-of : (o : Option Command) (old : World) (l : Line) (a : Reply) (new : World) → BuildsOf o old l a new → KeepsSize old.desk new.desk
builds-of None old l a new m = absurd m
builds-of (Some c) old l a new m = builds c old l a new m

fixes : (old new : World) → Fixes old new → KeepsSize old.desk new.desk
fixes old new h = elim h [
  | inl x ↦ same old.desk new.desk (ap (λ (w : World). w.desk.due) x.world)
  | inr x ↦ same old.desk new.desk (ap (λ (w : World). w.desk.due) x.1)
]

takes : (o : Option ℕ) (old : World) (a : Reply) (new : World) → TakesOf o old a new → KeepsSize old.desk new.desk
takes None old a new m = absurd m
takes (Some t) old a new m = same old.desk new.desk (ap (λ (w : World). w.desk.due) m.1)

marks-none : (late : Bool) (old : World) (t : ℕ) → KeepsSize old.desk (marks late old t).world.desk
marks-none true old t = stays old.desk
marks-none false old t = stays old.desk

aborts-none : (d : Decided) (old : World) → KeepsSize old.desk (aborts old d).world.desk
aborts-none line.Open old = stays old.desk
aborts-none (line.Accepted t) old = marks-none (is_late (ticket old.desk t).stage) old t
aborts-none (line.Refused r) old = stays old.desk

fronts : (idle : Bool) (old : World) (target : ℕ) → KeepsSize old.desk (device_resets idle old target).world.desk
fronts true old target = set-size old.desk.due (aborter old.desk) _
fronts false old target = stays old.desk

bus-none : (s : Stop) (old : World) → KeepsSize old.desk (bus_resets s old).world.desk
bus-none stop.Run old = stays old.desk
bus-none stop.Mismatch old = stays old.desk
bus-none stop.Clear old = stays old.desk
bus-none stop.MustReset old = stays old.desk

acts : (k : ActKind) (old : World) → KeepsSize old.desk (acts_by old k).world.desk
acts (Abort l) old = aborts-none (decided old l) old
acts (Device target) old = fronts _ old target
acts Bus old = bus-none old.stop old

acts-of : (o : Option Act) (old : World) (a : Reply) (new : World) → ActsOf o old a new → KeepsSize old.desk new.desk
acts-of None old a new m = absurd m
acts-of (Some x) old a new m = led old (acts_by old x.kind).world new m.1 (acts x.kind old)

keeps-size : (g : BenchSetting) (old : World) (caller : ℕ) (s : Step) (a : Reply) (new : World) → Does g old caller s a new → KeepsSize old.desk new.desk
keeps-size g old caller (step.Build l) a new m = builds-of (command_at g l) old l a new m
keeps-size g old caller (step.Link t) a new m = led old _ new m.1 (stays old.desk)
keeps-size g old caller (step.Queue t) a new m = led old _ new m.1 (set-size old.desk.due _ _)
keeps-size g old caller step.Signal a new m = led old _ new m.1 (set-size old.desk.due caller _)
keeps-size g old caller (step.Chip word) a new m = led old _ new m.world (stays old.desk)
keeps-size g old caller step.Fix a new m = fixes old new m.1
keeps-size g old caller (step.Sweep t) a new m = led old _ new m.1 (stays old.desk)
keeps-size g old caller step.Restart a new m = led old _ new m.1 (stays old.desk)
keeps-size g old caller step.TakeDone a new m = takes (done_ticket old.memory old.desk) old a new m
keeps-size g old caller (step.Unlink t) a new m = led old _ new m.1 (stays old.desk)
keeps-size g old caller (step.Free t) a new m = same old.desk new.desk (ap (λ (d : DeskState). d.due) m.frees.desk)
keeps-size g old caller (step.Act k) a new m = acts-of (slice_get g.acts k) old a new m
keeps-size g old caller step.ResetBus a new m = led old _ new m.1 (stays old.desk)
keeps-size g old caller (step.Sense t) a new m = led old _ new m.1 (set-size old.desk.due (reaper old.desk) _)

-- ---- over runs

pub record IsSized (g : BenchSetting) (w : World) : Type 0 where
  pub lines : length w.lines ≡ length g.submitters
  pub submitters : w.desk.submitters ≡ length g.submitters
  pub due : length w.desk.due ≡ length g.submitters + 3

line-count : (g : BenchSetting) (caller : ℕ) (old new : World) → LinesGo g caller old new → length new.lines ≡ length old.lines
line-count g caller old new c = elim c [
  | inl e ↦ ap (λ (lss : List (List Decided)). length lss) e
  | inr x ↦ ap (λ (lss : List (List Decided)). length lss) x.are ∙ length-set old.lines caller _
]

pub sized_on : (g : BenchSetting) (w : World) (m : Moment) → Steps g w m → IsSized g w → IsSized g m.after
sized_on g w m s h =
    let x : Effect g m.entry.caller w m.reply m.after = effect g w m.entry.caller m.entry.step m.reply m.after s.enabled s.does in
    record {
      lines = line-count g m.entry.caller w m.after x.lines ∙ h.lines;
      submitters = x.submitters ∙ h.submitters;
      due = keeps-size g w m.entry.caller m.entry.step m.reply m.after s.does ∙ h.due;
    }

sized-after : (g : BenchSetting) (ms : List Moment) (w : World) → IsRun g w ms → IsSized g w → IsSized g (last w ms)
sized-after g [] w r h = h
sized-after g (m ∷ ms) w r h = sized-after g ms m.after r.1 (sized_on g w m r.0 h)

pub sized : (g : BenchSetting) (es : List (ℕ × Step)) (w : World) → LeadsTo g es w → IsSized g w
sized g es w h =
    let start : IsSized g (opened g) = record {
      lines = length-replicate (length g.submitters) [];
      submitters = refl;
      due = length-replicate (length g.submitters + 3) 0;
    } in
    subst (λ (x : World). IsSized g x) h.world (sized-after g h.moments (opened g) h.run start)
