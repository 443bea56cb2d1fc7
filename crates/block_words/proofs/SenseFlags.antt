-- The desk knows of no ticket that its sense was taken, before it has its outcome.
use Rattle.std.proofs.Common.{◌≡◌, inl, inr, ℕ, zero, suc, Bool, true, false, List, [], ◌∷◌, ◌++◌, slice_set, slice_index_or, Option, Some, None, refl, sym, ap, subst}
use Rattle.std.specs.Prelude.{◌+◌, ◌==◌, ◌||◌, slice_get}
use Rattle.std.proofs.lemmas.Bool.{false≢true, and_parts}
use Rattle.host_map.specs.declared.TheConstants.{FRONT_IDLE}
use Rattle.rig_types.specs.declared.acts.Act.{Act}
use Rattle.rig_types.specs.declared.acts.ActKind.{ActKind}
use Rattle.rig_types.specs.declared.acts.ActKind.TheVariants.{Abort, Device, Bus}
use Rattle.rig_types.specs.declared.commands.Command.{Command}
use Rattle.rig_types.specs.declared.step.Line.{Line}
use Rattle.rig_types.specs.declared.step.Step.{Step}
use Rattle.rig_types.specs.declared.step.Step.TheVariants as step
use Rattle.unit_law.specs.Request.{plain}
use Rattle.desk_law.specs.declared.refused.Refused.{Refused}
use Rattle.desk_law.specs.declared.stage.Stage.{Stage}
use Rattle.desk_law.specs.declared.stage.Stage.TheVariants as stage
use Rattle.desk_law.specs.declared.ticket.Ticket.{Ticket}
use Rattle.desk_law.specs.Building.{new_ticket}
use Rattle.desk_law.specs.Desk.{DeskState, ticket, no_ticket, is_queued, is_sensing}
use Rattle.desk_law.specs.Rings.{done_ticket}
use Rattle.desk_law.specs.Taking.{taken, taken_by, is_again, is_check}
use Rattle.world_law.specs.Acts.{ActsOf, acts_by, aborts, marks, device_resets, bus_resets, is_late}
use Rattle.world_law.specs.Builds.{BuildsBy, BuildsOf, refuses, is_tried_again}
use Rattle.world_law.specs.Enabling.{Enabled, MayQueue}
use Rattle.world_law.specs.Opening.{opened}
use Rattle.world_law.specs.Repairs.{Fixes}
use Rattle.world_law.specs.Runs.{Moment, IsRun, last}
use Rattle.world_law.specs.Steps.{Does, TakesOf}
use Rattle.world_law.specs.Stops.{is_done_by}
use Rattle.world_law.specs.World.{BenchSetting, World, command_at, decided, front}
use Rattle.world_law.specs.declared.reply.Decided.{Decided}
use Rattle.world_law.specs.declared.reply.Decided.TheVariants as line
use Rattle.world_law.specs.declared.reply.Reply.{Reply}
use Rattle.world_law.specs.declared.reply.Reply.TheVariants as reply
use Rattle.world_law.specs.declared.reply.Stop.{Stop}
use Rattle.world_law.specs.declared.reply.Stop.TheVariants as stop
use Rattle.world_law.proofs.RunLaws.{ends_after}
use Rattle.block_words.proofs.RunSteps.{by-steps}

abbrev at : List Ticket → ℕ → Ticket
at ks t = slice_index_or ks t no_ticket

-- it has an outcome, or is freed
abbrev pub IsPast : Stage → Type 0
IsPast (stage.Ended o) = Unit {0}
IsPast stage.Unlinked = Unit {0}
IsPast stage.Freed = Unit {0}
IsPast s = ⊥

abbrev IsSo : Ticket → Type 0
IsSo k = k.sensed ≡ true → IsPast k.stage

abbrev AllSo : List Ticket → Type 0
AllSo ks = (t : ℕ) → IsSo (at ks t)

set-so : (ks : List Ticket) (n : ℕ) (k : Ticket) → (IsSo (at ks n) → IsSo k) → AllSo ks → AllSo (slice_set ks n k)
set-so [] n k f h t = h t
set-so (x ∷ xs) zero k f h zero = f (h 0)
set-so (x ∷ xs) zero k f h (suc t) = h (suc t)
set-so (x ∷ xs) (suc n) k f h zero = h 0
set-so (x ∷ xs) (suc n) k f h (suc t) = set-so xs n k f (λ i. h (suc i)) t

more-so : (ks : List Ticket) (k : Ticket) → IsSo k → AllSo ks → AllSo (ks ++ k ∷ [])
more-so [] k f h zero = f
more-so [] k f h (suc t) = h t
more-so (x ∷ xs) k f h zero = h 0
more-so (x ∷ xs) k f h (suc t) = more-so xs k f (λ i. h (suc i)) t

-- a ticket in an earlier stage
early : (k : Ticket) (x : Stage) → k.stage ≡ x → (IsPast x → ⊥) → IsSo k → k.sensed ≡ true → ⊥
early k x e n h s = n (subst IsPast e (h s))

active-early : (x : Stage) → (is_queued x || is_sensing x) ≡ true → IsPast x → ⊥
active-early (stage.Ended o) e i = false≢true e
active-early stage.Unlinked e i = false≢true e
active-early stage.Freed e i = false≢true e
active-early x e i = i

may-early : (w : World) (caller : ℕ) (k : Ticket) (x : Stage) → MayQueue w caller k x → IsPast x → ⊥
may-early w caller k stage.Linked m i = i
may-early w caller k stage.Again m i = i
may-early w caller k x m i = absurd m

taken-so : (sensing again check : Bool) (m : List ℕ) (k : Ticket) → (k.sensed ≡ true → ⊥) → IsSo (taken_by sensing again check m k)
taken-so true again check m k n s = tt
taken-so false true check m k n s = absurd (n s)
taken-so false false true m k n s = absurd (n s)
taken-so false false false m k n s = tt

module _ (w : World) (h : AllSo w.desk.tickets) where
  abbrev So : World → Type 0
  So new = AllSo new.desk.tickets

  of-made : (made new : World) → new ≡ made → So made → So new
  of-made made new e k = subst So (sym e) k

  takes-so : (o : Option ℕ) (new : World) (answer : Reply) → is_done_by w o ≡ true → TakesOf o w answer new → So new
  takes-so None new answer e d = absurd d
  takes-so (Some u) new answer e d =
      let k = ticket w.desk u in
      let active = (and_parts (is_queued k.stage || is_sensing k.stage) _ e).0 in
      of-made _ new d.1
      (set-so w.desk.tickets u (taken w.desk w.memory k)
      (λ f. taken-so (is_sensing k.stage) (is_again w.desk w.memory k) (is_check w.desk w.memory k) w.memory k (early k k.stage refl (active-early k.stage active) f)) h)

  marks-so : (late : Bool) (u : ℕ) → So (marks late w u).world
  marks-so true u = h
  marks-so false u = h

  aborts-so : (x : Decided) → So (aborts w x).world
  aborts-so line.Open = h
  aborts-so (line.Accepted u) = marks-so (is_late (ticket w.desk u).stage) u
  aborts-so (line.Refused r) = h

  device-so : (idle : Bool) (target : ℕ) → So (device_resets idle w target).world
  device-so true target = h
  device-so false target = h

  bus-so : (x : Stop) → So (bus_resets x w).world
  bus-so stop.Run = h
  bus-so stop.Mismatch = h
  bus-so stop.Clear = h
  bus-so stop.MustReset = h

  acts-so : (k : ActKind) → So (acts_by w k).world
  acts-so (Abort l) = aborts-so (decided w l)
  acts-so (Device target) = device-so (front w == FRONT_IDLE) target
  acts-so Bus = bus-so w.stop

  acted-so : (o : Option Act) (new : World) (answer : Reply) → ActsOf o w answer new → So new
  acted-so None new answer d = absurd d
  acted-so (Some a) new answer d = of-made _ new d.1 (acts-so a.kind)

  fixed-so : (new : World) → Fixes w new → So new
  fixed-so new (inl r) = of-made _ new r.world h
  fixed-so new (inr r) = of-made _ new r.1 h

  refuses-so : (again : Bool) (l : Line) (r : Refused) → So (refuses again w l r)
  refuses-so true l r = h
  refuses-so false l r = h

  builds-by : (new : World) (l : Line) (c : Command) (answer : Reply) → BuildsBy w l c answer new → So new
  builds-by new l c (reply.Built u) d =
      subst AllSo (sym (ap (λ (x : DeskState). x.tickets) d.builds.desk)) (more-so w.desk.tickets (new_ticket w.desk l (plain c.request) d.builds.chunks) (λ s. absurd (false≢true s)) h)
  builds-by new l c (reply.Refused r) d = of-made _ new d.1 (refuses-so (is_tried_again c.when_full r) l r)
  builds-by new l c _ d = absurd d

  builds-of : (o : Option Command) (new : World) (l : Line) (answer : Reply) → BuildsOf o w l answer new → So new
  builds-of None new l answer d = absurd d
  builds-of (Some c) new l answer d = builds-by new l c answer d

  step-so : (g : BenchSetting) (new : World) (caller : ℕ) (x : Step) (answer : Reply) → Enabled g w caller x → Does g w caller x answer new → So new
  step-so g new caller (step.Build l) answer may d = builds-of (command_at g l) new l answer d
  step-so g new caller (step.Link u) answer may d = of-made _ new d.1 (set-so w.desk.tickets u _ (λ f s. absurd (early (ticket w.desk u) stage.Built may.0 (λ i. i) f s)) h)
  step-so g new caller (step.Queue u) answer may d =
      let k = ticket w.desk u in
      of-made _ new d.1 (set-so w.desk.tickets u (record k { stage = stage.Queued; tries = k.tries + 1 }) (λ f s. absurd (early k k.stage refl (may-early w caller k k.stage may) f s)) h)
  step-so g new caller step.Signal answer may d = of-made _ new d.1 h
  step-so g new caller (step.Chip word) answer may d = of-made _ new d.world h
  step-so g new caller step.Fix answer may d = fixed-so new d.1
  step-so g new caller (step.Sweep u) answer may d = of-made _ new d.1 (set-so w.desk.tickets u _ (λ f s. tt) h)
  step-so g new caller step.Restart answer may d = of-made _ new d.1 h
  step-so g new caller step.TakeDone answer may d = takes-so (done_ticket w.memory w.desk) new answer may.1 d
  step-so g new caller (step.Unlink u) answer may d = of-made _ new d.1 (set-so w.desk.tickets u _ (λ f s. tt) h)
  step-so g new caller (step.Free u) answer may d = subst (λ (x : DeskState). AllSo x.tickets) (sym d.frees.desk) (set-so w.desk.tickets u (record (ticket w.desk u) { stage = stage.Freed }) (λ f s. tt) h)
  step-so g new caller (step.Act k) answer may d = acted-so (slice_get g.acts k) new answer d
  step-so g new caller step.ResetBus answer may d = of-made _ new d.1 h
  step-so g new caller (step.Sense u) answer may d = of-made _ new d.1 (set-so w.desk.tickets u _ (λ f s. absurd (early (ticket w.desk u) stage.Check may.2 (λ i. i) f s)) h)

-- in every world of a run
pub sensed-past : (g : BenchSetting) (ms : List Moment) → IsRun g (opened g) ms → (t : ℕ) → (ticket (last (opened g) ms).desk t).sensed ≡ true → IsPast (ticket (last (opened g) ms).desk t).stage
sensed-past g ms r = by-steps g (λ (ns : List Moment). AllSo (last (opened g) ns).desk.tickets) (λ t s. absurd (false≢true s))
    (λ ns m r s h. subst (λ (w : World). AllSo w.desk.tickets) (sym (ends_after (opened g) ns m)) (step-so (last (opened g) ns) h g m.after m.entry.caller m.entry.step m.reply s.enabled s.does)) ms r
