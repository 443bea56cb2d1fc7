-- The desk keeps of a ticket with an outcome whether its sense was to be asked for and was taken; TakeDone and Sweep alone give a ticket its outcome.
use Rattle.std.proofs.Common.{◌≡◌, ◌≢◌, inl, inr, ℕ, zero, suc, ◌<◌, Bool, true, false, List, [], ◌∷◌, length, slice_set, slice_index_or, Option, Some, None, refl, sym, ap, subst, ◌∙◌}
use Rattle.std.specs.Prelude.{◌||◌, ◌+◌, ◌==◌, slice_get}
use Rattle.std.proofs.lemmas.Bool.{and_parts}
use Rattle.std.proofs.lemmas.List.{get_or-set_other}
use Rattle.std.proofs.Math.ListN.{get_or-append}
use Rattle.host_map.specs.declared.TheConstants.{FRONT_IDLE}
use Rattle.rig_types.specs.declared.acts.Act.{Act}
use Rattle.rig_types.specs.declared.acts.ActKind.{ActKind}
use Rattle.rig_types.specs.declared.acts.ActKind.TheVariants.{Abort, Device, Bus}
use Rattle.rig_types.specs.declared.commands.Command.{Command}
use Rattle.rig_types.specs.declared.step.Line.{Line}
use Rattle.rig_types.specs.declared.step.Step.{Step}
use Rattle.rig_types.specs.declared.step.Step.TheVariants as step
use Rattle.unit_law.specs.Request.{plain}
use Rattle.desk_law.specs.declared.refused.Refused.{Refused}
use Rattle.desk_law.specs.declared.stage.Stage.{Stage}
use Rattle.desk_law.specs.declared.stage.Stage.TheVariants as stage
use Rattle.desk_law.specs.declared.ticket.Ticket.{Ticket}
use Rattle.desk_law.specs.Building.{new_ticket}
use Rattle.desk_law.specs.Desk.{DeskState, ticket, no_ticket, is_queued, is_sensing}
use Rattle.desk_law.specs.Rings.{done_ticket}
use Rattle.desk_law.specs.Taking.{taken}
use Rattle.world_law.specs.Acts.{ActsOf, acts_by, aborts, marks, device_resets, bus_resets, is_late}
use Rattle.world_law.specs.Builds.{BuildsBy, BuildsOf, refuses, is_tried_again}
use Rattle.world_law.specs.Enabling.{Enabled}
use Rattle.world_law.specs.Repairs.{Fixes}
use Rattle.world_law.specs.Steps.{Does, TakesOf}
use Rattle.world_law.specs.Stops.{is_done_by}
use Rattle.world_law.specs.World.{BenchSetting, World, command_at, decided, front}
use Rattle.world_law.specs.declared.reply.Decided.{Decided}
use Rattle.world_law.specs.declared.reply.Decided.TheVariants as line
use Rattle.world_law.specs.declared.reply.Reply.{Reply}
use Rattle.world_law.specs.declared.reply.Reply.TheVariants as reply
use Rattle.world_law.specs.declared.reply.Stop.{Stop}
use Rattle.world_law.specs.declared.reply.Stop.TheVariants as stop
use Rattle.block_words.specs.EndedWords.{IsEndedOrUnlinked}

abbrev at : List Ticket → ℕ → Ticket
at ks t = slice_index_or ks t no_ticket

-- both flags are as before
pub record SameFlags (old new : Ticket) : Type 0 where
  pub checked : new.checked ≡ old.checked
  pub sensed : new.sensed ≡ old.sensed

same : (k : Ticket) → SameFlags k k
same k = record { checked = refl; sensed = refl }

set-same : (ks : List Ticket) (n : ℕ) (k : Ticket) → SameFlags (at ks n) k → (t : ℕ) → SameFlags (at ks t) (at (slice_set ks n k) t)
set-same [] n k h t = same no_ticket
set-same (x ∷ xs) zero k h zero = h
set-same (x ∷ xs) zero k h (suc t) = same (at xs t)
set-same (x ∷ xs) (suc n) k h zero = same x
set-same (x ∷ xs) (suc n) k h (suc t) = set-same xs n k h t

-- a ticket with the chip has no outcome
over-idle : (x : Stage) → IsEndedOrUnlinked x → (is_queued x || is_sensing x) ≡ true → ⊥
over-idle (stage.Ended o) i e = absurd cc
over-idle stage.Unlinked i e = absurd cc
over-idle x i e = absurd i

module _ (w : World) (t : ℕ) (there : t < length w.desk.tickets) (over : IsEndedOrUnlinked (ticket w.desk t).stage) where
  abbrev Same : World → Type 0
  Same new = SameFlags (ticket w.desk t) (ticket new.desk t)

  here : SameFlags (ticket w.desk t) (ticket w.desk t)
  here = same (ticket w.desk t)

  of-made : (made new : World) → new ≡ made → Same made → Same new
  of-made made new e h = subst Same (sym e) h

  one : (u : ℕ) (k : Ticket) → k.checked ≡ (ticket w.desk u).checked → k.sensed ≡ (ticket w.desk u).sensed → SameFlags (ticket w.desk t) (at (slice_set w.desk.tickets u k) t)
  one u k c s = set-same w.desk.tickets u k (record { checked = c; sensed = s }) t

  takes-same : (o : Option ℕ) (new : World) (answer : Reply) → is_done_by w o ≡ true → TakesOf o w answer new → Same new
  takes-same None new answer e d = absurd d
  takes-same (Some u) new answer e d =
      let k = ticket w.desk u in
      let active = (and_parts (is_queued k.stage || is_sensing k.stage) _ e).0 in
      let other : t ≢ u = λ z. over-idle (ticket w.desk t).stage over (subst (λ (i : ℕ). (is_queued (ticket w.desk i).stage || is_sensing (ticket w.desk i).stage) ≡ true) (sym z) active) in
      of-made _ new d.1 (subst (SameFlags (ticket w.desk t)) (sym (get_or-set_other w.desk.tickets u t (taken w.desk w.memory k) no_ticket other)) here)

  marks-same : (late : Bool) (u : ℕ) → Same (marks late w u).world
  marks-same true u = here
  marks-same false u = here

  aborts-same : (x : Decided) → Same (aborts w x).world
  aborts-same line.Open = here
  aborts-same (line.Accepted u) = marks-same (is_late (ticket w.desk u).stage) u
  aborts-same (line.Refused r) = here

  device-same : (idle : Bool) (target : ℕ) → Same (device_resets idle w target).world
  device-same true target = here
  device-same false target = here

  bus-same : (x : Stop) → Same (bus_resets x w).world
  bus-same stop.Run = here
  bus-same stop.Mismatch = here
  bus-same stop.Clear = here
  bus-same stop.MustReset = here

  acts-same : (k : ActKind) → Same (acts_by w k).world
  acts-same (Abort l) = aborts-same (decided w l)
  acts-same (Device target) = device-same (front w == FRONT_IDLE) target
  acts-same Bus = bus-same w.stop

  acted-same : (o : Option Act) (new : World) (answer : Reply) → ActsOf o w answer new → Same new
  acted-same None new answer d = absurd d
  acted-same (Some a) new answer d = of-made _ new d.1 (acts-same a.kind)

  fixed-same : (new : World) → Fixes w new → Same new
  fixed-same new (inl r) = of-made _ new r.world here
  fixed-same new (inr r) = of-made _ new r.1 here

  refuses-same : (again : Bool) (l : Line) (r : Refused) → Same (refuses again w l r)
  refuses-same true l r = here
  refuses-same false l r = here

  builds-by : (new : World) (l : Line) (c : Command) (answer : Reply) → BuildsBy w l c answer new → Same new
  builds-by new l c (reply.Built u) d =
      let e : ticket new.desk t ≡ ticket w.desk t = ap (λ (x : DeskState). at x.tickets t) d.builds.desk ∙ get_or-append w.desk.tickets (new_ticket w.desk l (plain c.request) d.builds.chunks ∷ []) no_ticket t there in
      subst (SameFlags (ticket w.desk t)) (sym e) here
  builds-by new l c (reply.Refused r) d = of-made _ new d.1 (refuses-same (is_tried_again c.when_full r) l r)
  builds-by new l c _ d = absurd d

  builds-of : (o : Option Command) (new : World) (l : Line) (answer : Reply) → BuildsOf o w l answer new → Same new
  builds-of None new l answer d = absurd d
  builds-of (Some c) new l answer d = builds-by new l c answer d

  pub flags-stay : (g : BenchSetting) (new : World) (caller : ℕ) (x : Step) (answer : Reply) → Enabled g w caller x → Does g w caller x answer new → Same new
  flags-stay g new caller (step.Build l) answer may d = builds-of (command_at g l) new l answer d
  flags-stay g new caller (step.Link u) answer may d = of-made _ new d.1 (one u _ refl refl)
  flags-stay g new caller (step.Queue u) answer may d = of-made _ new d.1 (one u (record (ticket w.desk u) { stage = stage.Queued; tries = (ticket w.desk u).tries + 1 }) refl refl)
  flags-stay g new caller step.Signal answer may d = of-made _ new d.1 here
  flags-stay g new caller (step.Chip word) answer may d = of-made _ new d.world here
  flags-stay g new caller step.Fix answer may d = fixed-same new d.1
  flags-stay g new caller (step.Sweep u) answer may d = of-made _ new d.1 (one u _ refl refl)
  flags-stay g new caller step.Restart answer may d = of-made _ new d.1 here
  flags-stay g new caller step.TakeDone answer may d = takes-same (done_ticket w.memory w.desk) new answer may.1 d
  flags-stay g new caller (step.Unlink u) answer may d = of-made _ new d.1 (one u _ refl refl)
  flags-stay g new caller (step.Free u) answer may d =
      subst (λ (x : DeskState). SameFlags (ticket w.desk t) (at x.tickets t)) (sym d.frees.desk) (one u (record (ticket w.desk u) { stage = stage.Freed }) refl refl)
  flags-stay g new caller (step.Act k) answer may d = acted-same (slice_get g.acts k) new answer d
  flags-stay g new caller step.ResetBus answer may d = of-made _ new d.1 here
  flags-stay g new caller (step.Sense u) answer may d = of-made _ new d.1 (one u _ refl refl)
