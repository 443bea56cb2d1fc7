-- Free alone makes a report; TakeDone and Sweep alone give a ticket its outcome.
use Rattle.std.proofs.Common.{◌≡◌, inl, inr, ℕ, zero, suc, Bool, true, false, List, [], ◌∷◌, ◌++◌, slice_set, slice_index_or, Option, Some, None, refl, sym, ap, subst}
use Rattle.std.specs.Prelude.{◌+◌, ◌==◌, slice_get}
use Rattle.host_map.specs.declared.TheConstants.{FRONT_IDLE}
use Rattle.rig_types.specs.declared.acts.Act.{Act}
use Rattle.rig_types.specs.declared.acts.ActKind.{ActKind}
use Rattle.rig_types.specs.declared.acts.ActKind.TheVariants.{Abort, Device, Bus}
use Rattle.rig_types.specs.declared.commands.Command.{Command}
use Rattle.rig_types.specs.declared.step.Line.{Line}
use Rattle.rig_types.specs.declared.step.Step.{Step}
use Rattle.rig_types.specs.declared.step.Step.TheVariants as step
use Rattle.unit_law.specs.Request.{plain}
use Rattle.desk_law.specs.declared.refused.Refused.{Refused}
use Rattle.desk_law.specs.declared.stage.Stage.{Stage}
use Rattle.desk_law.specs.declared.stage.Stage.TheVariants as stage
use Rattle.desk_law.specs.declared.ticket.Ticket.{Ticket}
use Rattle.desk_law.specs.Building.{new_ticket}
use Rattle.desk_law.specs.Desk.{DeskState, ticket, no_ticket}
use Rattle.desk_law.specs.Rings.{done_ticket}
use Rattle.world_law.specs.Acts.{ActsOf, acts_by, aborts, marks, device_resets, bus_resets, is_late}
use Rattle.world_law.specs.Builds.{BuildsBy, BuildsOf, refuses, is_tried_again}
use Rattle.world_law.specs.Enabling.{Enabled, IsEnded}
use Rattle.world_law.specs.Repairs.{Fixes}
use Rattle.world_law.specs.Steps.{Does, TakesOf}
use Rattle.world_law.specs.World.{BenchSetting, World, command_at, decided, front}
use Rattle.world_law.specs.declared.reply.Decided.{Decided}
use Rattle.world_law.specs.declared.reply.Decided.TheVariants as line
use Rattle.world_law.specs.declared.reply.Reply.{Reply}
use Rattle.world_law.specs.declared.reply.Reply.TheVariants as reply
use Rattle.world_law.specs.declared.reply.Stop.{Stop}
use Rattle.world_law.specs.declared.reply.Stop.TheVariants as stop
use Rattle.block_words.specs.EndedWords.{IsEndedOrUnlinked}
use Rattle.block_words.specs.ReportedRuns.{is_ending}

abbrev at : List Ticket → ℕ → Ticket
at ks t = slice_index_or ks t no_ticket

-- a ticket with an outcome had it before
abbrev HadIt : List Ticket → List Ticket → Type 0
HadIt old new = (t : ℕ) → IsEndedOrUnlinked (at new t).stage → IsEndedOrUnlinked (at old t).stage

set-had : (ks : List Ticket) (n : ℕ) (k : Ticket) → (IsEndedOrUnlinked k.stage → IsEndedOrUnlinked (at ks n).stage) → HadIt ks (slice_set ks n k)
set-had [] n k h t i = i
set-had (x ∷ xs) zero k h zero i = h i
set-had (x ∷ xs) zero k h (suc t) i = i
set-had (x ∷ xs) (suc n) k h zero i = i
set-had (x ∷ xs) (suc n) k h (suc t) i = set-had xs n k h t i

more-had : (ks : List Ticket) (k : Ticket) → (IsEndedOrUnlinked k.stage → ⊥) → HadIt ks (ks ++ k ∷ [])
more-had [] k n zero i = absurd (n i)
more-had [] k n (suc t) i = i
more-had (x ∷ xs) k n zero i = i
more-had (x ∷ xs) k n (suc t) i = more-had xs k n t i

ended-is : (x : Stage) → IsEnded x → IsEndedOrUnlinked x
ended-is (stage.Ended o) i = tt
ended-is x i = absurd i

-- a step makes no report, and gives no ticket its outcome
record Leaves (old new : World) : Type 0 where
  reports : new.reports ≡ old.reports
  had : HadIt old.desk.tickets new.desk.tickets

abbrev pub is_free : Step → Bool
is_free (step.Free t) = true
is_free _ = false

module _ (w : World) where
  same : Leaves w w
  same = record { reports = refl; had = λ t i. i }

  of-made : (made new : World) → new ≡ made → Leaves w made → Leaves w new
  of-made made new e h = subst (Leaves w) (sym e) h

  marks-leave : (late : Bool) (u : ℕ) → Leaves w (marks late w u).world
  marks-leave true u = record { reports = refl; had = λ t i. i }
  marks-leave false u = record { reports = refl; had = λ t i. i }

  aborts-leave : (x : Decided) → Leaves w (aborts w x).world
  aborts-leave line.Open = record { reports = refl; had = λ t i. i }
  aborts-leave (line.Accepted u) = marks-leave (is_late (ticket w.desk u).stage) u
  aborts-leave (line.Refused r) = record { reports = refl; had = λ t i. i }

  device-leave : (idle : Bool) (target : ℕ) → Leaves w (device_resets idle w target).world
  device-leave true target = record { reports = refl; had = λ t i. i }
  device-leave false target = same

  bus-leave : (x : Stop) → Leaves w (bus_resets x w).world
  bus-leave stop.Run = record { reports = refl; had = λ t i. i }
  bus-leave stop.Mismatch = same
  bus-leave stop.Clear = same
  bus-leave stop.MustReset = record { reports = refl; had = λ t i. i }

  acts-leave : (k : ActKind) → Leaves w (acts_by w k).world
  acts-leave (Abort l) = aborts-leave (decided w l)
  acts-leave (Device target) = device-leave (front w == FRONT_IDLE) target
  acts-leave Bus = bus-leave w.stop

  acted-leaves : (o : Option Act) (new : World) (answer : Reply) → ActsOf o w answer new → Leaves w new
  acted-leaves None new answer d = absurd d
  acted-leaves (Some a) new answer d = of-made _ new d.1 (acts-leave a.kind)

  fixed-leaves : (new : World) → Fixes w new → Leaves w new
  fixed-leaves new (inl r) = of-made _ new r.world (record { reports = refl; had = λ t i. i })
  fixed-leaves new (inr r) = of-made _ new r.1 (record { reports = refl; had = λ t i. i })

  refuses-leave : (again : Bool) (l : Line) (r : Refused) → Leaves w (refuses again w l r)
  refuses-leave true l r = same
  refuses-leave false l r = record { reports = refl; had = λ t i. i }

  builds-by : (new : World) (l : Line) (c : Command) (answer : Reply) → BuildsBy w l c answer new → Leaves w new
  builds-by new l c (reply.Built u) d = record {
    reports = ap (λ (x : World). x.reports) d.world;
    had = subst (HadIt w.desk.tickets) (sym (ap (λ (x : DeskState). x.tickets) d.builds.desk)) (more-had w.desk.tickets (new_ticket w.desk l (plain c.request) d.builds.chunks) (λ i. i));
  }
  builds-by new l c (reply.Refused r) d = of-made _ new d.1 (refuses-leave (is_tried_again c.when_full r) l r)
  builds-by new l c _ d = absurd d

  builds-of : (o : Option Command) (new : World) (l : Line) (answer : Reply) → BuildsOf o w l answer new → Leaves w new
  builds-of None new l answer d = absurd d
  builds-of (Some c) new l answer d = builds-by new l c answer d

  takes-none : (o : Option ℕ) (new : World) (answer : Reply) → TakesOf o w answer new → new.reports ≡ w.reports
  takes-none None new answer d = absurd d
  takes-none (Some u) new answer d = ap (λ (x : World). x.reports) d.1

  -- ---- every step

  plain-leaves : (g : BenchSetting) (new : World) (caller : ℕ) (x : Step) (answer : Reply) → is_ending x ≡ false → is_free x ≡ false → Enabled g w caller x → Does g w caller x answer new → Leaves w new
  plain-leaves g new caller (step.Build l) answer e f may d = builds-of (command_at g l) new l answer d
  plain-leaves g new caller (step.Link u) answer e f may d = of-made _ new d.1 (record { reports = refl; had = set-had w.desk.tickets u _ (λ i. absurd i) })
  plain-leaves g new caller (step.Queue u) answer e f may d =
      of-made _ new d.1 (record { reports = refl; had = set-had w.desk.tickets u (record (ticket w.desk u) { stage = stage.Queued; tries = (ticket w.desk u).tries + 1 }) (λ i. absurd i) })
  plain-leaves g new caller step.Signal answer e f may d = of-made _ new d.1 (record { reports = refl; had = λ t i. i })
  plain-leaves g new caller (step.Chip word) answer e f may d = of-made _ new d.world (record { reports = refl; had = λ t i. i })
  plain-leaves g new caller step.Fix answer e f may d = fixed-leaves new d.1
  plain-leaves g new caller (step.Sweep u) answer e f may d = absurd cc
  plain-leaves g new caller step.Restart answer e f may d = of-made _ new d.1 (record { reports = refl; had = λ t i. i })
  plain-leaves g new caller step.TakeDone answer e f may d = absurd cc
  plain-leaves g new caller (step.Unlink u) answer e f may d = of-made _ new d.1 (record { reports = refl; had = set-had w.desk.tickets u _ (λ i. ended-is (ticket w.desk u).stage may.1) })
  plain-leaves g new caller (step.Free u) answer e f may d = absurd cc
  plain-leaves g new caller (step.Act k) answer e f may d = acted-leaves (slice_get g.acts k) new answer d
  plain-leaves g new caller step.ResetBus answer e f may d = of-made _ new d.1 (record { reports = refl; had = λ t i. i })
  plain-leaves g new caller (step.Sense u) answer e f may d = of-made _ new d.1 (record { reports = refl; had = set-had w.desk.tickets u _ (λ i. absurd i) })

  -- no other step makes a report
  pub no-report : (g : BenchSetting) (new : World) (caller : ℕ) (x : Step) (answer : Reply) → is_free x ≡ false → Enabled g w caller x → Does g w caller x answer new → new.reports ≡ w.reports
  no-report g new caller (step.Sweep u) answer f may d = ap (λ (x : World). x.reports) d.1
  no-report g new caller step.TakeDone answer f may d = takes-none (done_ticket w.memory w.desk) new answer d
  no-report g new caller x answer f may d = (plain-leaves g new caller x answer refl f may d).reports

  -- no other step gives a ticket its outcome
  pub had-outcome : (g : BenchSetting) (new : World) (caller : ℕ) (x : Step) (answer : Reply) → is_ending x ≡ false → Enabled g w caller x → Does g w caller x answer new → (t : ℕ) → IsEndedOrUnlinked (ticket new.desk t).stage → IsEndedOrUnlinked (ticket w.desk t).stage
  had-outcome g new caller (step.Free u) answer e may d =
      subst (λ (ds : DeskState). HadIt w.desk.tickets ds.tickets) (sym d.frees.desk) (set-had w.desk.tickets u (record (ticket w.desk u) { stage = stage.Freed }) (λ i. absurd i))
  had-outcome g new caller x answer e may d = (plain-leaves g new caller x answer e refl may d).had
