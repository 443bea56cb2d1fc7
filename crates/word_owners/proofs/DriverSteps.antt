-- Each step of the driver but Build keeps the invariant, where it is enabled.
use Rattle.std.proofs.Common.{◌≡◌, ◌⊎◌, inl, inr, ℕ, ◌<◌, List, refl, sym, subst, arith, Bool, true, false, Option, Some, None}
use Rattle.std.specs.Prelude.{◌==◌, slice_get}
use Rattle.std.proofs.lemmas.Bool.Decides.{nat_tests}
use Rattle.std.proofs.lemmas.List.Elements.{All-get_or}
use Rattle.std.proofs.lemmas.Option.{slice_get_within, get_or_from_slice_get}
use Rattle.rig_types.specs.Works.{IsWork, IsAct, counts_of}
use Rattle.rig_types.specs.declared.acts.Act.{Act}
use Rattle.rig_types.specs.declared.acts.ActKind.{ActKind}
use Rattle.rig_types.specs.declared.acts.ActKind.TheVariants.{Abort, Device, Bus}
use Rattle.rig_types.specs.declared.rig.Unit.{Unit as RigUnit}
use Rattle.rig_types.specs.declared.step.Step.{Step}
use Rattle.rig_types.specs.declared.step.Step.TheVariants as step
use Rattle.host_map.specs.declared.TheConstants.{FRONT_IDLE}
use Rattle.desk_law.specs.declared.stage.Stage.{Stage}
use Rattle.desk_law.specs.declared.stage.Stage.TheVariants as stage
use Rattle.desk_law.specs.declared.ticket.Ticket.{Ticket}
use Rattle.desk_law.specs.Desk.{aborter, ticket}
use Rattle.desk_law.specs.Rings.{done_ticket}
use Rattle.world_law.specs.Acts.{is_late, marks, aborts, device_resets, bus_resets, acts_by, ActsOf}
use Rattle.world_law.specs.Repairs.{Fixes}
use Rattle.world_law.specs.Enabling.{Enabled, MayQueue}
use Rattle.world_law.specs.Steps.{Does, TakesOf}
use Rattle.world_law.specs.Stops.{is_done_by}
use Rattle.world_law.specs.World.{BenchSetting, World, decided, front}
use Rattle.world_law.specs.declared.reply.Decided.{Decided}
use Rattle.world_law.specs.declared.reply.Decided.TheVariants as line
use Rattle.world_law.specs.declared.reply.Reply.{Reply}
use Rattle.world_law.specs.declared.reply.Stop.{Stop}
use Rattle.world_law.specs.declared.reply.Stop.TheVariants as stop
use Rattle.word_owners.specs.Answering.{AreAnswering}
use Rattle.word_owners.specs.Parts.{Counts}
use Rattle.word_owners.specs.Holds.{Spot, Holds}
use Rattle.word_owners.specs.BenchSteps.{IsOwned}
use Rattle.word_owners.proofs.SelectionAnswers.{answering-room, answering-reset}
use Rattle.word_owners.proofs.Aborts.{mark_holds}
use Rattle.word_owners.proofs.ChipPlace.{told}
use Rattle.word_owners.proofs.DoneTaken.{take_holds}
use Rattle.word_owners.proofs.Fixes.{fix_holds}
use Rattle.word_owners.proofs.Frees.{free_holds}
use Rattle.word_owners.proofs.FrontWrites.{reset_holds}
use Rattle.word_owners.proofs.Jobs.{job_holds}
use Rattle.word_owners.proofs.Patches.{signal_holds, link_holds, unlink_holds}
use Rattle.word_owners.proofs.Queues.{queue_holds}
use Rattle.word_owners.proofs.Restarts.{restart_holds}
use Rattle.word_owners.proofs.Senses.{sense_holds}
use Rattle.word_owners.proofs.Sweeps.{sweep_holds}

-- the steps of the driver but Build
abbrev pub is_driven : Step → Bool
is_driven (step.Build l) = false
is_driven (step.Chip word) = false
is_driven _ = true

-- the invariant holds at some spot
record Held (version : ℕ) (units : List RigUnit) (w : World) : Type 0 where
  spot : Spot
  counts : Counts
  holds : Holds version units spot counts w

module _ (version : ℕ) (units : List RigUnit) where
  owned : (w new : World) (s : Spot) (c : Counts) → new ≡ w → Holds version units s c w → Held version units new
  owned w new s c e h = record { spot = s; counts = c; holds = subst (Holds version units s c) (sym e) h }

  -- what was answered to the acts is no part of it
  acted : (s : Spot) (c : Counts) (w : World) (acts : List Reply) → Holds version units s c w → Holds version units s c (record w { acts = acts })
  acted s c w acts h = told version units s c w w.lines acts w.reports h

  may-queue : (w : World) (caller : ℕ) (k : Ticket) (x : Stage) → MayQueue w caller k x → (x ≡ stage.Linked) ⊎ (x ≡ stage.Again)
  may-queue w caller k stage.Built m = absurd m
  may-queue w caller k stage.Linked m = inl refl
  may-queue w caller k stage.Queued m = absurd m
  may-queue w caller k stage.Again m = inr refl
  may-queue w caller k stage.Check m = absurd m
  may-queue w caller k stage.Sensing m = absurd m
  may-queue w caller k (stage.Ended o) m = absurd m
  may-queue w caller k stage.Unlinked m = absurd m
  may-queue w caller k stage.Freed m = absurd m

  takes : (o : Option ℕ) (w new : World) (answer : Reply) (s : Spot) (c : Counts) → done_ticket w.memory w.desk ≡ o → is_done_by w o ≡ true → TakesOf o w answer new → Holds version units s c w → Held version units new
  takes None w new answer s c e i d h = absurd d
  takes (Some t) w new answer s c e i d h = owned _ new s _ d.1 (take_holds version units s c w t e i h)

  marking : (late : Bool) (w : World) (t : ℕ) (s : Spot) (c : Counts) → is_late (ticket w.desk t).stage ≡ late → Holds version units s c w → Held version units (marks late w t).world
  marking true w t s c e h = record { spot = s; counts = c; holds = acted s c w _ h }
  marking false w t s c e h = record { spot = s; counts = c; holds = acted s c _ _ (mark_holds version units s c w t h e) }

  aborting : (x : Decided) (w : World) (s : Spot) (c : Counts) → Holds version units s c w → Held version units (aborts w x).world
  aborting line.Open w s c h = record { spot = s; counts = c; holds = acted s c w _ h }
  aborting (line.Accepted t) w s c h = marking (is_late (ticket w.desk t).stage) w t s c refl h
  aborting (line.Refused r) w s c h = record { spot = s; counts = c; holds = acted s c w _ h }

  resetting-device : (idle : Bool) (w : World) (target : ℕ) (s : Spot) (c : Counts) → (front w == FRONT_IDLE) ≡ idle → target < 256 → Holds version units s c w → Held version units (device_resets idle w target).world
  resetting-device true w target s c e l h =
      let z : front w ≡ FRONT_IDLE = grind (arith, nat_tests, e) in
      record { spot = s; counts = c; holds = acted s c _ _ (job_holds version units s c w (aborter w.desk) target z l h) }
  resetting-device false w target s c e l h = record { spot = s; counts = c; holds = h }

  resetting-bus : (x : Stop) (w : World) (s : Spot) (c : Counts) → w.stop ≡ x → Holds version units s c w → Held version units (bus_resets x w).world
  resetting-bus stop.Run w s c e h = record { spot = _; counts = c; holds = acted _ c _ _ (reset_holds version units s c w (inl e) h) }
  resetting-bus stop.Mismatch w s c e h = record { spot = s; counts = c; holds = h }
  resetting-bus stop.Clear w s c e h = record { spot = s; counts = c; holds = h }
  resetting-bus stop.MustReset w s c e h = record { spot = _; counts = c; holds = acted _ c _ _ (reset_holds version units s c w (inr e) h) }

  acts-kind : (k : ActKind) (w : World) (s : Spot) (c : Counts) → ((target : ℕ) → k ≡ Device target → target < 256) → Holds version units s c w → Held version units (acts_by w k).world
  acts-kind (Abort l) w s c i h = aborting (decided w l) w s c h
  acts-kind (Device target) w s c i h = resetting-device (front w == FRONT_IDLE) w target s c refl (i target refl) h
  acts-kind Bus w s c i h = resetting-bus w.stop w s c refl h

  acts-of : (g : BenchSetting) (k : ℕ) (o : Option Act) (w new : World) (answer : Reply) (s : Spot) (c : Counts) → IsWork g.submitters g.acts → slice_get g.acts k ≡ o → ActsOf o w answer new → Holds version units s c w → Held version units new
  acts-of g k None w new answer s c work e d h = absurd d
  acts-of g k (Some a) w new answer s c work e d h =
      let there : IsAct (counts_of g.submitters) a =
      subst (IsAct (counts_of g.submitters)) (get_or_from_slice_get g.acts k a a e) (All-get_or (IsAct (counts_of g.submitters)) g.acts k a (slice_get_within g.acts k a e) work.each_act) in
      subst (Held version units) (sym d.1) (acts-kind a.kind w s c (λ target i. let l = there.device target i in omega (arith, l)) h)

held : (g : BenchSetting) (version : ℕ) (units : List RigUnit) (w new : World) (caller : ℕ) (s : Step) (answer : Reply) → IsWork g.submitters g.acts → is_driven s ≡ true → Enabled g w caller s → Does g w caller s answer new
    → Held version units w → Held version units new
held g version units w new caller (step.Build l) answer work is may d o = absurd cc
held g version units w new caller (step.Link t) answer work is may d o = owned version units _ new o.spot o.counts d.1 (link_holds version units o.spot o.counts w t o.holds may.0)
held g version units w new caller (step.Queue t) answer work is may d o =
    owned version units _ new o.spot _ d.1 (queue_holds version units o.spot o.counts w t o.holds (may-queue version units w caller (ticket w.desk t) (ticket w.desk t).stage may))
held g version units w new caller step.Signal answer work is may d o = owned version units _ new o.spot o.counts d.1 (signal_holds version units o.spot o.counts w caller o.holds)
held g version units w new caller (step.Chip word) answer work is may d o = absurd cc
held g version units w new caller step.Fix answer work is may d o = record { spot = _; counts = o.counts; holds = fix_holds version units o.spot o.counts w new may.1 d.1 o.holds }
held g version units w new caller (step.Sweep t) answer work is may d o = owned version units _ new o.spot o.counts d.1 (sweep_holds version units o.spot o.counts w t o.holds may.1)
held g version units w new caller step.Restart answer work is may d o = owned version units _ new _ o.counts d.1 (restart_holds version units o.spot o.counts w may.1 o.holds)
held g version units w new caller step.TakeDone answer work is may d o = takes version units (done_ticket w.memory w.desk) w new answer o.spot o.counts refl may.1 d o.holds
held g version units w new caller (step.Unlink t) answer work is may d o = owned version units _ new o.spot o.counts d.1 (unlink_holds version units o.spot o.counts w t o.holds may.1)
held g version units w new caller (step.Free t) answer work is may d o = record { spot = o.spot; counts = o.counts; holds = free_holds version units o.spot o.counts w new t answer may.1 d o.holds }
held g version units w new caller (step.Act k) answer work is may d o = acts-of version units g k (slice_get g.acts k) w new answer o.spot o.counts work refl d o.holds
held g version units w new caller step.ResetBus answer work is may d o = owned version units _ new _ o.counts d.1 (reset_holds version units o.spot o.counts w (inr may.1) o.holds)
held g version units w new caller (step.Sense t) answer work is may d o =
    owned version units _ new o.spot o.counts d.1 (sense_holds version units o.spot o.counts w t may.1 may.2 may.3 o.holds)

-- ---- the bus

module _ (units : List RigUnit) where
  of-bus : (made new : World) → new ≡ made → AreAnswering units made.bus → AreAnswering units new.bus
  of-bus made new e a = subst (λ (v : World). AreAnswering units v.bus) (sym e) a

  bus-taken : (o : Option ℕ) (w new : World) (answer : Reply) → TakesOf o w answer new → AreAnswering units w.bus → AreAnswering units new.bus
  bus-taken None w new answer d a = absurd d
  bus-taken (Some t) w new answer d a = of-bus _ new d.1 a

  bus-marks : (late : Bool) (w : World) (t : ℕ) → AreAnswering units w.bus → AreAnswering units (marks late w t).world.bus
  bus-marks true w t a = a
  bus-marks false w t a = a

  bus-aborts : (x : Decided) (w : World) → AreAnswering units w.bus → AreAnswering units (aborts w x).world.bus
  bus-aborts line.Open w a = a
  bus-aborts (line.Accepted t) w a = bus-marks (is_late (ticket w.desk t).stage) w t a
  bus-aborts (line.Refused r) w a = a

  bus-device : (idle : Bool) (w : World) (target : ℕ) → AreAnswering units w.bus → AreAnswering units (device_resets idle w target).world.bus
  bus-device true w target a = answering-room units w.bus target a
  bus-device false w target a = a

  bus-reset : (x : Stop) (w : World) → AreAnswering units w.bus → AreAnswering units (bus_resets x w).world.bus
  bus-reset stop.Run w a = answering-reset units w.bus a
  bus-reset stop.Mismatch w a = a
  bus-reset stop.Clear w a = a
  bus-reset stop.MustReset w a = answering-reset units w.bus a

  bus-acts : (k : ActKind) (w : World) → AreAnswering units w.bus → AreAnswering units (acts_by w k).world.bus
  bus-acts (Abort l) w a = bus-aborts (decided w l) w a
  bus-acts (Device target) w a = bus-device (front w == FRONT_IDLE) w target a
  bus-acts Bus w a = bus-reset w.stop w a

  bus-acted : (o : Option Act) (w new : World) (answer : Reply) → ActsOf o w answer new → AreAnswering units w.bus → AreAnswering units new.bus
  bus-acted None w new answer d a = absurd d
  bus-acted (Some k) w new answer d a = of-bus _ new d.1 (bus-acts k.kind w a)

  bus-fixed : (w new : World) → Fixes w new → AreAnswering units w.bus → AreAnswering units new.bus
  bus-fixed w new (inl r) a = of-bus _ new r.world a
  bus-fixed w new (inr r) a = of-bus _ new r.1 a

  answering : (g : BenchSetting) (w new : World) (caller : ℕ) (s : Step) (answer : Reply) → is_driven s ≡ true → Does g w caller s answer new → AreAnswering units w.bus → AreAnswering units new.bus
  answering g w new caller (step.Build l) answer is d a = absurd cc
  answering g w new caller (step.Link t) answer is d a = of-bus _ new d.1 a
  answering g w new caller (step.Queue t) answer is d a = of-bus _ new d.1 a
  answering g w new caller step.Signal answer is d a = of-bus _ new d.1 a
  answering g w new caller (step.Chip word) answer is d a = absurd cc
  answering g w new caller step.Fix answer is d a = bus-fixed w new d.1 a
  answering g w new caller (step.Sweep t) answer is d a = of-bus _ new d.1 a
  answering g w new caller step.Restart answer is d a = of-bus _ new d.1 a
  answering g w new caller step.TakeDone answer is d a = bus-taken (done_ticket w.memory w.desk) w new answer d a
  answering g w new caller (step.Unlink t) answer is d a = of-bus _ new d.1 a
  answering g w new caller (step.Free t) answer is d a = of-bus _ new d.world a
  answering g w new caller (step.Act k) answer is d a = bus-acted (slice_get g.acts k) w new answer d a
  answering g w new caller step.ResetBus answer is d a = of-bus _ new d.1 (answering-reset units w.bus a)
  answering g w new caller (step.Sense t) answer is d a = of-bus _ new d.1 a

pub driver_holds : (g : BenchSetting) (version : ℕ) (units : List RigUnit) (w new : World) (caller : ℕ) (s : Step) (answer : Reply) → IsWork g.submitters g.acts → is_driven s ≡ true → Enabled g w caller s → Does g w caller s answer new
    → IsOwned version units w → IsOwned version units new
driver_holds g version units w new caller s answer work is may d o =
    let x : Held version units new = held g version units w new caller s answer work is may d (record { spot = o.spot; counts = o.counts; holds = o.holds }) in
    record { spot = x.spot; counts = x.counts; holds = x.holds; answering = answering units g w new caller s answer is d o.answering }
