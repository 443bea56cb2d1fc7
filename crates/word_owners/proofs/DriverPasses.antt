-- A step of the driver leaves the words of work that the chip has passed, or the chip is called.
use Rattle.std.proofs.Common.{◌≡◌, inl, inr, ℕ, ◌+◌, ◌<◌, ◌==◌, List, length, Bool, true, false, refl, sym, ap, subst, ◌∙◌, arith, lit<, Option, Some, None, get_or-set_same}
use Rattle.std.specs.Prelude.{slice_get, slice_index_or}
use Rattle.std.proofs.lemmas.Bool.{and_parts, false≢true}
use Rattle.std.proofs.lemmas.Bool.Decides.{nat_tests}
use Rattle.bench_words.specs.Memory.{word_at}
use Rattle.bench_words.proofs.MemoryLaws.{wrote-put_word}
use Rattle.host_map.specs.declared.TheConstants.{RINGP, IDLE, FRONT_IDLE}
use Rattle.rig_types.specs.declared.rig.Unit.{Unit as RigUnit}
use Rattle.rig_types.specs.declared.acts.Act.{Act}
use Rattle.rig_types.specs.declared.acts.ActKind.{ActKind}
use Rattle.rig_types.specs.declared.acts.ActKind.TheVariants.{Abort, Device, Bus}
use Rattle.rig_types.specs.declared.step.Step.{Step}
use Rattle.rig_types.specs.declared.step.Step.TheVariants as step
use Rattle.abort_reset.proofs.PatchLaws.{marked_is}
use Rattle.abort_reset.specs.Patches.{marked}
use Rattle.tag_tables.proofs.TagLaws.{linked_wrote, unlinked_wrote}
use Rattle.desk_law.specs.declared.stage.Stage.{Stage}
use Rattle.desk_law.specs.declared.stage.Stage.TheVariants as stage
use Rattle.desk_law.specs.Desk.{DeskState, ticket, due, owed, aborter, reaper}
use Rattle.desk_law.specs.Rings.{done_ticket}
use Rattle.desk_law.specs.Calls.{links, link_memory, unlinks, unlink_memory, in_ring, queue_caller, staged}
use Rattle.world_law.specs.Acts.{ActsOf, acts_by, aborts, marks, device_resets, bus_resets, is_late}
use Rattle.world_law.specs.Enabling.{Enabled, IsEnded, MayQueue}
use Rattle.world_law.specs.Repairs.{Fixes}
use Rattle.world_law.specs.Resets.{sweeps, restarts}
use Rattle.world_law.specs.Steps.{Does, FreesTicket, TakesOf, taken as with_taken}
use Rattle.world_law.specs.Stops.{to_sweep, is_clear, in_tail}
use Rattle.world_law.specs.World.{BenchSetting, World, decided, front}
use Rattle.world_law.specs.declared.reply.Decided.{Decided}
use Rattle.world_law.specs.declared.reply.Decided.TheVariants as line
use Rattle.world_law.specs.declared.reply.Reply.{Reply}
use Rattle.world_law.specs.declared.reply.Stop.{Stop}
use Rattle.world_law.specs.declared.reply.Stop.TheVariants as stop
use Rattle.word_owners.specs.Callers.{HasCallers}
use Rattle.word_owners.specs.Tickets.{IsLive}
use Rattle.word_owners.specs.Points.{Point, about}
use Rattle.word_owners.specs.Parts.{Counts}
use Rattle.word_owners.specs.Holds.{Spot, Holds, Running, Mismatched, NotData, Fixed, TimedOut, JobOver, ResetAt, Broken}
use Rattle.word_owners.specs.Laws.{restart_point}
use Rattle.word_owners.specs.Wake.{passed_slot, passed_front, IsCalled}
use Rattle.word_owners.proofs.DriverSteps.{is_driven}
use Rattle.word_owners.proofs.Frames.{Same}
use Rattle.word_owners.proofs.KeptDesks.{alive-at}
use Rattle.word_owners.proofs.NextPlaces.{IsBeside}
use Rattle.word_owners.proofs.Patches.{few, ended-live}
use Rattle.word_owners.proofs.Restarts.{restart_holds}
use Rattle.word_owners.proofs.WakeSteps.{PassesIdle, late-passes, stopped-passes}

-- ---- what a step leaves

-- the words from FRONT up to the end of the start ring, what the chip reads next, and whether it is called
pub record SameWork (w new : World) : Type 0 where
  pub words : Same (word_at w.memory) (word_at new.memory) 0x1000 0x3000
  pub stop : new.stop ≡ w.stop
  pub dsp : new.regs.dsp ≡ w.regs.dsp
  pub dsa : new.regs.dsa ≡ w.regs.dsa
  pub temp : new.regs.temp ≡ w.regs.temp
  pub called : IsCalled w → IsCalled new

same-test : (f : (dsp dsa temp : ℕ) → Bool) (w new : World) → SameWork w new → f new.regs.dsp new.regs.dsa new.regs.temp ≡ true → f w.regs.dsp w.regs.dsa w.regs.temp ≡ true
same-test f w new s e =
    ap (λ (i : ℕ). f i w.regs.dsa w.regs.temp) (sym s.dsp) ∙ ap (λ (i : ℕ). f new.regs.dsp i w.regs.temp) (sym s.dsa) ∙ ap (λ (i : ℕ). f new.regs.dsp new.regs.dsa i) (sym s.temp) ∙ e

pub same-passes : (version : ℕ) (units : List RigUnit) (s : Spot) (c : Counts) (w new : World) → Holds version units s c w → SameWork w new → PassesIdle w → PassesIdle new
same-passes version units s c w new h x i =
    let v = word_at w.memory in
    let n = word_at new.memory in
    let ringp : n RINGP ≡ v RINGP = x.words 0x1004 (omega arith) (omega arith) in
    let slot : n (v RINGP) ≡ v (v RINGP) = x.words (v RINGP) (omega (arith, h.parts.ringp)) (omega (arith, h.parts.ringp)) in
    record {
      front = λ r e. elim (i.front (sym x.stop ∙ r) (same-test passed_front w new x e)) [ inl k ↦ inl (x.words 0x1000 (omega arith) (omega arith) ∙ k) | inr k ↦ inr (x.called k) ];
      slot = λ r e. elim (i.slot (sym x.stop ∙ r) (same-test passed_slot w new x e)) [ inl k ↦ inl (ap n ringp ∙ slot ∙ k) | inr k ↦ inr (x.called k) ];
    }

-- the chip is called
pub called-passes : (w : World) → IsCalled w → PassesIdle w
called-passes w x = record { front = λ r e. inr x; slot = λ r e. inr x }

-- a signal is due of a caller of the bench
pub owed-due : (d : DeskState) (caller : ℕ) → caller < length d.due → 0 < due (owed d caller) caller
owed-due d caller l = let z = get_or-set_same d.due caller (due d caller + 1) 0 l in omega (arith, z)

-- ---- each step

of-made : (made new : World) → new ≡ made → PassesIdle made → PassesIdle new
of-made made new e h = subst PassesIdle (sym e) h

not-clear : (w : World) → is_clear w.stop ≡ true → w.stop ≡ stop.Clear
not-clear w e = by w.stop refl e
  where
    by : (x : Stop) → w.stop ≡ x → is_clear x ≡ true → w.stop ≡ stop.Clear
    by stop.Clear f z = f
    by stop.Run f z = absurd cc
    by stop.Mismatch f z = absurd cc
    by stop.MustReset f z = absurd cc

tail-beside : (place : ℕ) → in_tail place ≡ true → IsBeside place
tail-beside place e = inr (grind (arith, nat_tests, e))

restart-late : (version : ℕ) (units : List RigUnit) (s : Spot) (c : Counts) (w : World) → Holds version units s c w → IsBeside (about (restart_point s)).place
restart-late version units (Fixed t) c w h = inr (omega arith)
restart-late version units (TimedOut t) c w h = inr (omega arith)
restart-late version units (ResetAt p) c w h = elim h.stays.3 [ inl e ↦ tail-beside (about p).place e | inr e ↦ subst (λ (q : Point). IsBeside (about q).place) (sym e) (inl (omega arith)) ]
restart-late version units (Running p) c w h = inl (omega arith)
restart-late version units (Mismatched t x left) c w h = inl (omega arith)
restart-late version units NotData c w h = inl (omega arith)
restart-late version units JobOver c w h = inl (omega arith)
restart-late version units Broken c w h = inl (omega arith)

module _ (version : ℕ) (units : List RigUnit) (n : ℕ) (s : Spot) (c : Counts) (w : World) (h : Holds version units s c w) (callers : HasCallers n w.desk) (i : PassesIdle w) where
  same-one : (new : World) → SameWork w new → PassesIdle new
  same-one new x = same-passes version units s c w new h x i

  link-same : (t : ℕ) → (ticket w.desk t).stage ≡ stage.Built → SameWork w (record w { memory = link_memory w.desk t w.memory; desk = links w.desk t })
  link-same t b =
      let live : IsLive (ticket w.desk t).stage = λ e. (let z : stage.Built ≡ stage.Freed = sym b ∙ e in absurd cc) in
      let u : (ticket w.desk t).unit < 16 = omega (arith, h.tickets.unit t live, few version units s c w t h) in
      let r = linked_wrote w.memory (ticket w.desk t).unit (ticket w.desk t).tag (ticket w.desk t).block h.size u (h.tickets.tag t live) (omega (arith, (h.tickets.block t live).below)) in
      record { words = λ x f l. r.other x (omega arith); stop = refl; dsp = refl; dsa = refl; temp = refl; called = λ x. x }

  unlink-same : (t : ℕ) → IsEnded (ticket w.desk t).stage → SameWork w (record w { memory = unlink_memory w.desk t w.memory; desk = unlinks w.desk t })
  unlink-same t b =
      let live = ended-live (ticket w.desk t).stage b in
      let u : (ticket w.desk t).unit < 16 = omega (arith, h.tickets.unit t live, few version units s c w t h) in
      let r = unlinked_wrote w.memory (ticket w.desk t).unit (ticket w.desk t).tag h.size u (h.tickets.tag t live) in
      record { words = λ x f l. r.other x (omega arith); stop = refl; dsp = refl; dsa = refl; temp = refl; called = λ x. x }

  take-same : (t : ℕ) → SameWork w (with_taken w t)
  take-same t =
      let r = wrote-put_word w.memory w.desk.take IDLE (omega (arith, h.size, h.take)) (lit< tt) in
      record { words = λ x f l. r.other x (omega (arith, h.take)); stop = refl; dsp = refl; dsa = refl; temp = refl; called = λ x. x }

  free-same : (t : ℕ) (new : World) (answer : Reply) → FreesTicket w t answer new → SameWork w new
  free-same t new answer d = record {
    words = λ x f l. ap (λ (v : World). word_at v.memory x) d.world;
    stop = ap (λ (v : World). v.stop) d.world;
    dsp = ap (λ (v : World). v.regs.dsp) d.world;
    dsa = ap (λ (v : World). v.regs.dsa) d.world;
    temp = ap (λ (v : World). v.regs.temp) d.world;
    called = λ x. elim x [
      | inl y ↦ inl (y.0, subst (λ (ns : List ℕ). 0 < slice_index_or ns y.0 0) (sym (ap (λ (k : DeskState). k.due) d.frees.desk)) y.1)
      | inr y ↦ inr (ap (λ (v : World). v.regs.sigp) d.world ∙ y)
    ];
  }

  mark-same : (t : ℕ) (acts : List Reply) → is_late (ticket w.desk t).stage ≡ false → SameWork w (record w { memory = marked w.memory (ticket w.desk t).block; acts = acts })
  mark-same t acts late =
      let live : IsLive (ticket w.desk t).stage = λ e. false≢true (sym late ∙ ap is_late e) in
      let place = h.tickets.block t live in
      let k = marked_is w.memory (ticket w.desk t).block h.size place in
      record { words = λ x f l. k.other x (omega (arith, place.from)) (omega (arith, place.from)); stop = refl; dsp = refl; dsa = refl; temp = refl; called = λ x. x }

  decided-same : (acts : List Reply) → SameWork w (record w { acts = acts })
  decided-same acts = record { words = λ x f l. refl; stop = refl; dsp = refl; dsa = refl; temp = refl; called = λ x. x }

  -- ---- acts

  marks-pass : (late : Bool) (t : ℕ) → is_late (ticket w.desk t).stage ≡ late → PassesIdle (marks late w t).world
  marks-pass true t e = same-one _ (decided-same _)
  marks-pass false t e = same-one _ (mark-same t _ e)

  aborts-pass : (x : Decided) → PassesIdle (aborts w x).world
  aborts-pass line.Open = same-one _ (decided-same _)
  aborts-pass (line.Accepted t) = marks-pass (is_late (ticket w.desk t).stage) t refl
  aborts-pass (line.Refused r) = same-one _ (decided-same _)

  device-pass : (idle : Bool) (target : ℕ) → PassesIdle (device_resets idle w target).world
  device-pass true target = called-passes _ (inl (aborter w.desk, owed-due w.desk (aborter w.desk) (omega (arith, callers.are, callers.counted))))
  device-pass false target = i

  bus-pass : (x : Stop) → PassesIdle (bus_resets x w).world
  bus-pass stop.Run = stopped-passes _ stop.Clear refl (λ e. absurd cc)
  bus-pass stop.Mismatch = i
  bus-pass stop.Clear = i
  bus-pass stop.MustReset = stopped-passes _ stop.Clear refl (λ e. absurd cc)

  acts-pass : (k : ActKind) → PassesIdle (acts_by w k).world
  acts-pass (Abort l) = aborts-pass (decided w l)
  acts-pass (Device target) = device-pass (front w == FRONT_IDLE) target
  acts-pass Bus = bus-pass w.stop

  acted-passes : (o : Option Act) (new : World) (answer : Reply) → ActsOf o w answer new → PassesIdle new
  acted-passes None new answer d = absurd d
  acted-passes (Some a) new answer d = of-made _ new d.1 (acts-pass a.kind)

  -- ---- the steps of the driver

  -- the caller that a Queue owes a signal
  queue-caller : (caller : ℕ) (x : Stage) (t : ℕ) → (ticket w.desk t).stage ≡ x → MayQueue w caller (ticket w.desk t) x → queue_caller x w.desk (ticket w.desk t) < n + 3
  queue-caller caller stage.Linked t e m = let z = callers.submitter t (alive-at (ticket w.desk t) stage.Linked e refl) in omega (arith, z)
  queue-caller caller stage.Again t e m = omega (arith, callers.are)
  queue-caller caller stage.Built t e m = absurd m
  queue-caller caller stage.Queued t e m = absurd m
  queue-caller caller stage.Check t e m = absurd m
  queue-caller caller stage.Sensing t e m = absurd m
  queue-caller caller (stage.Ended o) t e m = absurd m
  queue-caller caller stage.Unlinked t e m = absurd m
  queue-caller caller stage.Freed t e m = absurd m

  takes-pass : (o : Option ℕ) (new : World) (answer : Reply) → TakesOf o w answer new → PassesIdle new
  takes-pass None new answer d = absurd d
  takes-pass (Some t) new answer d = of-made _ new d.1 (same-one _ (take-same t))

  fixed-passes : (new : World) → Fixes w new → PassesIdle new
  fixed-passes new (inl r) = of-made _ new r.world (stopped-passes _ stop.Clear refl (λ e. absurd cc))
  fixed-passes new (inr r) = of-made _ new r.1 (stopped-passes _ stop.MustReset refl (λ e. absurd cc))

  sweep-passes : (t : ℕ) → to_sweep w (ticket w.desk t) ≡ true → PassesIdle (sweeps w t)
  sweep-passes t e = stopped-passes _ stop.Clear (not-clear w (and_parts (is_clear w.stop) _ e).0) (λ f. absurd cc)

  pub driver-passes : (g : BenchSetting) (new : World) (caller : ℕ) (x : Step) (answer : Reply) → is_driven x ≡ true → Enabled g w caller x → Does g w caller x answer new → PassesIdle new
  driver-passes g new caller (step.Build l) answer is may d = absurd cc
  driver-passes g new caller (step.Chip word) answer is may d = absurd cc
  driver-passes g new caller (step.Link t) answer is may d = of-made _ new d.1 (same-one _ (link-same t may.0))
  driver-passes g new caller (step.Queue t) answer is may d =
      let k = ticket w.desk t in
      of-made _ new d.1 (called-passes _ (inl (queue_caller k.stage w.desk k, owed-due (in_ring w.desk t) (queue_caller k.stage w.desk k) (let z = queue-caller caller k.stage t refl may in omega (arith, z, callers.counted)))))
  driver-passes g new caller step.Signal answer is may d = of-made _ new d.1 (called-passes _ (inr refl))
  driver-passes g new caller step.Fix answer is may d = fixed-passes new d.1
  driver-passes g new caller (step.Sweep t) answer is may d = of-made _ new d.1 (sweep-passes t may.1)
  driver-passes g new caller step.Restart answer is may d =
      of-made _ new d.1 (late-passes version units (Running (restart_point s)) c (restarts w) (restart-late version units s c w h) (restart_holds version units s c w may.1 h))
  driver-passes g new caller step.TakeDone answer is may d = takes-pass (done_ticket w.memory w.desk) new answer d
  driver-passes g new caller (step.Unlink t) answer is may d = of-made _ new d.1 (same-one _ (unlink-same t may.1))
  driver-passes g new caller (step.Free t) answer is may d = same-one new (free-same t new answer d)
  driver-passes g new caller (step.Act k) answer is may d = acted-passes (slice_get g.acts k) new answer d
  driver-passes g new caller step.ResetBus answer is may d = of-made _ new d.1 (stopped-passes _ stop.Clear refl (λ e. absurd cc))
  driver-passes g new caller (step.Sense t) answer is may d =
      of-made _ new d.1 (called-passes _ (inl (reaper w.desk, owed-due (staged w.desk t stage.Sensing) (reaper w.desk) (omega (arith, callers.are, callers.counted)))))
