-- A step that is made is answered neither NotNow nor StepLimit nor OutOfMemory. So what a seat is told by these is so.
use Rattle.std.proofs.Common.{◌≡◌, ℕ, Bool, true, false, List, length, Option, Some, None, slice_get, refl, sym, ap, subst, ◌∙◌}
use Rattle.rig_types.specs.declared.commands.Command.{Command}
use Rattle.rig_types.specs.declared.acts.Act.{Act}
use Rattle.rig_types.specs.declared.acts.ActKind.{ActKind}
use Rattle.rig_types.specs.declared.acts.ActKind.TheVariants.{Abort, Device, Bus}
use Rattle.rig_types.specs.declared.step.Line.{Line}
use Rattle.rig_types.specs.declared.step.Step.{Step}
use Rattle.rig_types.specs.declared.step.Step.TheVariants as step
use Rattle.bench_lock.specs.Log.{entry, added}
use Rattle.bench_lock.specs.declared.view.View.{View}
use Rattle.bench_lock.specs.Stepped.{Stepped}
use Rattle.chip_step.specs.declared.outcome.StepEnd.{StepEnd}
use Rattle.chip_step.specs.declared.outcome.StepEnd.TheVariants as ends
use Rattle.desk_law.specs.Desk.{ticket}
use Rattle.desk_law.specs.Rings.{done_ticket}
use Rattle.world_law.specs.declared.reply.Decided.{Decided}
use Rattle.world_law.specs.declared.reply.Decided.TheVariants as line
use Rattle.world_law.specs.declared.reply.Reply.{Reply}
use Rattle.world_law.specs.declared.reply.Reply.TheVariants as reply
use Rattle.world_law.specs.declared.reply.Seen.{Seen}
use Rattle.world_law.specs.declared.reply.Stop.{Stop}
use Rattle.world_law.specs.declared.reply.Stop.TheVariants as stop
use Rattle.world_law.specs.World.{BenchSetting, World, command_at, decided}
use Rattle.world_law.specs.Lines.{drained}
use Rattle.world_law.specs.Seeing.{seen}
use Rattle.world_law.specs.ChipSteps.{reply_for}
use Rattle.world_law.specs.Builds.{BuildsBy, BuildsOf}
use Rattle.world_law.specs.Acts.{is_late, marks, aborts, device_resets, bus_resets, acts_by, ActsOf}
use Rattle.world_law.specs.Steps.{TakesOf, Does}
use Rattle.world_law.specs.Runs.{is_recorded, decides_line}
use Rattle.world_law.specs.Answers.{Answers, at_limit, not_now, no_memory, done}
use Rattle.seat_law.specs.Worlds.{LeadsTo, Allows}
use Rattle.seat_law.specs.Outcomes.{SeesWorld, SeesFull, SeesDrained}
use Rattle.seat_law.proofs.Answered.{SeatStep, seat_steps, limit-unrecorded}

abbrev is_refusal : Reply → Bool
is_refusal (reply.NotNow s) = true
is_refusal reply.StepLimit = true
is_refusal reply.OutOfMemory = true
is_refusal _ = false

differs : (a b : Reply) → a ≡ b → is_refusal b ≡ false → is_refusal a ≡ true → ⊥
differs a b e n h = let c : true ≡ false = sym h ∙ (ap is_refusal e ∙ n) in absurd cc

-- ---- a step that is made

builds : (c : Command) (old : World) (l : Line) (a : Reply) (new : World) → BuildsBy old l c a new → is_refusal a ≡ true → ⊥
builds c old l (reply.Built t) new m h = absurd cc
builds c old l (reply.Refused r) new m h = absurd cc
builds c old l _ new m h = m

builds-of : (o : Option Command) (old : World) (l : Line) (a : Reply) (new : World) → BuildsOf o old l a new → is_refusal a ≡ true → ⊥
builds-of None old l a new m h = m
builds-of (Some c) old l a new m h = builds c old l a new m h

chip-ends : (end : StepEnd) → is_refusal (reply_for end) ≡ false
chip-ends ends.Idle = refl
chip-ends ends.Ran = refl
chip-ends (ends.Stopped c) = refl

takes : (o : Option ℕ) (old : World) (a : Reply) (new : World) → TakesOf o old a new → is_refusal a ≡ true → ⊥
takes None old a new m h = m
takes (Some t) old a new m h = differs a (reply.Taken t) m.0 refl h

marks-told : (late : Bool) (old : World) (t : ℕ) → is_refusal (marks late old t).answer ≡ false
marks-told true old t = refl
marks-told false old t = refl

aborts-told : (d : Decided) (old : World) → is_refusal (aborts old d).answer ≡ false
aborts-told line.Open old = refl
aborts-told (line.Accepted t) old = marks-told (is_late (ticket old.desk t).stage) old t
aborts-told (line.Refused r) old = refl

fronts-told : (idle : Bool) (old : World) (target : ℕ) → is_refusal (device_resets idle old target).answer ≡ false
fronts-told true old target = refl
fronts-told false old target = refl

bus-told : (s : Stop) (old : World) → is_refusal (bus_resets s old).answer ≡ false
bus-told stop.Run old = refl
bus-told stop.Mismatch old = refl
bus-told stop.Clear old = refl
bus-told stop.MustReset old = refl

acts-told : (k : ActKind) (old : World) → is_refusal (acts_by old k).answer ≡ false
acts-told (Abort l) old = aborts-told (decided old l) old
acts-told (Device target) old = fronts-told _ old target
acts-told Bus old = bus-told old.stop old

acts-of : (o : Option Act) (old : World) (a : Reply) (new : World) → ActsOf o old a new → is_refusal a ≡ true → ⊥
acts-of None old a new m h = m
acts-of (Some x) old a new m h = differs a (acts_by old x.kind).answer m.0 (acts-told x.kind old) h

made-not-refused : (g : BenchSetting) (old : World) (caller : ℕ) (s : Step) (a : Reply) (new : World) → Does g old caller s a new → is_refusal a ≡ true → ⊥
made-not-refused g old caller (step.Build l) a new m h = builds-of (command_at g l) old l a new m h
made-not-refused g old caller (step.Link t) a new m h = differs a reply.Made m.0 refl h
made-not-refused g old caller (step.Queue t) a new m h = differs a reply.Made m.0 refl h
made-not-refused g old caller step.Signal a new m h = differs a reply.Made m.0 refl h
made-not-refused g old caller (step.Chip word) a new m h = differs a (reply_for m.end) m.answer_is (chip-ends m.end) h
made-not-refused g old caller step.Fix a new m h = differs a reply.Made m.0 refl h
made-not-refused g old caller (step.Sweep t) a new m h = differs a reply.Made m.0 refl h
made-not-refused g old caller step.Restart a new m h = differs a reply.Made m.0 refl h
made-not-refused g old caller step.TakeDone a new m h = takes (done_ticket old.memory old.desk) old a new m h
made-not-refused g old caller (step.Unlink t) a new m h = differs a reply.Made m.0 refl h
made-not-refused g old caller (step.Free t) a new m h = differs a reply.Made m.answer_is refl h
made-not-refused g old caller (step.Act k) a new m h = acts-of (slice_get g.acts k) old a new m h
made-not-refused g old caller step.ResetBus a new m h = differs a reply.Started m.0 refl h
made-not-refused g old caller (step.Sense t) a new m h = differs a reply.Made m.0 refl h

-- ---- what is answered is so

same-seen : (a b : Seen) → reply.NotNow a ≡ reply.NotNow b → a ≡ b
same-seen a b e = cc

told-seen : (g : BenchSetting) (count : ℕ) (old : World) (caller : ℕ) (s : Step) (a : Reply) (new : World) (x : Seen) → Answers g count old caller s a new → a ≡ reply.NotNow x → x ≡ seen g old caller s
told-seen g count old caller s a new x (at_limit full live is same) e = let c : reply.NotNow x ≡ reply.StepLimit = sym e ∙ is in absurd cc
told-seen g count old caller s a new x (not_now free not is same) e = same-seen x (seen g old caller s) (sym e ∙ is)
told-seen g count old caller s a new x (no_memory free may want is same) e = let c : reply.NotNow x ≡ reply.OutOfMemory = sym e ∙ is in absurd cc
told-seen g count old caller s a new x (done free may does) e = absurd (made-not-refused g old caller s a new does (ap is_refusal e))

told-full : (g : BenchSetting) (count : ℕ) (old : World) (caller : ℕ) (s : Step) (a : Reply) (new : World) → Answers g count old caller s a new → a ≡ reply.StepLimit → (count ≡ g.step_limit) × (drained g old ≡ false)
told-full g count old caller s a new (at_limit full live is same) e = (full, live)
told-full g count old caller s a new (not_now free not is same) e = let c : reply.StepLimit ≡ reply.NotNow (seen g old caller s) = sym e ∙ is in absurd cc
told-full g count old caller s a new (no_memory free may want is same) e = let c : reply.StepLimit ≡ reply.OutOfMemory = sym e ∙ is in absurd cc
told-full g count old caller s a new (done free may does) e = absurd (made-not-refused g old caller s a new does (ap is_refusal e))

not-now-of : (o : Option Command) (y : Seen) → decides_line o (reply.NotNow y) ≡ false
not-now-of None y = refl
not-now-of (Some c) y = refl

not-now-unrecorded : (g : BenchSetting) (x : Step) (y : Seen) → is_recorded g x (reply.NotNow y) ≡ false
not-now-unrecorded g (step.Build l) y = not-now-of (command_at g l) y
not-now-unrecorded g _ y = refl

-- ---- to a seat

module _ (o g : BenchSetting) (v v2 : View BenchSetting Step) (x : Step) (answer : Reply) (front : ℕ) (knows : SeesWorld v g) (s : Stepped Allows is_recorded o v v2 x answer front) where
  h : SeatStep v g x answer v2
  h = seat_steps o g v v2 x answer front knows.opening s

  pub sees_on : SeesWorld v2 g
  sees_on = record { world = h.new; opening = h.opening; leads = h.leads; own = h.each_once }

  -- a refusal leaves the list
  unlisted : is_recorded g x answer ≡ false → v2.seen ≡ h.before
  unlisted r = h.seen ∙ ap (λ (b : Bool). added h.before b (entry v.caller x)) r

  pub told_drained : (y : Seen) → answer ≡ reply.NotNow y → y.drained ≡ true → SeesDrained v2 g
  told_drained y e d =
      let r : is_recorded g x answer ≡ false = ap (λ (a : Reply). is_recorded g x a) e ∙ not-now-unrecorded g x y in
      record {
        world = h.old;
        opening = h.opening;
        leads = subst (λ (es : List (ℕ × Step)). LeadsTo g es h.old) (sym (unlisted r)) h.leads_old;
        own = h.each_once;
        is_drained = ap (λ (z : Seen). z.drained) (sym (told-seen g (length h.before) h.old v.caller x answer h.new y h.answers e)) ∙ d;
      }

  pub told_full : answer ≡ reply.StepLimit → SeesFull v2 g
  told_full e =
      let r : is_recorded g x answer ≡ false = ap (λ (a : Reply). is_recorded g x a) e ∙ limit-unrecorded g x in
      let t : (length h.before ≡ g.step_limit) × (drained g h.old ≡ false) = told-full g (length h.before) h.old v.caller x answer h.new h.answers e in
      record {
        world = h.old;
        opening = h.opening;
        leads = subst (λ (es : List (ℕ × Step)). LeadsTo g es h.old) (sym (unlisted r)) h.leads_old;
        own = h.each_once;
        full = ap (λ (es : List (ℕ × Step)). length es) (unlisted r) ∙ t.0;
        left = t.1;
      }
