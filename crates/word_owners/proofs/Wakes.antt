-- The wake rule in every world of a run.
use Rattle.std.proofs.Common.{◌≡◌, ◌⊎◌, inl, inr, ℕ, ◌+◌, ◌<◌, ◌≤◌, List, length, [], ◌∷◌, Bool, true, false, refl, sym, ap, subst, ◌∙◌, arith, Option, Some, None}
use Rattle.std.specs.Prelude.{slice_index_or}
use Rattle.std.proofs.lemmas.List.{length-replicate}
use Rattle.bench_words.specs.Memory.{word_at}
use Rattle.host_map.specs.declared.TheConstants.{RINGP, IDLE, FRONT_IDLE}
use Rattle.rig_types.specs.Ranges.{IsRig}
use Rattle.rig_types.specs.declared.commands.Command.{Command}
use Rattle.rig_types.specs.declared.rig.Unit.{Unit as RigUnit}
use Rattle.rig_types.specs.declared.step.Line.{Line}
use Rattle.rig_types.specs.declared.step.Step.{Step}
use Rattle.rig_types.specs.declared.step.Step.TheVariants as step
use Rattle.unit_law.specs.Request.{plain}
use Rattle.desk_law.specs.declared.refused.Refused.{Refused}
use Rattle.desk_law.specs.Desk.{DeskState}
use Rattle.world_law.specs.Builds.{Accepts, BuildsBy, BuildsOf, refuses, is_tried_again}
use Rattle.world_law.specs.Enabling.{Enabled}
use Rattle.world_law.specs.Opening.{opened}
use Rattle.world_law.specs.Runs.{Moment, IsRun, last}
use Rattle.world_law.specs.Steps.{Does}
use Rattle.world_law.specs.World.{BenchSetting, IsBenchSetting, World, command_at, front}
use Rattle.world_law.specs.declared.reply.Reply.{Reply}
use Rattle.world_law.specs.declared.reply.Reply.TheVariants as reply
use Rattle.world_law.specs.declared.reply.Stop.{Stop}
use Rattle.world_law.specs.declared.reply.Stop.TheVariants as stop
use Rattle.word_owners.specs.Additions.{AddsTicket}
use Rattle.word_owners.specs.Builds.{IsOfBytes}
use Rattle.word_owners.specs.Callers.{HasCallers}
use Rattle.word_owners.specs.Holds.{Running}
use Rattle.word_owners.specs.Laws.{no_counts}
use Rattle.word_owners.specs.Points.{At000}
use Rattle.word_owners.specs.Tickets.{IsLive, tickets_of, block_of}
use Rattle.word_owners.specs.Wake.{passed_slot, passed_front, IsCalled, IsWoken, Wakes, RunsWake}
use Rattle.word_owners.specs.Worlds.{HasBytes}
use Rattle.desk_law.specs.declared.stage.Stage.TheVariants as stage
use Rattle.word_owners.proofs.AllSteps.{chip_steps_hold}
use Rattle.word_owners.proofs.BuiltMemory.{build_adds}
use Rattle.word_owners.proofs.Callers.{callers_kept}
use Rattle.word_owners.proofs.DriverPasses.{SameWork, same-passes, driver-passes}
use Rattle.word_owners.proofs.Opening.{holds_opened}
use Rattle.word_owners.proofs.RunningChip.{running}
use Rattle.word_owners.proofs.WakeSteps.{PassesIdle, late-passes, chip-passes}
use Rattle.word_owners.proofs.Worlds.{Whole, each-step, opening-whole}

-- ---- what the rule says

woken : (w : World) (x : Stop) (b passed : Bool) (P : Type 0) → w.stop ≡ x → passed ≡ b → (w.stop ≡ stop.Run → passed ≡ true → P ⊎ IsCalled w) → (P → ⊥) → IsWoken w passed
woken w stop.Run true passed P e f h miss = elim (h e f) [ inl p ↦ absurd (miss p) | inr k ↦ inl k ]
woken w stop.Run false passed P e f h miss = inr (inr f)
woken w stop.Mismatch b passed P e f h miss = inr (inl (λ z. let y : stop.Mismatch ≡ stop.Run = sym e ∙ z in absurd cc))
woken w stop.Clear b passed P e f h miss = inr (inl (λ z. let y : stop.Clear ≡ stop.Run = sym e ∙ z in absurd cc))
woken w stop.MustReset b passed P e f h miss = inr (inl (λ z. let y : stop.MustReset ≡ stop.Run = sym e ∙ z in absurd cc))

pub passes-wake : (w : World) → PassesIdle w → Wakes w
passes-wake w h = record {
  front = λ busy. woken w w.stop (passed_front w.regs.dsp w.regs.dsa w.regs.temp) (passed_front w.regs.dsp w.regs.dsa w.regs.temp) (front w ≡ FRONT_IDLE) refl refl h.front busy;
  slot = λ busy. woken w w.stop (passed_slot w.regs.dsp w.regs.dsa w.regs.temp) (passed_slot w.regs.dsp w.regs.dsa w.regs.temp) (word_at w.memory (word_at w.memory RINGP) ≡ IDLE) refl refl h.slot busy;
}

-- ---- each step

-- a world that is owned, with its callers, in which passed words are idle
record Kept (g : BenchSetting) (w : World) : Type 0 where
  whole : Whole g w
  callers : HasCallers (length g.submitters) w.desk
  passes : PassesIdle w

module _ (g : BenchSetting) (setting : IsBenchSetting g) (bytes : HasBytes g) where
  accepted-same : (w new : World) (l : Line) (c : Command) (t : ℕ) → IsOfBytes (plain c.request) → Accepts w l (plain c.request) t new → Whole g w → SameWork w new
  accepted-same w new l c t fit a o =
      let h = o.owned.holds in
      let rig : IsRig w.desk.version w.desk.units g.retries g.step_limit = subst (λ (v : ℕ). IsRig v w.desk.units g.retries g.step_limit) (sym h.version_is) (subst (λ (us : List RigUnit). IsRig g.version us g.retries g.step_limit) (sym h.units_are) setting.rig) in
      let adds : AddsTicket w new.memory new.desk t = build_adds g.retries g.step_limit w new.desk new.memory l (plain c.request) t rig fit h.size h.bytes h.checked (record { tickets = h.tickets; depths = o.places.depths; space = o.places.space }) a.builds in
      let live : IsLive ((tickets_of new.desk).stage t) = λ e. (let z : stage.Built ≡ stage.Freed = sym adds.added.stage ∙ e in absurd cc) in
      let from : 0x10000 ≤ block_of (tickets_of new.desk) t = (adds.added.tickets.block t live).from in
      record {
        words = λ x f k. adds.added.outside x (omega (arith, k)) (omega (arith, k, from));
        stop = ap (λ (v : World). v.stop) a.world;
        dsp = ap (λ (v : World). v.regs.dsp) a.world;
        dsa = ap (λ (v : World). v.regs.dsa) a.world;
        temp = ap (λ (v : World). v.regs.temp) a.world;
        called = λ x. elim x [
          | inl y ↦ inl (y.0, subst (λ (ns : List ℕ). 0 < slice_index_or ns y.0 0) (sym (ap (λ (k : DeskState). k.due) a.builds.desk)) y.1)
          | inr y ↦ inr (ap (λ (v : World). v.regs.sigp) a.world ∙ y)
        ];
      }

  refused-passes : (again : Bool) (w : World) (l : Line) (r : Refused) → PassesIdle w → PassesIdle (refuses again w l r)
  refused-passes true w l r i = i
  refused-passes false w l r i = record { front = i.front; slot = i.slot }

  built-passes : (w new : World) (l : Line) (c : Command) (answer : Reply) → IsOfBytes (plain c.request) → BuildsBy w l c answer new → Whole g w → PassesIdle w → PassesIdle new
  built-passes w new l c (reply.Built t) fit d o i = same-passes g.version g.units o.owned.spot o.owned.counts w new o.owned.holds (accepted-same w new l c t fit d o) i
  built-passes w new l c (reply.Refused r) fit d o i = subst PassesIdle (sym d.1) (refused-passes (is_tried_again c.when_full r) w l r i)
  built-passes w new l c _ fit d o i = absurd d

  build-passes : (w new : World) (l : Line) (k : Option Command) (answer : Reply) → command_at g l ≡ k → BuildsOf k w l answer new → Whole g w → PassesIdle w → PassesIdle new
  build-passes w new l None answer e d o i = absurd d
  build-passes w new l (Some c) answer e d o i = built-passes w new l c answer (bytes l c e) d o i

  step-passes : (w new : World) (caller : ℕ) (s : Step) (answer : Reply) → Enabled g w caller s → Does g w caller s answer new → Kept g w → PassesIdle new
  step-passes w new caller (step.Build l) answer may d k = build-passes w new l (command_at g l) answer refl d k.whole k.passes
  step-passes w new caller (step.Chip word) answer may d k =
      let o = k.whole.owned in
      let at = running g.version g.units o.spot o.counts w may.1 o.holds in
      let x = chip_steps_hold g.version g.units at.0 o.counts w new word answer o.answering d at.1 in
      chip-passes g.version g.units at.0 x.spot o.counts x.counts w new word answer x.is d at.1 x.holds k.passes
  step-passes w new caller (step.Link t) answer may d k = let o = k.whole.owned in driver-passes g.version g.units (length g.submitters) o.spot o.counts w o.holds k.callers k.passes g new caller (step.Link t) answer refl may d
  step-passes w new caller (step.Queue t) answer may d k = let o = k.whole.owned in driver-passes g.version g.units (length g.submitters) o.spot o.counts w o.holds k.callers k.passes g new caller (step.Queue t) answer refl may d
  step-passes w new caller step.Signal answer may d k = let o = k.whole.owned in driver-passes g.version g.units (length g.submitters) o.spot o.counts w o.holds k.callers k.passes g new caller step.Signal answer refl may d
  step-passes w new caller step.Fix answer may d k = let o = k.whole.owned in driver-passes g.version g.units (length g.submitters) o.spot o.counts w o.holds k.callers k.passes g new caller step.Fix answer refl may d
  step-passes w new caller (step.Sweep t) answer may d k = let o = k.whole.owned in driver-passes g.version g.units (length g.submitters) o.spot o.counts w o.holds k.callers k.passes g new caller (step.Sweep t) answer refl may d
  step-passes w new caller step.Restart answer may d k = let o = k.whole.owned in driver-passes g.version g.units (length g.submitters) o.spot o.counts w o.holds k.callers k.passes g new caller step.Restart answer refl may d
  step-passes w new caller step.TakeDone answer may d k = let o = k.whole.owned in driver-passes g.version g.units (length g.submitters) o.spot o.counts w o.holds k.callers k.passes g new caller step.TakeDone answer refl may d
  step-passes w new caller (step.Unlink t) answer may d k = let o = k.whole.owned in driver-passes g.version g.units (length g.submitters) o.spot o.counts w o.holds k.callers k.passes g new caller (step.Unlink t) answer refl may d
  step-passes w new caller (step.Free t) answer may d k = let o = k.whole.owned in driver-passes g.version g.units (length g.submitters) o.spot o.counts w o.holds k.callers k.passes g new caller (step.Free t) answer refl may d
  step-passes w new caller (step.Act j) answer may d k = let o = k.whole.owned in driver-passes g.version g.units (length g.submitters) o.spot o.counts w o.holds k.callers k.passes g new caller (step.Act j) answer refl may d
  step-passes w new caller step.ResetBus answer may d k = let o = k.whole.owned in driver-passes g.version g.units (length g.submitters) o.spot o.counts w o.holds k.callers k.passes g new caller step.ResetBus answer refl may d
  step-passes w new caller (step.Sense t) answer may d k = let o = k.whole.owned in driver-passes g.version g.units (length g.submitters) o.spot o.counts w o.holds k.callers k.passes g new caller (step.Sense t) answer refl may d

  runs-kept : (w : World) (ms : List Moment) → IsRun g w ms → Kept g w → Kept g (last w ms)
  runs-kept w [] r k = k
  runs-kept w (m ∷ ms) r k = runs-kept m.after ms r.1 (record {
    whole = each-step g setting bytes w m.after m.entry.caller m.entry.step m.reply r.0.enabled r.0.does k.whole;
    callers = callers_kept g w m.entry.caller m.entry.step m.reply m.after r.0.enabled r.0.does k.callers;
    passes = step-passes w m.after m.entry.caller m.entry.step m.reply r.0.enabled r.0.does k;
  })

  opening-kept : Kept g (opened g)
  opening-kept = record {
    whole = opening-whole g setting bytes;
    callers = record { are = refl; counted = length-replicate (length g.submitters + 3) 0; submitter = λ t l. absurd cc };
    passes = late-passes g.version g.units (Running At000) no_counts (opened g) (inl (omega arith)) (holds_opened g setting.rig.few_units);
  }

pub wake : RunsWake
wake g setting bytes ms r = passes-wake (last (opened g) ms) (runs-kept g setting bytes (opened g) ms r (opening-kept g setting bytes)).passes
