-- A step that lengthens the list is one more entry; one that doesn't was refused, and no moment has its entry.
use Rattle.std.proofs.Common.{arith, ◌≡◌, ◌≢◌, ◌<◌, ◌+◌, ℕ, Bool, true, false, List, [], ◌∷◌, length, refl, sym, ap, subst, ◌∙◌}
use Rattle.std.proofs.lemmas.List.{length-append}
use Rattle.rig_types.specs.declared.step.Entry.{Entry}
use Rattle.world_law.specs.declared.reply.Reply.{Reply}
use Rattle.world_law.specs.declared.reply.Reply.TheVariants as reply
use Rattle.world_law.specs.World.{BenchSetting, World}
use Rattle.world_law.specs.Lines.{drained}
use Rattle.world_law.specs.Enabling.{Enabled}
use Rattle.world_law.specs.Steps.{Does}
use Rattle.world_law.specs.Runs.{Moment, Steps, is_recorded}
use Rattle.world_law.specs.Answers.{Answers, WithinLimit, at_limit, not_now, no_memory, done}
use Rattle.world_law.proofs.OneRun.{does_once}
use Rattle.world_law.proofs.Recorded.{noted}
use Rattle.bench_core.specs.Histories.{History, entered}
use Rattle.replay_run.specs.Making.{MakesStep}

clash : {P : Type 0} (b : Bool) → b ≡ true → b ≡ false → P
clash b t f = let c : true ≡ false = sym t ∙ f in absurd cc

grew : (b : Bool) (es later : List Entry) (e : Entry) → later ≡ entered b es e → length es < length later → b ≡ true
grew true es later e is more = refl
grew false es later e is more = let same : length later ≡ length es = ap length is in absurd (omega (arith, same, more))

stayed : (b : Bool) (es later : List Entry) (e : Entry) → later ≡ entered b es e → (length es < length later → ⊥) → b ≡ false
stayed true es later e is not = let longer : length later ≡ length es + 1 = ap length is ∙ length-append es (e ∷ []) in absurd (not (omega (arith, longer)))
stayed false es later e is not = refl

pub makes : (old new : History) (e : Entry) (a : Reply) → new.setting ≡ old.setting → Answers old.setting (length old.entries) old.world e.caller e.step a new.world
    → new.entries ≡ entered (is_recorded old.setting e.step a) old.entries e → length old.entries < length new.entries → MakesStep e old new
makes old new e a setting answers entries more =
    let m : Moment = record { entry = e; reply = a; after = new.world } in
    let recorded : is_recorded old.setting e.step a ≡ true = grew (is_recorded old.setting e.step a) old.entries new.entries e entries more in
    record {
      setting = setting;
      moment = m;
      is = refl;
      steps = (noted old.setting (length old.entries) old.world m answers).steps recorded;
      entries = entries ∙ ap (λ (b : Bool). entered b old.entries e) recorded;
    }

-- a moment of the entry would be recorded with the same reply
not-made : (g : BenchSetting) (old new : World) (e : Entry) (a : Reply) → Does g old e.caller e.step a new → is_recorded g e.step a ≡ false → (m : Moment) → Steps g old m → m.entry ≢ e
not-made g old new e a does n m steps is =
    let there : Does g old e.caller e.step m.reply m.after = subst (λ (x : Entry). Does g old x.caller x.step m.reply m.after) is steps.does in
    let t : is_recorded g e.step m.reply ≡ true = subst (λ (x : Entry). is_recorded g x.step m.reply ≡ true) is steps.recorded in
    let same : a ≡ m.reply = (does_once g old e.caller e.step a m.reply new m.after does there).0 in
    clash (is_recorded g e.step m.reply) t (ap (λ (x : Reply). is_recorded g e.step x) (sym same) ∙ n)

none_by : (g : BenchSetting) (count : ℕ) (old new : World) (e : Entry) (a : Reply) → WithinLimit g count old → a ≢ reply.OutOfMemory → Answers g count old e.caller e.step a new
    → is_recorded g e.step a ≡ false → (m : Moment) → Steps g old m → m.entry ≢ e
none_by g count old new e a free w (at_limit full live is same) n m steps i = clash (drained g old) (free full) live
none_by g count old new e a free w (not_now within not is same) n m steps i = not (subst (λ (x : Entry). Enabled g old x.caller x.step) i steps.enabled)
none_by g count old new e a free w (no_memory within may want is same) n m steps i = w is
none_by g count old new e a free w (done within may does) n m steps i = not-made g old new e a does n m steps i

pub refused : (old new : History) (e : Entry) (a : Reply) → WithinLimit old.setting (length old.entries) old.world → a ≢ reply.OutOfMemory
    → Answers old.setting (length old.entries) old.world e.caller e.step a new.world → new.entries ≡ entered (is_recorded old.setting e.step a) old.entries e
    → (length old.entries < length new.entries → ⊥) → (m : Moment) → Steps old.setting old.world m → m.entry ≢ e
refused old new e a free w answers entries not m steps i =
    none_by old.setting (length old.entries) old.world new.world e a free w answers (stayed (is_recorded old.setting e.step a) old.entries new.entries e entries not) m steps i
