-- A turn in which the first enabled step is made, or none is, is that of the serial run.
use Rattle.std.proofs.Common.{arith, ◌≡◌, ◌≢◌, ℕ, ◌==◌, if◌then◌else◌, Bool, true, false, List, [], ◌∷◌, ◌++◌, length, Some, None, refl, sym, ap, subst, ◌∙◌, append-nil}
use Rattle.std.proofs.lemmas.Bool.Decides.{nat_tests}
use Rattle.rig_types.specs.declared.step.Step.{Step}
use Rattle.rig_types.specs.declared.step.Entry.{Entry}
use Rattle.world_law.specs.declared.reply.Reply.{Reply}
use Rattle.world_law.specs.declared.reply.Reply.TheVariants as reply
use Rattle.world_law.specs.World.{BenchSetting, World}
use Rattle.world_law.specs.Lines.{drained}
use Rattle.world_law.specs.Enabling.{Enabled}
use Rattle.world_law.specs.Steps.{Does}
use Rattle.world_law.specs.Runs.{Moment, is_recorded, entries}
use Rattle.world_law.specs.Answers.{Answers, at_limit, not_now, no_memory, done}
use Rattle.world_law.proofs.Drained.{rests}
use Rattle.world_law.proofs.OneRun.{does_once}
use Rattle.world_law.proofs.Recorded.{unrecorded_stays}
use Rattle.run_law.specs.Serial.{tries_of, IsFirst, IsMade, Tries, made, unrecorded, none, is_over, TriesUnless}
use Rattle.bench_core.specs.Histories.{History, entered}
use Rattle.serial_run.specs.Histories.{IsTurn}
use Rattle.serial_run.proofs.Firsts.{first_may}

clash : {P : Type 0} (b : Bool) → b ≡ true → b ≡ false → P
clash b t f = let c : true ≡ false = sym t ∙ f in absurd cc

-- ---- whether the run is over

either-way : (b c : Bool) → c ≡ true → (if b then true else c) ≡ true
either-way true c e = refl
either-way false c e = e

neither-way : (b c : Bool) → (b ≡ true → ⊥) → c ≡ false → (if b then true else c) ≡ false
neither-way true c n e = absurd (n refl)
neither-way false c n e = e

over-full : (g : BenchSetting) (count : ℕ) (w : World) → count ≡ g.step_limit → is_over g count w ≡ true
over-full g count w e = either-way (drained g w) (count == g.step_limit) (equal count g.step_limit e)
  where
    equal : (a b : ℕ) → a ≡ b → a == b ≡ true
    equal a b e = grind (arith, nat_tests, e)

not-over : (g : BenchSetting) (count : ℕ) (w : World) (caller : ℕ) (s : Step) → count ≢ g.step_limit → Enabled g w caller s → is_over g count w ≡ false
not-over g count w caller s n may =
    neither-way (drained g w) (count == g.step_limit) (λ d. rests g w caller s d may) (unequal count g.step_limit n)
  where
    unequal : (a b : ℕ) → a ≢ b → a == b ≡ false
    unequal a b n = grind (arith, nat_tests, n)

-- ---- turns in which nothing is recorded

passed : (caller word : ℕ) (h : History)
    → TriesUnless (is_over h.setting (length h.entries) h.world) h.setting h.world caller (tries_of h.world caller word) [] h.world → IsTurn caller word h h
passed caller word h t = record { setting = refl; moments = []; tries = t; entries = sym (append-nil h.entries) }

unless-over : (over : Bool) (g : BenchSetting) (w : World) (caller : ℕ) (ss : List Step) → over ≡ true → TriesUnless over g w caller ss [] w
unless-over true g w caller ss e = (refl, refl)
unless-over false g w caller ss e = absurd cc

pub turn_over : (caller word : ℕ) (h : History) → length h.entries ≡ h.setting.step_limit → IsTurn caller word h h
turn_over caller word h e =
    passed caller word h (unless-over (is_over h.setting (length h.entries) h.world) h.setting h.world caller (tries_of h.world caller word) (over-full h.setting (length h.entries) h.world e))

unless-none : (over : Bool) (g : BenchSetting) (w : World) (caller : ℕ) (ss : List Step) → IsFirst g w caller ss None → TriesUnless over g w caller ss [] w
unless-none true g w caller ss f = (refl, refl)
unless-none false g w caller ss f = none f

pub turn_none : (caller word : ℕ) (h : History) → IsFirst h.setting h.world caller (tries_of h.world caller word) None → IsTurn caller word h h
turn_none caller word h f =
    passed caller word h (unless-none (is_over h.setting (length h.entries) h.world) h.setting h.world caller (tries_of h.world caller word) f)

-- ---- a step is made

unless-not : (over : Bool) (g : BenchSetting) (old : World) (caller : ℕ) (ss : List Step) (ms : List Moment) (new : World) → over ≡ false → Tries g old caller ss ms new
    → TriesUnless over g old caller ss ms new
unless-not true g old caller ss ms new e t = absurd cc
unless-not false g old caller ss ms new e t = t

abbrev entry_of : (caller : ℕ) → Step → Entry
entry_of caller s = record { caller = caller; step = s }

-- what a step that is done makes of the list, and the moments of the try
record IsTried (g : BenchSetting) (old : World) (caller : ℕ) (ss : List Step) (es : List Entry) (s : Step) (new : World) (later : List Entry) : Type 0 where
  pub moments : List Moment
  pub tries : Tries g old caller ss moments new
  pub entries : later ≡ es ++ entries moments

-- a recorded moment of the step would have this reply
not-made : (g : BenchSetting) (old : World) (caller : ℕ) (s : Step) (a : Reply) (new : World) → Does g old caller s a new → is_recorded g s a ≡ false → (m : Moment)
    → IsMade g old caller s m → ⊥
not-made g old caller s a new does n m h =
    let e : m.entry ≡ entry_of caller s = h.entry in
    let there : Does g old caller s m.reply m.after = subst (λ (x : Entry). Does g old x.caller x.step m.reply m.after) e h.steps.does in
    let t : is_recorded g s m.reply ≡ true = subst (λ (x : Entry). is_recorded g x.step m.reply ≡ true) e h.steps.recorded in
    let same : a ≡ m.reply = (does_once g old caller s a m.reply new m.after does there).0 in
    clash (is_recorded g s m.reply) t (ap (λ (x : Reply). is_recorded g s x) (sym same) ∙ n)

done-tried : (g : BenchSetting) (old : World) (caller : ℕ) (ss : List Step) (es : List Entry) (s : Step) (a : Reply) (new : World) (later : List Entry) → IsFirst g old caller ss (Some s)
    → Does g old caller s a new → later ≡ entered (is_recorded g s a) es (entry_of caller s) → IsTried g old caller ss es s new later
done-tried g old caller ss es s a new later f does e = by (is_recorded g s a) refl
  where
    by : (b : Bool) → is_recorded g s a ≡ b → IsTried g old caller ss es s new later
    by true r =
        let m : Moment = record { entry = entry_of caller s; reply = a; after = new } in
        record {
          moments = m ∷ [];
          tries = made s f m (record { entry = refl; steps = record { enabled = first_may g old caller ss s f; does = does; recorded = r } });
          entries = e ∙ ap (λ (b : Bool). entered b es (entry_of caller s)) r;
        }
    by false r =
        let same : old ≡ new = sym (unrecorded_stays g old caller s a new does r) in
        record {
          moments = [];
          tries = subst (λ (w : World). Tries g old caller ss [] w) same (unrecorded s f (not-made g old caller s a new does r));
          entries = e ∙ ap (λ (b : Bool). entered b es (entry_of caller s)) r ∙ sym (append-nil es);
        }

answer-tried : (g : BenchSetting) (old : World) (caller : ℕ) (ss : List Step) (es : List Entry) (s : Step) (a : Reply) (new : World) (later : List Entry) → length es ≢ g.step_limit
    → IsFirst g old caller ss (Some s) → a ≢ reply.OutOfMemory → Answers g (length es) old caller s a new
    → later ≡ entered (is_recorded g s a) es (entry_of caller s) → IsTried g old caller ss es s new later
answer-tried g old caller ss es s a new later n f w (at_limit full live e same) k = absurd (n full)
answer-tried g old caller ss es s a new later n f w (not_now free not e same) k = absurd (not (first_may g old caller ss s f))
answer-tried g old caller ss es s a new later n f w (no_memory free may want e same) k = absurd (w e)
answer-tried g old caller ss es s a new later n f w (done free may does) k = done-tried g old caller ss es s a new later f does k

pub turn_made : (caller word : ℕ) (old new : History) (s : Step) (a : Reply) → length old.entries ≢ old.setting.step_limit
    → IsFirst old.setting old.world caller (tries_of old.world caller word) (Some s) → a ≢ reply.OutOfMemory → new.setting ≡ old.setting
    → Answers old.setting (length old.entries) old.world caller s a new.world
    → new.entries ≡ entered (is_recorded old.setting s a) old.entries (entry_of caller s) → IsTurn caller word old new
turn_made caller word old new s a n f w same answer e =
    let t : IsTried old.setting old.world caller (tries_of old.world caller word) old.entries s new.world new.entries =
    answer-tried old.setting old.world caller (tries_of old.world caller word) old.entries s a new.world new.entries n f w answer e in
    let over : is_over old.setting (length old.entries) old.world ≡ false =
    not-over old.setting (length old.entries) old.world caller s n (first_may old.setting old.world caller (tries_of old.world caller word) s f) in
    record {
      setting = same;
      moments = t.moments;
      tries = unless-not (is_over old.setting (length old.entries) old.world) old.setting old.world caller (tries_of old.world caller word) t.moments new.world over t.tries;
      entries = t.entries;
    }
