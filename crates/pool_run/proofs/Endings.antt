-- How callers end, and that it stays so as the list grows.
use Rattle.std.proofs.Common.{arith, ◌≡◌, ◌<◌, ◌≤◌, ◌+◌, ◌⊎◌, inl, inr, ℕ, suc, nat_lt, Bool, true, false, List, [], ◌∷◌, length, Some, Result, Ok, Err, MatchBool, OnOk, IfErr, IsOk, refl, sym, ap, subst, ◌∙◌, append-nil, length-append}
use Rattle.std.proofs.lemmas.Bool.{lt-ltb, le-ltb}
use Rattle.rig_types.specs.declared.step.Step.{Step}
use Rattle.rig_types.specs.declared.step.Entry.{Entry}
use Rattle.rig_types.specs.declared.commands.Command.{Command}
use Rattle.rig_types.specs.declared.commands.WhenFull.{WhenFull}
use Rattle.bench_lock.specs.Log.{Begins}
use Rattle.bench_lock.specs.declared.view.View.{View}
use Rattle.bench_lock.specs.Views.{Follows}
use Rattle.bench_lock.proofs.OwnedNumbers.{Begins-on}
use Rattle.world_law.specs.World.{BenchSetting, World, commands_of}
use Rattle.world_law.specs.Lines.{drained}
use Rattle.world_law.specs.Runs.{Moment, IsRun, last}
use Rattle.world_law.proofs.Drained.{rests}
use Rattle.seat_law.specs.Worlds.{pairs_of, Goes, LeadsTo}
use Rattle.seat_law.proofs.ListWorlds.{longer_goes, leads_as}
use Rattle.bench_core.specs.Histories.{IsReplayed}
use Rattle.bench_pool.specs.declared.worker.WorkerFault.{WorkerFault}
use Rattle.bench_pool.specs.declared.worker.WorkerFault.TheVariants as fault
use Rattle.bench_pool.specs.Workers.{IsDrained}
use Rattle.pool_run.specs.Callers.{line_choices, IsFresh, RestsAfter, DecidesLines, Drains, Finishes, GivesUp}
use Rattle.pool_run.proofs.Openings.{choices_count}

-- ---- one caller

module _ (v w : View BenchSetting Step) (g : BenchSetting) (f : Follows v w) (o : v.opening ≡ Some g) where
  same-setting : (h : BenchSetting) → w.opening ≡ Some h → h ≡ g
  same-setting h e = let both : Some h ≡ Some g = sym e ∙ (f.opening ∙ o) in cc

  pub decides : (choices : List WhenFull) (s : ℕ) → RestsAfter choices s (length choices) w → DecidesLines g s w.seen
  decides choices s h =
      let same : h.setting ≡ g = same-setting h.setting h.at.opening in
      record {
        before = w.seen;
        begins = ([], sym (append-nil w.seen));
        world = h.world;
        leads = subst (λ (x : BenchSetting). LeadsTo x w.seen h.world) same h.at.leads;
        all = h.decided ∙ (sym (ap (λ (xs : List WhenFull). length xs) h.are) ∙ (count (commands_of h.setting s) ∙ ap (λ (x : BenchSetting). length (commands_of x s)) same));
      }
    where
      count : (cs : List Command) → length (line_choices cs) ≡ length cs
      count [] = refl
      count (c ∷ cs) = ap suc (count cs)

  pub drains : IsDrained w → Drains g w.seen
  drains h =
      let same : h.setting ≡ g = same-setting h.setting h.drained.opening in
      record {
        before = w.seen;
        begins = ([], sym (append-nil w.seen));
        world = h.drained.world;
        leads = subst (λ (x : BenchSetting). LeadsTo x w.seen h.drained.world) same h.drained.leads;
        is_drained = subst (λ (x : BenchSetting). drained x h.drained.world ≡ true) same h.drained.is_drained;
      }

-- the work of a caller by its number
finishes-by : (g : BenchSetting) (s : ℕ) (es : List (ℕ × Step)) (b : Bool) → nat_lt s (length g.submitters) ≡ b → MatchBool b (DecidesLines g s es) (Drains g es) → Finishes g s es
finishes-by g s es b is h = subst (λ (x : Bool). MatchBool x (DecidesLines g s es) (Drains g es)) (sym is) h

pub finishes_lines : (g : BenchSetting) (s : ℕ) (es : List (ℕ × Step)) → s < length g.submitters → DecidesLines g s es → Finishes g s es
finishes_lines g s es l h = finishes-by g s es true (lt-ltb s (length g.submitters) l) h

pub finishes_drained : (g : BenchSetting) (s : ℕ) (es : List (ℕ × Step)) → length g.submitters ≤ s → Drains g es → Finishes g s es
finishes_drained g s es l h = finishes-by g s es false (le-ltb s (length g.submitters) l) h

pub drains_behind : (g : BenchSetting) (s : ℕ) (es : List (ℕ × Step)) → length g.submitters ≤ s → Finishes g s es → Drains g es
drains_behind g s es l h = subst (λ (x : Bool). MatchBool x (DecidesLines g s es) (Drains g es)) (le-ltb s (length g.submitters) l) h

-- ---- a longer list

decides-on : (g : BenchSetting) (s : ℕ) (es fs : List (ℕ × Step)) → Begins es fs → DecidesLines g s es → DecidesLines g s fs
decides-on g s es fs b h = record { before = h.before; begins = Begins-on h.before es fs h.begins b; world = h.world; leads = h.leads; all = h.all }

drains-on : (g : BenchSetting) (es fs : List (ℕ × Step)) → Begins es fs → Drains g es → Drains g fs
drains-on g es fs b h = record { before = h.before; begins = Begins-on h.before es fs h.begins b; world = h.world; leads = h.leads; is_drained = h.is_drained }

on-by : (g : BenchSetting) (s : ℕ) (es fs : List (ℕ × Step)) (b : Bool) → Begins es fs → MatchBool b (DecidesLines g s es) (Drains g es) → MatchBool b (DecidesLines g s fs) (Drains g fs)
on-by g s es fs true b h = decides-on g s es fs b h
on-by g s es fs false b h = drains-on g es fs b h

pub finishes_on : (g : BenchSetting) (s : ℕ) (es fs : List (ℕ × Step)) → Begins es fs → Finishes g s es → Finishes g s fs
finishes_on g s es fs b h = on-by g s es fs (nat_lt s (length g.submitters)) b h

pub gives_on : (g : BenchSetting) (es fs : List (ℕ × Step)) → Begins es fs → (e : WorkerFault) → GivesUp g es e → GivesUp g fs e
gives_on g es fs b fault.StepLimit h = omega (arith, ap (λ (xs : List (ℕ × Step)). length xs) b.1, length-append es b.0, h)
gives_on g es fs b fault.OutOfMemory h = tt

-- ---- the work of one caller

module _ (choices : List (List WhenFull)) (v w : View BenchSetting Step) (h : IsFresh choices v) (f : Follows v w) where
  count-is : (g : BenchSetting) → v.opening ≡ Some g → length g.submitters ≡ length choices
  count-is g o =
      let both : Some h.setting ≡ Some g = sym h.opening ∙ o in
      let same : h.setting ≡ g = cc in
      ap (λ (x : BenchSetting). length x.submitters) (sym same) ∙ choices_count h.setting.submitters choices h.are

  pub work_lines : (s : ℕ) (line : List WhenFull) (r : Result (Unit {0}) WorkerFault) → s < length choices → OnOk r (RestsAfter line s (length line) w)
      → OnOk r ((g : BenchSetting) → v.opening ≡ Some g → Finishes g s w.seen)
  work_lines s line (Err e) l k = tt
  work_lines s line (Ok u) l k = λ g o. finishes_lines g s w.seen (omega (arith, count-is g o, l)) (decides v w g f o line s k)

  pub work_drained : (s : ℕ) (r : Result (Unit {0}) WorkerFault) → length choices ≤ s → OnOk r (IsDrained w)
      → OnOk r ((g : BenchSetting) → v.opening ≡ Some g → Finishes g s w.seen)
  work_drained s (Err e) l k = tt
  work_drained s (Ok u) l k = λ g o. finishes_drained g s w.seen (omega (arith, count-is g o, l)) (drains v w g f o k)

-- ---- two answers

abbrev pub GaveUp : View BenchSetting Step → View BenchSetting Step → WorkerFault → Type 0
GaveUp v w e = (g : BenchSetting) → v.opening ≡ Some g → GivesUp g w.seen e

-- the seat w goes on from a, and was split as u from v
pub gave_up_on : (u v a w : View BenchSetting Step) (r : Result (Unit {0}) WorkerFault) → u.opening ≡ v.opening → Begins a.seen w.seen → IfErr r (GaveUp u a) → IfErr r (GaveUp v w)
gave_up_on u v a w (Ok x) o b h = tt
gave_up_on u v a w (Err e) o b h = λ g is. gives_on g a.seen w.seen b e (h g (o ∙ is))

pub ok_both : {P Q S : Type 0} → (r a b : Result (Unit {0}) WorkerFault) → OnOk r (IsOk a × IsOk b) → OnOk a P → OnOk b Q → (P → Q → S) → OnOk r S
ok_both (Err e) a b h p q f = tt
ok_both (Ok u) (Err e) b h p q f = absurd (let n : false ≡ true = h.0 in cc)
ok_both (Ok u) (Ok x) (Err e) h p q f = absurd (let n : false ≡ true = h.1 in cc)
ok_both (Ok u) (Ok x) (Ok y) h p q f = f p q

pub err_both : (S : WorkerFault → Type 0) (r a b : Result (Unit {0}) WorkerFault) → IfErr r (λ e. (a ≡ Err e) ⊎ (b ≡ Err e)) → IfErr a S → IfErr b S → IfErr r S
err_both S (Ok u) a b h p q = tt
err_both S (Err e) a b (inl is) p q = subst (λ (x : Result (Unit {0}) WorkerFault). IfErr x S) is p
err_both S (Err e) a b (inr is) p q = subst (λ (x : Result (Unit {0}) WorkerFault). IfErr x S) is q

pub ok_map : {P Q : Type 0} → (r : Result (Unit {0}) WorkerFault) → (P → Q) → OnOk r P → OnOk r Q
ok_map (Ok u) f h = f h
ok_map (Err e) f h = tt

pub err_map : (P Q : WorkerFault → Type 0) (r : Result (Unit {0}) WorkerFault) → ((e : WorkerFault) → P e → Q e) → IfErr r P → IfErr r Q
err_map P Q (Ok u) f h = tt
err_map P Q (Err e) f h = f e h

-- ---- the bench at the end

no-more : (g : BenchSetting) (old new : World) (ms : List Moment) → drained g old ≡ true → IsRun g old ms → last old ms ≡ new → drained g new ≡ true
no-more g old new [] d r e = subst (λ (w : World). drained g w ≡ true) e d
no-more g old new (m ∷ ms) d r e = absurd (rests g old m.entry.caller m.entry.step d r.0.enabled)

-- a drained list is never longer
pub drained_end : (g : BenchSetting) (seen : List (ℕ × Step)) (es : List Entry) (w : World) → Drains g seen → Begins seen (pairs_of es) → IsReplayed g es w → drained g w ≡ true
drained_end g seen es w d b r =
    let whole : LeadsTo g (pairs_of es) w = leads_as g es w r.moments r.run r.are r.world in
    let on : Begins d.before (pairs_of es) = Begins-on d.before seen (pairs_of es) d.begins b in
    let more : Goes g d.world on.0 w = longer_goes g d.before on.0 d.world w d.leads (subst (λ (xs : List (ℕ × Step)). LeadsTo g xs w) on.1 whole) in
    no-more g d.world w more.moments d.is_drained more.run more.world

pairs-length : (es : List Entry) → length (pairs_of es) ≡ length es
pairs-length [] = refl
pairs-length (e ∷ es) = omega (arith, pairs-length es)

pub full_end : (g : BenchSetting) (seen : List (ℕ × Step)) (es : List Entry) → g.step_limit ≤ length seen → Begins seen (pairs_of es) → length es ≤ g.step_limit → length es ≡ g.step_limit
full_end g seen es l b most =
    let longer : length (pairs_of es) ≡ length seen + length b.0 = ap (λ (xs : List (ℕ × Step)). length xs) b.1 ∙ length-append seen b.0 in
    omega (arith, pairs-length es, longer, l, most)

pub pool_end : (g : BenchSetting) (seen : List (ℕ × Step)) (es : List Entry) (w : World) (answer : Result (Unit {0}) WorkerFault) → IsOk answer ⊎ (answer ≡ Err fault.StepLimit)
    → OnOk answer (Drains g seen) → IfErr answer (GivesUp g seen) → Begins seen (pairs_of es) → IsReplayed g es w → length es ≤ g.step_limit
    → (drained g w ≡ true) ⊎ (length es ≡ g.step_limit)
pool_end g seen es w (Ok u) how ok err b r most = inl (drained_end g seen es w ok b r)
pool_end g seen es w (Err fault.StepLimit) how ok err b r most = inr (full_end g seen es err b most)
pool_end g seen es w (Err fault.OutOfMemory) (inl how) ok err b r most = let clash : false ≡ true = how in absurd cc
pool_end g seen es w (Err fault.OutOfMemory) (inr how) ok err b r most = absurd cc
