-- What the history of a serial run says of its result.
use Rattle.std.proofs.Common.{arith, ◌≡◌, ◌≤◌, ◌==◌, if◌then◌else◌, ℕ, suc, Bool, true, false, List, [], ◌∷◌, ◌++◌, length, map, Result, Ok, Err, IsErrAnd, refl, sym, ap, subst, ◌∙◌}
use Rattle.std.proofs.lemmas.Bool.Decides.{nat_tests}
use Rattle.rig_types.specs.declared.rig.Rig.{Rig}
use Rattle.rig_types.specs.declared.work.Work.{Work}
use Rattle.rig_types.specs.declared.step.Entry.{Entry}
use Rattle.trace_text.specs.Grammar.{IsTrace, line_of}
use Rattle.refusal_lines.specs.declared.refusal.Refusal.{Refusal}
use Rattle.refusal_lines.specs.declared.refusal.Refusal.TheVariants as refusals
use Rattle.world_law.specs.World.{BenchSetting, World}
use Rattle.world_law.specs.Lines.{drained}
use Rattle.world_law.specs.Opening.{opened}
use Rattle.world_law.specs.Runs.{Moment, last, entries}
use Rattle.run_law.specs.Serial.{is_over}
use Rattle.run_law.proofs.SerialRuns.{serial_runs}
use Rattle.bench_state.specs.States.{setting_of}
use Rattle.bench_core.specs.Histories.{History}
use Rattle.report_text.specs.Text.{report_text, totals_text}
use Rattle.serial_run.specs.Generated.{IsGeneratedRig, IsGeneratedWork}
use Rattle.serial_run.specs.Histories.{IsSerialHistory}
use Rattle.bench_jobs.specs.Jobs.{SerialFills, RunRefuses, Texts, HasTexts, load_line, IsLoad, LoadFills, LoadRuns}
use Rattle.bench_jobs.specs.Histories.{IsDrainedHistory}

-- ---- from a history to its run

count-of : (ms : List Moment) → length (entries ms) ≡ length ms
count-of [] = refl
count-of (m ∷ ms) = ap suc (count-of ms)

counted : (ms : List Moment) (es : List Entry) → entries ms ≡ es → length ms ≡ length es
counted ms es e = sym (count-of ms) ∙ ap (λ (xs : List Entry). length xs) e

ends : (g : BenchSetting) (seed : ℕ) (h : History) (s : IsSerialHistory g seed h) (b : Bool) → drained h.setting h.world ≡ b → drained g (last (opened g) s.moments) ≡ b
ends g seed h s b e = ap (λ (w : World). drained g w) s.world ∙ ap (λ (x : BenchSetting). drained x h.world) (sym s.setting) ∙ e

pub drains : (g : BenchSetting) (seed : ℕ) (h : History) → IsSerialHistory g seed h → length h.entries ≤ h.setting.step_limit → drained h.setting h.world ≡ true
    → IsDrainedHistory g seed h
drains g seed h s within d = record {
  setting = s.setting;
  moments = s.moments;
  run = record {
    serial = s.serial;
    lawful = serial_runs g seed (opened g) s.moments s.serial;
    within = omega (arith, counted s.moments h.entries s.entries, ap (λ (x : BenchSetting). x.step_limit) s.setting, within);
    drained = ends g seed h s true d;
  };
  entries = s.entries;
  world = s.world;
}

-- a run that is over and not drained is at the limit
at-limit : (d : Bool) (a b : ℕ) → d ≡ false → (if d then true else a == b) ≡ true → a ≡ b
at-limit true a b d e = absurd cc
at-limit false a b d e = grind (arith, nat_tests, e)

pub fills : (g : BenchSetting) (seed : ℕ) (h : History) → IsSerialHistory g seed h → is_over h.setting (length h.entries) h.world ≡ true → drained h.setting h.world ≡ false
    → SerialFills g seed
fills g seed h s over d =
    let full : length h.entries ≡ h.setting.step_limit = at-limit (drained h.setting h.world) (length h.entries) h.setting.step_limit d over in (
      s.moments,
      record {
        serial = s.serial;
        lawful = serial_runs g seed (opened g) s.moments s.serial;
        full = counted s.moments h.entries s.entries ∙ full ∙ ap (λ (x : BenchSetting). x.step_limit) s.setting;
        left = ends g seed h s false d;
      },
    )

-- ---- from a drained history to its texts

pub has_texts : (g : BenchSetting) (seed : ℕ) (h : History) (texts : Texts) → IsDrainedHistory g seed h → IsTrace h.setting.version texts.trace (map line_of h.entries)
    → texts.report ≡ report_text h.world → HasTexts g seed texts
has_texts g seed h texts d trace report =
    let here : IsTrace g.version texts.trace (map line_of h.entries) =
    subst (λ (x : BenchSetting). IsTrace x.version texts.trace (map line_of h.entries)) d.setting trace in
    record {
      moments = d.moments;
      run = d.run;
      trace = subst (λ (es : List Entry). IsTrace g.version texts.trace (map line_of es)) (sym d.entries) here;
      report = report ∙ ap (λ (w : World). report_text w) (sym d.world);
    }

pub is_load : (n seed : ℕ) (rig : Rig) (work : Work) (h : History) (text : List ℕ) → IsGeneratedRig rig → IsGeneratedWork n seed work
    → IsDrainedHistory (setting_of rig work) seed h → text ≡ load_line n seed (length h.entries) ++ totals_text h.world.reports → IsLoad n seed text
is_load n seed rig work h text is_rig is_work d e = record {
  rig = rig;
  work = work;
  is_rig = is_rig;
  is_work = is_work;
  moments = d.moments;
  run = d.run;
  is_text =
      e ∙ ap (λ (k : ℕ). load_line n seed k ++ totals_text h.world.reports) (sym (counted d.moments h.entries d.entries))
      ∙ ap (λ (w : World). load_line n seed (length d.moments) ++ totals_text w.reports) (sym d.world);
}

-- ---- refusals

refuses-so : (P Q : Type 0) → (P → Q) → (r : Refusal) → RunRefuses P r → RunRefuses Q r
refuses-so P Q so refusals.Usage h = h
refuses-so P Q so refusals.Read h = h
refuses-so P Q so refusals.Write h = h
refuses-so P Q so refusals.OutOfMemory h = h
refuses-so P Q so (refusals.Bad f) h = h
refuses-so P Q so refusals.StepLimit h = so h
refuses-so P Q so refusals.TooLong h = h

pub load_refuses : (n seed : ℕ) (rig : Rig) (work : Work) (r : Refusal) → IsGeneratedRig rig → IsGeneratedWork n seed work
    → RunRefuses (SerialFills (setting_of rig work) seed) r → RunRefuses (LoadFills n seed) r
load_refuses n seed rig work r is_rig is_work h =
    refuses-so (SerialFills (setting_of rig work) seed) (LoadFills n seed) (λ f. record { rig = rig; work = work; is_rig = is_rig; is_work = is_work; fills = f }) r h

-- ---- a refusal that is handed on

pub load_wants : (n seed : ℕ) (r : Result (List ℕ) Refusal) → IsErrAnd r (λ x. x ≡ refusals.OutOfMemory) → LoadRuns n seed r
load_wants n seed (Ok x) is = absurd is
load_wants n seed (Err x) is = subst (λ (y : Refusal). RunRefuses (LoadFills n seed) y) (sym is) tt

pub load_refused : (n seed : ℕ) (rig : Rig) (work : Work) → IsGeneratedRig rig → IsGeneratedWork n seed work → (e : Refusal) → RunRefuses (SerialFills (setting_of rig work) seed) e
    → (r : Result (List ℕ) Refusal) → IsErrAnd r (λ x. x ≡ e) → LoadRuns n seed r
load_refused n seed rig work i j e h (Ok x) is = absurd is
load_refused n seed rig work i j e h (Err x) is = subst (λ (y : Refusal). RunRefuses (LoadFills n seed) y) (sym is) (load_refuses n seed rig work e i j h)
