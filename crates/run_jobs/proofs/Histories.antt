-- From the history of a bench to the texts of its run.
use Rattle.std.proofs.Common.{arith, ◌≡◌, ◌≤◌, ◌⊎◌, inl, inr, ℕ, suc, Bool, true, false, List, [], ◌∷◌, length, map, Option, Some, None, MatchOption, refl, sym, ap, subst, ◌∙◌}
use Rattle.rig_types.specs.declared.step.Entry.{Entry}
use Rattle.trace_text.specs.Grammar.{IsTrace, line_of}
use Rattle.world_law.specs.World.{BenchSetting, World}
use Rattle.world_law.specs.Lines.{drained}
use Rattle.world_law.specs.Opening.{opened}
use Rattle.world_law.specs.Runs.{Moment, last, entries}
use Rattle.bench_core.specs.Histories.{History, IsReplayed}
use Rattle.report_text.specs.Text.{report_text}
use Rattle.run_jobs.specs.PoolRuns.{IsDrainedRun, IsFullRun, Texts, HasTexts}

count-of : (ms : List Moment) → length (entries ms) ≡ length ms
count-of [] = refl
count-of (m ∷ ms) = ap suc (count-of ms)

module _ (g : BenchSetting) (es : List Entry) (w : World) (r : IsReplayed g es w) (within : length es ≤ g.step_limit) where
  counted : length r.moments ≡ length es
  counted = sym (count-of r.moments) ∙ ap (λ (xs : List Entry). length xs) r.are

  drained-run : drained g w ≡ true → IsDrainedRun g r.moments
  drained-run d = record { lawful = r.run; within = omega (arith, counted, within); drained = ap (λ (x : World). drained g x) r.world ∙ d }

  full-run : drained g w ≡ false → (drained g w ≡ true) ⊎ (length es ≡ g.step_limit) → IsFullRun g r.moments
  full-run d (inl e) = let clash : false ≡ true = sym d ∙ e in absurd cc
  full-run d (inr e) = record { lawful = r.run; full = counted ∙ e; left = ap (λ (x : World). drained g x) r.world ∙ d }

  ends : (report : Option (List ℕ)) → (drained g w ≡ true) ⊎ (length es ≡ g.step_limit)
      → MatchOption report (drained g w ≡ false) (λ text. (drained g w ≡ true) × (text ≡ report_text w))
      → MatchOption report (IsFullRun g r.moments) (λ text. IsDrainedRun g r.moments × (text ≡ report_text (last (opened g) r.moments)))
  ends None over d = full-run d over
  ends (Some text) over d = (drained-run d.0, d.1 ∙ ap (λ (x : World). report_text x) (sym r.world))

  pub has_texts : (texts : Texts) → (drained g w ≡ true) ⊎ (length es ≡ g.step_limit) → IsTrace g.version texts.trace (map line_of es)
      → MatchOption texts.report (drained g w ≡ false) (λ text. (drained g w ≡ true) × (text ≡ report_text w)) → HasTexts g texts
  has_texts texts over trace report = record {
    moments = r.moments;
    trace = subst (λ (xs : List Entry). IsTrace g.version texts.trace (map line_of xs)) (sym r.are) trace;
    end = ends texts.report over report;
  }
