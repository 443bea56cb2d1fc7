-- A run that was made is finished.
use Rattle.std.proofs.Common.{◌≡◌, ℕ, List, Option, Some, None, MatchOption, Result, Ok, Err, refl, sym, subst, inl, inr}
use Rattle.std.specs.Prelude.{◌⊎◌, IsSomeAnd}
use Rattle.sym_io.specs.ByName.{FilesByName}
use Rattle.refusal_lines.specs.Refusals.{TellsFault, Stands}
use Rattle.refusal_lines.specs.declared.fault.Fault.{Fault}
use Rattle.refusal_lines.specs.declared.refusal.Refusal.{Refusal}
use Rattle.refusal_lines.specs.declared.refusal.Refusal.TheVariants as refusals
use Rattle.run_files.specs.Shelves.{Shelved, IsKept}
use Rattle.run_jobs.specs.PoolRuns.{Texts}
use Rattle.sym_top.specs.Calls.{Ends, Sunk, ends, Done, Unstored, Unprinted, Finishes}
use Rattle.sym_top.specs.RunCalls.{trace_file, drained_job, FailsAlone, FinishesFull, FinishesRun, RunRefuses, RunRuns}
use Rattle.sym_top.specs.Running.{RunWords, RunYields, RunMakes}
use Rattle.sym_top.proofs.Finishing.{same_shelf}
use Rattle.sym_top.proofs.OneCause.{rig_within, work_within}

-- where a run can be made, memory may be wanting
pub want_run : (a : RunWords) (files : Option FilesByName) (texts : Texts) → RunMakes a files texts → RunYields a files (Err refusals.OutOfMemory)
want_run a files texts (r, g, (w, h, k)) = inr (r, g, inr (w, h, tt))

module _ (a : RunWords) (e : Ends) (texts : Texts) (made : RunMakes a e.shelf.files texts) where
  full-run : texts.report ≡ None → (r : Result (Unit {0}) Refusal) → FinishesFull (trace_file a.trace texts) e r → RunRuns a e r
  full-run none (Ok done) h = absurd h
  full-run none (Err refusals.Usage) h = absurd h
  full-run none (Err refusals.Read) h = absurd h
  full-run none (Err refusals.Write) h =
      (texts, made, subst (λ (x : Option (List ℕ)). MatchOption x (FailsAlone e) (λ q. Unstored (drained_job a.trace texts q) e ⊎ Unprinted (drained_job a.trace texts q) e)) (sym none) h)
  full-run none (Err refusals.OutOfMemory) h = (want_run a e.shelf.files texts made, h)
  full-run none (Err (refusals.Bad f)) h = absurd h
  full-run none (Err refusals.StepLimit) h = (texts, made, none, h)
  full-run none (Err refusals.TooLong) h = absurd h

  drained-run : (report : List ℕ) → texts.report ≡ Some report → (r : Result (Unit {0}) Refusal) → Finishes (drained_job a.trace texts report) e r → RunRuns a e r
  drained-run report some (Ok done) h = (texts, made, subst (λ (x : Option (List ℕ)). IsSomeAnd x (λ q. Done (drained_job a.trace texts q) e)) (sym some) h)
  drained-run report some (Err refusals.Usage) h = absurd h
  drained-run report some (Err refusals.Read) h = absurd h
  drained-run report some (Err refusals.Write) h =
      (texts, made, subst (λ (x : Option (List ℕ)). MatchOption x (FailsAlone e) (λ q. Unstored (drained_job a.trace texts q) e ⊎ Unprinted (drained_job a.trace texts q) e)) (sym some) h)
  drained-run report some (Err refusals.OutOfMemory) h = (want_run a e.shelf.files texts made, h)
  drained-run report some (Err (refusals.Bad f)) h = absurd h
  drained-run report some (Err refusals.StepLimit) h = absurd h
  drained-run report some (Err refusals.TooLong) h = absurd h

  by-report : (report : Option (List ℕ)) → texts.report ≡ report → (r : Result (Unit {0}) Refusal)
      → MatchOption report (FinishesFull (trace_file a.trace texts) e r) (λ q. Finishes (drained_job a.trace texts q) e r) → RunRuns a e r
  by-report None is r h = full-run is r h
  by-report (Some report) is r h = drained-run report is r h

  pub run_finished : (r : Result (Unit {0}) Refusal) → FinishesRun a.trace texts e r → RunRuns a e r
  run_finished r h = by-report texts.report refl r h

pub finish_run_runs : (a : RunWords) (s m t : Shelved) (o o' : Sunk) (texts : Texts) (r : Result (Unit {0}) Refusal) → RunMakes a s.files texts → IsKept s m → FinishesRun a.trace texts (ends m t o o') r
    → RunRuns a (ends s t o o') r
finish_run_runs a s m t o o' texts r made k h =
    run_finished a (ends s t o o') texts made r (subst (λ (x : Shelved). FinishesRun a.trace texts (ends x t o o') r) (same_shelf s m k) h)

-- ---- want of memory in place of a fault

want-of-fault : (a : RunWords) (files : Option FilesByName) (f : Fault) → RunYields a files (Err (refusals.Bad f)) → RunYields a files (Err refusals.OutOfMemory)
want-of-fault a files f (inl h) = inl ((rig_within files a.rig).fault f h)
want-of-fault a files f (inr (r, g, inl h)) = inr (r, g, inl ((work_within files a.work).fault f h))
want-of-fault a files f (inr (r, g, inr (w, k, h))) = absurd h

left-of : (a : RunWords) (e : Ends) (refusal : Refusal) → TellsFault refusal → RunRefuses a e refusal → RunRefuses a e refusals.OutOfMemory
left-of a e refusals.Usage i r = absurd i
left-of a e refusals.Read i r = absurd i
left-of a e refusals.Write i r = absurd i
left-of a e refusals.OutOfMemory i r = absurd i
left-of a e (refusals.Bad f) i r = (want-of-fault a e.shelf.files f r.0, r.1)
left-of a e refusals.StepLimit i r = absurd i
left-of a e refusals.TooLong i r = absurd i

pub run_refuses_answered : (a : RunWords) (e : Ends) (refusal answered : Refusal) → Stands refusal answered → RunRefuses a e refusal → RunRefuses a e answered
run_refuses_answered a e refusal answered (inl same) r = subst (λ (x : Refusal). RunRefuses a e x) (sym same) r
run_refuses_answered a e refusal answered (inr (i, same)) r = subst (λ (x : Refusal). RunRefuses a e x) (sym same) (left-of a e refusal i r)
