-- The status of an ended `run` is the one that its files and the counts of faults want.
use Rattle.std.proofs.Common.{◌≡◌, ◌≢◌, ℕ, ◌<◌, List, Option, Some, None, MatchOption, Result, Ok, Err, refl, sym, ap, subst, ◌∙◌, inl, inr, arith}
use Rattle.std.specs.Prelude.{◌⊎◌, IsSome, IsSomeAnd}
use Rattle.sym_io.specs.ByName.{FilesByName}
use Rattle.sym_io.specs.Causes.{Rose}
use Rattle.refusal_lines.specs.Refusals.{exit_of}
use Rattle.refusal_lines.specs.declared.exit.Exit.{Exit}
use Rattle.refusal_lines.specs.declared.exit.Exit.TheVariants as exits
use Rattle.refusal_lines.specs.declared.fault.Fault.{Fault}
use Rattle.refusal_lines.specs.declared.fault.Fault.TheVariants as faults
use Rattle.refusal_lines.specs.declared.refusal.Refusal.{Refusal}
use Rattle.refusal_lines.specs.declared.refusal.Refusal.TheVariants as refusals
use Rattle.rig_types.specs.declared.rig.Rig.{Rig}
use Rattle.rig_types.specs.declared.work.Work.{Work}
use Rattle.run_files.specs.Shelves.{ExceedsLimit, file_limit}
use Rattle.run_files.specs.Loading.{HasRig, HasWork, RigFails, WorkFails}
use Rattle.run_files.specs.Reading.{IsRigFault, IsWorkFault}
use Rattle.run_files.proofs.OneReading.{one_rig, one_work}
use Rattle.world_law.specs.World.{BenchSetting}
use Rattle.world_law.specs.Opening.{opened}
use Rattle.world_law.specs.Runs.{last}
use Rattle.report_text.specs.Text.{report_text}
use Rattle.bench_state.specs.States.{setting_of}
use Rattle.run_jobs.specs.PoolRuns.{IsDrainedRun, IsFullRun, Texts, HasTexts}
use Rattle.sym_top.specs.Calls.{Ends, Leaves, Done, Unstored, Unprinted}
use Rattle.sym_top.specs.Causes.{OneEnd, NoRise, IsOnly}
use Rattle.sym_top.specs.Running.{RunWords, PoolYields, RunYields, RunMakes, RunEndsAs, IsValidRun}
use Rattle.sym_top.specs.RunCalls.{trace_file, drained_job, StoresAlone, FailsAlone, FailsWrite, RunRefuses, RunEnded, RanDrained, RanFull, RunEndsExactly, RigIsLong}
use Rattle.sym_top.specs.Stages.{Then, ReadsRig, ReadsWork}
use Rattle.sym_top.proofs.OneCause.{rig_within, work_within}
use Rattle.sym_top.proofs.OneEnds.{not_long, reads_end, wants_end, then_ends}
use Rattle.sym_top.proofs.ValidFiles.{IsWantOrFull, then_valid, only_wants, then_long}
use Rattle.sym_top.proofs.Exact.{IsOfFiles}

-- ---- one end

pool-end : (g : BenchSetting) → OneEnd (PoolYields g)
pool-end g = wants_end (λ (x : Texts). HasTexts g x) (PoolYields g) (λ r h. h)

held-end : (a : RunWords) (held : FilesByName) → OneEnd (RunYields a (Some held))
held-end a held =
    then_ends (ReadsRig (Some held) a.rig) (λ (r : Rig). Then (ReadsWork (Some held) a.work) (λ (w : Work). PoolYields (setting_of r w))) (one_rig held a.rig).value
    (reads_end file_limit held a.rig (HasRig (Some held) a.rig) (RigFails (Some held) a.rig) (one_rig held a.rig) (rig_within (Some held) a.rig))
    (λ r.
    then_ends (ReadsWork (Some held) a.work) (λ (w : Work). PoolYields (setting_of r w)) (one_work held a.work).value
    (reads_end file_limit held a.work (HasWork (Some held) a.work) (WorkFails (Some held) a.work) (one_work held a.work) (work_within (Some held) a.work)) (λ w. pool-end (setting_of r w)))

told-end : (a : RunWords) (files : Option FilesByName) → IsSome files → OneEnd (RunYields a files)
told-end a (Some held) told = held-end a held
told-end a None told = absurd cc

-- valid files are refused for want of memory alone
valid-want : (a : RunWords) (files : Option FilesByName) → IsSome files → IsValidRun a files → (r : Refusal) → RunYields a files (Err r) → IsWantOrFull r
valid-want a None told valid r y = absurd cc
valid-want a (Some held) told (x, w, is, there) r y =
    then_valid (ReadsRig (Some held) a.rig) (λ (q : Rig). Then (ReadsWork (Some held) a.work) (λ (v : Work). PoolYields (setting_of q v))) x is (λ z g. (one_rig held a.rig).value z x g is)
    (reads_end file_limit held a.rig (HasRig (Some held) a.rig) (RigFails (Some held) a.rig) (one_rig held a.rig) (rig_within (Some held) a.rig))
    (then_valid (ReadsWork (Some held) a.work) (λ (v : Work). PoolYields (setting_of x v)) w there (λ z g. (one_work held a.work).value z w g there)
    (reads_end file_limit held a.work (HasWork (Some held) a.work) (WorkFails (Some held) a.work) (one_work held a.work) (work_within (Some held) a.work)) only_wants)
    r y

long-end : (a : RunWords) (files : Option FilesByName) (r : Refusal) → ExceedsLimit file_limit files a.rig → IsSome files → RunYields a files (Err r) → r ≡ refusals.TooLong
long-end a None r long told y = absurd cc
long-end a (Some held) r long told y =
    then_long file_limit held a.rig (HasRig (Some held) a.rig) (RigFails (Some held) a.rig) (λ (q : Rig). Then (ReadsWork (Some held) a.work) (λ (v : Work). PoolYields (setting_of q v)))
    (rig_within (Some held) a.rig) long r y

long-made : (a : RunWords) (files : Option FilesByName) (texts : Texts) → ExceedsLimit file_limit files a.rig → IsSome files → RunMakes a files texts → ⊥
long-made a None texts long told m = absurd cc
long-made a (Some held) texts long told (x, g, k) = not_long file_limit held a.rig ((rig_within (Some held) a.rig).value x g) long

-- ---- faults of its files

-- the fault of a rig or of a work
abbrev IsOfRun : Fault → Type 0
IsOfRun (faults.Rig key kind) = Unit {0}
IsOfRun (faults.Work key kind) = Unit {0}
IsOfRun _ = ⊥

rig-fault : (bytes : List ℕ) (f : Fault) → IsRigFault bytes f → IsOfRun f
rig-fault bytes (faults.Rig key kind) h = tt
rig-fault bytes (faults.Work key kind) h = absurd h
rig-fault bytes (faults.Source line fault) h = absurd h
rig-fault bytes (faults.TraceLine n) h = absurd h
rig-fault bytes (faults.UnknownStep n) h = absurd h
rig-fault bytes (faults.TraceStep n) h = absurd h
rig-fault bytes faults.NotDrained h = absurd h

work-fault : (bytes : List ℕ) (f : Fault) → IsWorkFault bytes f → IsOfRun f
work-fault bytes (faults.Work key kind) h = tt
work-fault bytes (faults.Rig key kind) h = absurd h
work-fault bytes (faults.Source line fault) h = absurd h
work-fault bytes (faults.TraceLine n) h = absurd h
work-fault bytes (faults.UnknownStep n) h = absurd h
work-fault bytes (faults.TraceStep n) h = absurd h
work-fault bytes faults.NotDrained h = absurd h

run-fault : (a : RunWords) (files : Option FilesByName) (f : Fault) → RunYields a files (Err (refusals.Bad f)) → IsOfRun f
run-fault a files f (inl (bytes, is, h)) = rig-fault bytes f h
run-fault a files f (inr (r, g, inl (bytes, is, h))) = work-fault bytes f h
run-fault a files f (inr (r, g, inr (w, k, h))) = absurd h

-- a status that a run's files or want of memory give, and no other
record IsPlainEnd (exit : Exit) : Type 0 where
  pub ok : exit ≢ exits.Ok
  pub usage : exit ≢ exits.Usage
  pub read : exit ≢ exits.ReadFault
  pub write : exit ≢ exits.WriteFault
  pub source : exit ≢ exits.BadSource
  pub trace : exit ≢ exits.BadTrace
  pub limit : exit ≢ exits.StepLimit

fault-plain : (f : Fault) → IsOfRun f → IsPlainEnd (exit_of (refusals.Bad f))
fault-plain (faults.Rig key kind) h = record {
  ok = λ e. absurd cc;
  usage = λ e. absurd cc;
  read = λ e. absurd cc;
  write = λ e. absurd cc;
  source = λ e. absurd cc;
  trace = λ e. absurd cc;
  limit = λ e. absurd cc;
}
fault-plain (faults.Work key kind) h = record {
  ok = λ e. absurd cc;
  usage = λ e. absurd cc;
  read = λ e. absurd cc;
  write = λ e. absurd cc;
  source = λ e. absurd cc;
  trace = λ e. absurd cc;
  limit = λ e. absurd cc;
}
fault-plain (faults.Source line fault) h = absurd h
fault-plain (faults.TraceLine n) h = absurd h
fault-plain (faults.UnknownStep n) h = absurd h
fault-plain (faults.TraceStep n) h = absurd h
fault-plain faults.NotDrained h = absurd h

-- ---- the list of a run

module _ (a : RunWords) (e : Ends) (texts : Texts) where
  drained-list : (g : BenchSetting) (r : Rig) (w : Work) → HasRig e.shelf.files a.rig r → HasWork e.shelf.files a.work w → g ≡ setting_of r w → (h : HasTexts g texts) → (report : Option (List ℕ)) → texts.report ≡ report
      → MatchOption report (IsFullRun g h.moments) (λ q. IsDrainedRun g h.moments × (q ≡ report_text (last (opened g) h.moments)))
      → IsSomeAnd report (λ q. Done (drained_job a.trace texts q) e) → RanDrained a e
  drained-list g r w is_rig is_work same h None is end done = absurd done
  drained-list g r w is_rig is_work same h (Some q) is (run, text) done = record {
    setting = g;
    moments = h.moments;
    trace = texts.trace;
    traced = record { rig = r; work = w; is_rig = is_rig; is_work = is_work; setting = same; is_trace = h.trace };
    run = run;
    done = subst (λ (x : List ℕ). Done (drained_job a.trace texts x) e) text done;
  }

  pub ran_drained : RunMakes a e.shelf.files texts → IsSomeAnd texts.report (λ q. Done (drained_job a.trace texts q) e) → RanDrained a e
  ran_drained (r, is, (w, there, h)) done = drained-list (setting_of r w) r w is there refl h texts.report refl h.end done

  full-list : (g : BenchSetting) (r : Rig) (w : Work) → HasRig e.shelf.files a.rig r → HasWork e.shelf.files a.work w → g ≡ setting_of r w → (h : HasTexts g texts) → (report : Option (List ℕ)) → report ≡ None
      → MatchOption report (IsFullRun g h.moments) (λ q. IsDrainedRun g h.moments × (q ≡ report_text (last (opened g) h.moments)))
      → StoresAlone (trace_file a.trace texts) e → RanFull a e
  full-list g r w is_rig is_work same h (Some q) none end stored = absurd cc
  full-list g r w is_rig is_work same h None none run stored = record {
    setting = g;
    moments = h.moments;
    trace = texts.trace;
    traced = record { rig = r; work = w; is_rig = is_rig; is_work = is_work; setting = same; is_trace = h.trace };
    run = run;
    stored = stored;
  }

  pub ran_full : RunMakes a e.shelf.files texts → texts.report ≡ None → StoresAlone (trace_file a.trace texts) e → RanFull a e
  ran_full (r, is, (w, there, h)) none stored = full-list (setting_of r w) r w is there refl h texts.report none h.end stored

-- ---- what the status comes from

pub record RunCaused (a : RunWords) (e : Ends) (exit : Exit) : Type 0 where
  pub no_usage : exit ≢ exits.Usage
  pub read_fault : exit ≡ exits.ReadFault → Rose e.shelf.loads e.shelf'.loads
  pub write_fault : exit ≡ exits.WriteFault → Rose e.shelf.stores e.shelf'.stores ⊎ Rose e.out.faults e.out'.faults
  pub load_shows : e.shelf.loads < e.shelf'.loads → exit ≡ exits.ReadFault
  pub store_shows : e.shelf.stores < e.shelf'.stores → exit ≡ exits.WriteFault
  pub write_shows : e.out.faults < e.out'.faults → exit ≡ exits.WriteFault
  pub drained : exit ≡ exits.Ok → RanDrained a e
  pub full : exit ≡ exits.StepLimit → RanFull a e
  pub ends : (wanted : Exit) → IsOfFiles wanted → wanted ≢ exits.StepLimit → RunEndsExactly a e.shelf.files e.shelf.loads e.shelf'.loads exit wanted
  pub long_rig : RigIsLong a e.shelf.files e.shelf.loads e.shelf'.loads exit
  pub other : (exit ≢ exits.BadSource) × (exit ≢ exits.BadTrace)
  pub complete : IsValidRun a e.shelf.files → IsSome e.shelf.files → NoRise e.shelf.loads e.shelf'.loads → NoRise e.shelf.stores e.shelf'.stores → NoRise e.out.faults e.out'.faults
      → IsOnly exit exits.Ok ⊎ (exit ≡ exits.StepLimit)

not-memory : (wanted : Exit) → IsOfFiles wanted → (r : Refusal) → exit_of r ≡ wanted → r ≢ refusals.OutOfMemory
not-memory wanted own r is e = own.memory (sym (ap exit_of e) ∙ is)

made-not : (a : RunWords) (files : Option FilesByName) (texts : Texts) (wanted : Exit) → IsOfFiles wanted → RunMakes a files texts → RunEndsAs a files wanted → IsSome files → ⊥
made-not a files texts wanted own made (r, is, y) told = not-memory wanted own r is ((told-end a files told).either texts r made y)

ends-never : (a : RunWords) (files : Option FilesByName) (loads loads' : ℕ) (texts : Texts) (exit wanted : Exit) → IsOfFiles wanted → RunMakes a files texts → exit ≢ wanted
    → RunEndsExactly a files loads loads' exit wanted
ends-never a files loads loads' texts exit wanted own made not =
    record { only = λ is. absurd (not is); always = λ given told n. absurd (made-not a files texts wanted own made given told) }

-- the run was made, its text was printed, and nothing failed
by-text : (a : RunWords) (e : Ends) (texts : Texts) (exit : Exit) → RunMakes a e.shelf.files texts → RanDrained a e → exit ≡ exits.Ok → RunCaused a e exit
by-text a e texts exit made ran is = record {
  no_usage = λ u. absurd cc;
  read_fault = λ r. absurd cc;
  write_fault = λ w. absurd cc;
  load_shows = λ rose. absurd (let same : e.shelf'.loads ≡ e.shelf.loads = ran.done.loads in omega arith);
  store_shows = λ rose. absurd (let same : e.shelf'.stores ≡ e.shelf.stores = ran.done.stores in omega arith);
  write_shows = λ rose. absurd (let same : e.out'.faults ≡ e.out.faults = ran.done.out in omega arith);
  drained = λ _. ran;
  full = λ u. absurd cc;
  ends = λ wanted own limit. ends-never a e.shelf.files e.shelf.loads e.shelf'.loads texts exit wanted own made (λ same. own.ok (sym is ∙ same));
  long_rig = λ long told n. absurd (long-made a e.shelf.files texts long told made);
  other = (λ u. absurd cc, λ u. absurd cc);
  complete = λ valid told l s o. inl (inl is);
}

-- the run was made, and filled its list
by-limit : (a : RunWords) (e : Ends) (texts : Texts) (exit : Exit) → RunMakes a e.shelf.files texts → RanFull a e → exit ≡ exits.StepLimit → RunCaused a e exit
by-limit a e texts exit made ran is = record {
  no_usage = λ u. absurd cc;
  read_fault = λ r. absurd cc;
  write_fault = λ w. absurd cc;
  load_shows = λ rose. absurd (let same : e.shelf'.loads ≡ e.shelf.loads = ran.stored.loads in omega arith);
  store_shows = λ rose. absurd (let same : e.shelf'.stores ≡ e.shelf.stores = ran.stored.stores in omega arith);
  write_shows = λ rose. absurd (let same : e.out'.faults ≡ e.out.faults = ran.stored.out.faults in omega arith);
  drained = λ u. absurd cc;
  full = λ _. ran;
  ends = λ wanted own limit. ends-never a e.shelf.files e.shelf.loads e.shelf'.loads texts exit wanted own made (λ same. limit (sym same ∙ is));
  long_rig = λ long told n. absurd (long-made a e.shelf.files texts long told made);
  other = (λ u. absurd cc, λ u. absurd cc);
  complete = λ valid told l s o. inr is;
}

-- a load failed
by-load : (a : RunWords) (e : Ends) (exit : Exit) → Rose e.shelf.loads e.shelf'.loads → e.shelf'.stores ≡ e.shelf.stores → e.out'.faults ≡ e.out.faults → exit ≡ exits.ReadFault → RunCaused a e exit
by-load a e exit rose stores out is = record {
  no_usage = λ u. absurd cc;
  read_fault = λ _. rose;
  write_fault = λ w. absurd cc;
  load_shows = λ _. is;
  store_shows = λ more. absurd (omega arith);
  write_shows = λ more. absurd (omega arith);
  drained = λ u. absurd cc;
  full = λ u. absurd cc;
  ends = λ wanted own limit. record { only = λ same. absurd (own.read (sym is ∙ same)); always = λ given told n. absurd (n rose) };
  long_rig = λ long told n. absurd (n rose);
  other = (λ u. absurd cc, λ u. absurd cc);
  complete = λ valid told l s o. absurd (l rose);
}

-- a store or a write failed
by-write : (a : RunWords) (e : Ends) (texts : Texts) (exit : Exit) → RunMakes a e.shelf.files texts → Rose e.shelf.stores e.shelf'.stores ⊎ Rose e.out.faults e.out'.faults
    → e.shelf'.loads ≡ e.shelf.loads → exit ≡ exits.WriteFault → RunCaused a e exit
by-write a e texts exit made blamed loads is = record {
  no_usage = λ u. absurd cc;
  read_fault = λ r. absurd cc;
  write_fault = λ _. blamed;
  load_shows = λ more. absurd (omega arith);
  store_shows = λ _. is;
  write_shows = λ _. is;
  drained = λ u. absurd cc;
  full = λ u. absurd cc;
  ends = λ wanted own limit. ends-never a e.shelf.files e.shelf.loads e.shelf'.loads texts exit wanted own made (λ same. own.write (sym is ∙ same));
  long_rig = λ long told n. absurd (long-made a e.shelf.files texts long told made);
  other = (λ u. absurd cc, λ u. absurd cc);
  complete = λ valid told l s o. elim blamed [ inl store ↦ absurd (s store) | inr write ↦ absurd (o write) ];
}

-- what failed, of the ways in which a store or a write fails
record Blamed (e : Ends) : Type 0 where
  pub count : Rose e.shelf.stores e.shelf'.stores ⊎ Rose e.out.faults e.out'.faults
  pub loads : e.shelf'.loads ≡ e.shelf.loads

blamed : (a : RunWords) (e : Ends) (texts : Texts) (report : Option (List ℕ))
    → MatchOption report (FailsAlone e) (λ q. Unstored (drained_job a.trace texts q) e ⊎ Unprinted (drained_job a.trace texts q) e) → Blamed e
blamed a e texts None f = record { count = inl f.failed.rose; loads = f.failed.loads }
blamed a e texts (Some q) (inl u) = record { count = inl u.failed.rose; loads = u.failed.loads }
blamed a e texts (Some q) (inr u) = record { count = inr u.rose; loads = u.loads }

-- a file is refused, or memory is wanting
ends-by : (a : RunWords) (files : Option FilesByName) (loads loads' : ℕ) (r : Refusal) (exit wanted : Exit) → IsOfFiles wanted → (r ≡ refusals.OutOfMemory) ⊎ (r ≢ refusals.OutOfMemory)
    → RunYields a files (Err r) → exit ≡ exit_of r → RunEndsExactly a files loads loads' exit wanted
ends-by a files loads loads' r exit wanted own (inl want) y is = record { only = λ same. (r, sym is ∙ same, y); always = λ given told n. inr (is ∙ ap exit_of want) }
ends-by a files loads loads' r exit wanted own (inr not) y is = record {
  only = λ same. (r, sym is ∙ same, y);
  always = λ given told n. let (q, to, z) = given in inl (is ∙ ap exit_of ((told-end a files told).refusal r q y z not (not-memory wanted own q to)) ∙ to);
}

by-refusal : (a : RunWords) (e : Ends) (r : Refusal) (exit : Exit) → (r ≡ refusals.OutOfMemory) ⊎ (r ≢ refusals.OutOfMemory) → IsPlainEnd exit → RunYields a e.shelf.files (Err r) → Leaves e
    → exit ≡ exit_of r → RunCaused a e exit
by-refusal a e r exit want plain y leaves is = record {
  no_usage = plain.usage;
  read_fault = λ u. absurd (plain.read u);
  write_fault = λ u. absurd (plain.write u);
  load_shows = λ rose. let same : e.shelf'.loads ≡ e.shelf.loads = leaves.shelf.loads in absurd (omega arith);
  store_shows = λ rose. let same : e.shelf'.stores ≡ e.shelf.stores = leaves.shelf.stores in absurd (omega arith);
  write_shows = λ rose. let same : e.out'.faults ≡ e.out.faults = leaves.out.faults in absurd (omega arith);
  drained = λ u. absurd (plain.ok u);
  full = λ u. absurd (plain.limit u);
  ends = λ wanted own limit. ends-by a e.shelf.files e.shelf.loads e.shelf'.loads r exit wanted own want y is;
  long_rig = λ long told n. is ∙ ap exit_of (long-end a e.shelf.files r long told y);
  other = (plain.source, plain.trace);
  complete = λ valid told l s o. elim (valid-want a e.shelf.files told valid r y) [ inl w ↦ inl (inr (is ∙ ap exit_of w)) | inr f ↦ absurd (plain.limit (is ∙ ap exit_of f)) ];
}

refused : (a : RunWords) (e : Ends) (r : Refusal) (exit : Exit) → RunRefuses a e r → exit ≡ exit_of r → RunCaused a e exit
refused a e refusals.Usage exit h is = absurd h
refused a e refusals.Read exit h is = by-load a e exit h.failed.rose h.failed.stores h.out.faults is
refused a e refusals.Write exit (texts, made, f) is = let b = blamed a e texts texts.report f in by-write a e texts exit made b.count b.loads is
refused a e refusals.OutOfMemory exit h is =
    by-refusal a e refusals.OutOfMemory exit (inl refl)
    (record { ok = λ u. absurd cc; usage = λ u. absurd cc; read = λ u. absurd cc; write = λ u. absurd cc; source = λ u. absurd cc; trace = λ u. absurd cc; limit = λ u. absurd cc }) h.0 h.1 is
refused a e (refusals.Bad f) exit h is =
    by-refusal a e (refusals.Bad f) exit (inr (λ u. absurd cc)) (subst IsPlainEnd (sym is) (fault-plain f (run-fault a e.shelf.files f h.0))) h.0 h.1 is
refused a e refusals.StepLimit exit (texts, made, none, stored) is = by-limit a e texts exit made (ran_full a e texts made none stored) is
refused a e refusals.TooLong exit h is =
    by-refusal a e refusals.TooLong exit (inr (λ u. absurd cc))
    (record { ok = λ u. absurd cc; usage = λ u. absurd cc; read = λ u. absurd cc; write = λ u. absurd cc; source = λ u. absurd cc; trace = λ u. absurd cc; limit = λ u. absurd cc }) h.0 h.1 is

pub run_caused : (a : RunWords) (e : Ends) (written : Option (List ℕ)) (faults : ℕ) (written' : Option (List ℕ)) (faults' : ℕ) (exit : Exit) → RunEnded a e written faults written' faults' exit
    → RunCaused a e exit
run_caused a e written faults written' faults' exit (inl ((texts, made, done), is, silent, calm)) = by-text a e texts exit made (ran_drained a e texts made done) is
run_caused a e written faults written' faults' exit (inr (r, refuses, is, says)) = refused a e r exit refuses is
