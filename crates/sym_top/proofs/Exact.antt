-- An ended command's status is the one that its files and the counts of faults want.
use Rattle.std.proofs.Common.{◌≡◌, ◌≢◌, ℕ, ◌<◌, List, Option, Err, refl, sym, ap, subst, ◌∙◌, inl, inr, arith}
use Rattle.std.specs.Prelude.{◌⊎◌, IsSome}
use Rattle.sym_io.specs.ByName.{FilesByName}
use Rattle.sym_io.specs.Causes.{Rose}
use Rattle.refusal_lines.specs.Refusals.{exit_of}
use Rattle.refusal_lines.specs.declared.exit.Exit.{Exit}
use Rattle.refusal_lines.specs.declared.exit.Exit.TheVariants as exits
use Rattle.refusal_lines.specs.declared.refusal.Refusal.{Refusal}
use Rattle.refusal_lines.specs.declared.refusal.Refusal.TheVariants as refusals
use Rattle.sym_top.specs.Calls.{Ends, Leaves, Refuses, Ended}
use Rattle.sym_top.specs.CommandLine.{Command, one, asm, list, step, replay, load, Spells}
use Rattle.sym_top.specs.Jobs.{Job, Output, first_loaded, stored_by, TouchesNoFile, IsTold, Makes, Yields, EndsAs, IsValid}
use Rattle.sym_top.specs.Causes.{EndsExactly, FirstIsLong, NoRise, IsOnly, IsServed}
use Rattle.sym_top.proofs.OneCause.{told_end}
use Rattle.sym_top.proofs.OneCommand.{one_command}
use Rattle.sym_top.proofs.ValidFiles.{valid_ends, long_ends, long_made, has_steps, fault_no_usage, fault_no_read, fault_no_write}

-- a job that stores a file is that of a command that names one
pub names_file : (c : Command) (files : Option FilesByName) (job : Job) → Makes c files job → IsSome job.output → IsSome (stored_by c)
names_file (one lba) files job m some = subst (λ (o : Option Output). IsSome o) m.1 some
names_file (asm file out) files job m some = refl
names_file (list file) files job (x, g, k) some = subst (λ (o : Option Output). IsSome o) k.1 some
names_file (step rig work seed trace) files job m some = refl
names_file (replay rig work trace) files job (r, g, (w, h, (ls, i, k))) some = subst (λ (o : Option Output). IsSome o) k.1 some
names_file (load count seed) files job m some = subst (λ (o : Option Output). IsSome o) m.1 some

-- a status that blames neither words, counts nor memory, nor is success
pub record IsOfFiles (wanted : Exit) : Type 0 where
  pub ok : exits.Ok ≢ wanted
  pub read : exits.ReadFault ≢ wanted
  pub write : exits.WriteFault ≢ wanted
  pub memory : exits.OutOfMemory ≢ wanted

-- what the status of a command comes from
pub record Caused (c : Command) (e : Ends) (exit : Exit) : Type 0 where
  pub no_usage : exit ≢ exits.Usage
  pub no_read : TouchesNoFile c → exit ≢ exits.ReadFault
  pub read_fault : exit ≡ exits.ReadFault → Rose e.shelf.loads e.shelf'.loads
  pub write_fault : exit ≡ exits.WriteFault → (IsSome (stored_by c) × Rose e.shelf.stores e.shelf'.stores) ⊎ Rose e.out.faults e.out'.faults
  pub load_shows : e.shelf.loads < e.shelf'.loads → exit ≡ exits.ReadFault
  pub store_shows : e.shelf.stores < e.shelf'.stores → exit ≡ exits.WriteFault
  pub write_shows : e.out.faults < e.out'.faults → exit ≡ exits.WriteFault
  pub ends : (wanted : Exit) → IsOfFiles wanted → EndsExactly c e.shelf.files e.shelf.loads e.shelf'.loads exit wanted
  pub first_long : FirstIsLong c e.shelf.files e.shelf.loads e.shelf'.loads exit
  pub complete : IsValid c e.shelf.files → IsTold c e.shelf.files → NoRise e.shelf.loads e.shelf'.loads → NoRise e.shelf.stores e.shelf'.stores → NoRise e.out.faults e.out'.faults → IsServed c exit
  pub done : (job : Job) → Makes c e.shelf.files job → IsTold c e.shelf.files → NoRise e.shelf.loads e.shelf'.loads → NoRise e.shelf.stores e.shelf'.stores → NoRise e.out.faults e.out'.faults
      → IsOnly exit exits.Ok

-- ---- the end where a job is made

not-memory : (wanted : Exit) → IsOfFiles wanted → (r : Refusal) → exit_of r ≡ wanted → r ≢ refusals.OutOfMemory
not-memory wanted own r is e = own.memory (sym (ap exit_of e) ∙ is)

made-not : (c : Command) (files : Option FilesByName) (job : Job) (wanted : Exit) → IsOfFiles wanted → Makes c files job → EndsAs c files wanted → IsTold c files → ⊥
made-not c files job wanted own made (r, is, y) told = not-memory wanted own r is ((told_end c files told).either job r made y)

ends-never : (c : Command) (files : Option FilesByName) (loads loads' : ℕ) (job : Job) (exit wanted : Exit) → IsOfFiles wanted → Makes c files job → exit ≢ wanted
    → EndsExactly c files loads loads' exit wanted
ends-never c files loads loads' job exit wanted own made not =
    record { only = λ is. absurd (not is); always = λ given told n. absurd (made-not c files job wanted own made given told) }

caused-done : (c : Command) (e : Ends) (job : Job) (exit : Exit) → Makes c e.shelf.files job → e.shelf'.loads ≡ e.shelf.loads → e.shelf'.stores ≡ e.shelf.stores → e.out'.faults ≡ e.out.faults
    → exit ≡ exits.Ok → Caused c e exit
caused-done c e job exit made loads stores out is = record {
  no_usage = λ u. absurd cc;
  no_read = λ none r. absurd cc;
  read_fault = λ r. absurd cc;
  write_fault = λ w. absurd cc;
  load_shows = λ rose. absurd (omega arith);
  store_shows = λ rose. absurd (omega arith);
  write_shows = λ rose. absurd (omega arith);
  ends = λ wanted own. ends-never c e.shelf.files e.shelf.loads e.shelf'.loads job exit wanted own made (λ same. own.ok (sym is ∙ same));
  first_long = λ long told n. absurd (long_made c e.shelf.files job long made told);
  complete = λ valid told a b d. inl (inl is);
  done = λ other m told a b d. inl is;
}

-- ---- the end where a file or the run is refused

ends-by : (c : Command) (files : Option FilesByName) (loads loads' : ℕ) (r : Refusal) (exit wanted : Exit) → IsOfFiles wanted → Yields c files (Err r) → exit ≡ exit_of r
    → EndsExactly c files loads loads' exit wanted
ends-by c files loads loads' r exit wanted own y is = record { only = λ same. (r, sym is ∙ same, y); always = λ given told n. always r y is given told }
  where
    always : (r : Refusal) → Yields c files (Err r) → exit ≡ exit_of r → EndsAs c files wanted → IsTold c files → IsOnly exit wanted
    always refusals.OutOfMemory y is given told = inr is
    always refusals.Usage y is (q, to, z) told =
        inl (is ∙ ap exit_of ((told_end c files told).refusal refusals.Usage q y z (λ e. absurd cc) (not-memory wanted own q to)) ∙ to)
    always refusals.Read y is (q, to, z) told =
        inl (is ∙ ap exit_of ((told_end c files told).refusal refusals.Read q y z (λ e. absurd cc) (not-memory wanted own q to)) ∙ to)
    always refusals.Write y is (q, to, z) told =
        inl (is ∙ ap exit_of ((told_end c files told).refusal refusals.Write q y z (λ e. absurd cc) (not-memory wanted own q to)) ∙ to)
    always (refusals.Bad f) y is (q, to, z) told =
        inl (is ∙ ap exit_of ((told_end c files told).refusal (refusals.Bad f) q y z (λ e. absurd cc) (not-memory wanted own q to)) ∙ to)
    always refusals.StepLimit y is (q, to, z) told =
        inl (is ∙ ap exit_of ((told_end c files told).refusal refusals.StepLimit q y z (λ e. absurd cc) (not-memory wanted own q to)) ∙ to)
    always refusals.TooLong y is (q, to, z) told =
        inl (is ∙ ap exit_of ((told_end c files told).refusal refusals.TooLong q y z (λ e. absurd cc) (not-memory wanted own q to)) ∙ to)

-- a refusal that blames neither words nor counts
pub record IsQuiet (r : Refusal) : Type 0 where
  pub usage : exit_of r ≢ exits.Usage
  pub read : exit_of r ≢ exits.ReadFault
  pub write : exit_of r ≢ exits.WriteFault

caused-by : (c : Command) (e : Ends) (r : Refusal) (exit : Exit) → IsQuiet r → Yields c e.shelf.files (Err r) → Leaves e → exit ≡ exit_of r → Caused c e exit
caused-by c e r exit quiet y leaves is = record {
  no_usage = λ u. quiet.usage (sym is ∙ u);
  no_read = λ none u. quiet.read (sym is ∙ u);
  read_fault = λ u. absurd (quiet.read (sym is ∙ u));
  write_fault = λ u. absurd (quiet.write (sym is ∙ u));
  load_shows = λ rose. let same : e.shelf'.loads ≡ e.shelf.loads = leaves.shelf.loads in absurd (omega arith);
  store_shows = λ rose. let same : e.shelf'.stores ≡ e.shelf.stores = leaves.shelf.stores in absurd (omega arith);
  write_shows = λ rose. let same : e.out'.faults ≡ e.out.faults = leaves.out.faults in absurd (omega arith);
  ends = λ wanted own. ends-by c e.shelf.files e.shelf.loads e.shelf'.loads r exit wanted own y is;
  first_long = λ long told n. is ∙ ap exit_of (long_ends c e.shelf.files r long y told);
  complete = λ valid told a b d. served r y is valid told;
  done = λ job made told a b d. inr (is ∙ ap exit_of ((told_end c e.shelf.files told).either job r made y));
}
  where
    served : (r : Refusal) → Yields c e.shelf.files (Err r) → exit ≡ exit_of r → IsValid c e.shelf.files → IsTold c e.shelf.files → IsServed c exit
    served r y is valid told = elim (valid_ends c e.shelf.files r valid y told) [
      | inl want ↦ inl (inr (is ∙ ap exit_of want))
      | inr full ↦ inr (has_steps c e.shelf.files (subst (λ (q : Refusal). Yields c e.shelf.files (Err q)) full y), is ∙ ap exit_of full)
    ]

-- ---- the end where a count rose

loads-none : (c : Command) → TouchesNoFile c → IsSome (first_loaded c) → ⊥
loads-none (one lba) none some = absurd cc
loads-none (load count seed) none some = absurd cc
loads-none (asm file out) none some = none
loads-none (list file) none some = none
loads-none (step rig work seed trace) none some = none
loads-none (replay rig work trace) none some = none

caused-read : (c : Command) (e : Ends) (exit : Exit) → IsSome (first_loaded c) → Rose e.shelf.loads e.shelf'.loads → e.shelf'.stores ≡ e.shelf.stores → e.out'.faults ≡ e.out.faults
    → exit ≡ exits.ReadFault → Caused c e exit
caused-read c e exit some rose stores out is = record {
  no_usage = λ u. absurd cc;
  no_read = λ none. absurd (loads-none c none some);
  read_fault = λ _. rose;
  write_fault = λ w. absurd cc;
  load_shows = λ _. is;
  store_shows = λ more. absurd (omega arith);
  write_shows = λ more. absurd (omega arith);
  ends = λ wanted own. record { only = λ same. absurd (own.read (sym is ∙ same)); always = λ given told n. absurd (n rose) };
  first_long = λ long told n. absurd (n rose);
  complete = λ valid told a b d. absurd (a rose);
  done = λ job made told a b d. absurd (a rose);
}

-- where a write is blamed, on the shelf or on the output, the job was made
caused-write : (c : Command) (e : Ends) (job : Job) (exit : Exit) → Makes c e.shelf.files job → (IsSome (stored_by c) × Rose e.shelf.stores e.shelf'.stores) ⊎ Rose e.out.faults e.out'.faults
    → e.shelf'.loads ≡ e.shelf.loads → exit ≡ exits.WriteFault → Caused c e exit
caused-write c e job exit made blamed loads is = record {
  no_usage = λ u. absurd cc;
  no_read = λ none r. absurd cc;
  read_fault = λ r. absurd cc;
  write_fault = λ _. blamed;
  load_shows = λ more. absurd (omega arith);
  store_shows = λ _. is;
  write_shows = λ _. is;
  ends = λ wanted own. ends-never c e.shelf.files e.shelf.loads e.shelf'.loads job exit wanted own made (λ same. own.write (sym is ∙ same));
  first_long = λ long told n. absurd (long_made c e.shelf.files job long made told);
  complete = λ valid told a b d. elim blamed [ inl store ↦ absurd (b store.1) | inr write ↦ absurd (d write) ];
  done = λ other m told a b d. elim blamed [ inl store ↦ absurd (b store.1) | inr write ↦ absurd (d write) ];
}

-- ---- every end

refused : (c : Command) (e : Ends) (r : Refusal) (exit : Exit) → Refuses c e r → exit ≡ exit_of r → Caused c e exit
refused c e refusals.Usage exit r is = absurd r
refused c e refusals.Read exit r is = caused-read c e exit r.0 r.1.failed.rose r.1.failed.stores r.1.out.faults is
refused c e refusals.Write exit (job, made, inl u) is = caused-write c e job exit made (inl (names_file c e.shelf.files job made u.some, u.failed.rose)) u.failed.loads is
refused c e refusals.Write exit (job, made, inr u) is = caused-write c e job exit made (inr u.rose) u.loads is
refused c e refusals.OutOfMemory exit r is = caused-by c e refusals.OutOfMemory exit (record { usage = λ u. absurd cc; read = λ u. absurd cc; write = λ u. absurd cc }) r.0 r.1 is
refused c e (refusals.Bad f) exit r is = caused-by c e (refusals.Bad f) exit (record { usage = fault_no_usage f; read = fault_no_read f; write = fault_no_write f }) r.0 r.1 is
refused c e refusals.StepLimit exit r is = caused-by c e refusals.StepLimit exit (record { usage = λ u. absurd cc; read = λ u. absurd cc; write = λ u. absurd cc }) r.0 r.1 is
refused c e refusals.TooLong exit r is = caused-by c e refusals.TooLong exit (record { usage = λ u. absurd cc; read = λ u. absurd cc; write = λ u. absurd cc }) r.0 r.1 is

pub caused : (c : Command) (e : Ends) (written : Option (List ℕ)) (faults : ℕ) (written' : Option (List ℕ)) (faults' : ℕ) (exit : Exit) → Ended c e written faults written' faults' exit → Caused c e exit
caused c e written faults written' faults' exit (inl (ran, is, silent, calm)) = caused-done c e ran.0 exit ran.1 ran.2.loads ran.2.stores ran.2.out is
caused c e written faults written' faults' exit (inr (r, refuses, is, says)) = refused c e r exit refuses is

-- the same of each command that the words spell, which is one
pub spelled : (P : Command → Type 0) (words : List (List ℕ)) (c : Command) → Spells words c → P c → (d : Command) → Spells words d → P d
spelled P words c s p d t = subst P (one_command words c d s t) p

pub done_for : (words : List (List ℕ)) (c : Command) → Spells words c → (e : Ends) (exit : Exit) → Caused c e exit → (d : Command) (job : Job) → Spells words d → Makes d e.shelf.files job
    → IsTold d e.shelf.files → NoRise e.shelf.loads e.shelf'.loads → NoRise e.shelf.stores e.shelf'.stores → NoRise e.out.faults e.out'.faults → IsOnly exit exits.Ok
done_for words c s e exit k d job t =
    subst (λ (x : Command). Makes x e.shelf.files job → IsTold x e.shelf.files → NoRise e.shelf.loads e.shelf'.loads → NoRise e.shelf.stores e.shelf'.stores → NoRise e.out.faults e.out'.faults
    → IsOnly exit exits.Ok) (one_command words c d s t) (k.done job)
