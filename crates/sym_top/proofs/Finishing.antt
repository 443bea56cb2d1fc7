-- A job that was made is finished.
use Rattle.std.proofs.Common.{◌≡◌, ℕ, Option, Result, Ok, Err, ap, subst, ◌∙◌, inr}
use Rattle.sym_io.specs.ByName.{FilesByName}
use Rattle.refusal_lines.specs.declared.refusal.Refusal.{Refusal}
use Rattle.refusal_lines.specs.declared.refusal.Refusal.TheVariants as refusals
use Rattle.run_files.specs.Shelves.{Shelved, IsKept}
use Rattle.sym_top.specs.CommandLine.{Command, one, asm, list, step, replay, load}
use Rattle.sym_top.specs.Jobs.{Job, Makes, Yields}
use Rattle.sym_top.specs.Calls.{Sunk, ends, Finishes, Runs}

pub same_shelf : (s m : Shelved) → IsKept s m → m ≡ s
same_shelf s m k =
    let with_files : Option FilesByName → Shelved = λ x. record { files = x; loads = m.loads; stores = m.stores } in
    let with_loads : ℕ → Shelved = λ x. record { files = s.files; loads = x; stores = m.stores } in
    let with_stores : ℕ → Shelved = λ x. record { files = s.files; loads = s.loads; stores = x } in
    ap with_files k.files ∙ ap with_loads k.loads ∙ ap with_stores k.stores

-- where a job can be made, memory may be wanting
want-made : (c : Command) (files : Option FilesByName) (job : Job) → Makes c files job → Yields c files (Err refusals.OutOfMemory)
want-made (one lba) files job m = tt
want-made (asm file out) files job (x, g, k) = inr (x, g, tt)
want-made (list file) files job (x, g, k) = inr (x, g, tt)
want-made (step rig work seed trace) files job (r, g, (w, h, k)) = inr (r, g, inr (w, h, tt))
want-made (replay rig work trace) files job (r, g, (w, h, (ls, i, k))) = inr (r, g, inr (w, h, inr (ls, i, tt)))
want-made (load count seed) files job m = tt

finished : (c : Command) (s t : Shelved) (o o' : Sunk) (job : Job) (r : Result (Unit {0}) Refusal) → Makes c s.files job → Finishes job (ends s t o o') r → Runs c (ends s t o o') r
finished c s t o o' job (Ok done) m h = (job, m, h)
finished c s t o o' job (Err refusals.Usage) m h = absurd h
finished c s t o o' job (Err refusals.Read) m h = absurd h
finished c s t o o' job (Err refusals.Write) m h = (job, m, h)
finished c s t o o' job (Err refusals.OutOfMemory) m h = (want-made c s.files job m, h)
finished c s t o o' job (Err (refusals.Bad f)) m h = absurd h
finished c s t o o' job (Err refusals.StepLimit) m h = absurd h
finished c s t o o' job (Err refusals.TooLong) m h = absurd h

pub finish_runs : (c : Command) (s m t : Shelved) (o o' : Sunk) (job : Job) (r : Result (Unit {0}) Refusal) → Makes c s.files job → IsKept s m → Finishes job (ends m t o o') r
    → Runs c (ends s t o o') r
finish_runs c s m t o o' job r made k h = finished c s t o o' job r made (subst (λ (x : Shelved). Finishes job (ends x t o o') r) (same_shelf s m k) h)
