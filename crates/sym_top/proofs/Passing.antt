-- Stages over a shelf: what the first one that is refused, and the last, make of the whole.
use Rattle.std.proofs.Common.{◌≡◌, ℕ, List, Option, Result, Ok, Err, subst, sym, ◌∙◌, inr}
use Rattle.std.specs.Prelude.{IsErrAnd}
use Rattle.sym_io.specs.ByName.{FilesByName}
use Rattle.sym_io.specs.Causes.{Rose}
use Rattle.refusal_lines.specs.declared.fault.Fault.{Fault}
use Rattle.refusal_lines.specs.declared.refusal.Refusal.{Refusal}
use Rattle.refusal_lines.specs.declared.refusal.Refusal.TheVariants as refusals
use Rattle.run_files.specs.Shelves.{Shelved, IsKept, FailsLoad}
use Rattle.run_files.specs.Loading.{LoadsAs}
use Rattle.sym_top.specs.Making.{Passes}
use Rattle.sym_top.specs.Stages.{Then, Reads}

keeps : (s m t : Shelved) → IsKept s m → IsKept m t → IsKept s t
keeps s m t a b = record { files = b.files ∙ a.files; loads = b.loads ∙ a.loads; stores = b.stores ∙ a.stores }

fails-later : (s m t : Shelved) → IsKept s m → FailsLoad m t → FailsLoad s t
fails-later s m t a f = record { rose = subst (λ (n : ℕ). Rose n t.loads) a.loads f.rose; stores = f.stores ∙ a.stores; files = f.files ∙ a.files }

-- a stage behind one that keeps the shelf
pub passed_on : {A : Type 0} (Of : Option FilesByName → Result A Refusal → Type 0) (s m t : Shelved) (r : Result A Refusal) → IsKept s m → Passes Of m t r → Passes Of s t r
passed_on Of s m t (Ok x) a h = (subst (λ (fs : Option FilesByName). Of fs (Ok x)) a.files h.0, keeps s m t a h.1)
passed_on Of s m t (Err refusals.Usage) a h = absurd h
passed_on Of s m t (Err refusals.Read) a h = fails-later s m t a h
passed_on Of s m t (Err refusals.Write) a h = absurd h
passed_on Of s m t (Err refusals.OutOfMemory) a h = (subst (λ (fs : Option FilesByName). Of fs (Err refusals.OutOfMemory)) a.files h.0, keeps s m t a h.1)
passed_on Of s m t (Err (refusals.Bad f)) a h = (subst (λ (fs : Option FilesByName). Of fs (Err (refusals.Bad f))) a.files h.0, keeps s m t a h.1)
passed_on Of s m t (Err refusals.StepLimit) a h = (subst (λ (fs : Option FilesByName). Of fs (Err refusals.StepLimit)) a.files h.0, keeps s m t a h.1)
passed_on Of s m t (Err refusals.TooLong) a h = (subst (λ (fs : Option FilesByName). Of fs (Err refusals.TooLong)) a.files h.0, keeps s m t a h.1)

-- what some stages give is what more give
pub passed_as : {A : Type 0} (P Of : Option FilesByName → Result A Refusal → Type 0) (s t : Shelved) (r : Result A Refusal)
    → ((q : Result A Refusal) → P s.files q → Of s.files q) → Passes P s t r → Passes Of s t r
passed_as P Of s t (Ok x) up h = (up (Ok x) h.0, h.1)
passed_as P Of s t (Err refusals.Usage) up h = absurd h
passed_as P Of s t (Err refusals.Read) up h = h
passed_as P Of s t (Err refusals.Write) up h = absurd h
passed_as P Of s t (Err refusals.OutOfMemory) up h = (up (Err refusals.OutOfMemory) h.0, h.1)
passed_as P Of s t (Err (refusals.Bad f)) up h = (up (Err (refusals.Bad f)) h.0, h.1)
passed_as P Of s t (Err refusals.StepLimit) up h = (up (Err refusals.StepLimit) h.0, h.1)
passed_as P Of s t (Err refusals.TooLong) up h = (up (Err refusals.TooLong) h.0, h.1)

-- a file that is refused
pub file_refused : {A B : Type 0} (limit : ℕ) (name : List ℕ) (Has : A → Type 0) (Fails : Fault → Type 0) (Of : Option FilesByName → Result B Refusal → Type 0) (s t : Shelved) (r : Refusal)
    → ((q : Refusal) → Reads limit s.files name Has Fails (Err q) → Of s.files (Err q)) → LoadsAs limit name Has Fails s t (Err r) → Passes Of s t (Err r)
file_refused limit name Has Fails Of s t refusals.Usage up h = absurd h
file_refused limit name Has Fails Of s t refusals.Read up h = h
file_refused limit name Has Fails Of s t refusals.Write up h = absurd h
file_refused limit name Has Fails Of s t refusals.OutOfMemory up h = (up refusals.OutOfMemory h.0, h.1)
file_refused limit name Has Fails Of s t (refusals.Bad f) up h = (up (refusals.Bad f) h.0, h.1)
file_refused limit name Has Fails Of s t refusals.StepLimit up h = absurd h
file_refused limit name Has Fails Of s t refusals.TooLong up h = (up refusals.TooLong h.0, h.1)

-- a stage that touches no file is refused neither by words nor by files
pub record IsPure {A : Type 0} (P : Result A Refusal → Type 0) : Type 0 where
  pub usage : P (Err refusals.Usage) → ⊥
  pub read : P (Err refusals.Read) → ⊥
  pub write : P (Err refusals.Write) → ⊥

pub pure_passes : {A : Type 0} (P : Result A Refusal → Type 0) (Of : Option FilesByName → Result A Refusal → Type 0) (s t : Shelved) (r : Result A Refusal) → IsPure P
    → ((q : Result A Refusal) → P q → Of s.files q) → IsKept s t → P r → Passes Of s t r
pure_passes P Of s t (Ok x) pure up k h = (up (Ok x) h, k)
pure_passes P Of s t (Err refusals.Usage) pure up k h = absurd (pure.usage h)
pure_passes P Of s t (Err refusals.Read) pure up k h = absurd (pure.read h)
pure_passes P Of s t (Err refusals.Write) pure up k h = absurd (pure.write h)
pure_passes P Of s t (Err refusals.OutOfMemory) pure up k h = (up (Err refusals.OutOfMemory) h, k)
pure_passes P Of s t (Err (refusals.Bad f)) pure up k h = (up (Err (refusals.Bad f)) h, k)
pure_passes P Of s t (Err refusals.StepLimit) pure up k h = (up (Err refusals.StepLimit) h, k)
pure_passes P Of s t (Err refusals.TooLong) pure up k h = (up (Err refusals.TooLong) h, k)

-- the next stage, of the first one's value
pub then_next : {A B : Type 0} (First : Result A Refusal → Type 0) (Next : A → Result B Refusal → Type 0) (x : A) → First (Ok x) → (q : Result B Refusal) → Next x q → Then First Next q
then_next First Next x f (Ok y) n = (x, f, n)
then_next First Next x f (Err r) n = inr (x, f, n)

-- a refusal that is handed on
pub handed_on : {A : Type 0} (P : Result A Refusal → Type 0) (r : Result A Refusal) (e : Refusal) → IsErrAnd r (λ x. x ≡ e) → P (Err e) → P r
handed_on P (Ok x) e is h = absurd is
handed_on P (Err x) e is h = subst (λ (y : Refusal). P (Err y)) (sym is) h
