-- Where files are told, a stage ends in one way, but for want of memory, and so do stages one after another.
use Rattle.std.proofs.Common.{◌≡◌, ◌≢◌, ℕ, List, length, Some, None, Option, Result, Ok, Err, refl, ap, subst, arith, inl, inr}
use Rattle.sym_io.specs.ByName.{FilesByName, whole_file}
use Rattle.refusal_lines.specs.declared.fault.Fault.{Fault}
use Rattle.refusal_lines.specs.declared.refusal.Refusal.{Refusal}
use Rattle.refusal_lines.specs.declared.refusal.Refusal.TheVariants as refusals
use Rattle.run_files.specs.Shelves.{IsFile, ExceedsLimit, FitsLimit}
use Rattle.run_files.specs.Loading.{HasIn}
use Rattle.run_files.specs.Laws.{OneOf}
use Rattle.bench_jobs.specs.Laws.{OneAnswer}
use Rattle.sym_top.specs.Causes.{OneEnd}
use Rattle.sym_top.specs.Stages.{Then, Reads, WantsMemory}

-- ---- files within their limit

pub file_fits : (limit : ℕ) (files : Option FilesByName) (name bytes : List ℕ) → IsFile limit files name bytes → FitsLimit limit files name
file_fits limit None name bytes f = tt
file_fits limit (Some held) name bytes f = let e : length bytes ≡ length (whole_file held name) = ap length f.whole in omega (arith, f.within)

pub not_long : (limit : ℕ) (held : FilesByName) (name : List ℕ) → FitsLimit limit (Some held) name → ExceedsLimit limit (Some held) name → ⊥
not_long limit held name fits long = omega (arith, fits, long)

pub in_fits : {A : Type 0} (limit : ℕ) (files : Option FilesByName) (name : List ℕ) (Says : List ℕ → A → Type 0) (x : A) → HasIn limit files name Says x → FitsLimit limit files name
in_fits limit files name Says x (bytes, is, says) = file_fits limit files name bytes is

-- ---- one stage

-- a file that has a value or a fault is within its limit
pub record AreWithin {A : Type 0} (limit : ℕ) (files : Option FilesByName) (name : List ℕ) (Has : A → Type 0) (Fails : Fault → Type 0) : Type 0 where
  pub value : (x : A) → Has x → FitsLimit limit files name
  pub fault : (f : Fault) → Fails f → FitsLimit limit files name

pub reads_end : {A : Type 0} (limit : ℕ) (held : FilesByName) (name : List ℕ) (Has : A → Type 0) (Fails : Fault → Type 0) → OneOf Has Fails → AreWithin limit (Some held) name Has Fails
    → OneEnd (Reads limit (Some held) name Has Fails)
reads_end {A} limit held name Has Fails one within = record { either = either; refusal = refusal }
  where
    either : (x : A) (r : Refusal) → Reads limit (Some held) name Has Fails (Ok x) → Reads limit (Some held) name Has Fails (Err r) → r ≡ refusals.OutOfMemory
    either x refusals.Usage h k = absurd k
    either x refusals.Read h k = absurd k
    either x refusals.Write h k = absurd k
    either x refusals.OutOfMemory h k = refl
    either x (refusals.Bad f) h k = absurd (one.either x f h k)
    either x refusals.StepLimit h k = absurd k
    either x refusals.TooLong h k = absurd (not_long limit held name (within.value x h) k)

    refusal : (q r : Refusal) → Reads limit (Some held) name Has Fails (Err q) → Reads limit (Some held) name Has Fails (Err r) → q ≢ refusals.OutOfMemory → r ≢ refusals.OutOfMemory → q ≡ r
    refusal refusals.Usage r h k m n = absurd h
    refusal refusals.Read r h k m n = absurd h
    refusal refusals.Write r h k m n = absurd h
    refusal refusals.OutOfMemory r h k m n = absurd (m refl)
    refusal (refusals.Bad f) refusals.Usage h k m n = absurd k
    refusal (refusals.Bad f) refusals.Read h k m n = absurd k
    refusal (refusals.Bad f) refusals.Write h k m n = absurd k
    refusal (refusals.Bad f) refusals.OutOfMemory h k m n = absurd (n refl)
    refusal (refusals.Bad f) (refusals.Bad g) h k m n = ap (λ (x : Fault). refusals.Bad x) (one.fault f g h k)
    refusal (refusals.Bad f) refusals.StepLimit h k m n = absurd k
    refusal (refusals.Bad f) refusals.TooLong h k m n = absurd (not_long limit held name (within.fault f h) k)
    refusal refusals.StepLimit r h k m n = absurd h
    refusal refusals.TooLong refusals.Usage h k m n = absurd k
    refusal refusals.TooLong refusals.Read h k m n = absurd k
    refusal refusals.TooLong refusals.Write h k m n = absurd k
    refusal refusals.TooLong refusals.OutOfMemory h k m n = absurd (n refl)
    refusal refusals.TooLong (refusals.Bad f) h k m n = absurd (not_long limit held name (within.fault f k) h)
    refusal refusals.TooLong refusals.StepLimit h k m n = absurd k
    refusal refusals.TooLong refusals.TooLong h k m n = refl

-- what only want of memory refuses
pub wants_end : {A : Type 0} (Has : A → Type 0) (Given : Result A Refusal → Type 0) → ((r : Refusal) → Given (Err r) → WantsMemory r) → OneEnd Given
wants_end {A} Has Given wants = record {
  either = λ x r h k. only r (wants r k);
  refusal = λ q r h k m n. absurd (m (only q (wants q h)));
}
  where
    only : (r : Refusal) → WantsMemory r → r ≡ refusals.OutOfMemory
    only refusals.OutOfMemory h = refl
    only refusals.Usage h = absurd h
    only refusals.Read h = absurd h
    only refusals.Write h = absurd h
    only (refusals.Bad f) h = absurd h
    only refusals.StepLimit h = absurd h
    only refusals.TooLong h = absurd h

-- what has one answer, where a job is made of each value
pub answers_end : {A B : Type 0} (Answers : Result A Refusal → Type 0) (Given : Result B Refusal → Type 0) → OneAnswer Answers → ((y : B) → Given (Ok y) → (x : A) × Answers (Ok x))
    → ((r : Refusal) → Given (Err r) → Answers (Err r)) → OneEnd Given
answers_end {A} {B} Answers Given one ok err = record { either = either; refusal = refusal }
  where
    no-both : (x : A) (r : Refusal) → Answers (Ok x) → Answers (Err r) → r ≢ refusals.OutOfMemory → ⊥
    no-both x r h k n =
        let a : Result A Refusal = Ok x in
        let b : Result A Refusal = Err r in
        let same : a ≡ b = one a b h k (λ e. absurd cc) (λ e. n (let g : r ≡ refusals.OutOfMemory = cc in g)) in
        absurd cc

    decide : (r : Refusal) → (r ≢ refusals.OutOfMemory → ⊥) → r ≡ refusals.OutOfMemory
    decide refusals.OutOfMemory n = refl
    decide refusals.Usage n = absurd (n (λ e. absurd cc))
    decide refusals.Read n = absurd (n (λ e. absurd cc))
    decide refusals.Write n = absurd (n (λ e. absurd cc))
    decide (refusals.Bad f) n = absurd (n (λ e. absurd cc))
    decide refusals.StepLimit n = absurd (n (λ e. absurd cc))
    decide refusals.TooLong n = absurd (n (λ e. absurd cc))

    either : (y : B) (r : Refusal) → Given (Ok y) → Given (Err r) → r ≡ refusals.OutOfMemory
    either y r h k = let a = ok y h in decide r (no-both a.0 r a.1 (err r k))

    refusal : (q r : Refusal) → Given (Err q) → Given (Err r) → q ≢ refusals.OutOfMemory → r ≢ refusals.OutOfMemory → q ≡ r
    refusal q r h k m n =
        let a : Result A Refusal = Err q in
        let b : Result A Refusal = Err r in
        let same : a ≡ b = one a b (err q h) (err r k) (λ e. m (let g : q ≡ refusals.OutOfMemory = cc in g)) (λ e. n (let g : r ≡ refusals.OutOfMemory = cc in g)) in
        cc

-- ---- stages one after another

pub then_ends : {A B : Type 0} (First : Result A Refusal → Type 0) (Next : A → Result B Refusal → Type 0) → ((x y : A) → First (Ok x) → First (Ok y) → x ≡ y) → OneEnd First
    → ((x : A) → OneEnd (Next x)) → OneEnd (Then First Next)
then_ends {A} {B} First Next one first next = record { either = either; refusal = refusal }
  where
    either : (y : B) (r : Refusal) → Then First Next (Ok y) → Then First Next (Err r) → r ≡ refusals.OutOfMemory
    either y r (x, f, n) (inl k) = first.either x r f k
    either y r (x, f, n) (inr (z, g, k)) = (next x).either y r n (subst (λ (w : A). Next w (Err r)) (one z x g f) k)

    refusal : (q r : Refusal) → Then First Next (Err q) → Then First Next (Err r) → q ≢ refusals.OutOfMemory → r ≢ refusals.OutOfMemory → q ≡ r
    refusal q r (inl h) (inl k) m n = first.refusal q r h k m n
    refusal q r (inl h) (inr (z, g, k)) m n = absurd (m (first.either z q g h))
    refusal q r (inr (x, f, h)) (inl k) m n = absurd (n (first.either x r f k))
    refusal q r (inr (x, f, h)) (inr (z, g, k)) m n = (next x).refusal q r h (subst (λ (w : A). Next w (Err r)) (one z x g f) k) m n
