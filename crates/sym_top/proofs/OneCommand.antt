-- Words spell one command at most, and what is answered in place of a refusal comes for a cause of its own.
use Rattle.std.proofs.Common.{◌≡◌, ℕ, List, [], ◌∷◌, Option, Result, Err, sym, ap, ◌∙◌, arith, subst, inl, inr}
use Rattle.std.specs.Prelude.{codes}
use Rattle.std.proofs.lemmas.Fmt.{decimal_injective}
use Rattle.sym_io.specs.ByName.{FilesByName}
use Rattle.rig_types.specs.declared.rig.Rig.{Rig}
use Rattle.rig_types.specs.declared.work.Work.{Work}
use Rattle.refusal_lines.specs.Refusals.{TellsFault, Stands}
use Rattle.refusal_lines.specs.declared.fault.Fault.{Fault}
use Rattle.refusal_lines.specs.declared.refusal.Refusal.{Refusal}
use Rattle.refusal_lines.specs.declared.refusal.Refusal.TheVariants as refusals
use Rattle.bench_state.specs.States.{setting_of}
use Rattle.run_files.specs.Shelves.{FitsLimit}
use Rattle.sym_top.specs.Calls.{Ends, Refuses}
use Rattle.sym_top.specs.CommandLine.{Command, one, asm, list, step, replay, load, Spells, IsNumber}
use Rattle.sym_top.specs.Jobs.{Yields, AssemblyYields, ListingYields, StepYields, ReplayYields}
use Rattle.sym_top.specs.Stages.{Then, Reads, ReadsFile, ReadsRig, ReadsWork, ReadsTrace}
use Rattle.sym_top.proofs.OneCause.{rig_within, work_within, trace_within}

pub one_number : (word : List ℕ) (m n : ℕ) → IsNumber word m → IsNumber word n → m ≡ n
one_number word m n i j = decimal_injective m n (omega (arith, i.fits)) (omega (arith, j.fits)) (sym i.is ∙ j.is)

-- ---- words

pub one_command : (words : List (List ℕ)) (c d : Command) → Spells words c → Spells words d → c ≡ d
one_command words (one m) (one n) (v, e, i) (w, f, j) =
    let both : codes "one" ∷ v ∷ [] ≡ codes "one" ∷ w ∷ [] = sym e ∙ f in
    let same : v ≡ w = cc in
    ap one (one_number w m n (subst (λ (x : List ℕ). IsNumber x m) same i) j)
one_command words (one m) (asm file out) (v, e, i) f = absurd (let both : codes "one" ∷ v ∷ [] ≡ codes "asm" ∷ file ∷ out ∷ [] = sym e ∙ f in cc)
one_command words (one m) (list file) (v, e, i) f = absurd (let both : codes "one" ∷ v ∷ [] ≡ codes "list" ∷ file ∷ [] = sym e ∙ f in cc)
one_command words (one m) (step r w s t) (v, e, i) (x, f, j) = absurd (let both : codes "one" ∷ v ∷ [] ≡ codes "step" ∷ r ∷ w ∷ x ∷ t ∷ [] = sym e ∙ f in cc)
one_command words (one m) (replay r w t) (v, e, i) f = absurd (let both : codes "one" ∷ v ∷ [] ≡ codes "replay" ∷ r ∷ w ∷ t ∷ [] = sym e ∙ f in cc)
one_command words (one m) (load n s) (v, e, i) (x, y, f, j, few, k) = absurd (let both : codes "one" ∷ v ∷ [] ≡ codes "load" ∷ x ∷ y ∷ [] = sym e ∙ f in cc)
one_command words (asm file out) (one n) e (w, f, j) = absurd (let both : codes "asm" ∷ file ∷ out ∷ [] ≡ codes "one" ∷ w ∷ [] = sym e ∙ f in cc)
one_command words (asm file out) (asm file' out') e f = let both : codes "asm" ∷ file ∷ out ∷ [] ≡ codes "asm" ∷ file' ∷ out' ∷ [] = sym e ∙ f in cc
one_command words (asm file out) (list file') e f = absurd (let both : codes "asm" ∷ file ∷ out ∷ [] ≡ codes "list" ∷ file' ∷ [] = sym e ∙ f in cc)
one_command words (asm file out) (step r w s t) e (x, f, j) = absurd (let both : codes "asm" ∷ file ∷ out ∷ [] ≡ codes "step" ∷ r ∷ w ∷ x ∷ t ∷ [] = sym e ∙ f in cc)
one_command words (asm file out) (replay r w t) e f = absurd (let both : codes "asm" ∷ file ∷ out ∷ [] ≡ codes "replay" ∷ r ∷ w ∷ t ∷ [] = sym e ∙ f in cc)
one_command words (asm file out) (load n s) e (x, y, f, j, few, k) = absurd (let both : codes "asm" ∷ file ∷ out ∷ [] ≡ codes "load" ∷ x ∷ y ∷ [] = sym e ∙ f in cc)
one_command words (list file) (one n) e (w, f, j) = absurd (let both : codes "list" ∷ file ∷ [] ≡ codes "one" ∷ w ∷ [] = sym e ∙ f in cc)
one_command words (list file) (asm file' out) e f = absurd (let both : codes "list" ∷ file ∷ [] ≡ codes "asm" ∷ file' ∷ out ∷ [] = sym e ∙ f in cc)
one_command words (list file) (list file') e f = let both : codes "list" ∷ file ∷ [] ≡ codes "list" ∷ file' ∷ [] = sym e ∙ f in cc
one_command words (list file) (step r w s t) e (x, f, j) = absurd (let both : codes "list" ∷ file ∷ [] ≡ codes "step" ∷ r ∷ w ∷ x ∷ t ∷ [] = sym e ∙ f in cc)
one_command words (list file) (replay r w t) e f = absurd (let both : codes "list" ∷ file ∷ [] ≡ codes "replay" ∷ r ∷ w ∷ t ∷ [] = sym e ∙ f in cc)
one_command words (list file) (load n s) e (x, y, f, j, few, k) = absurd (let both : codes "list" ∷ file ∷ [] ≡ codes "load" ∷ x ∷ y ∷ [] = sym e ∙ f in cc)
one_command words (step r w s t) (one n) (x, e, i) (v, f, j) = absurd (let both : codes "step" ∷ r ∷ w ∷ x ∷ t ∷ [] ≡ codes "one" ∷ v ∷ [] = sym e ∙ f in cc)
one_command words (step r w s t) (asm file out) (x, e, i) f = absurd (let both : codes "step" ∷ r ∷ w ∷ x ∷ t ∷ [] ≡ codes "asm" ∷ file ∷ out ∷ [] = sym e ∙ f in cc)
one_command words (step r w s t) (list file) (x, e, i) f = absurd (let both : codes "step" ∷ r ∷ w ∷ x ∷ t ∷ [] ≡ codes "list" ∷ file ∷ [] = sym e ∙ f in cc)
one_command words (step r w s t) (step r' w' s' t') (x, e, i) (y, f, j) =
    let both : codes "step" ∷ r ∷ w ∷ x ∷ t ∷ [] ≡ codes "step" ∷ r' ∷ w' ∷ y ∷ t' ∷ [] = sym e ∙ f in
    let same : x ≡ y = cc in
    let seeds : s ≡ s' = one_number y s s' (subst (λ (z : List ℕ). IsNumber z s) same i) j in
    let rigs : r ≡ r' = cc in
    let works : w ≡ w' = cc in
    let traces : t ≡ t' = cc in
    cc
one_command words (step r w s t) (replay r' w' t') (x, e, i) f = absurd (let both : codes "step" ∷ r ∷ w ∷ x ∷ t ∷ [] ≡ codes "replay" ∷ r' ∷ w' ∷ t' ∷ [] = sym e ∙ f in cc)
one_command words (step r w s t) (load n m) (x, e, i) (y, z, f, j, few, k) = absurd (let both : codes "step" ∷ r ∷ w ∷ x ∷ t ∷ [] ≡ codes "load" ∷ y ∷ z ∷ [] = sym e ∙ f in cc)
one_command words (replay r w t) (one n) e (v, f, j) = absurd (let both : codes "replay" ∷ r ∷ w ∷ t ∷ [] ≡ codes "one" ∷ v ∷ [] = sym e ∙ f in cc)
one_command words (replay r w t) (asm file out) e f = absurd (let both : codes "replay" ∷ r ∷ w ∷ t ∷ [] ≡ codes "asm" ∷ file ∷ out ∷ [] = sym e ∙ f in cc)
one_command words (replay r w t) (list file) e f = absurd (let both : codes "replay" ∷ r ∷ w ∷ t ∷ [] ≡ codes "list" ∷ file ∷ [] = sym e ∙ f in cc)
one_command words (replay r w t) (step r' w' s t') e (x, f, j) = absurd (let both : codes "replay" ∷ r ∷ w ∷ t ∷ [] ≡ codes "step" ∷ r' ∷ w' ∷ x ∷ t' ∷ [] = sym e ∙ f in cc)
one_command words (replay r w t) (replay r' w' t') e f = let both : codes "replay" ∷ r ∷ w ∷ t ∷ [] ≡ codes "replay" ∷ r' ∷ w' ∷ t' ∷ [] = sym e ∙ f in cc
one_command words (replay r w t) (load n s) e (x, y, f, j, few, k) = absurd (let both : codes "replay" ∷ r ∷ w ∷ t ∷ [] ≡ codes "load" ∷ x ∷ y ∷ [] = sym e ∙ f in cc)
one_command words (load n s) (one m) (x, y, e, i, few, k) (v, f, j) = absurd (let both : codes "load" ∷ x ∷ y ∷ [] ≡ codes "one" ∷ v ∷ [] = sym e ∙ f in cc)
one_command words (load n s) (asm file out) (x, y, e, i, few, k) f = absurd (let both : codes "load" ∷ x ∷ y ∷ [] ≡ codes "asm" ∷ file ∷ out ∷ [] = sym e ∙ f in cc)
one_command words (load n s) (list file) (x, y, e, i, few, k) f = absurd (let both : codes "load" ∷ x ∷ y ∷ [] ≡ codes "list" ∷ file ∷ [] = sym e ∙ f in cc)
one_command words (load n s) (step r w m t) (x, y, e, i, few, k) (v, f, j) = absurd (let both : codes "load" ∷ x ∷ y ∷ [] ≡ codes "step" ∷ r ∷ w ∷ v ∷ t ∷ [] = sym e ∙ f in cc)
one_command words (load n s) (replay r w t) (x, y, e, i, few, k) f = absurd (let both : codes "load" ∷ x ∷ y ∷ [] ≡ codes "replay" ∷ r ∷ w ∷ t ∷ [] = sym e ∙ f in cc)
one_command words (load n s) (load m u) (x, y, e, i, few, k) (v, z, f, j, few', l) =
    let both : codes "load" ∷ x ∷ y ∷ [] ≡ codes "load" ∷ v ∷ z ∷ [] = sym e ∙ f in
    let first : x ≡ v = cc in
    let second : y ≡ z = cc in
    let counts : n ≡ m = one_number v n m (subst (λ (q : List ℕ). IsNumber q n) first i) j in
    let seeds : s ≡ u = one_number z s u (subst (λ (q : List ℕ). IsNumber q s) second k) l in
    cc

-- ---- want of memory in place of a fault

want-file : {A : Type 0} (limit : ℕ) (files : Option FilesByName) (name : List ℕ) (Has : A → Type 0) (Fails : Fault → Type 0) → ((f : Fault) → Fails f → FitsLimit limit files name) → (f : Fault)
    → Reads limit files name Has Fails (Err (refusals.Bad f)) → Reads limit files name Has Fails (Err refusals.OutOfMemory)
want-file limit files name Has Fails fits f h = fits f h

want-then : {A B : Type 0} (First : Result A Refusal → Type 0) (Next : A → Result B Refusal → Type 0) (f : Fault)
    → (First (Err (refusals.Bad f)) → First (Err refusals.OutOfMemory)) → ((x : A) → Next x (Err (refusals.Bad f)) → Next x (Err refusals.OutOfMemory))
    → Then First Next (Err (refusals.Bad f)) → Then First Next (Err refusals.OutOfMemory)
want-then First Next f first next (inl h) = inl (first h)
want-then First Next f first next (inr (x, g, h)) = inr (x, g, next x h)

want_of_fault : (c : Command) (files : Option FilesByName) (f : Fault) → Yields c files (Err (refusals.Bad f)) → Yields c files (Err refusals.OutOfMemory)
want_of_fault (one lba) files f h = absurd h
want_of_fault (asm file out) files f h = want-then (ReadsFile files file) (λ (source : List ℕ). AssemblyYields source out) f (λ g. absurd g) (λ source g. tt) h
want_of_fault (list file) files f h = want-then (ReadsFile files file) ListingYields f (λ g. absurd g) (λ image g. absurd g) h
want_of_fault (step rig work seed trace) files f h =
    want-then (ReadsRig files rig) (λ (r : Rig). Then (ReadsWork files work) (λ (w : Work). StepYields (setting_of r w) seed trace)) f
    (λ g. (rig_within files rig).fault f g)
    (λ r k. want-then (ReadsWork files work) (λ (w : Work). StepYields (setting_of r w) seed trace) f (λ g. (work_within files work).fault f g) (λ w g. tt) k)
    h
want_of_fault (replay rig work trace) files f h =
    want-then (ReadsRig files rig) (λ (r : Rig). Then (ReadsWork files work) (λ (w : Work). Then (ReadsTrace r.version files trace) (ReplayYields (setting_of r w)))) f
    (λ g. (rig_within files rig).fault f g)
    (λ r k.
    want-then (ReadsWork files work) (λ (w : Work). Then (ReadsTrace r.version files trace) (ReplayYields (setting_of r w))) f (λ g. (work_within files work).fault f g)
    (λ w l. want-then (ReadsTrace r.version files trace) (ReplayYields (setting_of r w)) f (λ g. (trace_within r.version files trace).fault f g) (λ ls g. tt) l)
    k)
    h
want_of_fault (load count seed) files f h = absurd h

left_of : (c : Command) (e : Ends) (refusal : Refusal) → TellsFault refusal → Refuses c e refusal → Refuses c e refusals.OutOfMemory
left_of c e refusals.Usage i r = absurd i
left_of c e refusals.Read i r = absurd i
left_of c e refusals.Write i r = absurd i
left_of c e refusals.OutOfMemory i r = absurd i
left_of c e (refusals.Bad f) i r = (want_of_fault c e.shelf.files f r.0, r.1)
left_of c e refusals.StepLimit i r = absurd i
left_of c e refusals.TooLong i r = absurd i

pub refuses-answered : (c : Command) (e : Ends) (refusal answered : Refusal) → Stands refusal answered → Refuses c e refusal → Refuses c e answered
refuses-answered c e refusal answered (inl same) r = subst (λ (x : Refusal). Refuses c e x) (sym same) r
refuses-answered c e refusal answered (inr (i, same)) r = subst (λ (x : Refusal). Refuses c e x) (sym same) (left_of c e refusal i r)
