-- Generated rigs, and works that are generated of one number and seed, make one setting: a request is its data, since the proof that it holds
-- beside them is unique.
use mathlib.Core.HLevel.{Σ_prop_path}
use native.Mathlib.Nat.{ℕ_set}
use Rattle.std.proofs.Common.{◌≡◌, ℕ, Bool, List, [], ◌∷◌, length, sum, map, refl, sym, ap, ◌∙◌}
use Rattle.rig_types.specs.declared.commands.Command.{Command}
use Rattle.rig_types.specs.declared.commands.WhenFull.{WhenFull}
use Rattle.rig_types.specs.declared.request.Request.{Request}
use Rattle.rig_types.specs.declared.rig.Rig.{Rig}
use Rattle.rig_types.specs.declared.work.Work.{Work}
use Rattle.unit_law.specs.Request.{RequestData, plain}
use Rattle.bench_state.specs.States.{setting_of}
use Rattle.serial_run.specs.Generated.{CommandData, data_of, IsGeneratedRig, IsGeneratedWork}

-- ---- commands

abbrev IsWhole : RequestData → Type 0
IsWhole d = length d.bytes ≡ sum d.segments

request_of : (d : RequestData) × IsWhole d → Request
request_of (d, whole) = record { unit = d.unit; cdb = d.cdb; segments = d.segments; direction = d.direction; bytes = d.bytes; whole = whole }

request-is : (r s : Request) → plain r ≡ plain s → r ≡ s
unfolding request_of
request-is r s e =
    let pair : (d : RequestData) × IsWhole d = (plain r, r.whole) in
    let other : (d : RequestData) × IsWhole d = (plain s, s.whole) in
    let same : pair ≡ other = Σ_prop_path (λ (d : RequestData). ℕ_set (length d.bytes) (sum d.segments)) e in
    ap request_of same

command-is : (c d : Command) → data_of c ≡ data_of d → c ≡ d
command-is c d e =
    let request : c.request ≡ d.request = request-is c.request d.request (ap (λ (x : CommandData). x.request) e) in
    let when_full : c.when_full ≡ d.when_full = ap (λ (x : CommandData). x.when_full) e in
    let wait : c.wait ≡ d.wait = ap (λ (x : CommandData). x.wait) e in
    let with_request : Request → Command = λ r. record { request = r; when_full = c.when_full; wait = c.wait } in
    let with_full : WhenFull → Command = λ f. record { request = d.request; when_full = f; wait = c.wait } in
    let with_wait : Bool → Command = λ w. record { request = d.request; when_full = d.when_full; wait = w } in
    ap with_request request ∙ ap with_full when_full ∙ ap with_wait wait

-- ---- lists of what is its data

first-is : {A : Type 0} (x y : A) (xs ys : List A) → x ∷ xs ≡ y ∷ ys → x ≡ y
first-is x y xs ys e = cc

rest-is : {A : Type 0} (x y : A) (xs ys : List A) → x ∷ xs ≡ y ∷ ys → xs ≡ ys
rest-is x y xs ys e = cc

lists-are : {A B : Type 0} (f : A → B) → ((x y : A) → f x ≡ f y → x ≡ y) → (xs ys : List A) → map f xs ≡ map f ys → xs ≡ ys
lists-are f one [] [] e = refl
lists-are f one [] (y ∷ ys) e = absurd cc
lists-are f one (x ∷ xs) [] e = absurd cc
lists-are {A} f one (x ∷ xs) (y ∷ ys) e =
    ap (λ (z : A). z ∷ xs) (one x y (first-is (f x) (f y) (map f xs) (map f ys) e))
    ∙ ap (λ (zs : List A). y ∷ zs) (lists-are f one xs ys (rest-is (f x) (f y) (map f xs) (map f ys) e))

commands-are : (xs ys : List Command) → map data_of xs ≡ map data_of ys → xs ≡ ys
commands-are = lists-are data_of command-is

submitters-are : (xs ys : List (List Command)) → map (λ (s : List Command). map data_of s) xs ≡ map (λ (s : List Command). map data_of s) ys → xs ≡ ys
submitters-are = lists-are (λ (s : List Command). map data_of s) commands-are

-- ---- settings

pub same_setting : (n seed : ℕ) (rig other : Rig) (work others : Work) → IsGeneratedRig rig → IsGeneratedRig other → IsGeneratedWork n seed work
    → IsGeneratedWork n seed others → setting_of rig work ≡ setting_of other others
same_setting n seed rig other work others h k i j =
    let version : rig.version ≡ other.version = h.version ∙ sym k.version in
    let units : rig.units ≡ other.units = h.units ∙ sym k.units in
    let retries : rig.retries ≡ other.retries = h.retries ∙ sym k.retries in
    let step_limit : rig.step_limit ≡ other.step_limit = h.step_limit ∙ sym k.step_limit in
    let autosense : rig.autosense ≡ other.autosense = h.autosense ∙ sym k.autosense in
    let submitters : work.submitters ≡ others.submitters = submitters-are work.submitters others.submitters (i.submitters ∙ sym j.submitters) in
    let acts : work.acts ≡ others.acts = i.acts ∙ sym j.acts in
    rw (version, units, retries, step_limit, autosense, submitters, acts) refl
