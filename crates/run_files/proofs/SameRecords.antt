-- A rig and a work are their data: the proofs that they hold beside them are unique.
use mathlib.Core.HLevel.{Σ_prop_path}
use native.Mathlib.Nat.{ℕ_set}
use Rattle.std.proofs.Common.{◌≡◌, List, [], ◌∷◌, length, sum, map, refl, ap, ◌∙◌}
use Rattle.std.proofs.Props.{props}
use Rattle.rig_types.specs.declared.acts.Act.{Act}
use Rattle.rig_types.specs.declared.commands.Command.{Command}
use Rattle.rig_types.specs.declared.request.Request.{Request}
use Rattle.rig_types.specs.declared.rig.Rig.{Rig}
use Rattle.rig_types.specs.declared.work.Work.{Work}
use Rattle.rig_types.specs.Ranges.{IsRig}
use Rattle.rig_types.specs.Works.{IsWork}
use Rattle.rig_reader.specs.RigFile.{RigData, plain as rig_data}
use Rattle.work_reader.specs.WorkFile.{PlainCommand, WorkData, plain, plain_work}

-- ---- rigs

abbrev HoldsOf : RigData → Type 0
HoldsOf d = IsRig d.version d.units d.retries d.step_limit

holds-once : (d : RigData) → IsProp (HoldsOf d)
holds-once d = hlevel props

rig_of : (d : RigData) × HoldsOf d → Rig
rig_of (d, valid) = record { version = d.version; units = d.units; retries = d.retries; step_limit = d.step_limit; autosense = d.autosense; valid = valid }

pub rig-is : (r s : Rig) → rig_data r ≡ rig_data s → r ≡ s
unfolding rig_of
rig-is r s e =
    let pair : (d : RigData) × HoldsOf d = (rig_data r, r.valid) in
    let other : (d : RigData) × HoldsOf d = (rig_data s, s.valid) in
    let same : pair ≡ other = Σ_prop_path holds-once e in
    ap rig_of same

-- ---- commands

abbrev IsWhole : PlainCommand → Type 0
IsWhole d = length d.bytes ≡ sum d.segments

request_of : (d : PlainCommand) × IsWhole d → Request
request_of (d, whole) = record { unit = d.unit; cdb = d.cdb; segments = d.segments; direction = d.direction; bytes = d.bytes; whole = whole }

command_of : (d : PlainCommand) × IsWhole d → Command
command_of x = record { request = request_of x; when_full = x.0.when_full; wait = x.0.wait }

command-is : (c d : Command) → plain c ≡ plain d → c ≡ d
unfolding command_of request_of
command-is c d e =
    let pair : (p : PlainCommand) × IsWhole p = (plain c, c.request.whole) in
    let other : (p : PlainCommand) × IsWhole p = (plain d, d.request.whole) in
    let same : pair ≡ other = Σ_prop_path (λ (p : PlainCommand). ℕ_set (length p.bytes) (sum p.segments)) e in
    ap command_of same

-- ---- lists of what is its data

first-is : {A : Type 0} (x y : A) (xs ys : List A) → x ∷ xs ≡ y ∷ ys → x ≡ y
first-is x y xs ys e = cc

rest-is : {A : Type 0} (x y : A) (xs ys : List A) → x ∷ xs ≡ y ∷ ys → xs ≡ ys
rest-is x y xs ys e = cc

lists-are : {A B : Type 0} (f : A → B) → ((x y : A) → f x ≡ f y → x ≡ y) → (xs ys : List A) → map f xs ≡ map f ys → xs ≡ ys
lists-are f one [] [] e = refl
lists-are f one [] (y ∷ ys) e = absurd cc
lists-are f one (x ∷ xs) [] e = absurd cc
lists-are {A} f one (x ∷ xs) (y ∷ ys) e =
    ap (λ (z : A). z ∷ xs) (one x y (first-is (f x) (f y) (map f xs) (map f ys) e))
    ∙ ap (λ (zs : List A). y ∷ zs) (lists-are f one xs ys (rest-is (f x) (f y) (map f xs) (map f ys) e))

commands-are : (xs ys : List Command) → map plain xs ≡ map plain ys → xs ≡ ys
commands-are = lists-are plain command-is

submitters-are : (xs ys : List (List Command)) → map (λ (s : List Command). map plain s) xs ≡ map (λ (s : List Command). map plain s) ys → xs ≡ ys
submitters-are = lists-are (λ (s : List Command). map plain s) commands-are

-- ---- works

abbrev Contents : Type 0
Contents = List (List Command) × List Act

abbrev HoldsIn : Contents → Type 0
HoldsIn c = IsWork c.0 c.1

in-once : (c : Contents) → IsProp (HoldsIn c)
in-once c = hlevel props

work_of : (c : Contents) × HoldsIn c → Work
work_of (c, valid) = record { submitters = c.0; acts = c.1; valid = valid }

abbrev contents : Work → Contents
contents w = (w.submitters, w.acts)

contents-are : (v w : Work) → plain_work v ≡ plain_work w → contents v ≡ contents w
contents-are v w e =
    let submitters : v.submitters ≡ w.submitters = submitters-are v.submitters w.submitters (ap (λ (d : WorkData). d.submitters) e) in
    let acts : v.acts ≡ w.acts = ap (λ (d : WorkData). d.acts) e in
    let with_submitters : List (List Command) → Contents = λ ss. (ss, v.acts) in
    let with_acts : List Act → Contents = λ ks. (w.submitters, ks) in
    ap with_submitters submitters ∙ ap with_acts acts

pub work-is : (v w : Work) → plain_work v ≡ plain_work w → v ≡ w
unfolding work_of
work-is v w e =
    let pair : (c : Contents) × HoldsIn c = (contents v, v.valid) in
    let other : (c : Contents) × HoldsIn c = (contents w, w.valid) in
    let same : pair ≡ other = Σ_prop_path in-once (contents-are v w e) in
    ap work_of same
