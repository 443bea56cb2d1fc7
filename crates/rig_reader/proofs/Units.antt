-- A unit after those before it.
use Rattle.std.proofs.Common.{◌≡◌, ℕ, ◌+◌, List, [], ◌∷◌, ◌++◌, Option, None, Result, sym, ap, subst, ◌∙◌, append_assoc}
use Rattle.rig_types.specs.declared.fault.ReadFault.{ReadFault}
use Rattle.rig_types.specs.declared.rig.Unit.{Unit}
use Rattle.toml.specs.Data.{Data, table, Items, item, Members}
use Rattle.file_keys.specs.Faults.{Fault, Fails, Reads}
use Rattle.file_keys.proofs.Firsts.{earlier-None, Fails-earlier}
use Rattle.rig_reader.specs.RigFile.{unit_of, unit_in, unit_prefix, unit_table_fault, unit_fault, units_of, units_fault}

-- an entry that is a table
pub unit_reads : (r : Result Unit ReadFault) (version n : ℕ) (before : List Unit) (d : Data) (ms : Members) (prefix : List ℕ) → d ≡ table ms → prefix ≡ unit_prefix n
    → Reads r (unit_table_fault version prefix before ms) (λ u. u ≡ unit_of version ms) → Reads r (unit_fault version n before d) (λ u. u ≡ unit_in version d)
unit_reads r version n before d ms prefix is named h =
    let P : List ℕ → Type 0 = λ p. Reads r (unit_table_fault version p before ms) (λ u. u ≡ unit_of version ms) in
    rw is (subst P named h)

-- one more unit without a fault
pub faults_on : (version n : ℕ) (us : List Unit) (d : Data) (ds : Items) (u : Unit) (total : Option Fault) → unit_fault version n us d ≡ None → u ≡ unit_in version d
    → units_fault version n us (item d ds) ≡ total → units_fault version (n + 1) (us ++ u ∷ []) ds ≡ total
faults_on version n us d ds u total none is so_far =
    ap (λ (x : Unit). units_fault version (n + 1) (us ++ x ∷ []) ds) is ∙ sym (earlier-None (unit_fault version n us d) _ none) ∙ so_far

-- a unit with a fault
pub faults_end : (e : ReadFault) (version n : ℕ) (us : List Unit) (d : Data) (ds : Items) (total : Option Fault) → Fails e (unit_fault version n us d)
    → units_fault version n us (item d ds) ≡ total → Fails e total
faults_end e version n us d ds total fails so_far = rw (← so_far) (Fails-earlier e (unit_fault version n us d) _ fails)

pub values_on : (version : ℕ) (us : List Unit) (d : Data) (ds : Items) (u : Unit) (total : List Unit) → u ≡ unit_in version d → us ++ units_of version (item d ds) ≡ total → (us ++ u ∷ []) ++ units_of version ds ≡ total
values_on version us d ds u total is so_far = append_assoc us (u ∷ []) (units_of version ds) ∙ ap (λ (x : Unit). us ++ x ∷ units_of version ds) is ∙ so_far
