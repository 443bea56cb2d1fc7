-- The entries of a list, one after the other.
use Rattle.std.proofs.Common.{◌≡◌, ℕ, ◌+◌, List, [], ◌∷◌, ◌++◌, Option, None, Result, sym, ap, subst, ◌∙◌, append_assoc}
use Rattle.rig_types.specs.declared.fault.ReadFault.{ReadFault}
use Rattle.toml.specs.Data.{Data, table, Items, item, Members}
use Rattle.file_keys.specs.Faults.{Fault, Fails, Reads, first}
use Rattle.file_keys.specs.Keys.{entries_fault, entries_of, entry_fault, members_in, prefix_of}
use Rattle.file_keys.proofs.Firsts.{earlier-None, Fails-earlier}

-- one more entry without a fault
pub entries_on : (f : ℕ → Data → Option Fault) (n : ℕ) (d : Data) (ds : Items) (total : Option Fault) → f n d ≡ None → entries_fault f n (item d ds) ≡ total → entries_fault f (n + 1) ds ≡ total
entries_on f n d ds total none so_far = sym (earlier-None (f n d) _ none) ∙ so_far

-- an entry with a fault
pub entries_end : (e : ReadFault) (f : ℕ → Data → Option Fault) (n : ℕ) (d : Data) (ds : Items) (total : Option Fault) → Fails e (f n d) → entries_fault f n (item d ds) ≡ total → Fails e total
entries_end e f n d ds total fails so_far = rw (← so_far) (Fails-earlier e (f n d) _ fails)

-- one more value
pub values_on : {A : Type 0} (g : Data → A) (xs : List A) (x : A) (d : Data) (ds : Items) (total : List A) → x ≡ g d → xs ++ entries_of g (item d ds) ≡ total → (xs ++ x ∷ []) ++ entries_of g ds ≡ total
values_on g xs x d ds total is so_far = append_assoc xs (x ∷ []) (entries_of g ds) ∙ ap (λ y. xs ++ y ∷ entries_of g ds) is ∙ so_far

-- an entry that is a table
pub table_reads : {A : Type 0} (r : Result A ReadFault) (prefix name : List ℕ) (n : ℕ) (d : Data) (ms : Members) (inner : List ℕ) (f : List ℕ → Members → Option Fault) (P : Members → A → Type 0)
    → d ≡ table ms → inner ≡ prefix_of prefix name n → Reads r (f inner ms) (P ms) → Reads r (first (entry_fault prefix name n d ∷ f (prefix_of prefix name n) (members_in d) ∷ [])) (P (members_in d))
table_reads r prefix name n d ms inner f P is named h =
    let Q : List ℕ → Type 0 = λ p. Reads r (f p ms) (P ms) in
    rw is (subst Q named h)
