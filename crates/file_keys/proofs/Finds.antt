-- What a look-up in a table finds, as a case for each answer.
use Rattle.std.proofs.Common.{◌≡◌, Bool, true, false, List, [], ◌∷◌, ℕ, suc, ◌+◌, ◌<◌, Option, Some, None, option_map, map, length, drop, get_or, Bor, String, Global, string_bytes, sym, refl, ap, ◌∙◌, cond}
use Rattle.std.proofs.Common.{inl, inr, nat_cmp, Less}
use Rattle.std.specs.Prelude.{MatchOption}
use Rattle.std.specs.List.{AllByRecursion}
use Rattle.std.specs.List.Sorted.{IsStrictlySortedBy}
use Rattle.std.specs.Ordering.{is_lt, ordering_reverse}
use Rattle.std.specs.Cmp.{IsTotalOrder}
use Rattle.std.specs.Cmp.Lexicographic.{slice_cmp}
use Rattle.std.specs.String.{string_cmp, string_cmp_total}
use Rattle.std.proofs.lemmas.Bool.{cases_Bool}
use Rattle.std.proofs.lemmas.List.{drop_more}
use Rattle.rig_types.specs.declared.fault.BadKind.{BadKind}
use Rattle.rig_types.specs.declared.fault.ReadFault.{ReadFault}
use Rattle.rig_types.specs.declared.fault.ReadFault.TheVariants.{Bad, OutOfMemory}
use Rattle.file_keys.specs.Faults.{at, IsFault, Fails}
use Rattle.toml.specs.Data.{Data}
use Rattle.toml.specs.View.{view, items_view, members_view}
use Rattle.toml.specs.declared.value.Value.{Value}
use Rattle.file_keys.specs.Keys.{count, is_among, lesser, least_unknown}

pub found_cases : (r : Option (Bor Value)) (d : Option Data) → option_map (λ v. view v.now) r ≡ d → MatchOption r (d ≡ None) (λ v. d ≡ Some (view v.now))
found_cases None d e = sym e
found_cases (Some v) d e = sym e

pub count_view : (vs : List Value) → count (items_view vs) ≡ length vs
count_view [] = refl
count_view (v ∷ vs) = ap suc (count_view vs)

-- the texts that some references point to
abbrev pub texts : List (Bor (List ℕ)) → List (List ℕ)
texts ws = map (λ w. w.now) ws

-- the first text, and those after it
pub texts_more : (ws : List (Bor (List ℕ))) (i : ℕ) (d : Bor (List ℕ)) → i < length ws → texts (drop i ws) ≡ (get_or ws i d).now ∷ texts (drop (i + 1) ws)
texts_more ws i d h = ap texts (drop_more ws i d h)

-- the first key that is none of the names
abbrev pub unknown_in : List (List ℕ) → List (String Global) → Option (List ℕ)
unknown_in names [] = None
unknown_in names (k ∷ ks) = cond (is_among names (string_bytes k)) (unknown_in names ks) (Some (string_bytes k))

-- what comes after a key isn't less than it
not_less : (k y : String Global) → string_cmp k y ≡ Less → is_lt (slice_cmp nat_cmp (string_bytes y) (string_bytes k)) ≡ false
not_less k y h =
    let total : IsTotalOrder string_cmp = string_cmp_total in
    ap is_lt (total.antisymm y k ∙ ap ordering_reverse h)

-- a key before all others is the lesser one
lesser-unknown_in : (names : List (List ℕ)) (k : String Global) (ks : List (String Global)) → AllByRecursion (λ y. string_cmp k y ≡ Less) ks → lesser (string_bytes k) (unknown_in names ks) ≡ string_bytes k
lesser-unknown_in names k [] h = refl
lesser-unknown_in names k (y ∷ ks) h =
    elim (cases_Bool (is_among names (string_bytes y))) [
      | inl known ↦ rw known (lesser-unknown_in names k ks h.1)
      | inr unknown ↦ rw (unknown, not_less k y h.0) refl
    ]

-- keys that ascend: the first unknown one is the least
pub unknown_view : (names : List (List ℕ)) (es : List (String Global × Value)) → IsStrictlySortedBy string_cmp (map (λ e. e.0) es) → least_unknown names (members_view es) ≡ unknown_in names (map (λ e. e.0) es)
unfolding IsStrictlySortedBy
unknown_view names [] h = refl
unknown_view names (e ∷ es) h =
    ap (λ r. cond (is_among names (string_bytes e.0)) r (Some (lesser (string_bytes e.0) r))) (unknown_view names es h.1)
    ∙ ap (λ k. cond (is_among names (string_bytes e.0)) (unknown_in names (map (λ e'. e'.0) es)) (Some k)) (lesser-unknown_in names e.0 (map (λ e'. e'.0) es) h.0)

pub goes_on : (names : List (List ℕ)) (k : String Global) (ks : List (String Global)) (total : Option (List ℕ)) (b : Bool) → b ≡ is_among names (string_bytes k) → b ≡ true
    → unknown_in names (k ∷ ks) ≡ total → unknown_in names ks ≡ total
goes_on names k ks total b test is so_far = rw (← test, is) at so_far

pub stops : (names : List (List ℕ)) (k : String Global) (ks : List (String Global)) (total : Option (List ℕ)) (b : Bool) → b ≡ is_among names (string_bytes k) → b ≡ false
    → unknown_in names (k ∷ ks) ≡ total → total ≡ Some (string_bytes k)
stops names k ks total b test is so_far = sym (rw (← test, is) at so_far)

pub Fails-from_IsFault : (e : ReadFault) (key : List ℕ) (kind : BadKind) → IsFault e key kind → Fails e (Some (at key kind))
Fails-from_IsFault (Bad k b) key kind h = ap Some (rw (h.0, h.1))
Fails-from_IsFault OutOfMemory key kind h = tt
