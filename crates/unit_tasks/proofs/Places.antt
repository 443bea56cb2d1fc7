-- The place of a task among tasks by rising tag, and what a search by tag finds.
use Rattle.std.proofs.Common.{◌≡◌, ◌≢◌, ℕ, zero, suc, ◌+◌, ◌-◌, ◌<◌, ◌≤◌, leb, true, false, List, [], ◌∷◌, length, get_or, take, drop, Result, Ok, Err, is_ok, refl, ap, sym, subst, arith}
use Rattle.std.specs.List.{All, AllPairs, insert}
use Rattle.std.specs.List.Sorted.{IsSearchInRange, IsBinarySearchResult, IsNonDecreasingBy, IsPartitionedBy, IsPartitionPoint}
use Rattle.std.specs.Ordering.{nat_cmp, ordering_index}
use Rattle.std.proofs.lemmas.Cmp.{ranked}
use Rattle.std.proofs.lemmas.List.Edits.{length-insert, get_or-insert_below, get_or-insert_at, get_or-insert_above}
use Rattle.std.proofs.lemmas.List.Elements.{All-append, All-cons, All-take, All-drop}
use Rattle.std.proofs.lemmas.Bool.Decides.{nat_tests}
use Rattle.cdb_codec.specs.declared.commands.Cdb.TheVariants.{TestUnitReady}
use Rattle.target_law.specs.Session.{Task, began}
use Rattle.target_law.specs.Target.{by_tag}
use Rattle.target_law.specs.Calls.{has_tag}
use Rattle.unit_tasks.specs.Queue.{IsBefore}

-- place i is that of tag t: before it no tag is higher, and from it on each is
pub record IsPlace (t : ℕ) (xs : List Task) (i : ℕ) : Type 0 where
  pub in_range : i ≤ length xs
  pub lower : (j : ℕ) (d : Task) → j < i → (get_or xs j d).tag ≤ t
  pub higher : (j : ℕ) (d : Task) → i ≤ j → j < length xs → t < (get_or xs j d).tag

-- tags that rise pass the test of a search up to one place
pub parted : (t : ℕ) (xs : List Task) → AllPairs IsBefore xs → IsPartitionedBy (λ y. leb y.tag t) xs
parted t xs rising i j d le in_range passes =
    let upward : (get_or xs i d).tag ≤ (get_or xs j d).tag = grind (arith, rising i j d, λ (same : i ≡ j). ap (λ n. (get_or xs n d).tag) same) in
    grind (arith, nat_tests)

pub is_place : (t : ℕ) (xs : List Task) (i : ℕ) → i ≤ length xs → IsPartitionPoint (λ (y : Task). leb y.tag t ≡ true) (λ (y : Task). leb y.tag t ≡ false) xs i → IsPlace t xs i
is_place t xs i in_range at = record {
  in_range = in_range;
  lower = λ j d lt. grind (arith, nat_tests, at.0 j d (omega arith) lt);
  higher = λ j d le lt. grind (arith, nat_tests, at.1 j d le lt);
}

place_tail : (t : ℕ) (x : Task) (xs : List Task) (i : ℕ) → IsPlace t (x ∷ xs) (suc i) → IsPlace t xs i
place_tail t x xs i p = record {
  in_range = omega (arith, p.in_range);
  lower = λ j d lt. p.lower (suc j) d (omega arith);
  higher = λ j d le lt. p.higher (suc j) d (omega arith) (omega arith);
}

-- a task that is put in at the place of its tag stands where it goes by its tag
pub by_tag-insert : (k : Task) (xs : List Task) (i : ℕ) → IsPlace k.tag xs i → by_tag k xs ≡ insert xs i k
unfolding by_tag
by_tag-insert k [] zero p = refl
by_tag-insert k [] (suc i) p = absurd (omega (arith, p.in_range))
by_tag-insert k (x ∷ xs) zero p = grind (arith, nat_tests, p.higher 0 k (omega arith) (omega arith))
by_tag-insert k (x ∷ xs) (suc i) p = grind (arith, nat_tests, p.lower 0 k (omega arith), by_tag-insert k xs i (place_tail k.tag x xs i p))

module _ (k : Task) (xs : List Task) (i : ℕ) (p : IsPlace k.tag xs i) where
  -- the tags still rise: each new one is an old one before the place, this one at it, or an old one moved up by one
  pub rising-insert : AllPairs IsBefore xs → AllPairs IsBefore (insert xs i k)
  rising-insert rising a b d lt in_range =
      let new = insert xs i k in
      let longer = length-insert xs i k p.in_range in
      let below : (j : ℕ) → j < i → (get_or new j d).tag ≡ (get_or xs j d).tag = λ j lower. ap (λ (y : Task). y.tag) (get_or-insert_below xs i k d j lower p.in_range) in
      let here : (j : ℕ) → j ≡ i → (get_or new j d).tag ≡ k.tag = λ j same. rw same (ap (λ (y : Task). y.tag) (get_or-insert_at xs i k d p.in_range)) in
      let above : (j : ℕ) → i < j → (get_or new j d).tag ≡ (get_or xs (j - 1) d).tag = λ j higher. subst (λ q. (get_or new q d).tag ≡ (get_or xs (j - 1) d).tag) {x = j - 1 + 1} (omega arith) (ap (λ (y : Task). y.tag) (get_or-insert_above xs i k d (j - 1) (omega arith) p.in_range)) in
      grind (arith, below a, here a, above a, below b, here b, above b, rising a b d, rising a (b - 1) d, rising (a - 1) (b - 1) d, p.lower a d, p.higher (b - 1) d)

-- what holds of the tasks and of the one that is put in holds of all
pub all-insert : (P : Task → Type 0) (k : Task) (xs : List Task) (i : ℕ) → P k → All P xs → All P (insert xs i k)
all-insert P k xs i here all = All-append P (take i xs) (k ∷ drop i xs) (All-take P i xs all) (All-cons P k (drop i xs) here (All-drop P i xs all))

has_tag-present : (xs : List Task) (t i : ℕ) (d : Task) → i < length xs → (get_or xs i d).tag ≡ t → has_tag xs t ≡ true
has_tag-present [] t i d lt same = absurd (omega arith)
has_tag-present (x ∷ xs) t zero d lt same = grind (arith, nat_tests)
has_tag-present (x ∷ xs) t (suc i) d lt same = grind (arith, nat_tests, has_tag-present xs t i d (omega arith) same)

has_tag-absent : (xs : List Task) (t : ℕ) (d : Task) → ((i : ℕ) → i < length xs → (get_or xs i d).tag ≢ t) → has_tag xs t ≡ false
has_tag-absent [] t d none = refl
has_tag-absent (x ∷ xs) t d none = grind (arith, nat_tests, none 0 (omega arith), has_tag-absent xs t d (λ i lt. none (suc i) (omega arith)))

module _ (xs : List Task) (rising : AllPairs IsBefore xs) (t : ℕ) where
  -- the comparisons with the tag rise along the list, as a binary search asks
  comparisons_rise : IsNonDecreasingBy (λ (n : Task). ordering_index (nat_cmp n.tag t)) xs
  comparisons_rise i j d le in_range =
      let upward : (get_or xs i d).tag ≤ (get_or xs j d).tag = grind (arith, rising i j d, λ (same : i ≡ j). ap (λ n. (get_or xs n d).tag) same) in
      grind (arith, nat_tests)

  any_task : Task
  any_task = began 0 0 TestUnitReady 0 false

  -- a binary search by the tag finds a task exactly where one has it
  pub searched : (r : Result ℕ ℕ) → IsSearchInRange r (length xs) → IsBinarySearchResult (λ (n : Task). nat_cmp n.tag t) xs r → is_ok r ≡ has_tag xs t
  searched (Ok at) in_range equal = sym (has_tag-present xs t at any_task in_range (ranked _ t _ (sym (equal any_task))))
  searched (Err at) in_range apart = sym (has_tag-absent xs t any_task (λ i lt same.
      grind (arith, λ (before : i < at). ranked _ t _ (sym ((apart comparisons_rise).0 i any_task (omega arith) before)), λ (after : at ≤ i). ranked _ t _ (sym ((apart comparisons_rise).1 i any_task after lt)))))
