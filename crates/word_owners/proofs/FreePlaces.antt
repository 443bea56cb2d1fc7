-- Where a unit isn't full, fewer tickets live than there are blocks, and fewer of it than there are tags: so one of each is free.
use Rattle.std.proofs.Common.{arith, ◌≡◌, ◌≢◌, ◌⊎◌, inl, inr, ℕ, zero, suc, ◌+◌, ◌*◌, ◌<◌, ◌≤◌, ◌==◌, ◌&&◌, ◌||◌, Bool, true, false, cond, List, [], ◌∷◌, map, length, nat_le, refl, sym, ap, subst, ◌∙◌, get_or, set, take, take_all, length-set, get_or-set_other, ⊎_elim}
use Rattle.std.specs.Prelude.{if◌then◌else◌, count_by, filter}
use Rattle.std.specs.List.{list_any, range_with_len}
use Rattle.std.proofs.lemmas.Bool.{cases_lt}
use Rattle.std.proofs.lemmas.Bool.Decides.{nat_tests}
use Rattle.std.proofs.lemmas.List.{length-map, get_or_past}
use Rattle.std.proofs.lemmas.List.FromFn.{get_or-range_with_len, length-range_with_len}
use Rattle.std.proofs.lemmas.List.Folds.{list_any_at}
use Rattle.std.proofs.lemmas.List.Sums.{sum_by-cons, sum_by_more, sum_by-set, length-filter}
use Rattle.rig_types.specs.declared.rig.Unit.{Unit as RigUnit}
use Rattle.rig_types.specs.Ranges.{IsRig, depths, most_depth}
use Rattle.host_map.specs.Places.{block_at}
use Rattle.desk_law.specs.declared.ticket.Ticket.{Ticket}
use Rattle.desk_law.specs.Desk.{DeskState, ticket, no_ticket, no_unit, lives, is_of_unit, has_tag, has_block}
use Rattle.desk_law.specs.Building.{first_free, tags}
use Rattle.word_owners.specs.FreePlaces.{HasDepths, IsFreePlace, PlacesFree}

abbrev at : List Ticket → ℕ → Ticket
at xs i = get_or xs i no_ticket

-- 1 where it passes
abbrev bit : Bool → ℕ
bit b = cond b 1 0

bit-of : (b : Bool) → b ≡ true → bit b ≡ 1
bit-of b e = ap bit e

bit-not : (b : Bool) → b ≡ false → bit b ≡ 0
bit-not b e = ap bit e

-- ---- the search

-- all are taken, or the first that isn't is found
record Found (taken : ℕ → Bool) (ns : List ℕ) : Type 0 where
  index : ℕ
  inside : index < length ns
  is : first_free taken ns ≡ get_or ns index 0
  free : taken (get_or ns index 0) ≡ false

abbrev AllTaken : (ℕ → Bool) → List ℕ → Type 0
AllTaken taken ns = (i : ℕ) → i < length ns → taken (get_or ns i 0) ≡ true

search : (taken : ℕ → Bool) (ns : List ℕ) → AllTaken taken ns ⊎ Found taken ns
search taken [] = inl (λ i l. absurd (omega (arith, l)))
search taken (x ∷ xs) = by (taken x) refl (search taken xs)
  where
    first : taken x ≡ false → first_free taken (x ∷ xs) ≡ x
    first e = rw e refl

    later : taken x ≡ true → first_free taken (x ∷ xs) ≡ first_free taken xs
    later e = rw e refl

    each : taken x ≡ true → AllTaken taken xs → AllTaken taken (x ∷ xs)
    each e h zero l = e
    each e h (suc i) l = h i (omega (arith, l))

    by : (b : Bool) → taken x ≡ b → AllTaken taken xs ⊎ Found taken xs → AllTaken taken (x ∷ xs) ⊎ Found taken (x ∷ xs)
    by false e h = inr (record { index = 0; inside = omega arith; is = first e; free = e })
    by true e (inl h) = inl (each e h)
    by true e (inr h) = inr (record { index = suc h.index; inside = omega (arith, h.inside); is = later e ∙ h.is; free = h.free })

record Has (p : Ticket → Bool) (xs : List Ticket) : Type 0 where
  index : ℕ
  inside : index < length xs
  passes : p (at xs index) ≡ true

has-by : (p : Ticket → Bool) (x : Ticket) (xs : List Ticket) (b : Bool) → p x ≡ b → (list_any p xs ≡ true → Has p xs) → (b || list_any p xs) ≡ true → Has p (x ∷ xs)
has-by p x xs true f rest g = record { index = 0; inside = omega arith; passes = f }
has-by p x xs false f rest g = let r = rest g in record { index = suc r.index; inside = omega (arith, r.inside); passes = r.passes }

has : (p : Ticket → Bool) (xs : List Ticket) → list_any p xs ≡ true → Has p xs
has p [] e = absurd cc
has p (x ∷ xs) e = has-by p x xs (p x) refl (has p xs) e

-- a ticket that passes isn't left out by the search
unheld : (p : Ticket → Bool) (xs : List Ticket) (t : ℕ) → p no_ticket ≡ false → list_any p xs ≡ false → p (at xs t) ≡ true → ⊥
unheld p xs t none e h = by (cases_lt t (length xs))
  where
    by : (t < length xs) ⊎ (length xs ≤ t) → ⊥
    by (inl l) = let z : true ≡ false = sym (list_any_at p xs t no_ticket l h) ∙ e in absurd cc
    by (inr l) = let z : true ≡ false = sym h ∙ ap p (get_or_past xs t no_ticket l) ∙ none in absurd cc

-- ---- tickets that pass different tests are at most as many as pass the one

crowd : (p : Ticket → Bool) (q : ℕ → Ticket → Bool) (n : ℕ) (xs : List Ticket) → p no_ticket ≡ false → ((j : ℕ) (k : Ticket) → q j k ≡ true → p k ≡ true)
    → ((i j : ℕ) (k : Ticket) → q i k ≡ true → q j k ≡ true → i ≡ j) → ((j : ℕ) → j < n → list_any (q j) xs ≡ true) → n ≤ count_by p xs
crowd p q zero xs none pass differ all = omega arith
crowd p q (suc n) xs none pass differ all =
    let last = has (q n) xs (all n (omega arith)) in
    let ys = set xs last.index no_ticket in
    let change : count_by p ys + bit (p (at xs last.index)) ≡ count_by p xs + bit (p no_ticket) = sum_by-set (λ (x : Ticket). bit (p x)) xs last.index no_ticket no_ticket last.inside in
    let one = bit-of (p (at xs last.index)) (pass n (at xs last.index) last.passes) in
    let dead = bit-not (p no_ticket) none in
    let rest : n ≤ count_by p ys = crowd p q n ys none pass differ
    (λ j low.
    let r = has (q j) xs (all j (omega (arith, low))) in
    let ne : r.index ≢ last.index = λ e. (let z : j ≡ n = differ j n (at xs last.index) (subst (λ (i : ℕ). q j (at xs i) ≡ true) e r.passes) last.passes in omega (arith, z, low)) in
    list_any_at (q j) ys r.index no_ticket (omega (arith, r.inside, length-set xs last.index no_ticket)) (ap (q j) (get_or-set_other xs last.index r.index no_ticket no_ticket ne) ∙ r.passes)) in
    omega (arith, change, one, dead, rest)

-- ---- the live tickets of all units

abbrev upto : ℕ → (ℕ → ℕ) → ℕ
upto zero g = 0
upto (suc n) g = upto n g + g n

upto-add : (n : ℕ) (f g h : ℕ → ℕ) → ((u : ℕ) → h u ≡ f u + g u) → upto n h ≡ upto n f + upto n g
upto-add zero f g h e = refl
upto-add (suc n) f g h e = omega (arith, upto-add n f g h e, e n)

upto-one : (n u : ℕ) (f : ℕ → ℕ) → u < n → f u ≤ upto n f
upto-one zero u f low = absurd (omega (arith, low))
upto-one (suc n) u f low =
    ⊎_elim
    (λ (l : u < n). omega (arith, upto-one n u f l))
    (λ (g : n ≤ u). let e : u ≡ n = omega (arith, low, g) in let same : f u ≡ f n = ap f e in omega (arith, same))
    (cases_lt u n)

upto-le : (n : ℕ) (f g : ℕ → ℕ) → ((u : ℕ) → u < n → f u ≤ g u) → upto n f ≤ upto n g
upto-le zero f g all = omega arith
upto-le (suc n) f g all = omega (arith, upto-le n f g (λ u low. all u (omega (arith, low))), all n (omega arith))

upto-less : (n v : ℕ) (f g : ℕ → ℕ) → v < n → ((u : ℕ) → u < n → f u ≤ g u) → f v < g v → upto n f < upto n g
upto-less zero v f g low all some = absurd (omega (arith, low))
upto-less (suc n) v f g low all some =
    ⊎_elim
    (λ (l : v < n). omega (arith, upto-less n v f g l (λ u less. all u (omega (arith, less))) some, all n (omega arith)))
    (λ (ge : n ≤ v). let e : v ≡ n = omega (arith, low, ge) in
    let last : f n < g n = subst (λ (u : ℕ). f u < g u) e some in
    omega (arith, upto-le n f g (λ u less. all u (omega (arith, less))), last))
    (cases_lt v n)

own-unit : (k : Ticket) → lives k ≡ true → is_of_unit k.unit k ≡ true
own-unit k e = grind (arith, nat_tests, e)

live-bit : (n : ℕ) (k : Ticket) (b : Bool) → lives k ≡ b → (lives k ≡ true → k.unit < n) → bit (lives k) ≤ upto n (λ (u : ℕ). bit (is_of_unit u k))
live-bit n k false e low = omega (arith, bit-not (lives k) e)
live-bit n k true e low = omega (arith, bit-of (lives k) e, bit-of (is_of_unit k.unit k) (own-unit k e), upto-one n k.unit (λ (u : ℕ). bit (is_of_unit u k)) (low e))

all-live : (n : ℕ) (xs : List Ticket) → ((i : ℕ) → lives (at xs i) ≡ true → (at xs i).unit < n) → count_by lives xs ≤ upto n (λ (u : ℕ). count_by (is_of_unit u) xs)
all-live n [] low = omega arith
all-live n (x ∷ xs) low =
    let first = live-bit n x (lives x) refl (λ l. low 0 l) in
    let rest = all-live n xs (λ i l. low (suc i) l) in
    let all = upto-add n (λ (u : ℕ). bit (is_of_unit u x)) (λ (u : ℕ). count_by (is_of_unit u) xs) (λ (u : ℕ). count_by (is_of_unit u) (x ∷ xs)) (λ u. sum_by-cons (λ (k : Ticket). bit (is_of_unit u k)) x xs) in
    omega (arith, first, rest, all, sum_by-cons (λ (k : Ticket). bit (lives k)) x xs)

depths-upto : (us : List RigUnit) (n : ℕ) → n ≤ length us → upto n (λ (u : ℕ). (get_or us u no_unit).depth) ≡ depths (take n us)
depths-upto us zero low = refl
depths-upto us (suc n) low =
    let next : n + 1 ≡ suc n = omega arith in
    let more : depths (take (suc n) us) ≡ depths (take n us) + (get_or us n no_unit).depth =
    subst (λ (m : ℕ). depths (take m us) ≡ depths (take n us) + (get_or us n no_unit).depth) next (sum_by_more (λ (u : RigUnit). u.depth) us n no_unit (omega (arith, low))) in
    omega (arith, depths-upto us n (omega (arith, low)), more)

-- ---- the places

module _ (retries step_limit : ℕ) (d : DeskState) (u : ℕ) (rig : IsRig d.version d.units retries step_limit) (h : HasDepths d) (low : u < length d.units) (some : nat_le (get_or d.units u no_unit).depth (length (filter (is_of_unit u) d.tickets)) ≡ false) where
  not-full : count_by (is_of_unit u) d.tickets < (get_or d.units u no_unit).depth
  not-full =
      let less : length (filter (is_of_unit u) d.tickets) < (get_or d.units u no_unit).depth = grind (arith, nat_tests, some) in
      omega (arith, less, length-filter (is_of_unit u) d.tickets)

  few-live : count_by lives d.tickets < 256
  few-live =
      let us = d.units in
      let a = all-live (length us) d.tickets h.unit in
      let b = upto-less (length us) u (λ (v : ℕ). count_by (is_of_unit v) d.tickets) (λ (v : ℕ). (get_or us v no_unit).depth) low (λ v l. omega (arith, h.depth v l, length-filter (is_of_unit v) d.tickets)) not-full in
      let c : upto (length us) (λ (v : ℕ). (get_or us v no_unit).depth) ≡ depths us = depths-upto us (length us) (omega arith) ∙ ap depths (take_all (length us) us (omega arith)) in
      omega (arith, a, b, c, rig.all_depths)

  block-fields : (block : ℕ) (k : Ticket) → has_block block k ≡ true → (lives k ≡ true) × (k.block ≡ block)
  block-fields block k e = (grind (arith, nat_tests, e), grind (arith, nat_tests, e))

  block-number : (i : ℕ) → i < 256 → get_or (map block_at (range_with_len 0 256)) i 0 ≡ block_at i
  block-number i l = let z : 0 + i ≡ i = omega arith in numbers 256 0 i l ∙ ap block_at z
    where
      numbers : (n k i : ℕ) → i < n → get_or (map block_at (range_with_len k n)) i 0 ≡ block_at (k + i)
      numbers zero k i l = absurd (omega (arith, l))
      numbers (suc n) k zero l = let e : k ≡ k + 0 = omega arith in ap block_at e
      numbers (suc n) k (suc i) l = let e : k + 1 + i ≡ k + suc i = omega arith in numbers n (k + 1) i (omega (arith, l)) ∙ ap block_at e

  length-blocks : length (map block_at (range_with_len 0 256)) ≡ 256
  length-blocks = length-map (range_with_len 0 256) block_at ∙ length-range_with_len 0 256

  same-block : (i j : ℕ) → block_at i ≡ block_at j → i ≡ j
  same-block i j e = omega (arith, e)

  abbrev taken_block : ℕ → Bool
  taken_block block = list_any (has_block block) d.tickets

  block-found : Found taken_block (map block_at (range_with_len 0 256))
  block-found = elim (search taken_block (map block_at (range_with_len 0 256))) [
    | inr x ↦ x
    | inl all ↦
        let many : 256 ≤ count_by lives d.tickets = crowd lives (λ j. has_block (block_at j)) 256 d.tickets refl (λ j k e. (block-fields (block_at j) k e).0)
        (λ i j k e f. same-block i j (sym (block-fields (block_at i) k e).1 ∙ (block-fields (block_at j) k f).1))
        (λ j l. subst (λ (y : ℕ). taken_block y ≡ true) (block-number j l) (all j (omega (arith, l, length-blocks)))) in
        absurd (omega (arith, many, few-live))
  ]

  -- ---- the tag

  tag-fields : (tag : ℕ) (k : Ticket) → has_tag u tag k ≡ true → (is_of_unit u k ≡ true) × (k.tag ≡ tag)
  tag-fields tag k e = (grind (arith, nat_tests, e), grind (arith, nat_tests, e))

  abbrev taken_tag : ℕ → Bool
  taken_tag tag = list_any (has_tag u tag) d.tickets

  -- so many tags, each a byte, no two alike
  record Tags (ns : List ℕ) (n : ℕ) : Type 0 where
    count : length ns ≡ n
    bytes : (i : ℕ) → i < n → get_or ns i 0 < 256
    differ : (i j : ℕ) → i < n → j < n → get_or ns i 0 ≡ get_or ns j 0 → i ≡ j

  stepped : (step n k i : ℕ) → i < n → get_or (map (λ (x : ℕ). step * x) (range_with_len k n)) i 0 ≡ step * (k + i)
  stepped step zero k i l = absurd (omega (arith, l))
  stepped step (suc n) k zero l = let e : k ≡ k + 0 = omega arith in ap (λ (y : ℕ). step * y) e
  stepped step (suc n) k (suc i) l = let e : k + 1 + i ≡ k + suc i = omega arith in stepped step n (k + 1) i (omega (arith, l)) ∙ ap (λ (y : ℕ). step * y) e

  tags-by : (b : Bool) → Tags (if b then range_with_len 0 256 else map (λ (x : ℕ). 4 * x) (range_with_len 0 64)) (if b then 256 else 64)
  tags-by true = record {
    count = length-range_with_len 0 256;
    bytes = λ i l. omega (arith, l, get_or-range_with_len 0 256 i 0 l);
    differ = λ i j l m e. omega (arith, e, get_or-range_with_len 0 256 i 0 l, get_or-range_with_len 0 256 j 0 m);
  }
  tags-by false = record {
    count = length-map (range_with_len 0 64) (λ (x : ℕ). 4 * x) ∙ length-range_with_len 0 64;
    bytes = λ i l. omega (arith, l, stepped 4 64 0 i l);
    differ = λ i j l m e. omega (arith, e, stepped 4 64 0 i l, stepped 4 64 0 j m);
  }

  tag-found : Found taken_tag (tags d.version)
  tag-found =
      let ts = tags-by (d.version == 2) in
      let ns = tags d.version in
      elim (search taken_tag ns) [
        | inr x ↦ x
        | inl all ↦
            let inside : (j : ℕ) → j < most_depth d.version → (j < length ns) = λ j l. omega (arith, l, ts.count) in
            let many : most_depth d.version ≤ count_by (is_of_unit u) d.tickets = crowd (is_of_unit u) (λ j k. has_tag u (get_or ns j 0) k && nat_le (suc j) (most_depth d.version)) (most_depth d.version) d.tickets refl
            (λ j k e. (tag-fields (get_or ns j 0) k (both-of (has_tag u (get_or ns j 0) k) _ e).0).0)
            (λ i j k e f.
            let x = both-of (has_tag u (get_or ns i 0) k) (nat_le (suc i) (most_depth d.version)) e in
            let y = both-of (has_tag u (get_or ns j 0) k) (nat_le (suc j) (most_depth d.version)) f in
            ts.differ i j (grind (arith, nat_tests, x.1)) (grind (arith, nat_tests, y.1)) (sym (tag-fields (get_or ns i 0) k x.0).1 ∙ (tag-fields (get_or ns j 0) k y.0).1))
            (λ j l.
            let r = has (has_tag u (get_or ns j 0)) d.tickets (all j (inside j l)) in
            list_any_at (λ (k : Ticket). has_tag u (get_or ns j 0) k && nat_le (suc j) (most_depth d.version)) d.tickets r.index no_ticket r.inside (both-true (has_tag u (get_or ns j 0) (at d.tickets r.index)) (nat_le (suc j) (most_depth d.version)) r.passes (grind (arith, nat_tests, l)))) in
            let most : (get_or d.units u no_unit).depth ≤ most_depth d.version = (rig.in_range u no_unit low).in_range.depth in
            absurd (omega (arith, many, most, not-full))
      ]
    where
      both-of : (a b : Bool) → a && b ≡ true → (a ≡ true) × (b ≡ true)
      both-of true true e = (refl, refl)
      both-of true false e = absurd cc
      both-of false b e = absurd cc

      both-true : (a b : Bool) → a ≡ true → b ≡ true → a && b ≡ true
      both-true a b e f = rw (e, f) refl

  dead-block : (block : ℕ) → has_block block no_ticket ≡ false
  dead-block block = refl

  dead-tag : (tag : ℕ) → has_tag u tag no_ticket ≡ false
  dead-tag tag = refl

  is-block : (block : ℕ) (k : Ticket) → lives k ≡ true → k.block ≡ block → has_block block k ≡ true
  is-block block k l e = grind (arith, nat_tests, l, e)

  is-tag : (tag : ℕ) (k : Ticket) → lives k ≡ true → k.unit ≡ u → k.tag ≡ tag → has_tag u tag k ≡ true
  is-tag tag k l m e = grind (arith, nat_tests, l, m, e)

  free-place : IsFreePlace d u
  free-place =
      let x = block-found in
      let y = tag-found in
      let ts = tags-by (d.version == 2) in
      let small : x.index < 256 = omega (arith, x.inside, length-blocks) in
      let e : first_free taken_block (map block_at (range_with_len 0 256)) ≡ block_at x.index = x.is ∙ block-number x.index small in
      record {
        block = record { from = omega (arith, e); below = omega (arith, e, small); aligned = omega (arith, e) };
        unused = λ t l f. unheld (has_block (get_or (map block_at (range_with_len 0 256)) x.index 0)) d.tickets t (dead-block (get_or (map block_at (range_with_len 0 256)) x.index 0)) x.free
            (is-block (get_or (map block_at (range_with_len 0 256)) x.index 0) (ticket d t) l (f ∙ x.is));
        tag = (let z = ts.bytes y.index (omega (arith, y.inside, ts.count)) in omega (arith, z, y.is));
        untagged = λ t l m f. unheld (has_tag u (get_or (tags d.version) y.index 0)) d.tickets t (dead-tag (get_or (tags d.version) y.index 0)) y.free (is-tag (get_or (tags d.version) y.index 0) (ticket d t) l m (f ∙ y.is));
      }

pub places_free : PlacesFree
places_free retries step_limit d u rig h low some = free-place retries step_limit d u rig h low some
