-- Places by key, as tickets are built and freed.
use Rattle.std.proofs.Common.{arith, ◌≡◌, ◌≢◌, ℕ, ◌+◌, ◌-◌, ◌*◌, ◌/◌, ◌<◌, ◌≤◌, Bool, true, false, List, [], ◌∷◌, ◌++◌, length, Option, Some, None, refl, sym, ap, subst, ◌∙◌, cond, map, nat_lt, get_or, set, ⊎_elim, length-set, get_or-set_same, get_or-set_other}
use Rattle.std.proofs.lemmas.Bool.{cases_eq, cases_lt}
use Rattle.std.proofs.lemmas.Bool.Decides.{nat_tests}
use Rattle.std.proofs.lemmas.List.{length-map, get_or_append_left, length_push, get_or_push, get_or-map}
use Rattle.std.proofs.lemmas.List.Sums.{fails_before_first}
use Rattle.std.proofs.lemmas.List.Quantifiers.{position-Some}
use Rattle.std.specs.Prelude.{All, position}
use Rattle.std.specs.List.{position_or_len}
use Rattle.host_map.specs.Places.{IsCommandBlock, block_at}
use Rattle.desk_law.specs.declared.ticket.Ticket.{Ticket}
use Rattle.desk_law.specs.declared.stage.Stage.TheVariants.{Built, Freed}
use Rattle.desk_law.specs.Desk.{no_ticket, lives, has_tag, has_block}
use Rattle.driver_desk.specs.Kept.{IsTicket, IsIndex}
use Rattle.driver_desk.specs.Held.{core, at, Keyed, block_key, tag_key}

pub same-some : (a b : ℕ) → Some a ≡ Some b → a ≡ b
same-some a b e = cc

pub not-none : {P : Type 0} (a : ℕ) → None ≡ Some a → P
not-none a e = absurd cc

pub not-both : {P : Type 0} (b : Bool) → b ≡ true → b ≡ false → P
not-both true e f = absurd cc
not-both false e f = absurd cc

-- ---- a ticket is freed

pub record Other (xs : List Ticket) (t i : ℕ) (k : Ticket) : Type 0 where
  pub differs : i ≢ t
  pub below : i < length xs
  pub same : at (set xs t k) i ≡ at xs i

pub other : (xs : List Ticket) (t i : ℕ) (k : Ticket) → t < length xs → lives k ≡ false → i < length (set xs t k) → lives (at (set xs t k) i) ≡ true → Other xs t i k
other xs t i k there dead low live =
    let differs : i ≢ t = λ e.
    let is : at (set xs t k) i ≡ k = ap (λ (n : ℕ). at (set xs t k) n) e ∙ get_or-set_same xs t k no_ticket there in
    not-both (lives k) (subst (λ (x : Ticket). lives x ≡ true) is live) dead in
    record { differs = differs; below = omega (arith, low, length-set xs t k); same = get_or-set_other xs t i k no_ticket differs }

pub keyed-freed : (size : ℕ) (key : Ticket → ℕ) (o : List (Option ℕ)) (xs : List Ticket) (t : ℕ) (k : Ticket) → Keyed size key o xs → t < length xs
    → lives (at xs t) ≡ true → lives k ≡ false → Keyed size key (set o (key (at xs t)) None) (set xs t k)
keyed-freed size key o xs t k h there live dead =
    let here = h.found t there live in
    let room : key (at xs t) < length o = omega (arith, h.within t there live, h.count) in
    record {
      count = length-set o (key (at xs t)) None ∙ h.count;
      within = λ i low l. let q = other xs t i k there dead low l in
          subst (λ (x : Ticket). key x < size) (sym q.same) (h.within i q.below (subst (λ (x : Ticket). lives x ≡ true) q.same l));
      found = λ i low l. let q = other xs t i k there dead low l in
          let is = h.found i q.below (subst (λ (x : Ticket). lives x ≡ true) q.same l) in
          let apart : key (at xs i) ≢ key (at xs t) = λ e.
          q.differs (same-some i t (sym is ∙ ap (λ (n : ℕ). get_or o n None) e ∙ here)) in
          ap (λ (x : Ticket). get_or (set o (key (at xs t)) None) (key x) None) q.same
          ∙ get_or-set_other o (key (at xs t)) (key (at xs i)) None None apart ∙ is;
      only = λ a i e. ⊎_elim
          (λ (same : a ≡ key (at xs t)).
          not-none i (sym (ap (λ (n : ℕ). get_or (set o (key (at xs t)) None) n None) same ∙ get_or-set_same o (key (at xs t)) None None room) ∙ e))
          (λ (apart : a ≢ key (at xs t)).
          let q = h.only a i (sym (get_or-set_other o (key (at xs t)) a None None apart) ∙ e) in
          let differs : i ≢ t = λ (f : i ≡ t). apart (sym q.2 ∙ ap (λ (n : ℕ). key (at xs n)) f) in
          let same : at (set xs t k) i ≡ at xs i = get_or-set_other xs t i k no_ticket differs in
          (omega (arith, q.0, length-set xs t k), subst (λ (x : Ticket). lives x ≡ true) (sym same) q.1, ap key same ∙ q.2))
          (cases_eq a (key (at xs t)));
    }

-- ---- a ticket is built

pub at-left : (xs : List Ticket) (k : Ticket) (i : ℕ) → i < length xs → at (xs ++ k ∷ []) i ≡ at xs i
at-left xs k i low = get_or_append_left xs (k ∷ []) no_ticket i low

pub at-last : (xs : List Ticket) (k : Ticket) (i : ℕ) → length xs ≡ i → at (xs ++ k ∷ []) i ≡ k
at-last xs k i e = get_or_push xs k no_ticket i e

pub by_place : (xs : List Ticket) (k : Ticket) (P : ℕ → Ticket → Type 0) → ((i : ℕ) → i < length xs → P i (at xs i)) → P (length xs) k
    → (i : ℕ) → i < length (xs ++ k ∷ []) → P i (at (xs ++ k ∷ []) i)
by_place xs k P before last i low =
    ⊎_elim
    (λ (l : i < length xs). subst (λ (x : Ticket). P i x) (sym (at-left xs k i l)) (before i l))
    (λ (g : length xs ≤ i).
    let e : length xs ≡ i = omega (arith, g, low, length_push xs k) in
    subst (λ (x : Ticket). P i x) (sym (at-last xs k i e)) (subst (λ (n : ℕ). P n k) e last))
    (cases_lt i (length xs))

pub keyed-built : (size : ℕ) (key : Ticket → ℕ) (o : List (Option ℕ)) (xs : List Ticket) (a : ℕ) (k : Ticket) → Keyed size key o xs → a < size
    → get_or o a None ≡ None → key k ≡ a → lives k ≡ true → Keyed size key (set o a (Some (length xs))) (xs ++ k ∷ [])
keyed-built size key o xs a k h small free is live =
    let room : a < length o = omega (arith, small, h.count) in
    let here : get_or (set o a (Some (length xs))) a None ≡ Some (length xs) = get_or-set_same o a (Some (length xs)) None room in
    record {
      count = length-set o a (Some (length xs)) ∙ h.count;
      within = by_place xs k (λ (i : ℕ) (x : Ticket). lives x ≡ true → key x < size) (λ i low l. h.within i low l) (λ l. omega (arith, is, small));
      found = by_place xs k (λ (i : ℕ) (x : Ticket). lives x ≡ true → get_or (set o a (Some (length xs))) (key x) None ≡ Some i)
          (λ i low l.
          let apart : key (at xs i) ≢ a = λ e. not-none i (sym (ap (λ (n : ℕ). get_or o n None) e ∙ free) ∙ h.found i low l) in
          get_or-set_other o a (key (at xs i)) (Some (length xs)) None apart ∙ h.found i low l)
          (λ l. ap (λ (n : ℕ). get_or (set o a (Some (length xs))) n None) is ∙ here);
      only = λ b i e. ⊎_elim
          (λ (same : b ≡ a).
          let last : length xs ≡ i = same-some (length xs) i (sym (ap (λ (n : ℕ). get_or (set o a (Some (length xs))) n None) same ∙ here) ∙ e) in
          let at-i : at (xs ++ k ∷ []) i ≡ k = at-last xs k i last in
          (omega (arith, last, length_push xs k), subst (λ (x : Ticket). lives x ≡ true) (sym at-i) live, ap key at-i ∙ is ∙ sym same))
          (λ (apart : b ≢ a).
          let q = h.only b i (sym (get_or-set_other o a b (Some (length xs)) None apart) ∙ e) in
          let same : at (xs ++ k ∷ []) i ≡ at xs i = at-left xs k i q.0 in
          (omega (arith, q.0, length_push xs k), subst (λ (x : Ticket). lives x ≡ true) (sym same) q.1, ap key same ∙ q.2))
          (cases_eq b a);
    }

-- ---- the search through the tickets finds the same

by-cond : (b : Bool) (x : ℕ) → cond b (Some x) None ≡ None → b ≡ true → ⊥
by-cond true x e f = cc
by-cond false x e f = cc

pub none-passes : (p : Ticket → Bool) (xs : List Ticket) (i : ℕ) → position p xs ≡ None → i < length xs → p (at xs i) ≡ true → ⊥
none-passes p xs i e low so =
    ⊎_elim
    (λ (l : position_or_len p xs < length xs). by-cond (nat_lt (position_or_len p xs) (length xs)) (position_or_len p xs) e (grind (arith, nat_tests, l)))
    (λ (g : length xs ≤ position_or_len p xs). not-both (p (at xs i)) so (fails_before_first p xs i no_ticket (omega (arith, low, g))))
    (cases_lt (position_or_len p xs) (length xs))

by-option : (p : Ticket → Bool) (xs : List Ticket) (o s : Option ℕ) → s ≡ position p xs
    → ((i : ℕ) → i < length xs → p (at xs i) ≡ true → o ≡ Some i) → ((i : ℕ) → o ≡ Some i → (i < length xs) × (p (at xs i) ≡ true)) → o ≡ s
by-option p xs o (Some j) e found only = let q = position-Some p xs j no_ticket (sym e) in found j q.0 q.1
by-option p xs None None e found only = refl
by-option p xs (Some i) None e found only = let q = only i refl in absurd (none-passes p xs i (sym e) q.0 q.1)

pub searched : (p : Ticket → Bool) (xs : List Ticket) (o : Option ℕ)
    → ((i : ℕ) → i < length xs → p (at xs i) ≡ true → o ≡ Some i) → ((i : ℕ) → o ≡ Some i → (i < length xs) × (p (at xs i) ≡ true)) → o ≡ position p xs
searched p xs o found only = by-option p xs o (position p xs) refl found only

-- ---- the core of a ticket lives where the ticket does

pub lives-core : (k : Ticket) → lives (core k) ≡ lives k
lives-core k = elim (lives k) as (λ b. lives (record no_ticket { unit = k.unit; tag = k.tag; block = k.block; pieces = k.pieces; stage = cond b Built Freed }) ≡ b) [ true ↦ refl | false ↦ refl ]

pub at-core : (xs : List Ticket) (i : ℕ) → i < length xs → at (map core xs) i ≡ core (at xs i)
at-core xs i low = get_or-map core xs i no_ticket no_ticket low

-- ---- so the index is that of the search

found-key : (size : ℕ) (key : Ticket → ℕ) (o : List (Option ℕ)) (xs : List Ticket) → ((k : Ticket) → key (core k) ≡ key k) → Keyed size key o (map core xs) → (i : ℕ) → i < length xs
    → lives (at xs i) ≡ true → get_or o (key (at xs i)) None ≡ Some i
found-key size key o xs plain h i low live =
    let is = at-core xs i low in
    let l : lives (at (map core xs) i) ≡ true = ap lives is ∙ lives-core (at xs i) ∙ live in
    ap (λ (n : ℕ). get_or o n None) (sym (ap key is ∙ plain (at xs i))) ∙ h.found i (omega (arith, low, length-map xs core)) l

only-key : (size : ℕ) (key : Ticket → ℕ) (o : List (Option ℕ)) (xs : List Ticket) → ((k : Ticket) → key (core k) ≡ key k) → Keyed size key o (map core xs) → (a i : ℕ)
    → get_or o a None ≡ Some i → (i < length xs) × (lives (at xs i) ≡ true) × (key (at xs i) ≡ a)
only-key size key o xs plain h a i e =
    let q = h.only a i e in
    let low : i < length xs = omega (arith, q.0, length-map xs core) in
    let is = at-core xs i low in
    (low, sym (lives-core (at xs i)) ∙ sym (ap lives is) ∙ q.1, sym (plain (at xs i)) ∙ sym (ap key is) ∙ q.2)

block-of : (a : ℕ) (k : Ticket) → has_block a k ≡ true → (lives k ≡ true) × (k.block ≡ a)
block-of a k h = (grind (arith, nat_tests, h), grind (arith, nat_tests, h))

of-block : (a : ℕ) (k : Ticket) → lives k ≡ true → k.block ≡ a → has_block a k ≡ true
of-block a k l e = grind (arith, nat_tests, l, e)

tag-of : (u g : ℕ) (k : Ticket) → has_tag u g k ≡ true → (lives k ≡ true) × (k.unit ≡ u) × (k.tag ≡ g)
tag-of u g k h = (grind (arith, nat_tests, h), grind (arith, nat_tests, h), grind (arith, nat_tests, h))

of-tag : (u g : ℕ) (k : Ticket) → lives k ≡ true → k.unit ≡ u → k.tag ≡ g → has_tag u g k ≡ true
of-tag u g k l e f = grind (arith, nat_tests, l, e, f)

key-of-block : (b : ℕ) → (block_at b - 0x10000) / 0x200 ≡ b
key-of-block b = omega arith

block-of-key : (a b : ℕ) → IsCommandBlock a → (a - 0x10000) / 0x200 ≡ b → a ≡ block_at b
block-of-key a b is e = omega (arith, is.from, is.aligned, e)

pub index_from : (units submitters retries : ℕ) (by_block by_tag : List (Option ℕ)) (xs : List Ticket) → All (IsTicket units submitters retries) xs
    → All (λ (k : Ticket). k.tag < 256) (map core xs) → Keyed 256 block_key by_block (map core xs) → Keyed 4096 tag_key by_tag (map core xs) → IsIndex by_block by_tag xs
index_from units submitters retries by_block by_tag xs all bytes blocks tags = record {
  blocks = blocks.count;
  tags = tags.count;
  block = λ b below. searched (has_block (block_at b)) xs (get_or by_block b None)
      (λ i low so. let q = block-of (block_at b) (at xs i) so in
      ap (λ (n : ℕ). get_or by_block n None) (sym (ap (λ (a : ℕ). (a - 0x10000) / 0x200) q.1 ∙ key-of-block b))
      ∙ found-key 256 block_key by_block xs (λ k. refl) blocks i low q.0)
      (λ i e. let q = only-key 256 block_key by_block xs (λ k. refl) blocks b i e in
      (q.0, of-block (block_at b) (at xs i) q.1 (block-of-key (at xs i).block b (all i no_ticket q.0).block q.2)));
  tag = λ u g few byte. searched (has_tag u g) xs (get_or by_tag (256 * u + g) None)
      (λ i low so. let q = tag-of u g (at xs i) so in
      ap (λ (n : ℕ). get_or by_tag n None) (ap (λ (n : ℕ). 256 * n + g) (sym q.1) ∙ ap (λ (n : ℕ). 256 * (at xs i).unit + n) (sym q.2))
      ∙ found-key 4096 tag_key by_tag xs (λ k. refl) tags i low q.0)
      (λ i e. let q = only-key 4096 tag_key by_tag xs (λ k. refl) tags (256 * u + g) i e in
      let small : (at xs i).tag < 256 = subst (λ (k : Ticket). k.tag < 256) (at-core xs i q.0) (bytes i no_ticket (omega (arith, q.0, length-map xs core))) in
      (q.0, of-tag u g (at xs i) q.1 (omega (arith, q.2, small, byte)) (omega (arith, q.2, small, byte))));
}
