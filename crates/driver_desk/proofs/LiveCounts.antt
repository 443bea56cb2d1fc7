-- How many tickets of each unit live: as many as the places that have one, so that a place is free where a unit isn't full.
use Rattle.std.proofs.Common.{arith, ◌≡◌, ◌≢◌, ℕ, zero, suc, ◌+◌, ◌-◌, ◌<◌, ◌≤◌, ◌==◌, ◌&&◌, Bool, true, false, cond, List, [], ◌∷◌, ◌++◌, map, length, Option, Some, None, nat_le, ◌*◌, refl, sym, ap, subst, ◌∙◌, get_or, set, take, take_all, length-set, get_or-set_same, get_or-set_other, ⊎_elim}
use Rattle.std.proofs.lemmas.Bool.{cases_eq, cases_lt}
use Rattle.std.proofs.lemmas.Bool.Decides.{nat_tests}
use Rattle.std.specs.Prelude.{All, count_by, filter, IsSome, unwrap_or}
use Rattle.std.proofs.lemmas.List.Sums.{sum_by-cons, sum_by_push, sum_by_more, sum_by-set, get_or-le-sum_by, length-filter}
use Rattle.rig_types.specs.declared.rig.Unit.{Unit as RigUnit}
use Rattle.rig_types.specs.Ranges.{depths}
use Rattle.desk_law.specs.declared.ticket.Ticket.{Ticket}
use Rattle.desk_law.specs.Desk.{no_ticket, no_unit, lives, is_of_unit}
use Rattle.driver_desk.specs.Held.{core, at, less, more, Keyed, block_key, tag_key, IsCounted}
use Rattle.driver_desk.proofs.Keys.{lives-core}

-- 1 where it passes
abbrev pub bit : Bool → ℕ
bit b = cond b 1 0

bit-of : (b : Bool) → b ≡ true → bit b ≡ 1
bit-of b e = ap bit e

bit-not : (b : Bool) → b ≡ false → bit b ≡ 0
bit-not b e = ap bit e

-- ---- a ticket goes, a ticket comes

dead-of : (u : ℕ) (k : Ticket) → lives k ≡ false → is_of_unit u k ≡ false
dead-of u k dead = ap (λ (b : Bool). b && (k.unit == u)) dead

live-of : (u : ℕ) (k : Ticket) → lives k ≡ true → k.unit ≡ u → is_of_unit u k ≡ true
live-of u k live e = grind (arith, nat_tests, live, e)

other-of : (u : ℕ) (k : Ticket) → k.unit ≢ u → is_of_unit u k ≡ false
other-of u k e = grind (arith, nat_tests, e)

-- of the unit of a live ticket at least one lives
pub one_lives : (us : List RigUnit) (counts : List ℕ) (xs : List Ticket) (t : ℕ) → IsCounted us counts xs → t < length xs → lives (at xs t) ≡ true → (at xs t).unit < length us
    → 1 ≤ get_or counts (at xs t).unit 0
one_lives us counts xs t h there live unit =
    let u = (at xs t).unit in
    let is = bit-of (is_of_unit u (at xs t)) (live-of u (at xs t) live refl) in
    let most : bit (is_of_unit u (at xs t)) ≤ count_by (is_of_unit u) xs = get_or-le-sum_by (λ (x : Ticket). bit (is_of_unit u x)) xs t no_ticket there in
    omega (arith, h.count u unit, is, most)

pub counted-freed : (us : List RigUnit) (counts : List ℕ) (xs : List Ticket) (t : ℕ) (k : Ticket) → IsCounted us counts xs → t < length xs → lives (at xs t) ≡ true
    → lives k ≡ false → IsCounted us (less counts (at xs t).unit) (set xs t k)
counted-freed us counts xs t k h there live dead =
    let v = (at xs t).unit in
    let change : (u : ℕ) → count_by (is_of_unit u) (set xs t k) + bit (is_of_unit u (at xs t)) ≡ count_by (is_of_unit u) xs + bit (is_of_unit u k) =
    λ u. sum_by-set (λ (x : Ticket). bit (is_of_unit u x)) xs t k no_ticket there in
    let gone : (u : ℕ) → bit (is_of_unit u k) ≡ 0 = λ u. bit-not (is_of_unit u k) (dead-of u k dead) in
    record {
      units = length-set counts v (get_or counts v 0 - 1) ∙ h.units;
      count = λ u low. ⊎_elim
          (λ (e : u ≡ v).
          let was = bit-of (is_of_unit u (at xs t)) (live-of u (at xs t) live (sym e)) in
          let now : get_or (less counts v) u 0 ≡ get_or counts v 0 - 1 =
          ap (λ (n : ℕ). get_or (less counts v) n 0) e ∙ get_or-set_same counts v (get_or counts v 0 - 1) 0 (omega (arith, e, low, h.units)) in
          let had : get_or counts v 0 ≡ count_by (is_of_unit u) xs = ap (λ (n : ℕ). get_or counts n 0) (sym e) ∙ h.count u low in
          omega (arith, change u, gone u, was, now, had))
          (λ (e : u ≢ v).
          let was = bit-not (is_of_unit u (at xs t)) (other-of u (at xs t) (λ f. e (sym f))) in
          let now : get_or (less counts v) u 0 ≡ get_or counts u 0 = get_or-set_other counts v u (get_or counts v 0 - 1) 0 e in
          omega (arith, change u, gone u, was, now, h.count u low))
          (cases_eq u v);
      few = λ u low. omega (arith, change u, gone u, h.few u low);
    }

pub counted-built : (us : List RigUnit) (counts : List ℕ) (xs : List Ticket) (k : Ticket) → IsCounted us counts xs → lives k ≡ true
    → count_by (is_of_unit k.unit) xs < (get_or us k.unit no_unit).depth → IsCounted us (more counts k.unit) (xs ++ k ∷ [])
counted-built us counts xs k h live some =
    let v = k.unit in
    let change : (u : ℕ) → count_by (is_of_unit u) (xs ++ k ∷ []) ≡ count_by (is_of_unit u) xs + bit (is_of_unit u k) =
    λ u. sum_by_push (λ (x : Ticket). bit (is_of_unit u x)) xs k in
    record {
      units = length-set counts v (get_or counts v 0 + 1) ∙ h.units;
      count = λ u low. ⊎_elim
          (λ (e : u ≡ v).
          let is = bit-of (is_of_unit u k) (live-of u k live (sym e)) in
          let now : get_or (more counts v) u 0 ≡ get_or counts v 0 + 1 =
          ap (λ (n : ℕ). get_or (more counts v) n 0) e ∙ get_or-set_same counts v (get_or counts v 0 + 1) 0 (omega (arith, e, low, h.units)) in
          let had : get_or counts v 0 ≡ count_by (is_of_unit u) xs = ap (λ (n : ℕ). get_or counts n 0) (sym e) ∙ h.count u low in
          omega (arith, change u, is, now, had))
          (λ (e : u ≢ v).
          let is = bit-not (is_of_unit u k) (other-of u k (λ f. e (sym f))) in
          let now : get_or (more counts v) u 0 ≡ get_or counts u 0 = get_or-set_other counts v u (get_or counts v 0 + 1) 0 e in
          omega (arith, change u, is, now, h.count u low))
          (cases_eq u v);
      few = λ u low. ⊎_elim
          (λ (e : u ≡ v).
          let is = bit-of (is_of_unit u k) (live-of u k live (sym e)) in
          let room : count_by (is_of_unit u) xs < (get_or us u no_unit).depth = subst (λ (n : ℕ). count_by (is_of_unit n) xs < (get_or us n no_unit).depth) (sym e) some in
          omega (arith, change u, is, room))
          (λ (e : u ≢ v).
          let is = bit-not (is_of_unit u k) (other-of u k (λ f. e (sym f))) in
          omega (arith, change u, is, h.few u low))
          (cases_eq u v);
    }

-- ---- the core of a ticket counts as the ticket

core-of : (u : ℕ) (k : Ticket) → lives (core k) ≡ lives k → is_of_unit u (core k) ≡ is_of_unit u k
core-of u k e = ap (λ (b : Bool). b && (k.unit == u)) e

-- ---- places with different tickets that pass are at most as many as pass

pub crowd : (p : Ticket → Bool) (n : ℕ) (f : ℕ → ℕ) (xs : List Ticket) → p no_ticket ≡ false
    → ((j : ℕ) → j < n → (f j < length xs) × (p (at xs (f j)) ≡ true)) → ((i j : ℕ) → i < j → j < n → f i ≢ f j) → n ≤ count_by p xs
crowd p zero f xs none has differ = omega arith
crowd p (suc n) f xs none has differ =
    let last = has n (omega arith) in
    let ys = set xs (f n) no_ticket in
    let change : count_by p ys + bit (p (at xs (f n))) ≡ count_by p xs + bit (p no_ticket) = sum_by-set (λ (x : Ticket). bit (p x)) xs (f n) no_ticket no_ticket last.0 in
    let one = bit-of (p (at xs (f n))) last.1 in
    let zero' = bit-not (p no_ticket) none in
    let rest : n ≤ count_by p ys = crowd p n f ys none
    (λ j low. let q = has j (omega (arith, low)) in
    let same : at ys (f j) ≡ at xs (f j) = get_or-set_other xs (f n) (f j) no_ticket no_ticket (differ j n low (omega arith)) in
    (omega (arith, q.0, length-set xs (f n) no_ticket), ap p same ∙ q.1))
    (λ i j less high. differ i j less (omega (arith, high))) in
    omega (arith, change, one, zero', rest)

-- ---- the live tickets of all units

abbrev pub upto : ℕ → (ℕ → ℕ) → ℕ
upto zero g = 0
upto (suc n) g = upto n g + g n

upto-zero : (n : ℕ) → upto n (λ (u : ℕ). 0) ≡ 0
upto-zero zero = refl
upto-zero (suc n) = omega (arith, upto-zero n)

upto-add : (n : ℕ) (f g h : ℕ → ℕ) → ((u : ℕ) → h u ≡ f u + g u) → upto n h ≡ upto n f + upto n g
upto-add zero f g h e = refl
upto-add (suc n) f g h e = omega (arith, upto-add n f g h e, e n)

upto-one : (n u : ℕ) (f : ℕ → ℕ) → u < n → f u ≤ upto n f
upto-one zero u f low = absurd (omega (arith, low))
upto-one (suc n) u f low =
    ⊎_elim
    (λ (l : u < n). omega (arith, upto-one n u f l))
    (λ (g : n ≤ u). let e : u ≡ n = omega (arith, low, g) in let same : f u ≡ f n = ap f e in omega (arith, same))
    (cases_lt u n)

upto-le : (n : ℕ) (f g : ℕ → ℕ) → ((u : ℕ) → u < n → f u ≤ g u) → upto n f ≤ upto n g
upto-le zero f g all = omega arith
upto-le (suc n) f g all = omega (arith, upto-le n f g (λ u low. all u (omega (arith, low))), all n (omega arith))

upto-least : (n v : ℕ) (f g : ℕ → ℕ) → v < n → ((u : ℕ) → u < n → f u ≤ g u) → f v < g v → upto n f < upto n g
upto-least zero v f g low all some = absurd (omega (arith, low))
upto-least (suc n) v f g low all some =
    ⊎_elim
    (λ (l : v < n). omega (arith, upto-least n v f g l (λ u less. all u (omega (arith, less))) some, all n (omega arith)))
    (λ (ge : n ≤ v). let e : v ≡ n = omega (arith, low, ge) in
    let last : f n < g n = subst (λ (u : ℕ). f u < g u) e some in
    omega (arith, upto-le n f g (λ u less. all u (omega (arith, less))), last))
    (cases_lt v n)

live-bit : (n : ℕ) (k : Ticket) (b : Bool) → lives k ≡ b → (lives k ≡ true → k.unit < n) → bit (lives k) ≤ upto n (λ (u : ℕ). bit (is_of_unit u k))
live-bit n k false e low = omega (arith, bit-not (lives k) e)
live-bit n k true e low =
    let one = upto-one n k.unit (λ (u : ℕ). bit (is_of_unit u k)) (low e) in
    omega (arith, bit-of (lives k) e, bit-of (is_of_unit k.unit k) (live-of k.unit k e refl), one)

pub all_live : (n : ℕ) (xs : List Ticket) → ((i : ℕ) → i < length xs → lives (at xs i) ≡ true → (at xs i).unit < n)
    → count_by lives xs ≤ upto n (λ (u : ℕ). count_by (is_of_unit u) xs)
all_live n [] low = omega arith
all_live n (x ∷ xs) low =
    let first = live-bit n x (lives x) refl (λ l. low 0 (omega arith) l) in
    let rest = all_live n xs (λ i less l. low (suc i) (omega (arith, less)) l) in
    let all = upto-add n (λ (u : ℕ). bit (is_of_unit u x)) (λ (u : ℕ). count_by (is_of_unit u) xs) (λ (u : ℕ). count_by (is_of_unit u) (x ∷ xs))
    (λ u. sum_by-cons (λ (k : Ticket). bit (is_of_unit u k)) x xs) in
    omega (arith, first, rest, all, sum_by-cons (λ (k : Ticket). bit (lives k)) x xs)

depths-upto : (us : List RigUnit) (n : ℕ) → n ≤ length us → upto n (λ (u : ℕ). (get_or us u no_unit).depth) ≡ depths (take n us)
depths-upto us zero low = refl
depths-upto us (suc n) low =
    let next : n + 1 ≡ suc n = omega arith in
    let more : depths (take (suc n) us) ≡ depths (take n us) + (get_or us n no_unit).depth =
    subst (λ (m : ℕ). depths (take m us) ≡ depths (take n us) + (get_or us n no_unit).depth) next (sum_by_more (λ (u : RigUnit). u.depth) us n no_unit (omega (arith, low))) in
    omega (arith, depths-upto us n (omega (arith, low)), more)

-- where a unit isn't full, fewer tickets live than the units' depths together
pub some_room : (us : List RigUnit) (counts : List ℕ) (xs : List Ticket) (v : ℕ) → IsCounted us counts xs → v < length us
    → count_by (is_of_unit v) xs < (get_or us v no_unit).depth → ((i : ℕ) → i < length xs → lives (at xs i) ≡ true → (at xs i).unit < length us)
    → count_by lives xs < depths us
some_room us counts xs v h there some low =
    let a = all_live (length us) xs low in
    let b = upto-least (length us) v (λ (u : ℕ). count_by (is_of_unit u) xs) (λ (u : ℕ). (get_or us u no_unit).depth) there h.few some in
    let c : upto (length us) (λ (u : ℕ). (get_or us u no_unit).depth) ≡ depths us = depths-upto us (length us) (omega arith) ∙ ap depths (take_all (length us) us (omega arith)) in
    omega (arith, a, b, c)

-- ---- the counts are those of the tickets themselves

count-core : (u : ℕ) (xs : List Ticket) → count_by (is_of_unit u) (map core xs) ≡ count_by (is_of_unit u) xs
count-core u [] = refl
count-core u (x ∷ xs) =
    omega (
      arith,
      sum_by-cons (λ (k : Ticket). bit (is_of_unit u k)) (core x) (map core xs),
      sum_by-cons (λ (k : Ticket). bit (is_of_unit u k)) x xs,
      count-core u xs,
      ap bit (core-of u x (lives-core x)),
    )

pub counted_live : (us : List RigUnit) (counts : List ℕ) (xs : List Ticket) (u : ℕ) → IsCounted us counts (map core xs) → u < length us
    → get_or counts u 0 ≡ length (filter (is_of_unit u) xs)
counted_live us counts xs u h low = h.count u low ∙ count-core u xs ∙ sym (length-filter (is_of_unit u) xs)

-- a unit that isn't full
pub not_full : (us : List RigUnit) (xs : List Ticket) (u : ℕ) → nat_le (get_or us u no_unit).depth (length (filter (is_of_unit u) xs)) ≡ false
    → count_by (is_of_unit u) (map core xs) < (get_or us u no_unit).depth
not_full us xs u e =
    let less : length (filter (is_of_unit u) xs) < (get_or us u no_unit).depth = grind (arith, nat_tests, e) in
    omega (arith, less, count-core u xs, length-filter (is_of_unit u) xs)

-- ---- places of which each has a ticket

abbrev pub IsTaken : List (Option ℕ) → ℕ → Type 0
IsTaken places n = IsSome (get_or places n None)

abbrev held_at : List (Option ℕ) → ℕ → ℕ
held_at o a = unwrap_or (get_or o a None) 0

pub by-some : (o : Option ℕ) → IsSome o → o ≡ Some (unwrap_or o 0)
by-some None h = absurd cc
by-some (Some i) h = refl

-- not all blocks have a ticket where fewer than 256 live
pub all_blocks : (o : List (Option ℕ)) (ys : List Ticket) → Keyed 256 block_key o ys → ((n : ℕ) → n < 256 → IsTaken o n) → 256 ≤ count_by lives ys
all_blocks o ys h all =
    crowd lives 256 (held_at o) ys refl
    (λ j low. let q = h.only j (held_at o j) (by-some (get_or o j None) (all j low)) in (q.0, q.1))
    (λ i j less low e.
    let p = h.only i (held_at o i) (by-some (get_or o i None) (all i (omega (arith, less, low)))) in
    let q = h.only j (held_at o j) (by-some (get_or o j None) (all j low)) in
    let same : i ≡ j = sym p.2 ∙ ap (λ (n : ℕ). block_key (at ys n)) e ∙ q.2 in
    omega (arith, same, less))

unit-of-key : (u v g a : ℕ) → 256 * v + g ≡ 256 * u + a → g < 256 → a < 256 → v ≡ u
unit-of-key u v g a e small low = omega (arith, e, small, low)

-- not all tags of a unit have a ticket where fewer live: of the numbers below 256 these are the first so many of a step
pub all_tags : (o : List (Option ℕ)) (ys : List Ticket) (u n : ℕ) (f : ℕ → ℕ) → Keyed 4096 tag_key o ys → All (λ (k : Ticket). k.tag < 256) ys
    → ((j : ℕ) → j < n → (f j < 256) × IsTaken o (256 * u + f j)) → ((i j : ℕ) → i < j → f i < f j) → n ≤ count_by (is_of_unit u) ys
all_tags o ys u n f h bytes all rising =
    crowd (is_of_unit u) n (λ (j : ℕ). held_at o (256 * u + f j)) ys refl
    (λ j low.
    let a = all j low in
    let q = h.only (256 * u + f j) (held_at o (256 * u + f j)) (by-some (get_or o (256 * u + f j) None) a.1) in
    let k = at ys (held_at o (256 * u + f j)) in
    let small : k.tag < 256 = bytes (held_at o (256 * u + f j)) no_ticket q.0 in
    (q.0, live-of u k q.1 (unit-of-key u k.unit k.tag (f j) q.2 small a.0)))
    (λ i j less low e.
    let b = all i (omega (arith, less, low)) in
    let a = all j low in
    let p = h.only (256 * u + f i) (held_at o (256 * u + f i)) (by-some (get_or o (256 * u + f i) None) b.1) in
    let q = h.only (256 * u + f j) (held_at o (256 * u + f j)) (by-some (get_or o (256 * u + f j) None) a.1) in
    let same : 256 * u + f i ≡ 256 * u + f j = sym p.2 ∙ ap (λ (n : ℕ). tag_key (at ys n)) e ∙ q.2 in
    omega (arith, same, rising i j less))
