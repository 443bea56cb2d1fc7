-- Which instruction stands at each place of the chains that find the unit of a reselection.
use Rattle.std.proofs.Common.{◌≡◌, ◌⊎◌, inl, inr, ℕ, zero, suc, ◌+◌, ◌<◌, ◌≤◌, List, [], ◌∷◌, ◌++◌, length, map, filter, position, Bool, true, false, cond, Option, Some, None, get_or, refl, sym, ap, subst, ◌∙◌, arith, length-append}
use Rattle.std.specs.Prelude.{IfSome, slice_index_or}
use Rattle.std.specs.List.{All, cons_option, filter_map, range_with_len}
use Rattle.std.specs.Option.{option_map}
use Rattle.std.proofs.Math.ListN.{get_or-append}
use Rattle.std.proofs.lemmas.List.{get_or-append-add}
use Rattle.std.proofs.lemmas.List.Quantifiers.{position-Some}
use Rattle.std.proofs.lemmas.List.Elements.{All-nil, All-cons, All-head, All-tail, All-map, All-get_or}
use Rattle.rig_types.specs.declared.rig.Unit.{Unit as RigUnit}
use Rattle.scripts_ops.specs.declared.values.Op.{Op}
use Rattle.scripts_ops.specs.declared.values.Op.TheVariants.{Int, Nop}
use Rattle.scripts_ops.specs.declared.values.Condition.TheVariants.{Always}
use Rattle.host_map.specs.Places.{target_chain, unit_chain}
use Rattle.rig_chains.specs.Chains.{has_target, is_at, targets, jump_if, target_ops, lun_jump, lun_jumps}
use Rattle.rig_chains.proofs.LaidChains.{targets-is, lun_jumps-is}
use Rattle.desk_law.specs.Desk.{no_unit}

-- ---- elements that a test lets through

below-range : (a n b : ℕ) → a + n ≤ b → All (λ x. x < b) (range_with_len a n)
below-range a zero b h = All-nil (λ x. x < b)
below-range a (suc n) b h = All-cons (λ x. x < b) a (range_with_len (a + 1) n) (omega arith) (below-range (a + 1) n b (omega arith))

cond-all : {X : Type 0} (P : X → Type 0) (b : Bool) (x : X) (xs : List X) → (b ≡ true → P x) → All P xs → All P (cond b (x ∷ xs) xs)
cond-all P true x xs h a = All-cons P x xs (h refl) a
cond-all P false x xs h a = a

filter-all : {X : Type 0} (p : X → Bool) (P : X → Type 0) (xs : List X) → All P xs → All (λ x. P x × (p x ≡ true)) (filter p xs)
filter-all p P [] h = All-nil (λ x. P x × (p x ≡ true))
filter-all p P (x ∷ xs) h = cond-all (λ x. P x × (p x ≡ true)) (p x) x (filter p xs) (λ e. (All-head P x xs h, e)) (filter-all p P xs (All-tail P x xs h))

option-all : {Y : Type 0} (P : Y → Type 0) (o : Option Y) (ys : List Y) → IfSome o P → All P ys → All P (cons_option o ys)
option-all P None ys h a = a
option-all P (Some y) ys h a = All-cons P y ys h a

filter_map-all : {X Y : Type 0} (P : Y → Type 0) (f : X → Option Y) (xs : List X) → All (λ x. IfSome (f x) P) xs → All P (filter_map f xs)
filter_map-all P f [] h = All-nil P
filter_map-all P f (x ∷ xs) h = option-all P (f x) (filter_map f xs) (All-head (λ x. IfSome (f x) P) x xs h) (filter_map-all P f xs (All-tail (λ x. IfSome (f x) P) x xs h))

-- ---- jumps, and then a stop

-- one of the jumps, with another instruction behind it, or the stop
pub data Stands (P : Op → Type 0) (vector n : ℕ) (op : Op) (j : ℕ) : Type 0 where
  jumps : P op → j + 1 < n → Stands P vector n op j
  stops : op ≡ Int Always vector → Stands P vector n op j

before-or : (j n : ℕ) → j < n + 1 → (j < n) ⊎ (j ≡ n + 0)
before-or j n h = grind arith

stands-at : (P : Op → Type 0) (vector : ℕ) (ops : List Op) (j : ℕ) → All P ops → j < length (ops ++ Int Always vector ∷ []) → Stands P vector (length (ops ++ Int Always vector ∷ [])) (slice_index_or (ops ++ Int Always vector ∷ []) j Nop) j
stands-at P vector ops j a h =
    let n : length (ops ++ Int Always vector ∷ []) ≡ length ops + 1 = length-append ops (Int Always vector ∷ []) in
    elim (before-or j (length ops) (omega (arith, h, n))) [
      | inl l ↦ jumps (subst P (sym (get_or-append ops (Int Always vector ∷ []) Nop j l)) (All-get_or P ops j Nop l a)) (omega (arith, l, n))
      | inr e ↦ stops (ap (λ (i : ℕ). slice_index_or (ops ++ Int Always vector ∷ []) i Nop) e ∙ get_or-append-add ops (Int Always vector ∷ []) 0 Nop)
    ]

-- ---- the chain of the targets

pub record JumpsToTarget (us : List RigUnit) (op : Op) : Type 0 where
  pub target : ℕ
  pub below : target < 8
  pub has : has_target us target ≡ true
  pub is : op ≡ jump_if target (target_chain target)

targets-all : (us : List RigUnit) → All (λ t. (t < 8) × (has_target us t ≡ true)) (targets us)
targets-all us = rw (targets-is us) (filter-all (has_target us) (λ t. t < 8) (range_with_len 0 8) (below-range 0 8 8 (omega arith)))

pub target-op : (us : List RigUnit) (j : ℕ) → j < length (target_ops us) → Stands (JumpsToTarget us) 0x0A (length (target_ops us)) (slice_index_or (target_ops us) j Nop) j
target-op us j h =
    stands-at (JumpsToTarget us) 0x0A (map (λ (t : ℕ). jump_if t (target_chain t)) (targets us)) j
    (All-map (JumpsToTarget us) (λ (t : ℕ). jump_if t (target_chain t)) (targets us) (λ k d l. let x = targets-all us k d l in record { target = get_or (targets us) k d; below = x.0; has = x.1; is = refl })) h

-- ---- the chain of a target

-- u is a unit of the rig and of this target
pub record JumpsToUnit (us : List RigUnit) (target : ℕ) (op : Op) : Type 0 where
  pub unit : ℕ
  pub lun : ℕ
  pub small : lun < 8
  pub inside : unit < length us
  pub of : is_at target lun (slice_index_or us unit no_unit) ≡ true
  pub is : op ≡ jump_if lun (unit_chain unit)

unit-jump : (us : List RigUnit) (target lun : ℕ) (o : Option ℕ) → lun < 8 → position (is_at target lun) us ≡ o → IfSome (option_map (λ (u : ℕ). jump_if lun (unit_chain u)) o) (JumpsToUnit us target)
unit-jump us target lun None h e = tt
unit-jump us target lun (Some u) h e = let p = position-Some (is_at target lun) us u no_unit e in record { unit = u; lun = lun; small = h; inside = p.0; of = p.1; is = refl }

luns-all : (us : List RigUnit) (target : ℕ) → All (JumpsToUnit us target) (lun_jumps us target)
luns-all us target =
    rw (lun_jumps-is us target)
    (filter_map-all (JumpsToUnit us target) (lun_jump us target) (range_with_len 0 8) (λ k d h.
    unit-jump us target (get_or (range_with_len 0 8) k d) (position (is_at target (get_or (range_with_len 0 8) k d)) us) (below-range 0 8 8 (omega arith) k d h) refl))

pub lun-op : (us : List RigUnit) (target i : ℕ) → i < length (lun_jumps us target ++ Int Always 9 ∷ []) → Stands (JumpsToUnit us target) 9 (length (lun_jumps us target ++ Int Always 9 ∷ [])) (slice_index_or (lun_jumps us target ++ Int Always 9 ∷ []) i Nop) i
lun-op us target i h = stands-at (JumpsToUnit us target) 9 (lun_jumps us target) i (luns-all us target) h
