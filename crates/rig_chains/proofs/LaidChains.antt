-- The chains as far as they are laid.
use Rattle.std.proofs.Common.{◌≡◌, ◌++◌, ℕ, zero, suc, ◌+◌, ◌*◌, true, false, Some, None, List, [], ◌∷◌, length, map, filter, position, refl, ap, arith, append-nil, length-append}
use Rattle.std.specs.List.{filter_map, range_with_len}
use Rattle.std.proofs.lemmas.List.{map-append}
use Rattle.std.proofs.lemmas.List.Elements.{filter-append, filter_map-append}
use Rattle.scripts_ops.specs.declared.values.Op.{Op}
use Rattle.host_map.specs.Places.{target_chain, unit_chain}
use Rattle.rig_types.specs.declared.rig.Unit.{Unit}
use Rattle.rig_chains.specs.Chains.{has_target, is_at, jump_if, lun_jump, put_op, put_ops, targets, lun_jumps}

-- one number more
pub range_more : (a n : ℕ) → range_with_len a (n + 1) ≡ range_with_len a n ++ (a + n) ∷ []
range_more a zero = let e : a + 0 ≡ a = omega arith in rw e refl
range_more a (suc n) =
    let e : suc n + 1 ≡ suc (n + 1) = omega arith in
    let f : a + suc n ≡ a + 1 + n = omega arith in
    rw (e, f) (ap (λ (xs : List ℕ). a ∷ xs) (range_more (a + 1) n))

pub range_to_more : (n : ℕ) → range_with_len 0 (n + 1) ≡ range_with_len 0 n ++ n ∷ []
range_to_more n = let e : 0 + n ≡ n = omega arith in rw e at (range_more 0 n)

-- the targets below n, and the jumps to their chains
abbrev pub targets_to : List Unit → ℕ → List ℕ
targets_to us n = filter (has_target us) (range_with_len 0 n)

abbrev pub target_jumps : List Unit → ℕ → List Op
target_jumps us n = map (λ (t : ℕ). jump_if t (target_chain t)) (targets_to us n)

pub targets-is : (us : List Unit) → targets us ≡ targets_to us 8
unfolding targets
targets-is us = refl

pub targets_to-yes : (us : List Unit) (n : ℕ) → has_target us n ≡ true → targets_to us (n + 1) ≡ targets_to us n ++ n ∷ []
targets_to-yes us n h = rw (range_to_more n, filter-append, h) refl

pub targets_to-no : (us : List Unit) (n : ℕ) → has_target us n ≡ false → targets_to us (n + 1) ≡ targets_to us n
targets_to-no us n h = rw (range_to_more n, filter-append, h) (append-nil (targets_to us n))

-- the jumps to the units of a target with LUNs below n
abbrev pub luns_to : List Unit → ℕ → ℕ → List Op
luns_to us target n = filter_map (lun_jump us target) (range_with_len 0 n)

pub lun_jumps-is : (us : List Unit) (target : ℕ) → lun_jumps us target ≡ luns_to us target 8
unfolding lun_jumps
lun_jumps-is us target = refl

pub luns_to-yes : (us : List Unit) (target n u : ℕ) → position (is_at target n) us ≡ Some u → luns_to us target (n + 1) ≡ luns_to us target n ++ jump_if n (unit_chain u) ∷ []
luns_to-yes us target n u h = rw (range_to_more n, filter_map-append, h) refl

pub luns_to-no : (us : List Unit) (target n : ℕ) → position (is_at target n) us ≡ None → luns_to us target (n + 1) ≡ luns_to us target n
luns_to-no us target n h = rw (range_to_more n, filter_map-append, h) (append-nil (luns_to us target n))

-- ---- memory

pub put_ops-none : (m : List ℕ) (a : ℕ) → put_ops m a [] ≡ m
unfolding put_ops
put_ops-none m a = refl

pub put_ops-append : (m : List ℕ) (a : ℕ) (xs ys : List Op) → put_ops m a (xs ++ ys) ≡ put_ops (put_ops m a xs) (a + 8 * length xs) ys
unfolding put_ops
put_ops-append m a [] ys = let e : a + 0 ≡ a = omega arith in rw e refl
put_ops-append m a (op ∷ xs) ys =
    let e : a + 8 * suc (length xs) ≡ a + 8 + 8 * length xs = omega arith in
    rw e (put_ops-append (put_op m a op) (a + 8) xs ys)

-- one instruction more
pub put_ops-more : (m : List ℕ) (a at : ℕ) (xs : List Op) (op : Op) → at ≡ a + 8 * length xs → put_op (put_ops m a xs) at op ≡ put_ops m a (xs ++ op ∷ [])
unfolding put_ops
put_ops-more m a at xs op e = rw (e, put_ops-append m a xs (op ∷ [])) refl

-- one jump more: the next place, and memory
pub jump_more : (m : List ℕ) (a at : ℕ) (js ks : List Op) (op : Op) → at ≡ a + 8 * length js → ks ≡ js ++ op ∷ [] → (at + 8 ≡ a + 8 * length ks) × (put_op (put_ops m a js) at op ≡ put_ops m a ks)
jump_more m a at js ks op e h = rw h (omega (arith, length-append js (op ∷ [])), put_ops-more m a at js op e)

pub target_jumps-yes : (us : List Unit) (n : ℕ) → has_target us n ≡ true → target_jumps us (n + 1) ≡ target_jumps us n ++ jump_if n (target_chain n) ∷ []
target_jumps-yes us n h =
    rw (targets_to-yes us n h) (map-append (λ (t : ℕ). jump_if t (target_chain t)) (targets_to us n) (n ∷ []))

pub target_jumps-no : (us : List Unit) (n : ℕ) → has_target us n ≡ false → target_jumps us (n + 1) ≡ target_jumps us n
target_jumps-no us n h = ap (λ (ts : List ℕ). map (λ (t : ℕ). jump_if t (target_chain t)) ts) (targets_to-no us n h)
