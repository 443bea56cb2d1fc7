-- The chains lead to each unit of a rig: by its target to the chain of the target, and by its LUN to its own.
use Rattle.std.proofs.Common.{◌≡◌, ◌≢◌, ◌++◌, ℕ, zero, suc, ◌+◌, ◌%◌, ◌<◌, ◌≤◌, ◌⊎◌, inl, inr, Bool, true, false, not, nat_eq, nat_lt, ◌&&◌, cond, Option, Some, None, List, [], ◌∷◌, length, get_or, map, filter, position, refl, ap, ◌∙◌, arith}
use Rattle.std.specs.Prelude.{bit_and}
use Rattle.std.specs.List.{All, cons_option, filter_map, position_or_len, range_with_len}
use Rattle.std.specs.Option.{option_map}
use Rattle.std.proofs.lemmas.Bool.{cases_order}
use Rattle.std.proofs.lemmas.Bool.Decides.{nat_tests}
use Rattle.std.proofs.lemmas.List.Elements.{All-head, All-tail}
use Rattle.std.proofs.lemmas.List.Sums.{prefix_len_is}
use Rattle.std.proofs.lemmas.Nat.{and_mask}
use Rattle.scripts_ops.specs.declared.values.Op.{Op}
use Rattle.scripts_ops.specs.declared.values.Op.TheVariants.{Int}
use Rattle.scripts_ops.specs.declared.values.Condition.TheVariants.{Always}
use Rattle.host_map.specs.Places.{target_chain, unit_chain}
use Rattle.rig_types.specs.Ranges.{IsUnit}
use Rattle.rig_types.specs.declared.rig.Unit.{Unit as RigUnit}
use Rattle.rig_chains.specs.Chains.{has_target, is_at, jump_if, lun_jump}
use Rattle.rig_chains.specs.Finding.{Exit, GoesTo, StopsWith, leads, unit_exit, FindsTargets, LeavesOutSeven, FindsLuns, FindsItself}
use Rattle.rig_chains.proofs.LaidChains.{targets-is, lun_jumps-is}

-- ---- a run of jumps at rising numbers

-- the jumps where `place` has one, then a stop
abbrev jump_to : (ℕ → Option ℕ) → ℕ → Option Op
jump_to place n = option_map (λ (a : ℕ). jump_if n a) (place n)

abbrev run : (ℕ → Option ℕ) → List ℕ → ℕ → List Op
run place ns vector = filter_map (jump_to place) ns ++ Int Always vector ∷ []

-- where it leads
abbrev exit : Option ℕ → ℕ → Exit
exit (Some a) vector = GoesTo a
exit None vector = StopsWith vector

same_byte : (byte : ℕ) → byte < 256 → bit_and byte 255 ≡ byte
same_byte byte h = let e : bit_and byte 255 ≡ byte % 256 = and_mask byte 8 in omega (arith, e)

not_taken : (o : Option ℕ) (n byte : ℕ) (ops : List Op) → byte < 256 → byte ≢ n → leads (cons_option (option_map (λ (a : ℕ). jump_if n a) o) ops) byte ≡ leads ops byte
not_taken None n byte ops h d = refl
not_taken (Some a) n byte ops h d =
    let e : nat_eq (bit_and byte 255) n ≡ false = rw (same_byte byte h) (grind (arith, nat_tests)) in rw e refl

taken : (o : Option ℕ) (n vector : ℕ) (ops : List Op) → n < 256 → leads ops n ≡ Some (StopsWith vector) → leads (cons_option (option_map (λ (a : ℕ). jump_if n a) o) ops) n ≡ Some (exit o vector)
taken None n vector ops h stops = stops
taken (Some a) n vector ops h stops =
    let e : nat_eq (bit_and n 255) n ≡ true = rw (same_byte n h) (grind (arith, nat_tests)) in rw e refl

cons_option-append : {X : Type 0} (o : Option X) (xs ys : List X) → cons_option o xs ++ ys ≡ cons_option o (xs ++ ys)
cons_option-append None xs ys = refl
cons_option-append (Some x) xs ys = refl

-- a jump, and the jumps behind it
run_more : (place : ℕ → Option ℕ) (n : ℕ) (ns : List ℕ) (vector : ℕ) → run place (n ∷ ns) vector ≡ cons_option (jump_to place n) (run place ns vector)
run_more place n ns vector = cons_option-append (jump_to place n) (filter_map (jump_to place) ns) (Int Always vector ∷ [])

run_misses : (place : ℕ → Option ℕ) (low n vector byte : ℕ) → byte < 256 → byte < low → leads (run place (range_with_len low n) vector) byte ≡ Some (StopsWith vector)
run_misses place low zero vector byte h less = refl
run_misses place low (suc n) vector byte h less =
    let other : byte ≢ low = omega arith in
    ap (λ (ops : List Op). leads ops byte) (run_more place low (range_with_len (low + 1) n) vector)
    ∙ not_taken (place low) low byte (run place (range_with_len (low + 1) n) vector) h other
    ∙ run_misses place (low + 1) n vector byte h (omega arith)

first_or_later : (place : ℕ → Option ℕ) (low n vector byte : ℕ) → byte < 256 → (low ≡ byte) ⊎ ((low < byte) ⊎ (byte < low)) → low ≤ byte → (low < byte → leads (run place (range_with_len (low + 1) n) vector) byte ≡ Some (exit (place byte) vector)) → leads (cons_option (jump_to place low) (run place (range_with_len (low + 1) n) vector)) byte ≡ Some (exit (place byte) vector)
first_or_later place low n vector byte h (inl e) le later =
    rw (← e) (taken (place low) low vector (run place (range_with_len (low + 1) n) vector) (omega arith) (run_misses place (low + 1) n vector low (omega arith) (omega arith)))
first_or_later place low n vector byte h (inr (inl l)) le later =
    let other : byte ≢ low = omega arith in
    not_taken (place low) low byte (run place (range_with_len (low + 1) n) vector) h other ∙ later l
first_or_later place low n vector byte h (inr (inr l)) le later = absurd (omega arith)

run_leads : (place : ℕ → Option ℕ) (low n vector byte : ℕ) → byte < 256 → low ≤ byte → byte < low + n → leads (run place (range_with_len low n) vector) byte ≡ Some (exit (place byte) vector)
run_leads place low zero vector byte h from below = absurd (omega arith)
run_leads place low (suc n) vector byte h from below =
    ap (λ (ops : List Op). leads ops byte) (run_more place low (range_with_len (low + 1) n) vector)
    ∙ first_or_later place low n vector byte h (cases_order low byte) from (λ l. run_leads place (low + 1) n vector byte h (omega arith) (omega arith))

-- ---- the chain of the targets

target_place : List RigUnit → ℕ → Option ℕ
target_place us t = cond (has_target us t) (Some (target_chain t)) None

map-cond : (b : Bool) (t : ℕ) (ts : List ℕ) → map (λ (t : ℕ). jump_if t (target_chain t)) (cond b (t ∷ ts) ts) ≡ cons_option (option_map (λ (a : ℕ). jump_if t a) (cond b (Some (target_chain t)) None)) (map (λ (t : ℕ). jump_if t (target_chain t)) ts)
map-cond true t ts = refl
map-cond false t ts = refl

map-filter : (us : List RigUnit) (ts : List ℕ) → map (λ (t : ℕ). jump_if t (target_chain t)) (filter (has_target us) ts) ≡ filter_map (jump_to (target_place us)) ts
unfolding target_place
map-filter us [] = refl
map-filter us (t ∷ ts) =
    map-cond (has_target us t) t (filter (has_target us) ts)
    ∙ ap (λ (ops : List Op). cons_option (jump_to (target_place us) t) ops) (map-filter us ts)

target_end : (b : Bool) (t : ℕ) → exit (cond b (Some (target_chain t)) None) 0x0A ≡ cond b (GoesTo (target_chain t)) (StopsWith 0x0A)
target_end true t = refl
target_end false t = refl

pub finds_targets : FindsTargets
unfolding target_place
finds_targets us t h =
    ap (λ (ts : List ℕ). leads (map (λ (t : ℕ). jump_if t (target_chain t)) ts ++ Int Always 0x0A ∷ []) t) (targets-is us)
    ∙ ap (λ (ops : List Op). leads (ops ++ Int Always 0x0A ∷ []) t) (map-filter us (range_with_len 0 8))
    ∙ run_leads (target_place us) 0 8 0x0A t (omega arith) (omega arith) (omega arith)
    ∙ ap Some (target_end (has_target us t) t)

-- a rig has no target 7
no_seven : (version : ℕ) (us : List RigUnit) → All (IsUnit version) us → has_target us 7 ≡ false
no_seven version [] h = refl
no_seven version (u ∷ us) h =
    let here : nat_eq u.target 7 ≡ false = grind (arith, nat_tests, (All-head (IsUnit version) u us h).in_range.target) in
    rw here (no_seven version us (All-tail (IsUnit version) u us h))

pub leaves_out_seven : LeavesOutSeven
leaves_out_seven version us h =
    let none : has_target us 7 ≡ false = no_seven version us h in
    rw none at (finds_targets us 7 (omega arith))

-- ---- the chain of a target

lun_place : List RigUnit → ℕ → ℕ → Option ℕ
lun_place us target lun = option_map (λ (u : ℕ). unit_chain u) (position (is_at target lun) us)

jump_of : (lun : ℕ) (o : Option ℕ) → option_map (λ (u : ℕ). jump_if lun (unit_chain u)) o ≡ option_map (λ (a : ℕ). jump_if lun a) (option_map (λ (u : ℕ). unit_chain u) o)
jump_of lun None = refl
jump_of lun (Some u) = refl

filter_map-agree : {X Y : Type 0} (f g : X → Option Y) (same : (x : X) → f x ≡ g x) (xs : List X) → filter_map f xs ≡ filter_map g xs
filter_map-agree f g same [] = refl
filter_map-agree f g same (x ∷ xs) =
    let here = same x in
    let rest = filter_map-agree f g same xs in
    cc (here, rest)

unit_end : (o : Option ℕ) → exit (option_map (λ (u : ℕ). unit_chain u) o) 9 ≡ unit_exit o
unit_end None = refl
unit_end (Some u) = refl

pub finds_luns : FindsLuns
unfolding lun_place
finds_luns us target lun h =
    ap (λ (ops : List Op). leads (ops ++ Int Always 9 ∷ []) lun) (lun_jumps-is us target ∙ filter_map-agree (lun_jump us target) (jump_to (lun_place us target)) (λ l. jump_of l (position (is_at target l) us)) (range_with_len 0 8))
    ∙ run_leads (lun_place us target) 0 8 9 lun (omega arith) (omega arith) (omega arith)
    ∙ ap Some (unit_end (position (is_at target lun) us))

-- ---- the units of a rig

both_same : (a b c d : ℕ) → nat_eq a b && nat_eq c d ≡ true → (a ≡ b) × (c ≡ d)
both_same a b c d h = (grind (arith, nat_tests), grind (arith, nat_tests))

is_itself : (u : RigUnit) → is_at u.target u.lun u ≡ true
is_itself u = grind (arith, nat_tests)

not_before : (b : Bool) → (b ≡ true → ⊥) → not b ≡ true
not_before true h = absurd (h refl)
not_before false h = refl

pub finds_itself : FindsItself
finds_itself us u d agree h =
    let test = is_at (get_or us u d).target (get_or us u d).lun in
    let here : not (test (get_or us u d)) ≡ false = ap not (is_itself (get_or us u d)) in
    let before = λ (k : ℕ) (below : k < u). not_before (test (get_or us k d)) (λ (yes : test (get_or us k d) ≡ true).
    let same = both_same (get_or us k d).target (get_or us u d).target (get_or us k d).lun (get_or us u d).lun yes in
    (agree k u d below h).lun same.0 same.1) in
    let e : position_or_len test us ≡ u = prefix_len_is (λ (x : RigUnit). not (test x)) us u d (omega arith) before (λ _. here) in
    let less : nat_lt u (length us) ≡ true = grind (arith, nat_tests) in
    rw (e, less) refl
