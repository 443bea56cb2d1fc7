-- What memory reads after the chains were laid: every instruction at its address, and all else as before.
use Rattle.std.proofs.Common.{◌≡◌, ◌++◌, ℕ, zero, suc, ◌+◌, ◌*◌, ◌%◌, ◌^◌, ◌<◌, ◌≤◌, ◌⊎◌, inl, inr, Bool, true, false, cond, Option, Some, None, List, [], ◌∷◌, length, get_or, map, filter, position, nat_lt, refl, ◌∙◌, arith, lit<, lit≤, length-append}
use Rattle.std.specs.Prelude.{IfSome}
use Rattle.std.specs.List.{All, cons_option, filter_map, position_or_len, range_with_len}
use Rattle.std.specs.Option.{option_map}
use Rattle.std.specs.Int.Bits.{and_zero_l}
use Rattle.std.proofs.lemmas.Bool.Decides.{nat_tests}
use Rattle.std.proofs.lemmas.List.FromFn.{length-range_with_len}
use Rattle.std.proofs.lemmas.List.{length-map}
use Rattle.std.proofs.lemmas.List.Elements.{All-nil, All-cons, All-head, All-tail, All-append, All-map, All-filter, All-get_or}
use Rattle.bench_words.specs.Memory.{word_at, put_word}
use Rattle.bench_words.proofs.MemoryLaws.{length-put_word, word_same, word_apart}
use Rattle.scripts_ops.specs.Table.{row, Spelled}
use Rattle.scripts_ops.specs.declared.values.Op.{Op}
use Rattle.scripts_ops.specs.declared.values.Op.TheVariants.{Move, ToSfbr, Jump, Int, Load, Nop}
use Rattle.scripts_ops.specs.declared.values.Condition.TheVariants.{Always, Byte}
use Rattle.scripts_ops.specs.declared.values.Change.TheVariants.{And}
use Rattle.scripts_ops.specs.declared.values.Address.TheVariants.{At}
use Rattle.host_map.specs.declared.TheConstants.{MSGIN}
use Rattle.host_map.specs.Places.{target_chain, unit_chain}
use Rattle.driver_script.specs.Script.{label_of}
use Rattle.driver_script.specs.declared.labels.Name.TheVariants.{Tag}
use Rattle.rig_types.specs.declared.rig.Unit.{Unit as RigUnit}
use Rattle.rig_chains.specs.Chains.{has_target, is_at, targets, jump_if, target_ops, identify_ops, lun_jump, lun_jumps, lun_ops, unit_ops, put_op, put_ops, Spells}
use Rattle.rig_chains.proofs.LaidChains.{targets-is, lun_jumps-is}

-- ---- instructions one behind the other

-- an instruction of two words, whose fields its row takes
pub record IsPlain (op : Op) : Type 0 where
  pub fields : (row op).fields
  pub first : (row op).first < 2 ^ 32
  pub second : (row op).second < 2 ^ 32
  pub two : (row op).third ≡ None

pub length-put_op : (m : List ℕ) (a : ℕ) (op : Op) → length (put_op m a op) ≡ length m
length-put_op m a op =
    length-put_word (put_word m a (row op).first) (a + 4) (row op).second ∙ length-put_word m a (row op).first

pub length-put_ops : (m : List ℕ) (a : ℕ) (ops : List Op) → length (put_ops m a ops) ≡ length m
unfolding put_ops
length-put_ops m a [] = refl
length-put_ops m a (op ∷ ops) = length-put_ops (put_op m a op) (a + 8) ops ∙ length-put_op m a op

-- the word at x shares no byte with the range from low up to high
abbrev Clear : ℕ → ℕ → ℕ → Type 0
Clear x low high = (x + 4 ≤ low) ⊎ (high ≤ x)

put_op-clear : (m : List ℕ) (a x : ℕ) (op : Op) → Clear x a (a + 8) → word_at (put_op m a op) x ≡ word_at m x
put_op-clear m a x op h =
    word_apart (put_word m a (row op).first) (a + 4) x (row op).second (grind arith) ∙ word_apart m a x (row op).first (grind arith)

tail_clear : (x a n : ℕ) → Clear x a (a + 8 * suc n) → Clear x a (a + 8) × Clear x (a + 8) (a + 8 + 8 * n)
tail_clear x a n (inl h) = (inl h, inl (omega arith))
tail_clear x a n (inr h) = (inr (omega arith), inr (omega arith))

pub put_ops-clear : (m : List ℕ) (a x : ℕ) (ops : List Op) → Clear x a (a + 8 * length ops) → word_at (put_ops m a ops) x ≡ word_at m x
unfolding put_ops
put_ops-clear m a x [] h = refl
put_ops-clear m a x (op ∷ ops) h =
    let c = tail_clear x a (length ops) h in
    put_ops-clear (put_op m a op) (a + 8) x ops c.1 ∙ put_op-clear m a x op c.0

-- both words of an instruction
abbrev Says : List ℕ → ℕ → Op → Type 0
Says m a op = (word_at m a ≡ (row op).first) × (word_at m (a + 4) ≡ (row op).second)

put_op-says : (m : List ℕ) (a : ℕ) (op : Op) → a + 8 ≤ length m → IsPlain op → Says (put_op m a op) a op
put_op-says m a op fits p =
    let size = length-put_word m a (row op).first in (
      word_apart (put_word m a (row op).first) (a + 4) a (row op).second (inl (omega arith)) ∙ word_same m a (row op).first (omega arith) p.first,
      word_same (put_word m a (row op).first) (a + 4) (row op).second (omega (arith, size)) p.second,
    )

put_ops-says : (m : List ℕ) (a k : ℕ) (ops : List Op) → All IsPlain ops → a + 8 * length ops ≤ length m → k < length ops → Says (put_ops m a ops) (a + 8 * k) (get_or ops k Nop)
unfolding put_ops
put_ops-says m a k [] ps fits h = absurd (omega arith)
put_ops-says m a zero (op ∷ ops) ps fits h =
    let here = put_op-says m a op (omega arith) (All-head IsPlain op ops ps) in
    let e : a + 8 * 0 ≡ a = omega arith in
    rw e (
      put_ops-clear (put_op m a op) (a + 8) a ops (inl (omega arith)) ∙ here.0,
      put_ops-clear (put_op m a op) (a + 8) (a + 4) ops (inl (omega arith)) ∙ here.1,
    )
put_ops-says m a (suc k) (op ∷ ops) ps fits h =
    let e : a + 8 * suc k ≡ a + 8 + 8 * k = omega arith in
    rw e (put_ops-says (put_op m a op) (a + 8) k ops (All-tail IsPlain op ops ps) (omega (arith, length-put_op m a op)) (omega arith))

spelled_by : (w0 w1 w2 : ℕ) (op : Op) → IsPlain op → w0 ≡ (row op).first → w1 ≡ (row op).second → Spelled w0 w1 w2 op
spelled_by w0 w1 w2 op p first second =
    let two : (row op).third ≡ None = p.two in
    record { fields = p.fields; first = first; second = second; third = rw two tt }

-- memory spells what was written
pub put_ops-spells : (m : List ℕ) (a : ℕ) (ops : List Op) → All IsPlain ops → a + 8 * length ops ≤ length m → Spells (word_at (put_ops m a ops)) a ops
put_ops-spells m a ops ps fits =
    record {
      at = λ k w2 h.
          let says = put_ops-says m a k ops ps fits h in
          spelled_by _ _ w2 (get_or ops k Nop) (All-get_or IsPlain ops k Nop h ps) says.0 says.1;
    }

-- and still does where its words are as before
pub spells_kept : (v w : ℕ → ℕ) (a : ℕ) (ops : List Op) → a % 4 ≡ 0 → Spells v a ops → ((x : ℕ) → x % 4 ≡ 0 → a ≤ x → x + 4 ≤ a + 8 * length ops → w x ≡ v x) → Spells w a ops
spells_kept v w a ops aligned s same =
    record {
      at = λ k w2 h.
          rw (same (a + 8 * k) (omega arith) (omega arith) (omega arith), same (a + 8 * k + 4) (omega arith) (omega arith) (omega arith)) (s.at k w2 h);
    }

-- ---- the instructions of the chains are plain

jump_if-plain : (value address : ℕ) → value < 256 → address < 2 ^ 32 → IsPlain (jump_if value address)
jump_if-plain value address h a =
    record { fields = (lit< tt, h, and_zero_l value); first = omega arith; second = a; two = refl }

stop-plain : (vector : ℕ) → vector < 2 ^ 32 → IsPlain (Int Always vector)
stop-plain vector h = record { fields = tt; first = lit< tt; second = h; two = refl }

range-below : (a n b : ℕ) → a + n ≤ b → All (λ x. x < b) (range_with_len a n)
range-below a zero b h = All-nil (λ x. x < b)
range-below a (suc n) b h =
    All-cons (λ x. x < b) a (range_with_len (a + 1) n) (omega arith) (range-below (a + 1) n b (omega arith))

targets-below : (us : List RigUnit) → All (λ t. t < 8) (targets us)
targets-below us = rw (targets-is us) (All-filter (has_target us) (λ t. t < 8) (range_with_len 0 8) (range-below 0 8 8 (omega arith)))

pub target_ops-plain : (us : List RigUnit) → All IsPlain (target_ops us)
target_ops-plain us =
    All-append IsPlain (map (λ (t : ℕ). jump_if t (target_chain t)) (targets us)) (Int Always 0x0A ∷ [])
    (All-map IsPlain (λ (t : ℕ). jump_if t (target_chain t)) (targets us) (λ k d h.
    let below : get_or (targets us) k d < 8 = targets-below us k d h in jump_if-plain (get_or (targets us) k d) (target_chain (get_or (targets us) k d)) (omega arith) (omega arith)))
    (All-cons IsPlain (Int Always 0x0A) [] (stop-plain 0x0A (lit< tt)) (All-nil IsPlain))

cons_option-all : {Y : Type 0} (P : Y → Type 0) (o : Option Y) (ys : List Y) → IfSome o P → All P ys → All P (cons_option o ys)
cons_option-all P None ys h a = a
cons_option-all P (Some y) ys h a = All-cons P y ys h a

filter_map-all : {X Y : Type 0} (P : Y → Type 0) (f : X → Option Y) (xs : List X) → All (λ x. IfSome (f x) P) xs → All P (filter_map f xs)
filter_map-all P f [] h = All-nil P
filter_map-all P f (x ∷ xs) h =
    cons_option-all P (f x) (filter_map f xs) (All-head (λ x. IfSome (f x) P) x xs h) (filter_map-all P f xs (All-tail (λ x. IfSome (f x) P) x xs h))

found_below : (b : Bool) (n size u : ℕ) → (b ≡ true → n < size) → cond b (Some n) None ≡ Some u → u < size
found_below true n size u h e = let same : n ≡ u = cc in omega (arith, h refl)
found_below false n size u h e = cc

-- a unit that is found is one of the rig
pub position-below : (p : RigUnit → Bool) (us : List RigUnit) (u : ℕ) → position p us ≡ Some u → u < length us
position-below p us u e =
    found_below (nat_lt (position_or_len p us) (length us)) (position_or_len p us) (length us) u (λ h. grind (arith, nat_tests)) e

jump-plain : (lun : ℕ) (o : Option ℕ) → lun < 256 → ((u : ℕ) → o ≡ Some u → u < 16) → IfSome (option_map (λ (u : ℕ). jump_if lun (unit_chain u)) o) IsPlain
jump-plain lun None h below = tt
jump-plain lun (Some u) h below = let b : u < 16 = below u refl in jump_if-plain lun (unit_chain u) h (omega arith)

lun_jumps-plain : (us : List RigUnit) (target : ℕ) → length us ≤ 16 → All IsPlain (lun_jumps us target)
lun_jumps-plain us target few =
    rw (lun_jumps-is us target)
    (filter_map-all IsPlain (lun_jump us target) (range_with_len 0 8) (λ k d h.
    let lun : get_or (range_with_len 0 8) k d < 8 = range-below 0 8 8 (omega arith) k d h in
    jump-plain (get_or (range_with_len 0 8) k d) (position (is_at target (get_or (range_with_len 0 8) k d)) us) (omega arith) (λ u e. omega (arith, position-below (is_at target (get_or (range_with_len 0 8) k d)) us u e))))

identify-plain : All IsPlain identify_ops
identify-plain =
    All-cons IsPlain (Move 1 MSGIN 7) (Int (Byte true 0x7F 0x80) 8 ∷ ToSfbr 0x08 And 0x07 ∷ [])
    (record { fields = ((lit< tt, omega arith, omega arith), lit< tt, lit< tt); first = lit< tt; second = lit< tt; two = refl })
    (All-cons IsPlain (Int (Byte true 0x7F 0x80) 8) (ToSfbr 0x08 And 0x07 ∷ [])
    (record { fields = (lit< tt, lit< tt, refl); first = lit< tt; second = lit< tt; two = refl })
    (All-cons IsPlain (ToSfbr 0x08 And 0x07) []
    (record { fields = (refl, lit< tt); first = lit< tt; second = lit< tt; two = refl })
    (All-nil IsPlain)))

pub lun_ops-plain : (us : List RigUnit) (target : ℕ) → length us ≤ 16 → All IsPlain (lun_ops us target)
lun_ops-plain us target few =
    All-append IsPlain identify_ops (lun_jumps us target ++ Int Always 9 ∷ []) identify-plain
    (All-append IsPlain (lun_jumps us target) (Int Always 9 ∷ []) (lun_jumps-plain us target few)
    (All-cons IsPlain (Int Always 9) [] (stop-plain 9 (lit< tt)) (All-nil IsPlain)))

pub unit_ops-plain : (unit : ℕ) → unit < 16 → All IsPlain (unit_ops unit)
unit_ops-plain unit h =
    All-cons IsPlain (Load 0x10 4 (At (unit_chain unit + 0x10))) (Jump Always (label_of Tag) ∷ [])
    (record { fields = ((refl, lit< tt, lit≤ tt), tt); first = lit< tt; second = omega arith; two = refl })
    (All-cons IsPlain (Jump Always (label_of Tag)) []
    (record { fields = tt; first = lit< tt; second = lit< tt; two = refl })
    (All-nil IsPlain))

-- ---- how long the chains are

cons_option-most : {Y : Type 0} (o : Option Y) (ys : List Y) → length (cons_option o ys) ≤ suc (length ys)
cons_option-most None ys = omega arith
cons_option-most (Some y) ys = omega arith

filter_map-most : {X Y : Type 0} (f : X → Option Y) (xs : List X) → length (filter_map f xs) ≤ length xs
filter_map-most f [] = omega arith
filter_map-most f (x ∷ xs) = omega (arith, cons_option-most (f x) (filter_map f xs), filter_map-most f xs)

cond-most : {X : Type 0} (b : Bool) (x : X) (xs : List X) → length (cond b (x ∷ xs) xs) ≤ suc (length xs)
cond-most true x xs = omega arith
cond-most false x xs = omega arith

filter-most : {X : Type 0} (p : X → Bool) (xs : List X) → length (filter p xs) ≤ length xs
filter-most p [] = omega arith
filter-most p (x ∷ xs) = omega (arith, cond-most (p x) x (filter p xs), filter-most p xs)

pub target_ops-most : (us : List RigUnit) → length (target_ops us) ≤ 9
target_ops-most us =
    let jumps = map (λ (t : ℕ). jump_if t (target_chain t)) (targets us) in
    let few : length (targets us) ≤ 8 = rw (targets-is us) (omega (arith, filter-most (has_target us) (range_with_len 0 8), length-range_with_len 0 8)) in
    omega (arith, length-append jumps (Int Always 0x0A ∷ []), length-map (targets us) (λ (t : ℕ). jump_if t (target_chain t)))

pub lun_ops-most : (us : List RigUnit) (target : ℕ) → length (lun_ops us target) ≤ 12
lun_ops-most us target =
    let few : length (lun_jumps us target) ≤ 8 = rw (lun_jumps-is us target) (omega (arith, filter_map-most (lun_jump us target) (range_with_len 0 8), length-range_with_len 0 8)) in
    omega (arith, length-append (lun_jumps us target) (Int Always 9 ∷ []))
