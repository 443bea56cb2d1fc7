-- A step depends on no byte but those that its instruction reads: the walk over the instructions, with two memories.
use Rattle.std.proofs.Common.{◌≡◌, ◌≢◌, ◌⊎◌, ℕ, ℤ, zero, suc, ◌+◌, ◌-◌, ◌%◌, ◌<◌, ◌≤◌, Bool, true, false, ◌&&◌, ◌||◌, nat_eq, nat_lt, nat_le, Option, Some, None, List, [], ◌∷◌, ◌++◌, length, get_or, set, slice_index, MatchBool, refl, sym, ap, subst, ◌∙◌, inl, inr, arith, length-set, get_or-set_other}
use Rattle.std.specs.Prelude.{if◌then◌else◌}
use Rattle.std.proofs.lemmas.Bool.Decides.{nat_tests}
use Rattle.scsi_words.specs.Phases.{phase_code}
use Rattle.scsi_words.specs.declared.phases.kinds.Phase.{Phase}
use Rattle.bench_words.specs.Memory.{word_at}
use Rattle.scripts_ops.specs.Table.{Spelled}
use Rattle.scripts_ops.specs.declared.values.Op.{Op}
use Rattle.scripts_ops.specs.declared.values.Op.TheVariants as op
use Rattle.scripts_ops.specs.declared.values.Address.{Address}
use Rattle.scripts_ops.specs.declared.values.Address.TheVariants.{At, FromDsa}
use Rattle.scripts_ops.specs.declared.values.Condition.{Condition}
use Rattle.chip_regs.specs.Registers.{byte_at, written}
use Rattle.chip_regs.specs.declared.registers.Regs.{Regs}
use Rattle.chip_regs.specs.declared.registers.Cause.{Cause}
use Rattle.chip_regs.specs.declared.registers.Cause.TheVariants.{Iid, Bf}
use Rattle.chip_step.specs.Event as event
use Rattle.chip_step.specs.Event.{Event}
use Rattle.chip_step.specs.Chip.{Chip, state, Ends, Becomes, Stops}
use Rattle.chip_step.specs.Addresses.{place_in, place_of, offset_at, address_of, low_bits}
use Rattle.chip_step.specs.Bytes.{TakesIn, GoesOut}
use Rattle.chip_step.specs.Blocks.{loaded, after_bytes, Finishes, Moves, MovesAt, BlockMoves, AsksAndMoves, MovesBy}
use Rattle.chip_step.specs.Connection.{with_table, WaitsAt, ReselectsBy, SettlesAs, SelectsBy}
use Rattle.chip_step.specs.Transfers.{TransfersAt, Transfers}
use Rattle.chip_step.specs.Memory.{filled, stored, copied, LoadsAt, StoresAt}
use Rattle.chip_step.specs.Instructions.{Does}
use Rattle.chip_step.specs.Step as chip_step
use Rattle.chip_step.specs.Step.{ChipStep, IsAt, after_fetch, can_fetch, third_at, len_of, has_third, fetched}
use Rattle.chip_step.specs.declared.scsi_bus.Settled.{Settled}
use Rattle.chip_step.specs.declared.scsi_bus.Settled.TheVariants.{Selected, Reselected, TimedOut}
use Rattle.chip_step.specs.declared.outcome.StepEnd.{StepEnd}
use Rattle.chip_step.proofs.Made.{one_spelling}
use Rattle.chip_rows.specs.Touched.{Range, IsIn, Block, entry_of, untaken, went, is_in, range, range_at, of_block, reads, writes, fetches}
use Rattle.chip_rows.specs.Leaving.{ChangesWithin, StaysWithin}
use Rattle.chip_rows.specs.Reading.{SameWithin, ChangesAlike, with_memory, ReadsWithin}
use Rattle.chip_rows.proofs.StepWrites.{by, Other, below_or_in, stored_other, copied_other, takes, goes, writes_within}

-- ---- two memories

-- the same bytes from one address on
record SameFrom (from len : ℕ) (m n : List ℕ) : Type 0 where
  same : (x : ℕ) → from ≤ x → x < from + len → get_or n x 0 ≡ get_or m x 0

from_within : (from len : ℕ) (m n : List ℕ) → SameWithin (range from len) m n → SameFrom from len m n
from_within from len m n s = record { same = λ x l u. s.bytes x (inl (l, u)) }

pub in_left : (a b : List Range) (x : ℕ) → IsIn a x → IsIn (a ++ b) x
in_left [] b x h = absurd h
in_left (r ∷ rs) b x (inl h) = inl h
in_left (r ∷ rs) b x (inr h) = inr (in_left rs b x h)

pub in_right : (a b : List Range) (x : ℕ) → IsIn b x → IsIn (a ++ b) x
in_right [] b x h = h
in_right (r ∷ rs) b x h = inr (in_right rs b x h)

left_of : (a b : List Range) (m n : List ℕ) → SameWithin (a ++ b) m n → SameWithin a m n
left_of a b m n s = record { size = s.size; bytes = λ x h. s.bytes x (in_left a b x h) }

right_of : (a b : List Range) (m n : List ℕ) → SameWithin (a ++ b) m n → SameWithin b m n
right_of a b m n s = record { size = s.size; bytes = λ x h. s.bytes x (in_right a b x h) }

same_word : (from len a : ℕ) (m n : List ℕ) → SameFrom from len m n → from ≤ a → a + 4 ≤ from + len → word_at n a ≡ word_at m a
unfolding word_at
same_word from len a m n s l u =
    rw (s.same a (omega arith) (omega arith), s.same (suc a) (omega arith) (omega arith), s.same (suc (suc a)) (omega arith) (omega arith), s.same (suc (suc (suc a))) (omega arith) (omega arith)) refl

-- one byte that is written in both
set_same : (m n : List ℕ) (a b : ℕ) → length n ≡ length m → get_or (set n a b) a 0 ≡ get_or (set m a b) a 0
set_same [] [] a b e = refl
set_same [] (y ∷ ys) a b e = absurd (omega arith)
set_same (x ∷ xs) [] a b e = absurd (omega arith)
set_same (x ∷ xs) (y ∷ ys) zero b e = refl
set_same (x ∷ xs) (y ∷ ys) (suc a) b e = set_same xs ys a b (omega arith)

set_size : (m n : List ℕ) (a b : ℕ) → length n ≡ length m → length (set n a b) ≡ length (set m a b)
set_size m n a b e = length-set n a b ∙ e ∙ sym (length-set m a b)

same_or : (x a : ℕ) → (x ≡ a) ⊎ (x ≢ a)
same_or x a = grind arith

-- the first byte, and then those behind it
first_and_rest : (a k b : ℕ) (m n m' n' : List ℕ) → length n ≡ length m → Other (a + 1) k (set m a b) m' → Other (a + 1) k (set n a b) n' → SameFrom (a + 1) k m' n' → SameFrom a (suc k) m' n'
first_and_rest a k b m n m' n' e o p s = record {
  same = λ x l u. elim (same_or x a) [
    | inl q ↦
        let here : get_or n' a 0 ≡ get_or m' a 0 = p.same a (inl (omega arith)) ∙ set_same m n a b e ∙ sym (o.same a (inl (omega arith))) in
        subst (λ (i : ℕ). get_or n' i 0 ≡ get_or m' i 0) (sym q) here
    | inr q ↦ s.same x (omega arith) (omega arith)
  ];
}

stored_same : (k r : ℕ) (m n : List ℕ) (a : ℕ) (regs : Regs) → length n ≡ length m → SameFrom a k (stored k r m a regs) (stored k r n a regs)
stored_same zero r m n a regs e = record { same = λ x l u. absurd (omega arith) }
stored_same (suc k) r m n a regs e =
    let b = byte_at r regs in
    first_and_rest a k b m n (stored k (r + 1) (set m a b) (a + 1) regs) (stored k (r + 1) (set n a b) (a + 1) regs) e (stored_other k (r + 1) (set m a b) (a + 1) regs) (stored_other k (r + 1) (set n a b) (a + 1) regs)
    (stored_same k (r + 1) (set m a b) (set n a b) (a + 1) regs (set_size m n a b e))

set_within : (s k t b : ℕ) (m n : List ℕ) → length n ≡ length m → SameFrom s (suc k) m n → SameFrom (s + 1) k (set m t b) (set n t b)
set_within s k t b m n e h = record {
  same = λ x l u. elim (same_or x t) [
    | inl q ↦ subst (λ (i : ℕ). get_or (set n t b) i 0 ≡ get_or (set m t b) i 0) (sym q) (set_same m n t b e)
    | inr q ↦ get_or-set_other n t x b 0 q ∙ h.same x (omega arith) (omega arith) ∙ sym (get_or-set_other m t x b 0 q)
  ];
}

copied_same : (k : ℕ) (m n : List ℕ) (s t : ℕ) → length n ≡ length m → SameFrom s k m n → SameFrom t k (copied k m s t) (copied k n s t)
copied_same zero m n s t e h = record { same = λ x l u. absurd (omega arith) }
copied_same (suc k) m n s t e h =
    let b = get_or m s 0 in
    let q : get_or n s 0 ≡ b = h.same s (omega arith) (omega arith) in
    let alike : SameFrom t (suc k) (copied k (set m t b) (s + 1) (t + 1)) (copied k (set n t b) (s + 1) (t + 1)) =
    first_and_rest t k b m n (copied k (set m t b) (s + 1) (t + 1)) (copied k (set n t b) (s + 1) (t + 1)) e (copied_other k (set m t b) (s + 1) (t + 1)) (copied_other k (set n t b) (s + 1) (t + 1))
    (copied_same k (set m t b) (set n t b) (s + 1) (t + 1) (set_size m n t b e) (set_within s k t b m n e h)) in
    subst (λ (v : ℕ). SameFrom t (suc k) (copied k (set m t b) (s + 1) (t + 1)) (copied k (set n t v) (s + 1) (t + 1))) (sym q) alike

filled_same : (k r : ℕ) (m n : List ℕ) (a : ℕ) (regs : Regs) → SameFrom a k m n → filled k r n a regs ≡ filled k r m a regs
filled_same zero r m n a regs s = refl
filled_same (suc k) r m n a regs s =
    filled_same k (r + 1) m n (a + 1) (written r (get_or n a 0) regs) (record { same = λ x l u. s.same x (omega arith) (omega arith) })
    ∙ ap (λ (b : ℕ). filled k (r + 1) m (a + 1) (written r b regs)) (s.same a (omega arith) (omega arith))

-- ---- places depend on the size of memory alone

place_in_same : (m n : List ℕ) (len : ℕ) (o : Option ℕ) → length n ≡ length m → place_in n len o ≡ place_in m len o
place_in_same m n len None e = refl
place_in_same m n len (Some a) e = ap (λ (k : ℕ). if nat_le (a + len) k then Some a else None) e

place_same : (m n : List ℕ) (base : ℕ) (o : ℤ) (len : ℕ) → length n ≡ length m → place_of n base o len ≡ place_of m base o len
unfolding place_of
place_same m n base o len e = place_in_same m n len (offset_at base o) e

address_same : (m n : List ℕ) (dsa : ℕ) (place : Address) (len : ℕ) → length n ≡ length m → address_of n dsa place len ≡ address_of m dsa place len
address_same m n dsa (At a) len e = place_in_same m n len (Some a) e
address_same m n dsa (FromDsa o) len e = place_same m n dsa o len e

-- ---- memory that changes alike

alike_still : (m n m' n' : List ℕ) → m' ≡ m → n' ≡ n → ChangesAlike m m' n n'
alike_still m n m' n' e f = record { each = λ x. inr (ap (λ (l : List ℕ). get_or l x 0) e, ap (λ (l : List ℕ). get_or l x 0) f) }

alike_in : (from len : ℕ) (m n m' n' : List ℕ) → Other from len m m' → Other from len n n' → SameFrom from len m' n' → ChangesAlike m m' n n'
alike_in from len m n m' n' o p s = record {
  each = λ x. elim (below_or_in x from len) [
    | inl l ↦ inr (o.same x (inl l), p.same x (inl l))
    | inr r ↦ elim r [
      | inl g ↦ inr (o.same x (inr g), p.same x (inr g))
      | inr i ↦ inl (s.same x i.0 i.1)
    ]
  ];
}

-- some memory after the step, of which a fact holds
abbrev After : {B : Type 0} → (old new : Chip B) → List ℕ → (List ℕ → Type 0) → Type 0
After old new n P = (v : List ℕ) × P v × ChangesAlike old.memory new.memory n v

choose : {B : Type 0} (old new : Chip B) (n : List ℕ) (P Q : List ℕ → Type 0) (b : Bool) {X Y : Type 0} →
    (X → (v : List ℕ) × P v × ChangesAlike old.memory new.memory n v) → (Y → (v : List ℕ) × Q v × ChangesAlike old.memory new.memory n v) →
    MatchBool b X Y → (v : List ℕ) × MatchBool b (P v) (Q v) × ChangesAlike old.memory new.memory n v
choose old new n P Q true f g h = f h
choose old new n P Q false f g h = g h

module _ {B : Type 0} (old : Chip B) (end : StepEnd) (new : Chip B) (n : List ℕ) where
  ends : (how : StepEnd) (regs : Regs) → Ends how old.memory regs end new → After old new n (λ v. Ends how n regs end (with_memory v new))
  ends how regs h = (n, record { is = h.is; memory_is = refl; regs_are = h.regs_are }, alike_still old.memory n new.memory n h.memory_is refl)

  becomes : (regs : Regs) → Becomes regs old end new → After old new n (λ v. Becomes regs (with_memory n old) end (with_memory v new))
  becomes regs h = (n, record { ends = record { is = h.ends.is; memory_is = refl; regs_are = h.ends.regs_are }; bus_is = h.bus_is }, alike_still old.memory n new.memory n h.ends.memory_is refl)

  stops : (cause : Cause) → Stops cause old end new → After old new n (λ v. Stops cause (with_memory n old) end (with_memory v new))
  stops cause h = (n, record { ends = record { is = h.ends.is; memory_is = refl; regs_are = h.ends.regs_are }; bus_is = h.bus_is }, alike_still old.memory n new.memory n h.ends.memory_is refl)

  transfers_at : (d : Option Bool) (how : StepEnd) (regs : Regs) → TransfersAt d how regs old end new → After old new n (λ v. TransfersAt d how regs (with_memory n old) end (with_memory v new))
  transfers_at None how regs h = ends _ _ h
  transfers_at (Some true) how regs h = ends _ _ h
  transfers_at (Some false) how regs h = ends _ _ h

  waits_at : (gone : Bool) → WaitsAt gone old end new → After old new n (λ v. WaitsAt gone (with_memory n old) end (with_memory v new))
  waits_at true h = ends _ _ h
  waits_at false h = ends _ _ h

  reselects_by : (target : Option ℕ) (before : Chip B) → before.memory ≡ old.memory → ReselectsBy target before old end new → After old new n (λ v. ReselectsBy target (with_memory n before) (with_memory n old) end (with_memory v new))
  reselects_by None before m h = (n, (h.0, ap (λ (c : Chip B). with_memory n c) h.1), alike_still old.memory n new.memory n (ap (λ (c : Chip B). c.memory) h.1 ∙ m) refl)
  reselects_by (Some target) before m h = ends _ _ h

  loads_at : (place : Option ℕ) (r k : ℕ) → SameWithin (range_at place k) old.memory n → LoadsAt place r k old end new → After old new n (λ v. LoadsAt place r k (with_memory n old) end (with_memory v new))
  loads_at None r k s h = stops _ h
  loads_at (Some a) r k s h =
      let e : filled k r n a old.regs ≡ filled k r old.memory a old.regs = filled_same k r old.memory n a old.regs (from_within a k old.memory n s) in
      let b = becomes (filled k r old.memory a old.regs) h in
      subst (λ (q : Regs). After old new n (λ v. Becomes q (with_memory n old) end (with_memory v new))) (sym e) b

  stores_at : (place : Option ℕ) (r k : ℕ) → length n ≡ length old.memory → StoresAt place r k old end new → After old new n (λ v. StoresAt place r k (with_memory n old) end (with_memory v new))
  stores_at None r k s h = stops _ h
  stores_at (Some a) r k s h =
      let m' : List ℕ = stored k r old.memory a old.regs in
      let n' : List ℕ = stored k r n a old.regs in
      let alike : ChangesAlike old.memory m' n n' = alike_in a k old.memory n m' n' (stored_other k r old.memory a old.regs) (stored_other k r n a old.regs) (stored_same k r old.memory n a old.regs s) in
      (n', record { ends = record { is = h.ends.is; memory_is = refl; regs_are = h.ends.regs_are }; bus_is = h.bus_is }, subst (λ (l : List ℕ). ChangesAlike old.memory l n n') (sym h.ends.memory_is) alike)

  copies : (k s t : ℕ) → length n ≡ length old.memory → SameFrom s k old.memory n → Becomes old.regs (record old { memory = copied k old.memory s t }) end new → After old new n (λ v. Becomes old.regs (record (with_memory n old) { memory = copied k n s t }) end (with_memory v new))
  copies k s t e f h =
      let m' : List ℕ = copied k old.memory s t in
      let n' : List ℕ = copied k n s t in
      let alike : ChangesAlike old.memory m' n n' = alike_in t k old.memory n m' n' (copied_other k old.memory s t) (copied_other k n s t) (copied_same k old.memory n s t e f) in
      (n', record { ends = record { is = h.ends.is; memory_is = refl; regs_are = h.ends.regs_are }; bus_is = h.bus_is }, subst (λ (l : List ℕ). ChangesAlike old.memory l n n') (sym h.ends.memory_is) alike)

-- ---- bytes on their way

by_zero : (b : Bool) → b ≡ false → ◌≡◌ {A = ℕ} (if b then 0 else 1) 1
by_zero true e = absurd cc
by_zero false e = refl

untaken-some : (left : ℕ) → 0 < left → untaken left ≡ 1
untaken-some left h = let e : nat_eq left 0 ≡ false = grind (arith, nat_tests) in by_zero (nat_eq left 0) e

if_same : (b : Bool) (x y z : ℕ) → (b ≡ true → x ≡ y) → (if b then x else z) ≡ (if b then y else z)
if_same true x y z h = h refl
if_same false x y z h = refl

first_moved : (phase left dbc : ℕ) → ((nat_eq phase 7 || nat_eq phase 3) && nat_lt left dbc) ≡ true → (left < dbc) × (nat_eq (phase % 2) 1 ≡ true)
first_moved phase left dbc h = (grind (arith, nat_tests), grind (arith, nat_tests))

-- the byte that SFBR gets is the same
same_counts : (phase left : ℕ) (m n : List ℕ) (r : Regs) → (nat_eq (phase % 2) 1 ≡ true → SameFrom r.dnad (r.dbc - left) m n) → after_bytes phase left n r ≡ after_bytes phase left m r
same_counts phase left m n r s =
    let taken : Bool = (nat_eq phase 7 || nat_eq phase 3) && nat_lt left r.dbc in
    let e : (if taken then slice_index n r.dnad else r.sfbr) ≡ (if taken then slice_index m r.dnad else r.sfbr) = if_same taken (slice_index n r.dnad) (slice_index m r.dnad) r.sfbr
    (λ t. let f = first_moved phase left r.dbc t in let l : left < r.dbc = f.0 in (s f.1).same r.dnad (omega arith) (omega arith)) in
    ap (λ (b : ℕ). record r { dbc = left; dnad = r.dnad + (r.dbc - left); sfbr = b }) e

module _ {B : Type 0} (moves : B → Event → B → Type 0) where
  takes_too : (message later : Bool) (k : ℕ) (m n : List ℕ) (a : ℕ) (bus : B) (left : ℕ) (m' : List ℕ) (bus' : B) → length n ≡ length m → TakesIn moves message later k m a bus left m' bus' →
      (n' : List ℕ) × TakesIn moves message later k n a bus left n' bus' × SameFrom a (k - left) m' n'
  takes_too message later zero m n a bus left m' bus' e h = (n, (h.0, refl, h.2), record { same = λ x l u. absurd (omega arith) })
  takes_too message later (suc k) m n a bus left m' bus' e h = elim h.2 [
    | inl x ↦
        let all : left ≡ suc k = x.all_left in
        (n, (h.0, h.1, inl (record { call = x.call; all_left = x.all_left; same = refl })), record { same = λ i l u. absurd (omega arith) })
    | inr x ↦
        let rest : (n' : List ℕ) × TakesIn moves message true k (set n a x.0) (a + 1) x.1 left n' bus' × SameFrom (a + 1) (k - left) m' n' = takes_too message true k (set m a x.0) (set n a x.0) (a + 1) x.1 left m' bus' (set_size m n a x.0 e) x.3 in
        let o = takes moves message true k (set m a x.0) (a + 1) x.1 left m' bus' x.3 in
        let p = takes moves message true k (set n a x.0) (a + 1) x.1 left rest.0 bus' rest.1 in
        let most : left ≤ k = o.most in
        let count : suc k - left ≡ suc (k - left) = omega arith in
        (rest.0, (h.0, h.1, inr (x.0, x.1, x.2, rest.1)), subst (λ (c : ℕ). SameFrom a c m' rest.0) (sym count) (first_and_rest a (k - left) x.0 m n m' rest.0 e o.other p.other rest.2))
  ]

  goes_too : (k : ℕ) (m n : List ℕ) (a : ℕ) (bus : B) (left : ℕ) (bus' : B) → SameFrom a (k - left + untaken left) m n → GoesOut moves k m a bus left bus' → GoesOut moves k n a bus left bus'
  goes_too zero m n a bus left bus' s h = h
  goes_too (suc k) m n a bus left bus' s h = elim h [
    | inl x ↦
        let all : left ≡ suc k = x.1 in
        let one : untaken left ≡ 1 = untaken-some left (omega arith) in
        let e : get_or n a 0 ≡ get_or m a 0 = s.same a (omega arith) (omega arith) in
        inl (subst (λ (b : ℕ). moves bus (event.ByteOut b false) bus') (sym e) x.0, x.1)
    | inr x ↦
        let most : left ≤ k = goes moves k m (a + 1) x.0 left bus' x.2 in
        let e : get_or n a 0 ≡ get_or m a 0 = s.same a (omega arith) (omega arith) in
        inr (x.0, subst (λ (b : ℕ). moves bus (event.ByteOut b true) x.0) (sym e) x.1, goes_too k m n (a + 1) x.0 left bus' (record { same = λ i l u. s.same i (omega arith) (omega arith) }) x.2)
  ]

  -- by the direction: what is left, the memory and the bus, with the bytes that came
  carries_too : (inward message : Bool) (b : Block) (m n : List ℕ) (bus : B) (left : ℕ) (m' : List ℕ) (bus' : B) → SameWithin (went inward left b) m n →
      MatchBool inward (TakesIn moves message false b.count m b.address bus left m' bus') (GoesOut moves b.count m b.address bus left bus' × (m' ≡ m)) →
      (n' : List ℕ) × MatchBool inward (TakesIn moves message false b.count n b.address bus left n' bus') (GoesOut moves b.count n b.address bus left bus' × (n' ≡ n))
      × ChangesAlike m m' n n' × (inward ≡ true → SameFrom b.address (b.count - left) m' n')
  carries_too true message b m n bus left m' bus' s h =
      let t : (n' : List ℕ) × TakesIn moves message false b.count n b.address bus left n' bus' × SameFrom b.address (b.count - left) m' n' = takes_too message false b.count m n b.address bus left m' bus' s.size h in
      let o = takes moves message false b.count m b.address bus left m' bus' h in
      let p = takes moves message false b.count n b.address bus left t.0 bus' t.1 in
      (t.0, t.1, alike_in b.address (b.count - left) m n m' t.0 o.other p.other t.2, λ e. t.2)
  carries_too false message b m n bus left m' bus' s h =
      (n, (goes_too b.count m n b.address bus left bus' (from_within b.address _ m n s) h.0, refl), alike_still m n m' n h.1 refl, λ e. absurd cc)

-- the count and the address in the registers
abbrev in_regs : {B : Type 0} → Chip B → Block
in_regs old = record { count = old.regs.dbc; address = old.regs.dnad }

module _ {B : Type 0} (moves : B → Event → B → Type 0) where
  -- what a move that ends or stops leaves in DBC
  left_in : (phase : ℕ) (old : Chip B) (end : StepEnd) (new : Chip B) (h : Moves moves phase old end new) → new.regs.dbc ≡ h.left
  left_in phase old end new h = by (nat_eq h.left 0) (λ x. ap (λ (q : Regs). q.dbc) x.2) (λ x. ap (λ (q : Regs). q.dbc) x.2) h.finishes

  moved_too : (phase : ℕ) (old : Chip B) (end : StepEnd) (new : Chip B) (n : List ℕ) → SameWithin (went (is_in phase) new.regs.dbc (in_regs old)) old.memory n → Moves moves phase old end new → After old new n (λ v. Moves moves phase (with_memory n old) end (with_memory v new))
  moved_too phase old end new n s h =
      let t = subst (λ (k : ℕ). SameWithin (went (is_in phase) k (in_regs old)) old.memory n) (left_in phase old end new h) s in
      let c = carries_too moves (is_in phase) (nat_eq phase 7) (in_regs old) old.memory n old.bus h.left new.memory h.bus t h.carries in
      let e : after_bytes phase h.left c.0 old.regs ≡ after_bytes phase h.left new.memory old.regs = same_counts phase h.left new.memory c.0 old.regs c.3 in (
        c.0,
        record {
          left = h.left;
          bus = h.bus;
          carries = c.1;
          finishes = subst (λ (r : Regs). Finishes moves phase h.left h.bus r end (with_memory c.0 new)) (sym e) h.finishes;
        },
        c.2,
      )

  moves_at_too : (word : ℕ) (shown : Option Phase) (phase : ℕ) (old : Chip B) (bus : B) (end : StepEnd) (new : Chip B) (n : List ℕ) → SameWithin (went (is_in phase) new.regs.dbc (in_regs old)) old.memory n → MovesAt moves word shown phase old bus end new → After old new n (λ v. MovesAt moves word shown phase (with_memory n old) bus end (with_memory v new))
  moves_at_too word None phase old bus end new n s h = stops (record old { bus = bus }) end new n _ h
  moves_at_too word (Some shown) phase old bus end new n s h =
      choose old new n _ _ (nat_eq (phase_code shown) phase) (moved_too phase (record old { bus = bus }) end new n s) (stops (record old { bus = bus }) end new n _) h

  asks_too : (word phase : ℕ) (old : Chip B) (end : StepEnd) (new : Chip B) (n : List ℕ) → SameWithin (went (is_in phase) new.regs.dbc (in_regs old)) old.memory n → AsksAndMoves moves word phase old end new → After old new n (λ v. AsksAndMoves moves word phase (with_memory n old) end (with_memory v new))
  asks_too word phase old end new n s h =
      let m : After old new n (λ v. MovesAt moves word h.shown phase (with_memory n old) h.bus end (with_memory v new)) = moves_at_too word h.shown phase old h.bus end new n s h.moved in
      (m.0, record { shown = h.shown; bus = h.bus; asks = h.asks; moved = m.1 }, m.2)

  block_too : (word phase : ℕ) (old : Chip B) (end : StepEnd) (new : Chip B) (n : List ℕ) → SameWithin (went (is_in phase) new.regs.dbc (in_regs old)) old.memory n → BlockMoves moves word phase old end new → After old new n (λ v. BlockMoves moves word phase (with_memory n old) end (with_memory v new))
  block_too word phase old end new n s h =
      subst (λ (size : ℕ). After old new n (λ v. MatchBool (nat_eq old.regs.dbc 0) (Stops Iid (with_memory n old) end (with_memory v new)) (MatchBool (nat_le (old.regs.dnad + old.regs.dbc) size) (AsksAndMoves moves word phase (with_memory n old) end (with_memory v new)) (Stops Bf (with_memory n old) end (with_memory v new))))) (sym s.size)
      (choose old new n _ _ (nat_eq old.regs.dbc 0) (stops old end new n Iid)
      (choose old new n _ _ (nat_le (old.regs.dnad + old.regs.dbc) (length old.memory)) (asks_too word phase old end new n s) (stops old end new n Bf)) h)

  entry_too : (word phase : ℕ) (place : Option ℕ) (old : Chip B) (end : StepEnd) (new : Chip B) (n : List ℕ) → SameWithin (range_at place 8 ++ of_block (went (is_in phase) new.regs.dbc) (entry_of old.memory place)) old.memory n → MovesBy moves word place phase old end new → After old new n (λ v. MovesBy moves word place phase (with_memory n old) end (with_memory v new))
  entry_too word phase None old end new n s h = stops old end new n _ h
  entry_too word phase (Some a) old end new n s h =
      let data_read = right_of (range a 8) (of_block (went (is_in phase) new.regs.dbc) (entry_of old.memory (Some a))) old.memory n s in
      let entry : SameFrom a 8 old.memory n = from_within a 8 old.memory n (left_of (range a 8) (of_block (went (is_in phase) new.regs.dbc) (entry_of old.memory (Some a))) old.memory n s) in
      let e0 : word_at n a ≡ word_at old.memory a = same_word a 8 a old.memory n entry (omega arith) (omega arith) in
      let e1 : word_at n (a + 4) ≡ word_at old.memory (a + 4) = same_word a 8 (a + 4) old.memory n entry (omega arith) (omega arith) in
      let done : After old new n (λ v. BlockMoves moves word phase (loaded (word_at old.memory a % 16777216) (word_at old.memory (a + 4)) (with_memory n old)) end (with_memory v new)) = block_too word phase (loaded (word_at old.memory a % 16777216) (word_at old.memory (a + 4)) old) end new n data_read h in
      subst (λ (w : ℕ). After old new n (λ v. BlockMoves moves word phase (loaded (w % 16777216) (word_at n (a + 4)) (with_memory n old)) end (with_memory v new))) (sym e0)
      (subst (λ (w : ℕ). After old new n (λ v. BlockMoves moves word phase (loaded (word_at old.memory a % 16777216) w (with_memory n old)) end (with_memory v new))) (sym e1) done)

  settles_too : (word : ℕ) (t : Settled) (alternate : ℕ) (regs : Regs) (old : Chip B) (end : StepEnd) (new : Chip B) (n : List ℕ) → SettlesAs moves word t alternate regs old end new → After old new n (λ v. SettlesAs moves word t alternate regs (with_memory n old) end (with_memory v new))
  settles_too word Selected alternate regs old end new n h = let e = ends old end new n _ _ h.3 in (e.0, (h.0, h.1, h.2, e.1), e.2)
  settles_too word (Reselected target) alternate regs old end new n h = let e = ends old end new n _ _ h.1 in (e.0, (h.0, e.1), e.2)
  settles_too word TimedOut alternate regs old end new n h = let e = ends old end new n _ _ h.1 in (e.0, (h.0, e.1), e.2)

  selects_too : (word : ℕ) (place : Option ℕ) (alternate : ℕ) (old : Chip B) (end : StepEnd) (new : Chip B) (n : List ℕ) → SameWithin (range_at place 4) old.memory n → SelectsBy moves word place alternate old end new → After old new n (λ v. SelectsBy moves word place alternate (with_memory n old) end (with_memory v new))
  selects_too word None alternate old end new n s h = stops old end new n _ h
  selects_too word (Some a) alternate old end new n s h =
      let e : word_at n a ≡ word_at old.memory a = same_word a 4 a old.memory n (from_within a 4 old.memory n s) (omega arith) (omega arith) in
      let t : After old new n (λ v. SettlesAs moves word h.0 alternate (with_table (word_at old.memory a) old.regs) (with_memory n old) end (with_memory v new)) = settles_too word h.0 alternate (with_table (word_at old.memory a) old.regs) old end new n h.1 in
      (t.0, (h.0, subst (λ (w : ℕ). SettlesAs moves word h.0 alternate (with_table w old.regs) (with_memory n old) end (with_memory t.0 new)) (sym e) t.1), t.2)

  transfers_too : (word : ℕ) (on : Condition) (how : StepEnd) (regs : Regs) (old : Chip B) (end : StepEnd) (new : Chip B) (n : List ℕ) → Transfers moves word on how regs old end new → After old new n (λ v. Transfers moves word on how regs (with_memory n old) end (with_memory v new))
  transfers_too word on how regs old end new n h =
      let t : After old new n (λ v. TransfersAt h.decision how regs (with_memory n old) end (with_memory v new)) = transfers_at old end new n h.decision how regs h.transfers in
      (t.0, record { decision = h.decision; decides = h.decides; transfers = t.1 }, t.2)

  does_too : (word : ℕ) (x : Op) (before old : Chip B) (end : StepEnd) (new : Chip B) (n : List ℕ) → before.memory ≡ old.memory → SameWithin (reads x old new.regs.dbc) old.memory n → Does moves word x before old end new →
      After old new n (λ v. Does moves word x (with_memory n before) (with_memory n old) end (with_memory v new))
  does_too word (op.Move k a p) before old end new n m s h = block_too word p (loaded k a old) end new n s h
  does_too word (op.MoveFrom o p) before old end new n m s h =
      subst (λ (place : Option ℕ). After old new n (λ v. MovesBy moves word place p (with_memory n old) end (with_memory v new))) (sym (place_same old.memory n old.regs.dsa o 8 s.size))
      (entry_too word p (place_of old.memory old.regs.dsa o 8) old end new n s h)
  does_too word (op.Select o alternate) before old end new n m s h =
      subst (λ (place : Option ℕ). After old new n (λ v. MatchBool old.regs.con (Stops Iid (with_memory n old) end (with_memory v new)) (SelectsBy moves word place alternate (with_memory n old) end (with_memory v new)))) (sym (place_same old.memory n old.regs.dsa o 4 s.size))
      (choose old new n _ _ old.regs.con (stops old end new n Iid) (selects_too word (place_of old.memory old.regs.dsa o 4) alternate old end new n s) h)
  does_too word op.WaitDisconnect before old end new n m s h = let w = waits_at old end new n h.0 h.2 in (w.0, (h.0, h.1, w.1), w.2)
  does_too word (op.WaitReselect alternate) before old end new n m s h =
      choose old new n _ _ old.regs.con (stops old end new n _)
      (choose old new n _ _ old.regs.sigp (becomes old end new n _)
      (λ g. let w = reselects_by old end new n g.0 before m g.2 in (w.0, (g.0, g.1, w.1), w.2))) h
  does_too word (op.Set ack atn) before old end new n m s h = let w = ends old end new n _ _ h.ends in (w.0, record { asserts = h.asserts; ends = w.1 }, w.2)
  does_too word (op.Clear ack atn) before old end new n m s h = let w = ends old end new n _ _ h.ends in (w.0, record { mid = h.mid; atn_first = h.atn_first; ack_then = h.ack_then; ends = w.1 }, w.2)
  does_too word (op.FromSfbr c d r) before old end new n m s h = becomes old end new n _ h
  does_too word (op.ToSfbr r c d) before old end new n m s h = becomes old end new n _ h
  does_too word (op.Modify r c d) before old end new n m s h = becomes old end new n _ h
  does_too word (op.Put d r) before old end new n m s h = becomes old end new n _ h
  does_too word (op.Jump on a) before old end new n m s h = transfers_too word on _ _ old end new n h
  does_too word (op.Call on a) before old end new n m s h = transfers_too word on _ _ old end new n h
  does_too word (op.Return on) before old end new n m s h = transfers_too word on _ _ old end new n h
  does_too word (op.Int on vector) before old end new n m s h = transfers_too word on _ _ old end new n h
  does_too word (op.IntFly on) before old end new n m s h = transfers_too word on _ _ old end new n h
  does_too word op.Nop before old end new n m s h = becomes old end new n _ h
  does_too word (op.MoveMemory k a t) before old end new n m s h =
      subst (λ (size : ℕ). After old new n (λ v. MatchBool (nat_eq (a % 4) (t % 4)) (MatchBool (nat_le (a + k) size && nat_le (t + k) size) (Becomes old.regs (record (with_memory n old) { memory = copied k n a t }) end (with_memory v new)) (Stops Bf (with_memory n old) end (with_memory v new))) (Stops Iid (with_memory n old) end (with_memory v new)))) (sym s.size)
      (choose old new n _ _ (nat_eq (a % 4) (t % 4))
      (choose old new n _ _ (nat_le (a + k) (length old.memory) && nat_le (t + k) (length old.memory)) (copies old end new n k a t s.size (from_within a k old.memory n s)) (stops old end new n Bf))
      (stops old end new n Iid) h)
  does_too word (op.Load r k place) before old end new n m s h =
      subst (λ (at : Option ℕ). After old new n (λ v. MatchBool (nat_eq (low_bits old.regs.dsa place) (r % 4)) (LoadsAt at r k (with_memory n old) end (with_memory v new)) (Stops Iid (with_memory n old) end (with_memory v new)))) (sym (address_same old.memory n old.regs.dsa place k s.size))
      (choose old new n _ _ (nat_eq (low_bits old.regs.dsa place) (r % 4)) (loads_at old end new n (address_of old.memory old.regs.dsa place k) r k s) (stops old end new n Iid) h)
  does_too word (op.Store r k place) before old end new n m s h =
      subst (λ (at : Option ℕ). After old new n (λ v. MatchBool (nat_eq (low_bits old.regs.dsa place) (r % 4)) (StoresAt at r k (with_memory n old) end (with_memory v new)) (Stops Iid (with_memory n old) end (with_memory v new)))) (sym (address_same old.memory n old.regs.dsa place k s.size))
      (choose old new n _ _ (nat_eq (low_bits old.regs.dsa place) (r % 4)) (stores_at old end new n (address_of old.memory old.regs.dsa place k) r k s.size) (stops old end new n Iid) h)

-- ---- the fetch

eight_or_twelve : (b : Bool) → 8 ≤ (if b then 12 else 8)
eight_or_twelve true = omega arith
eight_or_twelve false = omega arith

module _ {B : Type 0} (old : Chip B) (n : List ℕ) (same : SameWithin (fetches old) old.memory n) where
  len_least : 8 ≤ len_of (word_at old.memory old.regs.dsp)
  len_least = eight_or_twelve (has_third (word_at old.memory old.regs.dsp))

  words_same : SameFrom old.regs.dsp (len_of (word_at old.memory old.regs.dsp)) old.memory n
  words_same = from_within old.regs.dsp (len_of (word_at old.memory old.regs.dsp)) old.memory n same

  first_same : word_at n old.regs.dsp ≡ word_at old.memory old.regs.dsp
  first_same = same_word old.regs.dsp (len_of (word_at old.memory old.regs.dsp)) old.regs.dsp old.memory n words_same (omega arith) (let l = len_least in omega (arith, l))

  second_same : word_at n (old.regs.dsp + 4) ≡ word_at old.memory (old.regs.dsp + 4)
  second_same = same_word old.regs.dsp (len_of (word_at old.memory old.regs.dsp)) (old.regs.dsp + 4) old.memory n words_same (omega arith) (let l = len_least in omega (arith, l))

  third_same : third_at n old.regs ≡ third_at old.memory old.regs
  third_same =
      ap (λ (w : ℕ). if has_third w then word_at n (old.regs.dsp + 8) else 0) first_same
      ∙ if_same (has_third (word_at old.memory old.regs.dsp)) (word_at n (old.regs.dsp + 8)) (word_at old.memory (old.regs.dsp + 8)) 0
      (λ t. let l : len_of (word_at old.memory old.regs.dsp) ≡ 12 = ap (λ (b : Bool). if b then 12 else 8) t in
      same_word old.regs.dsp (len_of (word_at old.memory old.regs.dsp)) (old.regs.dsp + 8) old.memory n words_same (omega arith) (omega (arith, l)))

  can_same : can_fetch n old.regs ≡ can_fetch old.memory old.regs
  can_same =
      ap (λ (size : ℕ). nat_eq (old.regs.dsp % 4) 0 && nat_le (old.regs.dsp + 8) size && nat_le (old.regs.dsp + len_of (word_at n old.regs.dsp)) size) same.size
      ∙ ap (λ (w : ℕ). nat_eq (old.regs.dsp % 4) 0 && nat_le (old.regs.dsp + 8) (length old.memory) && nat_le (old.regs.dsp + len_of w) (length old.memory)) first_same

  at_same : (x : Op) → IsAt old x → IsAt (with_memory n old) x
  at_same x at =
      subst (λ (w : ℕ). Spelled w (word_at n (old.regs.dsp + 4)) (third_at n old.regs) x) (sym first_same)
      (subst (λ (w : ℕ). Spelled (word_at old.memory old.regs.dsp) w (third_at n old.regs) x) (sym second_same)
      (subst (λ (w : ℕ). Spelled (word_at old.memory old.regs.dsp) (word_at old.memory (old.regs.dsp + 4)) w x) (sym third_same) at))

  fetched_same : after_fetch (with_memory n old) ≡ with_memory n (after_fetch old)
  fetched_same =
      ap (λ (w : ℕ). state n (fetched w (word_at n (old.regs.dsp + 4)) old.regs) old.bus) first_same
      ∙ ap (λ (w : ℕ). state n (fetched (word_at old.memory old.regs.dsp) w old.regs) old.bus) second_same

-- the fetch changes neither memory nor DSA
reads_fetched : {B : Type 0} (x : Op) (old : Chip B) (left : ℕ) → reads x old left ≡ reads x (after_fetch old) left
reads_fetched (op.Move n a p) old left = refl
reads_fetched (op.MoveFrom o p) old left = refl
reads_fetched (op.Select o alternate) old left = refl
reads_fetched (op.MoveMemory n s t) old left = refl
reads_fetched (op.Load r n place) old left = refl
reads_fetched _ old left = refl

module _ {B : Type 0} (moves : B → Event → B → Type 0) where
  pub reads_within : ReadsWithin moves
  reads_within word old end new x n at (chip_step.idle s e q) same = (n, chip_step.idle s e (ap (λ (c : Chip B). with_memory n c) q), alike_still old.memory n new.memory n (ap (λ (c : Chip B). c.memory) q) refl)
  reads_within word old end new x n at (chip_step.unfetched s c h) same =
      let f = left_of (fetches old) (reads x old new.regs.dbc) old.memory n same in
      let t = stops old end new n _ h in
      (t.0, chip_step.unfetched s (can_same old n f ∙ c) t.1, t.2)
  reads_within word old end new x n at (chip_step.unspelled s c none h) same = absurd (none x at)
  reads_within word old end new x n at (chip_step.does s c o there h) same =
      let f = left_of (fetches old) (reads x old new.regs.dbc) old.memory n same in
      let e : x ≡ o = one_spelling (word_at old.memory old.regs.dsp) (word_at old.memory (old.regs.dsp + 4)) (third_at old.memory old.regs) x o at there in
      let r : SameWithin (reads o (after_fetch old) new.regs.dbc) old.memory n = subst (λ (l : List Range). SameWithin l old.memory n) (ap (λ (y : Op). reads y old new.regs.dbc) e ∙ reads_fetched o old new.regs.dbc) (right_of (fetches old) (reads x old new.regs.dbc) old.memory n same) in
      let t = does_too moves word o old (after_fetch old) end new n refl r h in
      (t.0, chip_step.does s (can_same old n f ∙ c) o (at_same old n f o there) (subst (λ (c : Chip B). Does moves word o (with_memory n old) c end (with_memory t.0 new)) (sym (fetched_same old n f)) t.1), t.2)

  -- what it writes is a part of what it touches
  pub stays_within : StaysWithin moves
  stays_within word old end new x at h =
      let w : ChangesWithin (writes x old new.regs.dbc) old.memory new.memory = writes_within moves word old end new x at h in
      record { size = w.size; others = λ i out. w.others i (λ in_writes. out (in_right (fetches old ++ reads x old new.regs.dbc) (writes x old new.regs.dbc) i in_writes)) }
