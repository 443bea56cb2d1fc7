-- What a step leaves of memory and of the stop bits, and how far a block move has come: the walk over the instructions.
use Rattle.std.proofs.Common.{◌≡◌, ◌≢◌, ◌⊎◌, ℕ, zero, suc, ◌+◌, ◌-◌, ◌%◌, ◌<◌, ◌≤◌, Bool, true, false, ◌&&◌, IsTrue, nat_eq, nat_le, Option, Some, None, List, [], length, get_or, set, slice_index, MatchBool, refl, sym, ap, subst, ◌∙◌, inl, inr, arith, length-set, get_or-set_other}
use Rattle.std.specs.Prelude.{if◌then◌else◌}
use Rattle.std.proofs.lemmas.Bool.Decides.{nat_tests}
use Rattle.scsi_words.specs.Phases.{phase_code}
use Rattle.scsi_words.specs.declared.phases.kinds.Phase.{Phase}
use Rattle.bench_words.specs.Memory.{word_at}
use Rattle.scripts_ops.specs.Table.{row, is_written, IsPart}
use Rattle.scripts_ops.specs.declared.values.Op.{Op}
use Rattle.scripts_ops.specs.declared.values.Op.TheVariants as op
use Rattle.scripts_ops.specs.declared.values.Condition.{Condition}
use Rattle.chip_regs.specs.Registers.{byte_at, written, after_read, stop_with, is_stopped, within}
use Rattle.chip_regs.specs.declared.registers.Regs.{Regs}
use Rattle.chip_regs.specs.declared.registers.Cause.{Cause}
use Rattle.chip_regs.specs.declared.registers.Cause.TheVariants.{Sir, Iid, Bf, Ma, Udc, Rst, Sto}
use Rattle.chip_step.specs.Event.{Event}
use Rattle.chip_step.specs.Chip.{Chip, Ends, Becomes, Stops}
use Rattle.chip_step.specs.Addresses.{place_of, address_of, low_bits}
use Rattle.chip_step.specs.Bytes.{TakesIn, GoesOut}
use Rattle.chip_step.specs.Blocks.{loaded, after_bytes, Moves, MovesAt, BlockMoves, MovesBy}
use Rattle.chip_step.specs.Connection.{with_table, WaitsAt, ReselectsBy, SettlesAs, SelectsBy}
use Rattle.chip_step.specs.Transfers.{TransfersAt, Transfers}
use Rattle.chip_step.specs.Memory.{filled, stored, copied, LoadsAt, StoresAt}
use Rattle.chip_step.specs.Instructions.{changed, Does}
use Rattle.chip_step.specs.Step as chip_step
use Rattle.chip_step.specs.Step.{ChipStep, IsAt, after_fetch, can_fetch, third_at}
use Rattle.chip_step.specs.declared.scsi_bus.Settled.{Settled}
use Rattle.chip_step.specs.declared.scsi_bus.Settled.TheVariants.{Selected, Reselected, TimedOut}
use Rattle.chip_step.specs.declared.outcome.StepEnd.{StepEnd}
use Rattle.chip_step.specs.declared.outcome.StepEnd.TheVariants as ends
use Rattle.chip_step.proofs.Made.{one_spelling, ChipStep-does}
use Rattle.chip_rows.specs.Touched.{Range, IsIn, Block, block_of, entry_of, came, is_in, range, range_at, of_block, writes}
use Rattle.chip_rows.specs.Leaving.{ChangesWithin, KeepsSize, WritesWithin, NoRowWrites, StopsLeaveMemory, RunsOn, IsCounted, CountsDown}

pub by : (b : Bool) {C X Y : Type 0} → (X → C) → (Y → C) → MatchBool b X Y → C
by true f g h = f h
by false f g h = g h

-- ---- memory outside a range

pub record Other (from len : ℕ) (old new : List ℕ) : Type 0 where
  pub size : length new ≡ length old
  pub same : (x : ℕ) → (x < from) ⊎ (from + len ≤ x) → get_or new x 0 ≡ get_or old x 0

same_memory : (ranges : List Range) (old new : List ℕ) → new ≡ old → ChangesWithin ranges old new
same_memory ranges old new e = record { size = ap length e; others = λ x h. ap (λ (m : List ℕ). get_or m x 0) e }

pub below_or_in : (x from len : ℕ) → (x < from) ⊎ (from + len ≤ x) ⊎ ((from ≤ x) × (x < from + len))
below_or_in x from len = grind arith

out_of : (x from len : ℕ) → (IsIn (range from len) x → ⊥) → (x < from) ⊎ (from + len ≤ x)
out_of x from len h = elim (below_or_in x from len) [
  | inl l ↦ inl l
  | inr r ↦ elim r [ inl g ↦ inr g | inr i ↦ absurd (h (inl i)) ]
]

within_range : (from len : ℕ) (old new : List ℕ) → Other from len old new → ChangesWithin (range from len) old new
within_range from len old new o = record { size = o.size; others = λ x h. o.same x (out_of x from len h) }

later : (x from len : ℕ) → (x < from) ⊎ (from + suc len ≤ x) → (x < from + 1) ⊎ (from + 1 + len ≤ x)
later x from len h = grind arith

-- one byte, and then others behind it
one_more : (from len b : ℕ) (m m' : List ℕ) → Other (from + 1) len (set m from b) m' → Other from (suc len) m m'
one_more from len b m m' o = record {
  size = o.size ∙ length-set m from b;
  same = λ x h. let ne : x ≢ from = grind arith in o.same x (later x from len h) ∙ get_or-set_other m from x b 0 ne;
}

pub stored_other : (n r : ℕ) (m : List ℕ) (a : ℕ) (regs : Regs) → Other a n m (stored n r m a regs)
stored_other zero r m a regs = record { size = refl; same = λ x h. refl }
stored_other (suc n) r m a regs = one_more a n (byte_at r regs) m (stored (suc n) r m a regs) (stored_other n (r + 1) (set m a (byte_at r regs)) (a + 1) regs)

pub copied_other : (n : ℕ) (m : List ℕ) (s t : ℕ) → Other t n m (copied n m s t)
copied_other zero m s t = record { size = refl; same = λ x h. refl }
copied_other (suc n) m s t = one_more t n (slice_index m s) m (copied (suc n) m s t) (copied_other n (set m t (slice_index m s)) (s + 1) (t + 1))

pub record Took (n : ℕ) (m : List ℕ) (a left : ℕ) (m' : List ℕ) : Type 0 where
  pub most : left ≤ n
  pub other : Other a (n - left) m m'

took_more : (n b : ℕ) (m : List ℕ) (a left : ℕ) (m' : List ℕ) → Took n (set m a b) (a + 1) left m' → Took (suc n) m a left m'
took_more n b m a left m' t =
    let h : left ≤ n = t.most in
    let e : suc n - left ≡ suc (n - left) = omega arith in
    record { most = omega arith; other = subst (λ (k : ℕ). Other a k m m') (sym e) (one_more a (n - left) b m m' t.other) }

took_none : (n : ℕ) (m : List ℕ) (a left : ℕ) (m' : List ℕ) → left ≤ n → m' ≡ m → Took n m a left m'
took_none n m a left m' h e = record { most = h; other = record { size = ap length e; same = λ x k. ap (λ (l : List ℕ). get_or l x 0) e } }

-- ---- the stop bits

record Harmless (p : ℕ) : Type 0 where
  dstat : nat_eq p 0x0c ≡ false
  sist0 : nat_eq p 0x42 ≡ false
  sist1 : nat_eq p 0x43 ≡ false

written_harmless : (p : ℕ) → IsTrue (is_written p) → Harmless p
written_harmless p h = record { dstat = grind (arith, nat_tests); sist0 = grind (arith, nat_tests); sist1 = grind (arith, nat_tests) }

part_harmless : (r n i : ℕ) → IsPart r n → i < n → Harmless (r + i)
part_harmless r n i p h = record { dstat = grind (arith, nat_tests); sist0 = grind (arith, nat_tests); sist1 = grind (arith, nat_tests) }

-- the stop bits of the one are those of the other
record Likewise (x r : Regs) : Type 0 where
  is : is_stopped x ≡ is_stopped r

or_other : (b : Bool) (x y r : Regs) → Likewise x r → Likewise y r → Likewise (if b then x else y) r
or_other true x y r h k = h
or_other false x y r h k = k

past : (b : Bool) (x y r : Regs) → b ≡ false → Likewise y r → Likewise (if b then x else y) r
past true x y r e k = absurd cc
past false x y r e k = k

written_likewise : (p b : ℕ) (r : Regs) → Harmless p → Likewise (written p b r) r
unfolding written
written_likewise p b r h =
    or_other (nat_eq p 0x00) _ _ r (record { is = refl }) (
    or_other (nat_eq p 0x01) _ _ r (record { is = refl }) (
    or_other (nat_eq p 0x03) _ _ r (record { is = refl }) (
    or_other (nat_eq p 0x05) _ _ r (record { is = refl }) (
    or_other (nat_eq p 0x06) _ _ r (record { is = refl }) (
    or_other (nat_eq p 0x08) _ _ r (record { is = refl }) (
    or_other (nat_eq p 0x0a) _ _ r (record { is = refl }) (
    past (nat_eq p 0x0c) _ _ r h.dstat (
    or_other (within 0x10 p) _ _ r (record { is = refl }) (
    or_other (nat_eq p 0x14) _ _ r (record { is = refl }) (
    or_other (within 0x1c p) _ _ r (record { is = refl }) (
    or_other (nat_eq p 0x27) _ _ r (record { is = refl }) (
    or_other (within 0x24 p) _ _ r (record { is = refl }) (
    or_other (within 0x28 p) _ _ r (record { is = refl }) (
    or_other (within 0x2c p) _ _ r (record { is = refl }) (
    or_other (within 0x30 p) _ _ r (record { is = refl }) (
    or_other (within 0x34 p) _ _ r (record { is = refl }) (
    past (nat_eq p 0x42) _ _ r h.sist0 (
    past (nat_eq p 0x43) _ _ r h.sist1 (
    or_other (within 0x5c p) _ _ r (record { is = refl }) (record { is = refl }))))))))))))))))))))

written_runs : (p b : ℕ) (r : Regs) → Harmless p → is_stopped (written p b r) ≡ is_stopped r
written_runs p b r h = (written_likewise p b r h).is

read_runs : (p : ℕ) (r : Regs) → is_stopped (after_read p r) ≡ is_stopped r
read_runs p r = (or_other (nat_eq p 0x1a) _ r r (record { is = refl }) (record { is = refl })).is

filled_runs : (n r : ℕ) (m : List ℕ) (a : ℕ) (regs : Regs) → ((i : ℕ) → i < n → Harmless (r + i)) → is_stopped (filled n r m a regs) ≡ is_stopped regs
filled_runs zero r m a regs h = refl
filled_runs (suc n) r m a regs h =
    let here : Harmless r = let e : r + 0 ≡ r = omega arith in subst Harmless e (h 0 (omega arith)) in
    filled_runs n (r + 1) m (a + 1) (written r (slice_index m a) regs) (λ i k. let e : r + suc i ≡ r + 1 + i = omega arith in subst Harmless e (h (suc i) (omega arith)))
    ∙ written_runs r (slice_index m a) regs here

-- ---- what a step leaves

ran_stops : (cause : Cause) (end : StepEnd) → end ≡ ends.Ran → end ≡ ends.Stopped cause → ⊥
ran_stops cause end e s = cc

stopped_same : (end : StepEnd) (a b : Cause) → end ≡ ends.Stopped a → end ≡ ends.Stopped b → a ≡ b
stopped_same end a b e f = cc

record Leaves {B : Type 0} (ranges : List Range) (old : Chip B) (end : StepEnd) (new : Chip B) : Type 0 where
  changes : ChangesWithin ranges old.memory new.memory
  stops : (cause : Cause) → end ≡ ends.Stopped cause → cause ≢ Ma → new.memory ≡ old.memory
  runs : end ≡ ends.Ran → is_stopped new.regs ≡ false

still : {B : Type 0} (ranges : List Range) (old : Chip B) (end : StepEnd) (new : Chip B) → new.memory ≡ old.memory → (end ≡ ends.Ran → is_stopped new.regs ≡ false) → Leaves ranges old end new
still ranges old end new e r = record { changes = same_memory ranges old.memory new.memory e; stops = λ cause s n. e; runs = r }

goes_on : {B : Type 0} (ranges : List Range) (old : Chip B) (end : StepEnd) (new : Chip B) → ChangesWithin ranges old.memory new.memory → end ≡ ends.Ran → is_stopped new.regs ≡ false → Leaves ranges old end new
goes_on ranges old end new c e r = record { changes = c; stops = λ cause s n. absurd (ran_stops cause end e s); runs = λ q. r }

module _ {B : Type 0} (ranges : List Range) (old : Chip B) (end : StepEnd) (new : Chip B) where
  runs_as : (how : StepEnd) (regs : Regs) → (how ≡ ends.Ran → is_stopped regs ≡ false) → Ends how old.memory regs end new → Leaves ranges old end new
  runs_as how regs r h = still ranges old end new h.memory_is (λ e. ap is_stopped h.regs_are ∙ r (sym h.is ∙ e))

  becomes : (regs : Regs) → is_stopped regs ≡ false → Becomes regs old end new → Leaves ranges old end new
  becomes regs r h = runs_as ends.Ran regs (λ e. r) h.ends

  stopped_as : (cause : Cause) (regs : Regs) → Ends (ends.Stopped cause) old.memory regs end new → Leaves ranges old end new
  stopped_as cause regs h = still ranges old end new h.memory_is (λ e. absurd (ran_stops cause end e h.is))

  stops : (cause : Cause) → Stops cause old end new → Leaves ranges old end new
  stops cause h = stopped_as cause (stop_with cause old.regs) h.ends

  transfers_at : (d : Option Bool) (how : StepEnd) (regs : Regs) → is_stopped old.regs ≡ false → (how ≡ ends.Ran → is_stopped regs ≡ false) → TransfersAt d how regs old end new → Leaves ranges old end new
  transfers_at None how regs s r h = stopped_as _ _ h
  transfers_at (Some true) how regs s r h = runs_as how regs r h
  transfers_at (Some false) how regs s r h = runs_as ends.Ran old.regs (λ e. s) h

  waits_at : (gone : Bool) → is_stopped old.regs ≡ false → WaitsAt gone old end new → Leaves ranges old end new
  waits_at true s h = runs_as ends.Ran _ (λ e. s) h
  waits_at false s h = stopped_as _ _ h

  reselects_by : (target : Option ℕ) (before : Chip B) → before.memory ≡ old.memory → is_stopped old.regs ≡ false → ReselectsBy target before old end new → Leaves ranges old end new
  reselects_by None before m s h = still ranges old end new (ap (λ (c : Chip B). c.memory) h.1 ∙ m) (λ e. let f : ends.Idle ≡ ends.Ran = sym h.0 ∙ e in absurd cc)
  reselects_by (Some target) before m s h = runs_as ends.Ran _ (λ e. s) h

  loads_at : (place : Option ℕ) (r n : ℕ) → is_stopped old.regs ≡ false → IsPart r n → LoadsAt place r n old end new → Leaves ranges old end new
  loads_at None r n s p h = stops _ h
  loads_at (Some a) r n s p h = becomes _ (filled_runs n r old.memory a old.regs (λ i k. part_harmless r n i p k) ∙ s) h

stores_at : {B : Type 0} (old : Chip B) (end : StepEnd) (new : Chip B) (place : Option ℕ) (r n : ℕ) → is_stopped old.regs ≡ false → StoresAt place r n old end new → Leaves (range_at place n) old end new
stores_at old end new None r n s h = stops [] old end new _ h
stores_at old end new (Some a) r n s h =
    goes_on (range a n) old end new (subst (λ (m : List ℕ). ChangesWithin (range a n) old.memory m) (sym h.ends.memory_is) (within_range a n old.memory (stored n r old.memory a old.regs) (stored_other n r old.memory a old.regs))) h.ends.is (ap is_stopped h.ends.regs_are ∙ s)

copies : {B : Type 0} (old : Chip B) (end : StepEnd) (new : Chip B) (n s t : ℕ) → is_stopped old.regs ≡ false → Becomes old.regs (record old { memory = copied n old.memory s t }) end new → Leaves (range t n) old end new
copies old end new n s t r h =
    goes_on (range t n) old end new (subst (λ (m : List ℕ). ChangesWithin (range t n) old.memory m) (sym h.ends.memory_is) (within_range t n old.memory (copied n old.memory s t) (copied_other n old.memory s t))) h.ends.is (ap is_stopped h.ends.regs_are ∙ r)

module _ {B : Type 0} (moves : B → Event → B → Type 0) where
  pub takes : (message later : Bool) (n : ℕ) (m : List ℕ) (a : ℕ) (bus : B) (left : ℕ) (m' : List ℕ) (bus' : B) → TakesIn moves message later n m a bus left m' bus' → Took n m a left m'
  takes message later zero m a bus left m' bus' h = took_none zero m a left m' (let e : left ≡ 0 = h.0 in omega arith) h.1
  takes message later (suc n) m a bus left m' bus' h = elim h.2 [
    | inl e ↦ took_none (suc n) m a left m' (let q : left ≡ suc n = e.all_left in omega arith) e.same
    | inr x ↦ took_more n x.0 m a left m' (takes message true n (set m a x.0) (a + 1) x.1 left m' bus' x.3)
  ]

  pub goes : (n : ℕ) (m : List ℕ) (a : ℕ) (bus : B) (left : ℕ) (bus' : B) → GoesOut moves n m a bus left bus' → left ≤ n
  goes zero m a bus left bus' h = let e : left ≡ 0 = h.0 in omega arith
  goes (suc n) m a bus left bus' h = elim h [
    | inl x ↦ let e : left ≡ suc n = x.1 in omega arith
    | inr x ↦ let l : left ≤ n = goes n m (a + 1) x.0 left bus' x.2 in omega arith
  ]

  -- by the direction
  carries : (inward message : Bool) (b : Block) (m : List ℕ) (bus : B) (left : ℕ) (m' : List ℕ) (bus' : B) →
      MatchBool inward (TakesIn moves message false b.count m b.address bus left m' bus') (GoesOut moves b.count m b.address bus left bus' × (m' ≡ m)) →
      (left ≤ b.count) × ChangesWithin (came inward left b) m m'
  carries true message b m bus left m' bus' h = let t = takes message false b.count m b.address bus left m' bus' h in (t.most, within_range b.address (b.count - left) m m' t.other)
  carries false message b m bus left m' bus' h = (goes b.count m b.address bus left bus' h.0, same_memory [] m m' h.1)

-- the count and the address in the registers
abbrev in_regs : {B : Type 0} → Chip B → Block
in_regs old = record { count = old.regs.dbc; address = old.regs.dnad }

record Moved {B : Type 0} (phase : ℕ) (old : Chip B) (end : StepEnd) (new : Chip B) : Type 0 where
  leaves : Leaves (came (is_in phase) new.regs.dbc (in_regs old)) old end new
  counted : IsCounted (in_regs old) new.regs.dbc new.regs.dnad

stop-dbc : (cause : Cause) (r : Regs) → ((stop_with cause r).dbc ≡ r.dbc) × ((stop_with cause r).dnad ≡ r.dnad)
stop-dbc (Sir v) r = (refl, refl)
stop-dbc Iid r = (refl, refl)
stop-dbc Bf r = (refl, refl)
stop-dbc Ma r = (refl, refl)
stop-dbc Udc r = (refl, refl)
stop-dbc Rst r = (refl, refl)
stop-dbc Sto r = (refl, refl)

counted_by : (b : Block) (r regs : Regs) → regs ≡ r → IsCounted b r.dbc r.dnad → IsCounted b regs.dbc regs.dnad
counted_by b r regs e h = subst (λ (x : Regs). IsCounted b x.dbc x.dnad) (sym e) h

-- a stop before any byte
unmoved : {B : Type 0} (phase : ℕ) (cause : Cause) (old : Chip B) (end : StepEnd) (new : Chip B) (bus : B) → Stops cause (record old { bus = bus }) end new → Moved phase old end new
unmoved phase cause old end new bus h =
    let s = stop-dbc cause old.regs in
    record {
      leaves = stopped_as _ old end new cause (stop_with cause old.regs) h.ends;
      counted = counted_by (in_regs old) (stop_with cause old.regs) new.regs h.ends.regs_are (record { most = omega (arith, s.0); past = omega (arith, s.0, s.1) });
    }

module _ {B : Type 0} (moves : B → Event → B → Type 0) where
  moved : (phase : ℕ) (old : Chip B) (end : StepEnd) (new : Chip B) → is_stopped old.regs ≡ false → Moves moves phase old end new → Moved phase old end new
  moved phase old end new s h =
      let c : (h.left ≤ old.regs.dbc) × ChangesWithin (came (is_in phase) h.left (in_regs old)) old.memory new.memory = carries moves (nat_eq (phase % 2) 1) (nat_eq phase 7) (in_regs old) old.memory old.bus h.left new.memory h.bus h.carries in
      let r : Regs = after_bytes phase h.left new.memory old.regs in
      let l : h.left ≤ old.regs.dbc = c.0 in
      let count : IsCounted (in_regs old) h.left (old.regs.dnad + (old.regs.dbc - h.left)) = record { most = l; past = omega arith } in
      by (nat_eq h.left 0)
      (λ x. let e : h.left ≡ new.regs.dbc = sym (ap (λ (q : Regs). q.dbc) x.2) in record {
        leaves = goes_on _ old end new (subst (λ (k : ℕ). ChangesWithin (came (is_in phase) k (in_regs old)) old.memory new.memory) e c.1) x.1 (ap is_stopped x.2 ∙ s);
        counted = counted_by (in_regs old) r new.regs x.2 count;
      })
      (λ x. let e : h.left ≡ new.regs.dbc = sym (ap (λ (q : Regs). q.dbc) x.2) in record {
        leaves = record {
          changes = subst (λ (k : ℕ). ChangesWithin (came (is_in phase) k (in_regs old)) old.memory new.memory) e c.1;
          stops = λ cause q n. absurd (n (stopped_same end cause Ma q x.1));
          runs = λ q. absurd (ran_stops Ma end q x.1);
        };
        counted = counted_by (in_regs old) (stop_with Ma r) new.regs x.2 count;
      })
      h.finishes

  moves_at : (word : ℕ) (shown : Option Phase) (phase : ℕ) (old : Chip B) (bus : B) (end : StepEnd) (new : Chip B) → is_stopped old.regs ≡ false → MovesAt moves word shown phase old bus end new → Moved phase old end new
  moves_at word None phase old bus end new s h = unmoved phase _ old end new bus h
  moves_at word (Some shown) phase old bus end new s h =
      by (nat_eq (phase_code shown) phase)
      (λ x. let m : Moved phase (record old { bus = bus }) end new = moved phase (record old { bus = bus }) end new s x in
      record { leaves = record { changes = m.leaves.changes; stops = m.leaves.stops; runs = m.leaves.runs }; counted = m.counted })
      (unmoved phase _ old end new bus) h

  block_moves : (word phase : ℕ) (old : Chip B) (end : StepEnd) (new : Chip B) → is_stopped old.regs ≡ false → BlockMoves moves word phase old end new → Moved phase old end new
  block_moves word phase old end new s h =
      by (nat_eq old.regs.dbc 0) (unmoved phase _ old end new old.bus)
      (by (nat_le (old.regs.dnad + old.regs.dbc) (length old.memory)) (λ x. moves_at word x.shown phase old x.bus end new s x.moved) (unmoved phase _ old end new old.bus)) h

  -- with the count and the address of the instruction or of its entry
  move_leaves : (word phase n a : ℕ) (old : Chip B) (end : StepEnd) (new : Chip B) → is_stopped old.regs ≡ false → BlockMoves moves word phase (loaded n a old) end new → Leaves (came (is_in phase) new.regs.dbc (record { count = n; address = a })) old end new
  move_leaves word phase n a old end new s h =
      let m : Moved phase (loaded n a old) end new = block_moves word phase (loaded n a old) end new s h in
      record { changes = m.leaves.changes; stops = m.leaves.stops; runs = m.leaves.runs }

  moves_by : (word phase : ℕ) (place : Option ℕ) (old : Chip B) (end : StepEnd) (new : Chip B) → is_stopped old.regs ≡ false → MovesBy moves word place phase old end new → Leaves (of_block (came (is_in phase) new.regs.dbc) (entry_of old.memory place)) old end new
  moves_by word phase None old end new s h = stops [] old end new _ h
  moves_by word phase (Some e) old end new s h = move_leaves word phase (word_at old.memory e % 16777216) (word_at old.memory (e + 4)) old end new s h

  settles : (word : ℕ) (t : Settled) (alternate : ℕ) (regs : Regs) (old : Chip B) (end : StepEnd) (new : Chip B) → is_stopped regs ≡ false → SettlesAs moves word t alternate regs old end new → Leaves [] old end new
  settles word Selected alternate regs old end new s h = runs_as [] old end new ends.Ran _ (λ e. s) h.3
  settles word (Reselected target) alternate regs old end new s h = runs_as [] old end new ends.Ran _ (λ e. s) h.1
  settles word TimedOut alternate regs old end new s h = stopped_as [] old end new _ _ h.1

  selects_by : (word : ℕ) (place : Option ℕ) (alternate : ℕ) (old : Chip B) (end : StepEnd) (new : Chip B) → is_stopped old.regs ≡ false → SelectsBy moves word place alternate old end new → Leaves [] old end new
  selects_by word None alternate old end new s h = stops [] old end new _ h
  selects_by word (Some e) alternate old end new s h = settles word h.0 alternate (with_table (word_at old.memory e) old.regs) old end new s h.1

  transfers : (word : ℕ) (on : Condition) (how : StepEnd) (regs : Regs) (old : Chip B) (end : StepEnd) (new : Chip B) → is_stopped old.regs ≡ false → (how ≡ ends.Ran → is_stopped regs ≡ false) → Transfers moves word on how regs old end new → Leaves [] old end new
  transfers word on how regs old end new s r h = transfers_at [] old end new h.decision how regs s r h.transfers

  no_ran : (cause : Cause) (C : Type 0) → ends.Stopped cause ≡ ends.Ran → C
  no_ran cause C e = absurd cc

  does : (word : ℕ) (x : Op) (before old : Chip B) (end : StepEnd) (new : Chip B) → (row x).fields → before.memory ≡ old.memory → is_stopped old.regs ≡ false → Does moves word x before old end new → Leaves (writes x old new.regs.dbc) old end new
  does word (op.Move n a p) before old end new f m s h = move_leaves word p n a old end new s h
  does word (op.MoveFrom o p) before old end new f m s h = moves_by word p (place_of old.memory old.regs.dsa o 8) old end new s h
  does word (op.Select o alternate) before old end new f m s h = by old.regs.con (stops [] old end new _) (selects_by word (place_of old.memory old.regs.dsa o 4) alternate old end new s) h
  does word op.WaitDisconnect before old end new f m s h = waits_at [] old end new h.0 s h.2
  does word (op.WaitReselect alternate) before old end new f m s h =
      by old.regs.con (stops [] old end new _) (by old.regs.sigp (becomes [] old end new _ s) (λ x. reselects_by [] old end new x.0 before m s x.2)) h
  does word (op.Set ack atn) before old end new f m s h = runs_as [] old end new ends.Ran old.regs (λ e. s) h.ends
  does word (op.Clear ack atn) before old end new f m s h = runs_as [] old end new ends.Ran old.regs (λ e. s) h.ends
  does word (op.FromSfbr c d r) before old end new f m s h = becomes [] old end new _ (written_runs r (changed c old.regs.sfbr d) old.regs (written_harmless r f.0) ∙ s) h
  does word (op.ToSfbr r c d) before old end new f m s h = becomes [] old end new _ (read_runs r old.regs ∙ s) h
  does word (op.Modify r c d) before old end new f m s h = becomes [] old end new _ (written_runs r (changed c (byte_at r old.regs) d) old.regs (written_harmless r f.0) ∙ s) h
  does word (op.Put d r) before old end new f m s h = becomes [] old end new _ (written_runs r d old.regs (written_harmless r f.0) ∙ s) h
  does word (op.Jump on a) before old end new f m s h = transfers word on _ _ old end new s (λ e. s) h
  does word (op.Call on a) before old end new f m s h = transfers word on _ _ old end new s (λ e. s) h
  does word (op.Return on) before old end new f m s h = transfers word on _ _ old end new s (λ e. s) h
  does word (op.Int on vector) before old end new f m s h = transfers word on _ _ old end new s (no_ran _ _) h
  does word (op.IntFly on) before old end new f m s h = transfers word on _ _ old end new s (λ e. s) h
  does word op.Nop before old end new f m s h = becomes [] old end new _ s h
  does word (op.MoveMemory n a t) before old end new f m s h =
      by (nat_eq (a % 4) (t % 4)) (by (nat_le (a + n) (length old.memory) && nat_le (t + n) (length old.memory)) (copies old end new n a t s) (stops (range t n) old end new _)) (stops (range t n) old end new _) h
  does word (op.Load r n place) before old end new f m s h =
      by (nat_eq (low_bits old.regs.dsa place) (r % 4)) (loads_at [] old end new (address_of old.memory old.regs.dsa place n) r n s f.0) (stops [] old end new _) h
  does word (op.Store r n place) before old end new f m s h =
      by (nat_eq (low_bits old.regs.dsa place) (r % 4)) (stores_at old end new (address_of old.memory old.regs.dsa place n) r n s) (stops (range_at (address_of old.memory old.regs.dsa place n) n) old end new _) h

  -- ---- a whole step

  -- the fetch changes neither memory nor DSA
  writes_fetched : (x : Op) (old : Chip B) (left : ℕ) → writes x (after_fetch old) left ≡ writes x old left
  writes_fetched (op.Move n a p) old left = refl
  writes_fetched (op.MoveFrom o p) old left = refl
  writes_fetched (op.MoveMemory n s t) old left = refl
  writes_fetched (op.Store r n place) old left = refl
  writes_fetched _ old left = refl

  block_fetched : (x : Op) (old : Chip B) → block_of x (after_fetch old) ≡ block_of x old
  block_fetched (op.Move n a p) old = refl
  block_fetched (op.MoveFrom o p) old = refl
  block_fetched _ old = refl

  idle_leaves : (ranges : List Range) (old : Chip B) (end : StepEnd) (new : Chip B) → end ≡ ends.Idle → new ≡ old → Leaves ranges old end new
  idle_leaves ranges old end new e n = still ranges old end new (ap (λ (c : Chip B). c.memory) n) (λ q. let f : ends.Idle ≡ ends.Ran = sym e ∙ q in absurd cc)

  pub writes_within : WritesWithin moves
  writes_within word old end new x at (chip_step.idle s e n) = (idle_leaves _ old end new e n).changes
  writes_within word old end new x at (chip_step.unfetched s c h) = (stops (writes x old new.regs.dbc) old end new _ h).changes
  writes_within word old end new x at (chip_step.unspelled s c n h) = absurd (n x at)
  writes_within word old end new x at (chip_step.does s c o there h) =
      let e : o ≡ x = one_spelling (word_at old.memory old.regs.dsp) (word_at old.memory (old.regs.dsp + 4)) (third_at old.memory old.regs) o x there at in
      let l : ChangesWithin (writes o (after_fetch old) new.regs.dbc) old.memory new.memory = (does word o old (after_fetch old) end new there.fields refl s h).changes in
      subst (λ (r : List Range). ChangesWithin r old.memory new.memory) (writes_fetched o old new.regs.dbc ∙ ap (λ (y : Op). writes y old new.regs.dbc) e) l

  pub keeps_size : KeepsSize moves
  keeps_size word old end new (chip_step.idle s e n) = ap (λ (c : Chip B). length c.memory) n
  keeps_size word old end new (chip_step.unfetched s c h) = ap length h.ends.memory_is
  keeps_size word old end new (chip_step.unspelled s c n h) = ap length h.ends.memory_is
  keeps_size word old end new (chip_step.does s c o there h) = (does word o old (after_fetch old) end new there.fields refl s h).changes.size

  pub no_row_writes : NoRowWrites moves
  no_row_writes word old end new none (chip_step.idle s e n) = ap (λ (c : Chip B). c.memory) n
  no_row_writes word old end new none (chip_step.unfetched s c h) = h.ends.memory_is
  no_row_writes word old end new none (chip_step.unspelled s c n h) = h.ends.memory_is
  no_row_writes word old end new none (chip_step.does s c o there h) = absurd (none o there)

  pub stops_leave_memory : StopsLeaveMemory moves
  stops_leave_memory word old cause new ne (chip_step.idle s e n) = ap (λ (c : Chip B). c.memory) n
  stops_leave_memory word old cause new ne (chip_step.unfetched s c h) = h.ends.memory_is
  stops_leave_memory word old cause new ne (chip_step.unspelled s c n h) = h.ends.memory_is
  stops_leave_memory word old cause new ne (chip_step.does s c o there h) = (does word o old (after_fetch old) (ends.Stopped cause) new there.fields refl s h).stops cause refl ne

  pub runs_on : RunsOn moves
  runs_on word old new (chip_step.idle s e n) = absurd cc
  runs_on word old new (chip_step.unfetched s c h) = let e : ends.Ran ≡ ends.Stopped _ = h.ends.is in absurd cc
  runs_on word old new (chip_step.unspelled s c n h) = let e : ends.Ran ≡ ends.Stopped _ = h.ends.is in absurd cc
  runs_on word old new (chip_step.does s c o there h) = (does word o old (after_fetch old) ends.Ran new there.fields refl s h).runs refl

  -- ---- the count of a block move

  counts_by : (word phase : ℕ) (place : Option ℕ) (old : Chip B) (end : StepEnd) (new : Chip B) (block : Block) → is_stopped old.regs ≡ false → entry_of old.memory place ≡ Some block → MovesBy moves word place phase old end new → IsCounted block new.regs.dbc new.regs.dnad
  counts_by word phase None old end new block s e h = absurd cc
  counts_by word phase (Some at) old end new block s e h =
      let same : record { count = word_at old.memory at % 16777216; address = word_at old.memory (at + 4) } ≡ block = cc in
      subst (λ (b : Block). IsCounted b new.regs.dbc new.regs.dnad) same (block_moves word phase (loaded (word_at old.memory at % 16777216) (word_at old.memory (at + 4)) old) end new s h).counted

  does_count : (word : ℕ) (x : Op) (before old : Chip B) (end : StepEnd) (new : Chip B) (block : Block) → is_stopped old.regs ≡ false → block_of x old ≡ Some block → Does moves word x before old end new → IsCounted block new.regs.dbc new.regs.dnad
  does_count word (op.Move n a p) before old end new block s e h =
      let same : record { count = n; address = a } ≡ block = cc in
      subst (λ (b : Block). IsCounted b new.regs.dbc new.regs.dnad) same (block_moves word p (loaded n a old) end new s h).counted
  does_count word (op.MoveFrom o p) before old end new block s e h = counts_by word p (place_of old.memory old.regs.dsa o 8) old end new block s e h
  does_count word _ before old end new block s e h = absurd cc

  pub counts_down : CountsDown moves
  counts_down word old end new x block run fetch at e h =
      does_count word x old (after_fetch old) end new block run (block_fetched x old ∙ e) (ChipStep-does moves word old end new x run fetch at h)
