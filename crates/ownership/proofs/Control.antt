-- An instruction that is no data move reads and writes only among the words of control.
use Rattle.std.proofs.Common.{◌≡◌, ℕ, ℤ, pos, negsuc, ◌+◌, ◌-◌, ◌*◌, ◌<◌, ◌≤◌, inl, inr, Bool, true, false, ◌&&◌, ◌||◌, nat_eq, nat_le, Option, Some, None, List, [], ◌∷◌, ◌++◌, length, refl, subst, sym, arith}
use Rattle.std.specs.Prelude.{if◌then◌else◌, slice_index_or}
use Rattle.std.proofs.lemmas.Bool.{and_parts, false≢true}
use Rattle.std.proofs.lemmas.Bool.Decides.{nat_tests}
use Rattle.scripts_ops.specs.declared.values.Address.{Address}
use Rattle.scripts_ops.specs.declared.values.Address.TheVariants.{At, FromDsa}
use Rattle.scripts_ops.specs.declared.values.Condition.TheVariants.{Always}
use Rattle.scripts_ops.specs.declared.values.Op.{Op}
use Rattle.scripts_ops.specs.declared.values.Op.TheVariants as op
use Rattle.cmd_block.specs.declared.Field.TheVariants.{MsgCount, CmdCount, StatCount}
use Rattle.chip_step.specs.Event.{Event}
use Rattle.chip_step.specs.Addresses.{address_of, place_of}
use Rattle.chip_step.specs.Chip.{Chip}
use Rattle.chip_rows.specs.Touched.{Range, IsIn, Block, block_of, entry_of, came, went, untaken, is_in, range, range_at, of_block, writes, reads, fetches}
use Rattle.chip_rows.proofs.StepWrites.{writes_within, counts_down}
use Rattle.chip_rows.proofs.StepReads as reading
use Rattle.chip_rows.proofs.StepReads.{in_left, in_right}
use Rattle.driver_script.specs.declared.script.TheConstants.{SCRIPT}
use Rattle.driver_script.specs.Moves.{data_move}
use Rattle.driver_script.specs.Script.{instruction}
use Rattle.ownership.specs.Control.{control, named_by, ChangesControl, ReadsControl}
use Rattle.driver_script.proofs.ScriptTests.{all_below, both_versions}
use Rattle.ownership.proofs.Footprint.{wider, shorter, in_memory}
use Rattle.ownership.proofs.Steps.{stands_at, can}

-- ---- the test

abbrev pub fixed : ℕ → ℕ → Bool
fixed n a = nat_le 0x1000 a && nat_le (a + n) 0x1034

abbrev pub from_dsa : ℕ → ℤ → Bool
from_dsa n (pos o) = nat_le (o + n) 0xE0
from_dsa n (negsuc o) = false

abbrev pub at_place : ℕ → Address → Bool
at_place n (At a) = fixed n a
at_place n (FromDsa o) = from_dsa n o

abbrev pub by_entry : ℤ → Bool
by_entry (pos o) = nat_eq o 0x20 || nat_eq o 0x28 || nat_eq o 0x30
by_entry (negsuc o) = false

abbrev pub controls : Op → Bool
controls (op.Move n a p) = fixed n a
controls (op.MoveFrom o p) = by_entry o
controls (op.Select o alternate) = from_dsa 4 o
controls (op.MoveMemory n s t) = false
controls (op.Load r n place) = at_place n place
controls (op.Store r n place) = at_place n place
controls _ = true

abbrev unless_data : Option (ℤ × ℕ) → Op → Bool
unless_data None o = controls o
unless_data (Some x) o = true

abbrev passes : ℕ → Op → Bool
passes k o = unless_data (data_move (8 * k)) o

all_pass : all_below 151 (λ k. passes k (slice_index_or SCRIPT k op.Nop)) ≡ true
unfolding data_move
all_pass = refl

at_188 : passes 0x31 (op.Jump Always 0x460) ≡ true
unfolding data_move
at_188 = refl

pub controls_at : (k version : ℕ) → k < 151 → data_move (8 * k) ≡ None → controls (instruction k version) ≡ true
controls_at k version h none =
    let t : unless_data (data_move (8 * k)) (instruction k version) ≡ true = both_versions passes 151 all_pass at_188 k version h in
    rw none at t

-- ---- the ranges

pub in_either : (a b : List Range) (x : ℕ) (C : Type 0) → IsIn (a ++ b) x → (IsIn a x → C) → (IsIn b x → C) → C
in_either [] b x C h f g = g h
in_either (r ∷ rs) b x C (inl h) f g = f (inl h)
in_either (r ∷ rs) b x C (inr h) f g = in_either rs b x C h (λ i. f (inr i)) g

either_true : (a b : Bool) (C : Type 0) → (a || b) ≡ true → (a ≡ true → C) → (b ≡ true → C) → C
either_true true b C h f g = f refl
either_true false b C h f g = g h

within : (a n from len x : ℕ) → from ≤ a → a + n ≤ from + len → IsIn (range a n) x → IsIn (range from len) x
within a n from len x l u (inl i) = inl (omega (arith, i.0), omega (arith, i.1))
within a n from len x l u (inr i) = absurd i

-- the bytes that came, and those that went, are the entry's
pub came_in : (left x : ℕ) (b : Bool) (e : Block) → IsIn (came b left e) x → IsIn (range e.address e.count) x
came_in left x true e h = shorter e.address e.count (e.count - left) x (omega arith) h
came_in left x false e h = absurd h

untaken_by : (b : Bool) (left n : ℕ) → nat_eq left 0 ≡ b → left ≤ n → n - left + (if b then 0 else 1) ≤ n
untaken_by true left n e h = omega arith
untaken_by false left n e h = let l : 0 < left = grind (arith, nat_tests) in omega arith

untaken-most : (left n : ℕ) → left ≤ n → n - left + untaken left ≤ n
untaken-most left n h = untaken_by (nat_eq left 0) left n refl h

pub went_in : (left x : ℕ) (b : Bool) (e : Block) → left ≤ e.count → IsIn (went b left e) x → IsIn (range e.address e.count) x
went_in left x true e l h = absurd h
went_in left x false e l h = shorter e.address e.count (e.count - left + untaken left) x (untaken-most left e.count l) h

pub of_came : (left x : ℕ) (b : Bool) (e : Option Block) → IsIn (of_block (came b left) e) x → IsIn (of_block (λ (c : Block). range c.address c.count) e) x
of_came left x b None h = h
of_came left x b (Some e) h = came_in left x b e h

pub of_went : (left x : ℕ) (b : Bool) (e : Option Block) → ((c : Block) → e ≡ Some c → left ≤ c.count) → IsIn (of_block (went b left) e) x → IsIn (of_block (λ (c : Block). range c.address c.count) e) x
of_went left x b None l h = h
of_went left x b (Some e) l h = went_in left x b e (l e refl) h

pub true_le : (a b : ℕ) → nat_le a b ≡ true → a ≤ b
true_le a b h = grind (arith, nat_tests)

true_eq : (a b : ℕ) → nat_eq a b ≡ true → a ≡ b
true_eq a b h = grind (arith, nat_tests)

module _ {B : Type 0} (chip : Chip B) (left x : ℕ) where
  abbrev Here : Type 0
  Here = IsIn (control chip) x

  fixed_in : (n a : ℕ) → fixed n a ≡ true → IsIn (range a n) x → Here
  fixed_in n a t (inl i) =
      let b = and_parts (nat_le 0x1000 a) (nat_le (a + n) 0x1034) t in
      let l = true_le 0x1000 a b.0 in
      let u = true_le (a + n) 0x1034 b.1 in
      inl (omega (arith, i.0), omega (arith, i.1))
  fixed_in n a t (inr i) = absurd i

  block_in : (n o : ℕ) → o + n ≤ 0xE0 → IsIn (range (chip.regs.dsa + o) n) x → Here
  block_in n o l (inl i) = inr (inl (omega (arith, i.0), omega (arith, i.1)))
  block_in n o l (inr i) = absurd i

  from_dsa_in : (n : ℕ) (o : ℤ) → from_dsa n o ≡ true → IsIn (range_at (place_of chip.memory chip.regs.dsa o n) n) x → Here
  unfolding place_of
  from_dsa_in n (pos o) t h =
      block_in n o (true_le (o + n) 0xE0 t) (in_memory (nat_le (chip.regs.dsa + o + n) (length chip.memory)) (chip.regs.dsa + o) n x h)
  from_dsa_in n (negsuc o) t h = absurd (false≢true t)

  place_is_in : (n : ℕ) (place : Address) → at_place n place ≡ true → IsIn (range_at (address_of chip.memory chip.regs.dsa place n) n) x → Here
  place_is_in n (At a) t h = fixed_in n a t (in_memory (nat_le (a + n) (length chip.memory)) a n x h)
  place_is_in n (FromDsa o) t h = from_dsa_in n o t h

  -- the entries of the message, the command and the status
  abbrev bytes_of : ℕ → List Range
  bytes_of o = of_block (λ (b : Block). range b.address b.count) (entry_of chip.memory (place_of chip.memory chip.regs.dsa (pos o) 8))

  abbrev two : List Range
  two = named_by MsgCount chip ++ named_by CmdCount chip

  message_in : IsIn (bytes_of 0x20) x → Here
  message_in h = inr (inr (in_left two (named_by StatCount chip) x (in_left (named_by MsgCount chip) (named_by CmdCount chip) x h)))

  command_in : IsIn (bytes_of 0x28) x → Here
  command_in h = inr (inr (in_left two (named_by StatCount chip) x (in_right (named_by MsgCount chip) (named_by CmdCount chip) x h)))

  status_in : IsIn (bytes_of 0x30) x → Here
  status_in h = inr (inr (in_right two (named_by StatCount chip) x h))

  -- the entry is one of the three
  by_cases : (P : ℕ → Type 0) (o : ℕ) → by_entry (pos o) ≡ true → P 0x20 → P 0x28 → P 0x30 → P o
  by_cases P o t a b c =
      either_true (nat_eq o 0x20 || nat_eq o 0x28) (nat_eq o 0x30) (P o) t
      (λ r. either_true (nat_eq o 0x20) (nat_eq o 0x28) (P o) r (λ e. subst P (sym (true_eq o 0x20 e)) a) (λ e. subst P (sym (true_eq o 0x28 e)) b))
      (λ e. subst P (sym (true_eq o 0x30 e)) c)

  entry_in : (o : ℕ) → by_entry (pos o) ≡ true → IsIn (bytes_of o) x → Here
  entry_in o t h = by_cases (λ (i : ℕ). IsIn (bytes_of i) x → Here) o t message_in command_in status_in h

  entry-most : (o : ℕ) → by_entry (pos o) ≡ true → from_dsa 8 (pos o) ≡ true
  entry-most o t = by_cases (λ (i : ℕ). from_dsa 8 (pos i) ≡ true) o t refl refl refl

  -- ---- an instruction

  writes_in : (o : Op) → controls o ≡ true → IsIn (writes o chip left) x → Here
  writes_in (op.Move n a p) t h = fixed_in n a t (came_in left x (is_in p) (record { count = n; address = a }) h)
  writes_in (op.MoveFrom (pos o) p) t h =
      entry_in o t (of_came left x (is_in p) (entry_of chip.memory (place_of chip.memory chip.regs.dsa (pos o) 8)) h)
  writes_in (op.MoveFrom (negsuc o) p) t h = absurd (false≢true t)
  writes_in (op.Select o a) t h = absurd h
  writes_in op.WaitDisconnect t h = absurd h
  writes_in (op.WaitReselect a) t h = absurd h
  writes_in (op.Set ack atn) t h = absurd h
  writes_in (op.Clear ack atn) t h = absurd h
  writes_in (op.FromSfbr c d r) t h = absurd h
  writes_in (op.ToSfbr r c d) t h = absurd h
  writes_in (op.Modify r c d) t h = absurd h
  writes_in (op.Put d r) t h = absurd h
  writes_in (op.Jump on a) t h = absurd h
  writes_in (op.Call on a) t h = absurd h
  writes_in (op.Return on) t h = absurd h
  writes_in (op.Int on v) t h = absurd h
  writes_in (op.IntFly on) t h = absurd h
  writes_in op.Nop t h = absurd h
  writes_in (op.MoveMemory n u v) t h = absurd (false≢true t)
  writes_in (op.Load r n place) t h = absurd h
  writes_in (op.Store r n place) t h = place_is_in n place t h

  reads_in : (o : Op) → controls o ≡ true → ((b : Block) → block_of o chip ≡ Some b → left ≤ b.count) → IsIn (reads o chip left) x → Here
  reads_in (op.Move n a p) t l h =
      let b : Block = record { count = n; address = a } in
      fixed_in n a t (went_in left x (is_in p) b (l b refl) h)
  reads_in (op.MoveFrom (pos o) p) t l h =
      let e : Option Block = entry_of chip.memory (place_of chip.memory chip.regs.dsa (pos o) 8) in
      in_either (range_at (place_of chip.memory chip.regs.dsa (pos o) 8) 8) (of_block (went (is_in p) left) e) x Here h
      (λ i. from_dsa_in 8 (pos o) (entry-most o t) i)
      (λ i. entry_in o t (of_went left x (is_in p) e l i))
  reads_in (op.MoveFrom (negsuc o) p) t l h = absurd (false≢true t)
  reads_in (op.Select o a) t l h = from_dsa_in 4 o t h
  reads_in op.WaitDisconnect t l h = absurd h
  reads_in (op.WaitReselect a) t l h = absurd h
  reads_in (op.Set ack atn) t l h = absurd h
  reads_in (op.Clear ack atn) t l h = absurd h
  reads_in (op.FromSfbr c d r) t l h = absurd h
  reads_in (op.ToSfbr r c d) t l h = absurd h
  reads_in (op.Modify r c d) t l h = absurd h
  reads_in (op.Put d r) t l h = absurd h
  reads_in (op.Jump on a) t l h = absurd h
  reads_in (op.Call on a) t l h = absurd h
  reads_in (op.Return on) t l h = absurd h
  reads_in (op.Int on v) t l h = absurd h
  reads_in (op.IntFly on) t l h = absurd h
  reads_in op.Nop t l h = absurd h
  reads_in (op.MoveMemory n u v) t l h = absurd (false≢true t)
  reads_in (op.Load r n place) t l h = place_is_in n place t h
  reads_in (op.Store r n place) t l h = absurd h

-- ---- the laws

module _ {B : Type 0} (moves : B → Event → B → Type 0) where
  pub changes_control : ChangesControl moves
  changes_control version k word old end new s none r =
      let o : Op = instruction k version in
      let left : ℕ = new.regs.dbc in
      let t = controls_at k version s.inside none in
      wider (writes o old left) (control old) old.memory new.memory (λ x i. writes_in old left x o t i)
      (writes_within moves word old end new o (stands_at version k old s) r)

  pub reads_control : ReadsControl moves
  reads_control version k word old end new memory s none r same =
      let o : Op = instruction k version in
      let left : ℕ = new.regs.dbc in
      let t = controls_at k version s.inside none in
      let at = stands_at version k old s in
      let most = λ (b : Block) (e : block_of o old ≡ Some b). (counts_down moves word old end new o b s.running (can old.memory old.regs k s.size s.dsp s.inside) at e r).most in
      reading.reads_within moves word old end new o memory at r
      (record {
        size = same.size;
        bytes = λ x i. same.bytes x
            (in_either (fetches old) (reads o old left) x (IsIn (fetches old ++ control old) x) i
            (λ j. in_left (fetches old) (control old) x j)
            (λ j. in_right (fetches old) (control old) x (reads_in old left x o t most j)));
      })
