-- The straight script goes forwards.
use Rattle.std.proofs.Common.{◌≡◌, ℕ, pos, zero, suc, ◌+◌, ◌*◌, ◌%◌, ◌<◌, ◌≤◌, ◌⊎◌, inl, inr, Bool, true, false, nat_eq, nat_le, List, length, get_or, refl, sym, ap, IfSome, ◌∙◌, arith, Option, Some, None, lit<, lit≤}
use Rattle.bench_words.specs.Memory.{word_at}
use Rattle.bench_words.proofs.MemoryLaws.{word_outside, length-put_bytes}
use Rattle.scripts_ops.specs.Table.{row}
use Rattle.scripts_ops.specs.declared.values.Op.{Op}
use Rattle.scripts_ops.specs.declared.values.Op.TheVariants.{Move, MoveFrom, Select, WaitDisconnect, WaitReselect, Clear, Jump, Int}
use Rattle.scripts_ops.specs.declared.values.Condition.TheVariants.{Always, Phase}
use Rattle.chip_regs.specs.Registers.{is_stopped, stop_with}
use Rattle.chip_regs.specs.declared.registers.Regs.{Regs}
use Rattle.chip_regs.specs.declared.registers.Cause.{Cause}
use Rattle.chip_regs.specs.declared.registers.Cause.TheVariants.{Sir}
use Rattle.chip_step.specs.Event.{Event}
use Rattle.chip_step.specs.Chip.{Chip}
use Rattle.chip_step.specs.Addresses.{place_of}
use Rattle.chip_step.specs.Transfers.{Transfers, TransfersAt}
use Rattle.chip_step.specs.Instructions.{Does}
use Rattle.chip_step.specs.Step as step
use Rattle.chip_step.specs.Step.{after_fetch, can_fetch, has_third, third_at, IsAt, Rests, Awaits}
use Rattle.chip_step.specs.declared.outcome.StepEnd.{StepEnd}
use Rattle.chip_step.specs.declared.outcome.StepEnd.TheVariants.{Ran, Stopped}
use Rattle.chip_step.proofs.Frame.{Goes, Clears-goes, Waits-goes, Selects-goes, Move-goes, MovesBy-goes, Jumps-goes}
use Rattle.chip_step.proofs.Made.{ChipStep-does}
use Rattle.straight_run.specs.Opening.{table, put_words, cdb, Opens}
use Rattle.straight_run.proofs.LaidWords.{looked, word_at-put_words, length-put_words}

-- the words that the script reads for itself
abbrev pub IsKept : ℕ → Type 0
IsKept a = (a + 4 ≤ 0x50) ⊎ ((0x10018 ≤ a) × (a + 4 ≤ 0x10048))

-- After n steps the chip runs, and is at the n-th place of the script or a later one.
pub record Going (n : ℕ) (memory : List ℕ) (regs : Regs) : Type 0 where
  pub running : is_stopped regs ≡ false
  pub dsa : regs.dsa ≡ 0x10000
  pub place : ℕ
  pub dsp_is : regs.dsp ≡ 8 * place
  pub far : n ≤ place
  pub near : place < 10
  pub size : length memory ≡ 4194304
  pub words : (a : ℕ) → a % 4 ≡ 0 → IsKept a → word_at memory a ≡ looked table a 0

outside_cdb : (a : ℕ) → IsKept a → (a + 4 ≤ 0x100f0) ⊎ (0x100fa ≤ a)
outside_cdb a k = grind arith

zero_word : (m : List ℕ) (a : ℕ) → ((i : ℕ) → get_or m i 0 ≡ 0) → word_at m a ≡ 0
unfolding word_at
zero_word m a z = rw (z a, z (suc a), z (suc (suc a)), z (suc (suc (suc a)))) refl

pub begins : {B : Type 0} (lba : ℕ) (chip : Chip B) → Opens lba chip → Going 0 chip.memory chip.regs
begins lba chip o =
    let base : List ℕ = put_words o.zero_memory table in
    let base_size : length base ≡ 4194304 = length-put_words o.zero_memory table ∙ o.zeros.size in
    record {
      running = ap is_stopped o.regs_are;
      dsa = ap (λ (r : Regs). r.dsa) o.regs_are;
      place = 0;
      dsp_is = ap (λ (r : Regs). r.dsp) o.regs_are;
      far = lit≤ tt;
      near = lit< tt;
      size = ap length o.memory_is ∙ length-put_bytes base 0x100f0 (cdb lba) ∙ base_size;
      words = λ a h k.
          ap (λ (m : List ℕ). word_at m a) o.memory_is
          ∙ word_outside base 0x100f0 a (cdb lba) (outside_cdb a k)
          ∙ word_at-put_words table o.zero_memory a h (rw o.zeros.size refl) (rw o.zeros.size refl) refl
          ∙ ap (λ (d : ℕ). looked table a d) (zero_word o.zero_memory a o.zeros.zeros);
    }

-- an entry of the block
pub entry : (m : List ℕ) (o d : ℕ) → length m ≡ 4194304 → d ≡ 0x10000 → nat_le (0x10000 + o + 8) 4194304 ≡ true → place_of m d (pos o) 8 ≡ Some (0x10000 + o)
unfolding place_of
entry m o d s e h = rw (e, s, h) refl

-- An instruction of two words of the script, at its address.
pub record Holds (a : ℕ) (op : Op) : Type 0 where
  pub fields : (row op).fields
  pub first : looked table a 0 ≡ (row op).first
  pub second : looked table (a + 4) 0 ≡ (row op).second
  pub two : (row op).third ≡ None
  pub short : has_third (row op).first ≡ false
  pub whole : a % 4 ≡ 0
  pub whole_second : (a + 4) % 4 ≡ 0
  pub aligned : nat_eq (a % 4) 0 ≡ true
  pub fits : nat_le (a + 8) 4194304 ≡ true
  pub inside : a + 8 ≤ 0x50

pub holds_0 : Holds 0x00 (Select (pos 0x18) 0x48)
holds_0 = record { fields = lit< tt; first = refl; second = refl; two = refl; short = refl; whole = refl; whole_second = refl; aligned = refl; fits = refl; inside = lit≤ tt }

pub holds_1 : Holds 0x08 (MoveFrom (pos 0x20) 6)
holds_1 = record { fields = ((lit< tt, omega arith, omega arith), lit< tt); first = refl; second = refl; two = refl; short = refl; whole = refl; whole_second = refl; aligned = refl; fits = refl; inside = lit≤ tt }

pub holds_2 : Holds 0x10 (MoveFrom (pos 0x28) 2)
holds_2 = record { fields = ((lit< tt, omega arith, omega arith), lit< tt); first = refl; second = refl; two = refl; short = refl; whole = refl; whole_second = refl; aligned = refl; fits = refl; inside = lit≤ tt }

pub holds_3 : Holds 0x18 (Jump (Phase true true 1) 0x28)
holds_3 = record { fields = (lit< tt, omega arith, omega arith); first = refl; second = refl; two = refl; short = refl; whole = refl; whole_second = refl; aligned = refl; fits = refl; inside = lit≤ tt }

pub holds_4 : Holds 0x20 (MoveFrom (pos 0x40) 1)
holds_4 = record { fields = ((lit< tt, omega arith, omega arith), lit< tt); first = refl; second = refl; two = refl; short = refl; whole = refl; whole_second = refl; aligned = refl; fits = refl; inside = lit≤ tt }

pub holds_5 : Holds 0x28 (MoveFrom (pos 0x30) 3)
holds_5 = record { fields = ((lit< tt, omega arith, omega arith), lit< tt); first = refl; second = refl; two = refl; short = refl; whole = refl; whole_second = refl; aligned = refl; fits = refl; inside = lit≤ tt }

pub holds_6 : Holds 0x30 (Move 1 0x1010 7)
holds_6 = record { fields = ((lit< tt, omega arith, omega arith), lit< tt, lit< tt); first = refl; second = refl; two = refl; short = refl; whole = refl; whole_second = refl; aligned = refl; fits = refl; inside = lit≤ tt }

pub holds_7 : Holds 0x38 (Clear true false)
holds_7 = record { fields = refl; first = refl; second = refl; two = refl; short = refl; whole = refl; whole_second = refl; aligned = refl; fits = refl; inside = lit≤ tt }

pub holds_8 : Holds 0x40 (WaitDisconnect)
holds_8 = record { fields = tt; first = refl; second = refl; two = refl; short = refl; whole = refl; whole_second = refl; aligned = refl; fits = refl; inside = lit≤ tt }

pub holds_9 : Holds 0x48 (Int Always 7)
holds_9 = record { fields = tt; first = refl; second = refl; two = refl; short = refl; whole = refl; whole_second = refl; aligned = refl; fits = refl; inside = lit≤ tt }

-- two words lie at an address of the script, and the next instruction is 8 bytes on
fetches : (m : List ℕ) (a w : ℕ) (r : Regs) → r.dsp ≡ a → length m ≡ 4194304 → word_at m a ≡ w → has_third w ≡ false → nat_eq (a % 4) 0 ≡ true → nat_le (a + 8) 4194304 ≡ true → can_fetch m r ≡ true
fetches m a w r e s q t al f = rw (e, q, t, s, al, f) refl

strides : {B : Type 0} (old : Chip B) (a w : ℕ) → old.regs.dsp ≡ a → word_at old.memory a ≡ w → has_third w ≡ false → (after_fetch old).regs.dsp ≡ a + 8
strides old a w e q t = rw (e, q, t) refl

first_word : (n a : ℕ) (op : Op) (m : List ℕ) (r : Regs) → Going n m r → Holds a op → word_at m a ≡ (row op).first
first_word n a op m r g h = let k : a + 8 ≤ 0x50 = h.inside in g.words a h.whole (inl (omega arith)) ∙ h.first

second_word : (n a : ℕ) (op : Op) (m : List ℕ) (r : Regs) → Going n m r → Holds a op → word_at m (a + 4) ≡ (row op).second
second_word n a op m r g h = let k : a + 8 ≤ 0x50 = h.inside in g.words (a + 4) h.whole_second (inl (omega arith)) ∙ h.second

no_third : (op : Op) (w : ℕ) → (row op).third ≡ None → IfSome (row op).third (λ v. w ≡ v)
no_third op w e = rw e tt

-- A step at an instruction of the script is that instruction, however it ends.
pub made_at : {B : Type 0} (moves : B → Event → B → Type 0) (n a : ℕ) (op : Op) (old : Chip B) (end : StepEnd) (new : Chip B) → Going n old.memory old.regs → old.regs.dsp ≡ a → Holds a op →
    step.ChipStep moves 0 old end new → Does moves 0 op old (after_fetch old) end new
made_at moves n a op old end new g e h r =
    let w0 : word_at old.memory a ≡ (row op).first = first_word n a op old.memory old.regs g h in
    let w1 : word_at old.memory (a + 4) ≡ (row op).second = second_word n a op old.memory old.regs g h in
    let can : can_fetch old.memory old.regs ≡ true = fetches old.memory a (row op).first old.regs e g.size w0 h.short h.aligned h.fits in
    let at : IsAt old op = record { fields = h.fields; first = rw e w0; second = rw e w1; third = no_third op (third_at old.memory old.regs) h.two } in
    ChipStep-does moves 0 old end new op g.running can at r

pub next_at : {B : Type 0} (n a : ℕ) (op : Op) (old : Chip B) → Going n old.memory old.regs → old.regs.dsp ≡ a → Holds a op → (after_fetch old).regs.dsp ≡ a + 8
next_at n a op old g e h = strides old a (row op).first e (first_word n a op old.memory old.regs g h) h.short

-- one step further
further : {B : Type 0} (n k j from to : ℕ) (old new : Chip B) → Going n old.memory old.regs → n ≤ k → k < j → j < 10 → ((a : ℕ) → IsKept a → (a + 4 ≤ from) ⊎ (to ≤ a)) → Goes from to (8 * j) (after_fetch old) new → Going (suc n) new.memory new.regs
further n k j from to old new g nk kj jn apart go = record {
  running = go.running ∙ g.running;
  dsa = go.dsa ∙ g.dsa;
  place = j;
  dsp_is = go.dsp_is;
  far = omega arith;
  near = jn;
  size = go.memory.size ∙ g.size;
  words = λ a h x. go.memory.words a (apart a x) ∙ g.words a h x;
}

nowhere : (a : ℕ) → IsKept a → (a + 4 ≤ 0) ⊎ (0 ≤ a)
nowhere a k = inr (omega arith)

moved_to : {B : Type 0} (from to a b : ℕ) (old new : Chip B) → a ≡ b → Goes from to a old new → Goes from to b old new
moved_to from to a b old new e g = record { running = g.running; dsa = g.dsa; dsp_is = g.dsp_is ∙ e; memory = g.memory }

-- INT ends the script
stops_at : {B : Type 0} (decision : Option Bool) (cause : Cause) (regs : Regs) (old new : Chip B) → decision ≡ Some true → TransfersAt decision (Stopped cause) regs old Ran new → ⊥
stops_at None cause regs old new e t = absurd cc
stops_at (Some true) cause regs old new e t = let f : Ran ≡ Stopped cause = t.is in cc
stops_at (Some false) cause regs old new e t = absurd cc

module _ {B : Type 0} (moves : B → Event → B → Type 0) where
  -- a move by an entry of the block
  by_entry : (n k o from count phase : ℕ) (old new : Chip B) → Going n old.memory old.regs → n ≤ k → k < 9 → (after_fetch old).regs.dsp ≡ 8 * (k + 1) → nat_le (0x10000 + o + 8) 4194304 ≡ true →
      IsKept (0x10000 + o) → IsKept (0x10000 + o + 4) → (0x10000 + o) % 4 ≡ 0 → (0x10000 + o + 4) % 4 ≡ 0 → looked table (0x10000 + o) 0 ≡ count → looked table (0x10000 + o + 4) 0 ≡ from → count < 16777216 →
      ((a : ℕ) → IsKept a → (a + 4 ≤ from) ⊎ (from + count ≤ a)) → Does moves 0 (MoveFrom (pos o) phase) old (after_fetch old) Ran new → Going (suc n) new.memory new.regs
  by_entry n k o from count phase old new g nk kn e fits k0 k1 m0 m1 l0 l1 small apart d =
      let m : List ℕ = old.memory in
      let place : place_of m old.regs.dsa (pos o) 8 ≡ Some (0x10000 + o) = entry m o old.regs.dsa g.size g.dsa fits in
      let go : Goes (word_at m (0x10000 + o + 4)) (word_at m (0x10000 + o + 4) + word_at m (0x10000 + o) % 16777216) (after_fetch old).regs.dsp (after_fetch old) new =
      MovesBy-goes moves 0 (0x10000 + o) (place_of m old.regs.dsa (pos o) 8) phase (after_fetch old) Ran new place d refl in
      let from_is : word_at m (0x10000 + o + 4) ≡ from = g.words (0x10000 + o + 4) m1 k1 ∙ l1 in
      let count_is : word_at m (0x10000 + o) % 16777216 ≡ count = ap (λ (x : ℕ). x % 16777216) (g.words (0x10000 + o) m0 k0 ∙ l0) ∙ omega arith in
      let there : Goes (word_at m (0x10000 + o + 4)) (word_at m (0x10000 + o + 4) + word_at m (0x10000 + o) % 16777216) (8 * (k + 1)) (after_fetch old) new = moved_to (word_at m (0x10000 + o + 4)) (word_at m (0x10000 + o + 4) + word_at m (0x10000 + o) % 16777216) (after_fetch old).regs.dsp (8 * (k + 1)) (after_fetch old) new e go in
      let there' : Goes from (from + count) (8 * (k + 1)) (after_fetch old) new = rw (from_is, count_is) at there in
      further n k (k + 1) from (from + count) old new g nk (omega arith) (omega arith) apart there'

  -- an instruction that goes on or jumps, and writes nothing
  either : (n k j t : ℕ) (old new : Chip B) → Going n old.memory old.regs → n ≤ k → k < 9 → k < j → j < 10 → (after_fetch old).regs.dsp ≡ 8 * (k + 1) → t ≡ 8 * j →
      Goes 0 0 (after_fetch old).regs.dsp (after_fetch old) new ⊎ Goes 0 0 t (after_fetch old) new → Going (suc n) new.memory new.regs
  either n k j t old new g nk kn kj jn e u go = elim go [
    | inl x ↦ further n k (k + 1) 0 0 old new g nk (omega arith) (omega arith) nowhere (moved_to 0 0 (after_fetch old).regs.dsp (8 * (k + 1)) (after_fetch old) new e x)
    | inr x ↦ further n k j 0 0 old new g nk kj jn nowhere (moved_to 0 0 t (8 * j) (after_fetch old) new u x)
  ]

  onward : (k n : ℕ) (old new : Chip B) → Going n old.memory old.regs → old.regs.dsp ≡ 8 * k → n ≤ k → k < 10 → step.ChipStep moves 0 old Ran new → Going (suc n) new.memory new.regs
  onward zero n old new g e h l r =
      either n 0 9 0x48 old new g h (lit< tt) (lit< tt) (lit< tt) (next_at n 0x00 (Select (pos 0x18) 0x48) old g e holds_0) refl
      (Selects-goes moves 0 (pos 0x18) 0x48 (after_fetch old) new Ran (made_at moves n 0x00 (Select (pos 0x18) 0x48) old Ran new g e holds_0 r) refl)
  onward (suc zero) n old new g e h l r =
      by_entry n 1 0x20 0x100e0 3 6 old new g h (lit< tt) (next_at n 0x08 (MoveFrom (pos 0x20) 6) old g e holds_1) refl (inr (lit≤ tt, lit≤ tt)) (inr (lit≤ tt, lit≤ tt)) refl refl refl refl (lit< tt) (λ a x. grind arith)
      (made_at moves n 0x08 (MoveFrom (pos 0x20) 6) old Ran new g e holds_1 r)
  onward (suc (suc zero)) n old new g e h l r =
      by_entry n 2 0x28 0x100f0 10 2 old new g h (lit< tt) (next_at n 0x10 (MoveFrom (pos 0x28) 2) old g e holds_2) refl (inr (lit≤ tt, lit≤ tt)) (inr (lit≤ tt, lit≤ tt)) refl refl refl refl (lit< tt) (λ a x. grind arith)
      (made_at moves n 0x10 (MoveFrom (pos 0x28) 2) old Ran new g e holds_2 r)
  onward (suc (suc (suc zero))) n old new g e h l r =
      either n 3 5 0x28 old new g h (lit< tt) (lit< tt) (lit< tt) (next_at n 0x18 (Jump (Phase true true 1) 0x28) old g e holds_3) refl
      (Jumps-goes moves 0 (Phase true true 1) 0x28 (after_fetch old) Ran new (made_at moves n 0x18 (Jump (Phase true true 1) 0x28) old Ran new g e holds_3 r) refl)
  onward (suc (suc (suc (suc zero)))) n old new g e h l r =
      by_entry n 4 0x40 0x200000 512 1 old new g h (lit< tt) (next_at n 0x20 (MoveFrom (pos 0x40) 1) old g e holds_4) refl (inr (lit≤ tt, lit≤ tt)) (inr (lit≤ tt, lit≤ tt)) refl refl refl refl (lit< tt) (λ a x. grind arith)
      (made_at moves n 0x20 (MoveFrom (pos 0x40) 1) old Ran new g e holds_4 r)
  onward (suc (suc (suc (suc (suc zero))))) n old new g e h l r =
      by_entry n 5 0x30 0x10014 1 3 old new g h (lit< tt) (next_at n 0x28 (MoveFrom (pos 0x30) 3) old g e holds_5) refl (inr (lit≤ tt, lit≤ tt)) (inr (lit≤ tt, lit≤ tt)) refl refl refl refl (lit< tt) (λ a x. grind arith)
      (made_at moves n 0x28 (MoveFrom (pos 0x30) 3) old Ran new g e holds_5 r)
  onward (suc (suc (suc (suc (suc (suc zero)))))) n old new g e h l r =
      further n 6 7 0x1010 0x1011 old new g h (lit< tt) (lit< tt) (λ a x. grind arith)
      (moved_to 0x1010 0x1011 (after_fetch old).regs.dsp 56 (after_fetch old) new (next_at n 0x30 (Move 1 0x1010 7) old g e holds_6)
      (Move-goes moves 0 1 0x1010 7 (after_fetch old) Ran new (made_at moves n 0x30 (Move 1 0x1010 7) old Ran new g e holds_6 r) refl))
  onward (suc (suc (suc (suc (suc (suc (suc zero))))))) n old new g e h l r =
      further n 7 8 0 0 old new g h (lit< tt) (lit< tt) nowhere
      (moved_to 0 0 (after_fetch old).regs.dsp 64 (after_fetch old) new (next_at n 0x38 (Clear true false) old g e holds_7)
      (Clears-goes moves true false (after_fetch old) new Ran (made_at moves n 0x38 (Clear true false) old Ran new g e holds_7 r)))
  onward (suc (suc (suc (suc (suc (suc (suc (suc zero)))))))) n old new g e h l r =
      further n 8 9 0 0 old new g h (lit< tt) (lit< tt) nowhere
      (moved_to 0 0 (after_fetch old).regs.dsp 72 (after_fetch old) new (next_at n 0x40 WaitDisconnect old g e holds_8)
      (Waits-goes moves 0 (after_fetch old) new Ran (made_at moves n 0x40 WaitDisconnect old Ran new g e holds_8 r) refl))
  onward (suc (suc (suc (suc (suc (suc (suc (suc (suc zero))))))))) n old new g e h l r =
      let t : Transfers moves 0 Always (Stopped (Sir 7)) (stop_with (Sir 7) (after_fetch old).regs) (after_fetch old) Ran new = made_at moves n 0x48 (Int Always 7) old Ran new g e holds_9 r in
      absurd (stops_at t.decision (Sir 7) (stop_with (Sir 7) (after_fetch old).regs) (after_fetch old) new t.decides.0 t.transfers)
  onward (suc (suc (suc (suc (suc (suc (suc (suc (suc (suc k)))))))))) n old new g e h l r = absurd (omega arith)

  -- a step that doesn't stop leads one further
  pub step_on : (n : ℕ) (old new : Chip B) → Going n old.memory old.regs → step.ChipStep moves 0 old Ran new → Going (suc n) new.memory new.regs
  step_on n old new g r = onward g.place n old new g g.dsp_is g.far g.near r

-- no word of the script is WAIT RESELECT
no_wait : (k : ℕ) → k < 10 → looked table (8 * k) 0 ≡ 0x50000000 → ⊥
no_wait zero h e = omega arith
no_wait (suc zero) h e = omega arith
no_wait (suc (suc zero)) h e = omega arith
no_wait (suc (suc (suc zero))) h e = omega arith
no_wait (suc (suc (suc (suc zero)))) h e = omega arith
no_wait (suc (suc (suc (suc (suc zero))))) h e = omega arith
no_wait (suc (suc (suc (suc (suc (suc zero)))))) h e = omega arith
no_wait (suc (suc (suc (suc (suc (suc (suc zero))))))) h e = omega arith
no_wait (suc (suc (suc (suc (suc (suc (suc (suc zero)))))))) h e = omega arith
no_wait (suc (suc (suc (suc (suc (suc (suc (suc (suc zero))))))))) h e = omega arith
no_wait (suc (suc (suc (suc (suc (suc (suc (suc (suc (suc k)))))))))) h e = omega arith

waits_word : (op : Op) (alternate w : ℕ) → op ≡ WaitReselect alternate → w ≡ (row op).first → w ≡ 0x50000000
waits_word op alternate w e h = h ∙ ap (λ (o : Op). (row o).first) e

-- no step of the script is idle
pub no_rest : {B : Type 0} (moves : B → Event → B → Type 0) (n : ℕ) (old : Chip B) → Going n old.memory old.regs → Rests moves 0 old → ⊥
no_rest moves n old g h = elim h [
  | inl s ↦ let r : is_stopped old.regs ≡ false = g.running in absurd cc
  | inr a ↦
      let near : g.place < 10 = g.near in
      let here : word_at old.memory (8 * g.place) ≡ looked table (8 * g.place) 0 = g.words (8 * g.place) (omega arith) (inl (omega arith)) in
      let there : word_at old.memory old.regs.dsp ≡ 0x50000000 = waits_word a.op a.waits.alternate (word_at old.memory old.regs.dsp) a.waits.is a.at.first in
      no_wait g.place g.near (sym here ∙ (rw g.dsp_is at there))
]
