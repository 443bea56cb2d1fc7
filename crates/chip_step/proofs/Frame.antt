-- What an instruction of a script that only goes forwards leaves as it was, where its step goes on.
use Rattle.std.proofs.Common.{◌≡◌, ℕ, ℤ, zero, suc, ◌+◌, ◌%◌, ◌≤◌, ◌⊎◌, inl, inr, Bool, true, false, nat_eq, nat_le, List, [], ◌∷◌, length, set, refl, ap, ◌∙◌, arith, Option, Some, None, length-set}
use Rattle.std.specs.Bool.{MatchBool}
use Rattle.bench_words.specs.Memory.{word_at, put_bytes}
use Rattle.bench_words.proofs.MemoryLaws.{word_outside}
use Rattle.scsi_words.specs.Phases.{phase_code}
use Rattle.scsi_words.specs.declared.phases.kinds.Phase.{Phase}
use Rattle.scripts_ops.specs.declared.values.Condition.{Condition}
use Rattle.chip_regs.specs.Registers.{is_stopped, stop_with}
use Rattle.chip_regs.specs.declared.registers.Regs.{Regs}
use Rattle.chip_regs.specs.declared.registers.Cause.{Cause}
use Rattle.chip_regs.specs.declared.registers.Cause.TheVariants.{Iid, Bf, Ma, Udc}
use Rattle.chip_step.specs.Event.{Event}
use Rattle.chip_step.specs.Bytes.{TakesIn, GoesOut}
use Rattle.chip_step.specs.Chip.{Chip, Ends, Stops}
use Rattle.chip_step.specs.Addresses.{place_of}
use Rattle.chip_step.specs.Blocks.{BlockMoves, AsksAndMoves, MovesAt, Moves, Carries, MovesBy, loaded, after_bytes, ReleasesAtn}
use Rattle.chip_step.specs.Connection.{Clears, Waits, Selects, SelectsBy, SettlesAs, with_table}
use Rattle.chip_step.specs.Transfers.{Transfers, TransfersAt}
use Rattle.chip_step.specs.declared.scsi_bus.Settled.{Settled}
use Rattle.chip_step.specs.declared.scsi_bus.Settled.TheVariants.{Selected, Reselected, TimedOut}
use Rattle.chip_step.specs.declared.outcome.StepEnd.{StepEnd}
use Rattle.chip_step.specs.declared.outcome.StepEnd.TheVariants.{Ran, Stopped}

-- words outside a range are the same, and memory has its size
pub record Keeps (from to : ℕ) (old new : List ℕ) : Type 0 where
  pub size : length new ≡ length old
  pub words : (a : ℕ) → (a + 4 ≤ from) ⊎ (to ≤ a) → word_at new a ≡ word_at old a

pub Keeps-same : (from to : ℕ) (old new : List ℕ) → new ≡ old → Keeps from to old new
Keeps-same from to old new e = record { size = ap length e; words = λ a h. ap (λ (m : List ℕ). word_at m a) e }

one_byte : (m : List ℕ) (at b a : ℕ) → (a + 4 ≤ at) ⊎ (at + 1 ≤ a) → word_at (set m at b) a ≡ word_at m a
unfolding put_bytes
one_byte m at b a h = word_outside m at a (b ∷ []) h

later_range : (a at n : ℕ) → (a + 4 ≤ at) ⊎ (at + suc n ≤ a) → (a + 4 ≤ at + 1) ⊎ (at + 1 + n ≤ a)
later_range a at n h = grind arith

first_byte : (a at n : ℕ) → (a + 4 ≤ at) ⊎ (at + suc n ≤ a) → (a + 4 ≤ at) ⊎ (at + 1 ≤ a)
first_byte a at n h = grind arith

-- A step that goes on: the registers that such a script needs, and the memory outside a range.
pub record Goes {B : Type 0} (from to dsp : ℕ) (old new : Chip B) : Type 0 where
  pub running : is_stopped new.regs ≡ is_stopped old.regs
  pub dsa : new.regs.dsa ≡ old.regs.dsa
  pub dsp_is : new.regs.dsp ≡ dsp
  pub memory : Keeps from to old.memory new.memory

-- no stop goes on
not_stopped : (cause : Cause) (end : StepEnd) → end ≡ Stopped cause → end ≡ Ran → ⊥
not_stopped cause end e f = cc

pub Stops-ends : {B : Type 0} (cause : Cause) (old new : Chip B) (end : StepEnd) → Stops cause old end new → end ≡ Ran → ⊥
Stops-ends cause old new end s e = not_stopped cause end s.ends.is e

Ends-goes : {B : Type 0} (old new : Chip B) (how end : StepEnd) → Ends how old.memory old.regs end new → Goes 0 0 old.regs.dsp old new
Ends-goes old new how end e = record {
  running = rw e.regs_are refl;
  dsa = rw e.regs_are refl;
  dsp_is = rw e.regs_are refl;
  memory = Keeps-same 0 0 old.memory new.memory e.memory_is;
}

by_bool : (P Q C : Type 0) (b : Bool) → MatchBool b P Q → (b ≡ true → P → C) → (b ≡ false → Q → C) → C
by_bool P Q C true h f g = f refl h
by_bool P Q C false h f g = g refl h

module _ {B : Type 0} (moves : B → Event → B → Type 0) where
  pub TakesIn-keeps : (message later : Bool) (n : ℕ) (m : List ℕ) (at : ℕ) (b : B) (left : ℕ) (m' : List ℕ) (b' : B) →
      TakesIn moves message later n m at b left m' b' → Keeps at (at + n) m m'
  TakesIn-keeps message later zero m at b left m' b' t = Keeps-same at (at + 0) m m' t.1
  TakesIn-keeps message later (suc n) m at b left m' b' t = elim t.2 [
    | inl e ↦ Keeps-same at (at + suc n) m m' e.same
    | inr r ↦
        let rest : Keeps (at + 1) (at + 1 + n) (set m at r.0) m' = TakesIn-keeps message true n (set m at r.0) (at + 1) r.1 left m' b' r.3 in
        record {
          size = rest.size ∙ length-set m at r.0;
          words = λ a h. rest.words a (later_range a at n h) ∙ one_byte m at r.0 a (first_byte a at n h);
        }
  ]

  pub Clears-goes : (ack atn : Bool) (old new : Chip B) (end : StepEnd) → Clears moves ack atn old end new → Goes 0 0 old.regs.dsp old new
  Clears-goes ack atn old new end c = Ends-goes old new Ran end c.ends

  Carries-keeps : (phase : ℕ) (old : Chip B) (left : ℕ) (memory : List ℕ) (bus : B) → Carries moves phase old left memory bus → Keeps old.regs.dnad (old.regs.dnad + old.regs.dbc) old.memory memory
  Carries-keeps phase old left memory bus t =
      by_bool (TakesIn moves (nat_eq phase 7) false old.regs.dbc old.memory old.regs.dnad old.bus left memory bus) (GoesOut moves old.regs.dbc old.memory old.regs.dnad old.bus left bus × (memory ≡ old.memory))
      (Keeps old.regs.dnad (old.regs.dnad + old.regs.dbc) old.memory memory) (nat_eq (phase % 2) 1) t
      (λ e h. TakesIn-keeps (nat_eq phase 7) false old.regs.dbc old.memory old.regs.dnad old.bus left memory bus h)
      (λ e h. Keeps-same old.regs.dnad (old.regs.dnad + old.regs.dbc) old.memory memory h.1)

  pub Moves-goes : (phase : ℕ) (old new : Chip B) (end : StepEnd) → Moves moves phase old end new → end ≡ Ran → Goes old.regs.dnad (old.regs.dnad + old.regs.dbc) old.regs.dsp old new
  Moves-goes phase old new end t e =
      let r : Regs = after_bytes phase t.left new.memory old.regs in
      let k : Keeps old.regs.dnad (old.regs.dnad + old.regs.dbc) old.memory new.memory = Carries-keeps phase old t.left new.memory t.bus t.carries in
      by_bool (ReleasesAtn moves (nat_eq phase 6) t.bus new.bus × (end ≡ Ran) × (new.regs ≡ r)) ((new.bus ≡ t.bus) × (end ≡ Stopped Ma) × (new.regs ≡ stop_with Ma r))
      (Goes old.regs.dnad (old.regs.dnad + old.regs.dbc) old.regs.dsp old new) (nat_eq t.left 0) t.finishes
      (λ z h. let q : new.regs ≡ r = h.2 in record { running = ap is_stopped q; dsa = ap (λ (x : Regs). x.dsa) q; dsp_is = ap (λ (x : Regs). x.dsp) q; memory = k })
      (λ z h. absurd (not_stopped Ma end h.1 e))

module _ {B : Type 0} (moves : B → Event → B → Type 0) (word : ℕ) where
  pub Waits-goes : (old new : Chip B) (end : StepEnd) → Waits moves word old end new → end ≡ Ran → Goes 0 0 old.regs.dsp old new
  Waits-goes old new end (true, _, w) e = record { running = rw w.regs_are refl; dsa = rw w.regs_are refl; dsp_is = rw w.regs_are refl; memory = Keeps-same 0 0 old.memory new.memory w.memory_is }
  Waits-goes old new end (false, _, w) e = absurd (not_stopped _ end w.is e)

  -- SELECT goes on, or jumps where a target reselected
  Settles-goes : (s : Settled) (alternate w : ℕ) (old new : Chip B) (end : StepEnd) → SettlesAs moves word s alternate (with_table w old.regs) old end new → end ≡ Ran → Goes 0 0 old.regs.dsp old new ⊎ Goes 0 0 alternate old new
  Settles-goes Selected alternate w old new end s e = let d = s.3 in inl (record { running = rw d.regs_are refl; dsa = rw d.regs_are refl; dsp_is = rw d.regs_are refl; memory = Keeps-same 0 0 old.memory new.memory d.memory_is })
  Settles-goes (Reselected by) alternate w old new end s e = let d = s.1 in inr (record { running = rw d.regs_are refl; dsa = rw d.regs_are refl; dsp_is = rw d.regs_are refl; memory = Keeps-same 0 0 old.memory new.memory d.memory_is })
  Settles-goes TimedOut alternate w old new end s e = absurd (not_stopped _ end s.1.is e)

  SelectsBy-goes : (at : Option ℕ) (alternate : ℕ) (old new : Chip B) (end : StepEnd) → SelectsBy moves word at alternate old end new → end ≡ Ran → Goes 0 0 old.regs.dsp old new ⊎ Goes 0 0 alternate old new
  SelectsBy-goes None alternate old new end s e = absurd (Stops-ends _ old new end s e)
  SelectsBy-goes (Some at) alternate old new end s e = Settles-goes s.0 alternate (word_at old.memory at) old new end s.1 e

  pub Selects-goes : (offset : ℤ) (alternate : ℕ) (old new : Chip B) (end : StepEnd) → Selects moves word offset alternate old end new → end ≡ Ran → Goes 0 0 old.regs.dsp old new ⊎ Goes 0 0 alternate old new
  Selects-goes offset alternate old new end s e =
      by_bool (Stops Iid old end new) (SelectsBy moves word (place_of old.memory old.regs.dsa offset 4) alternate old end new) (Goes 0 0 old.regs.dsp old new ⊎ Goes 0 0 alternate old new) old.regs.con s
      (λ z h. absurd (Stops-ends Iid old new end h e))
      (λ z h. SelectsBy-goes (place_of old.memory old.regs.dsa offset 4) alternate old new end h e)

  MovesAt-goes : (shown : Option Phase) (phase : ℕ) (old : Chip B) (bus : B) (end : StepEnd) (new : Chip B) → MovesAt moves word shown phase old bus end new → end ≡ Ran → Goes old.regs.dnad (old.regs.dnad + old.regs.dbc) old.regs.dsp old new
  MovesAt-goes None phase old bus end new m e = absurd (Stops-ends Udc (record old { bus = bus }) new end m e)
  MovesAt-goes (Some shown) phase old bus end new m e =
      by_bool (Moves moves phase (record old { bus = bus }) end new) (Stops Ma (record old { bus = bus }) end new)
      (Goes old.regs.dnad (old.regs.dnad + old.regs.dbc) old.regs.dsp old new) (nat_eq (phase_code shown) phase) m
      (λ z h. let q : Goes old.regs.dnad (old.regs.dnad + old.regs.dbc) old.regs.dsp (record old { bus = bus }) new = Moves-goes moves phase (record old { bus = bus }) new end h e in
      record { running = q.running; dsa = q.dsa; dsp_is = q.dsp_is; memory = q.memory })
      (λ z h. absurd (Stops-ends Ma (record old { bus = bus }) new end h e))

  pub BlockMoves-goes : (phase : ℕ) (old : Chip B) (end : StepEnd) (new : Chip B) → BlockMoves moves word phase old end new → end ≡ Ran → Goes old.regs.dnad (old.regs.dnad + old.regs.dbc) old.regs.dsp old new
  BlockMoves-goes phase old end new m e =
      by_bool (Stops Iid old end new) (MatchBool (nat_le (old.regs.dnad + old.regs.dbc) (length old.memory)) (AsksAndMoves moves word phase old end new) (Stops Bf old end new))
      (Goes old.regs.dnad (old.regs.dnad + old.regs.dbc) old.regs.dsp old new) (nat_eq old.regs.dbc 0) m
      (λ z h. absurd (Stops-ends Iid old new end h e))
      (λ z h. by_bool (AsksAndMoves moves word phase old end new) (Stops Bf old end new) (Goes old.regs.dnad (old.regs.dnad + old.regs.dbc) old.regs.dsp old new)
      (nat_le (old.regs.dnad + old.regs.dbc) (length old.memory)) h
      (λ y a. MovesAt-goes a.shown phase old a.bus end new a.moved e)
      (λ y a. absurd (Stops-ends Bf old new end a e)))

  pub Move-goes : (count a phase : ℕ) (old : Chip B) (end : StepEnd) (new : Chip B) → BlockMoves moves word phase (loaded count a old) end new → end ≡ Ran → Goes a (a + count) old.regs.dsp old new
  Move-goes count a phase old end new m e =
      let q : Goes a (a + count) old.regs.dsp (loaded count a old) new = BlockMoves-goes phase (loaded count a old) end new m e in
      record { running = q.running; dsa = q.dsa; dsp_is = q.dsp_is; memory = q.memory }

  pub MovesBy-goes : (at : ℕ) (place : Option ℕ) (phase : ℕ) (old : Chip B) (end : StepEnd) (new : Chip B) → place ≡ Some at → MovesBy moves word place phase old end new → end ≡ Ran →
      Goes (word_at old.memory (at + 4)) (word_at old.memory (at + 4) + word_at old.memory at % 16777216) old.regs.dsp old new
  MovesBy-goes at None phase old end new p m e = absurd (Stops-ends Bf old new end m e)
  MovesBy-goes at (Some x) phase old end new p m e =
      let s : x ≡ at = cc in
      Move-goes (word_at old.memory at % 16777216) (word_at old.memory (at + 4)) phase old end new (rw s at m) e

  -- a transfer goes on, or to its address
  TransfersAt-goes : (decision : Option Bool) (a : ℕ) (old : Chip B) (end : StepEnd) (new : Chip B) → TransfersAt decision Ran (record old.regs { dsp = a }) old end new → end ≡ Ran → Goes 0 0 old.regs.dsp old new ⊎ Goes 0 0 a old new
  TransfersAt-goes None a old end new j e = absurd (not_stopped Udc end j.is e)
  TransfersAt-goes (Some true) a old end new j e = inr (record { running = rw j.regs_are refl; dsa = rw j.regs_are refl; dsp_is = rw j.regs_are refl; memory = Keeps-same 0 0 old.memory new.memory j.memory_is })
  TransfersAt-goes (Some false) a old end new j e = inl (Ends-goes old new Ran end j)

  pub Jumps-goes : (on : Condition) (a : ℕ) (old : Chip B) (end : StepEnd) (new : Chip B) → Transfers moves word on Ran (record old.regs { dsp = a }) old end new → end ≡ Ran → Goes 0 0 old.regs.dsp old new ⊎ Goes 0 0 a old new
  Jumps-goes on a old end new j e = TransfersAt-goes j.decision a old end new j.transfers e
