-- What a bus with given answers makes of the parts of a step.
use Rattle.std.proofs.Common.{◌≡◌, ℕ, zero, suc, ◌+◌, ◌%◌, ◌<◌, Bool, true, false, nat_eq, nat_le, List, [], ◌∷◌, length, get_or, set, refl, sym, ap, ◌∙◌, arith, Option, Some, None, MatchBool, eq-eqb, add-zero, inl, inr}
use Rattle.bench_words.specs.Memory.{put_bytes}
use Rattle.bench_words.proofs.Cells.{put_bytes-cons, put_bytes-nil}
use Rattle.scsi_words.specs.Phases.{phase_code}
use Rattle.scsi_words.specs.declared.phases.kinds.Phase.{Phase as BusPhase}
use Rattle.chip_regs.specs.Registers.{stop_with}
use Rattle.chip_regs.specs.declared.registers.Regs.{Regs}
use Rattle.chip_regs.specs.declared.registers.Cause.TheVariants.{Iid, Bf, Ma}
use Rattle.chip_step.specs.Event.{Event, Phase, ByteIn, ByteOut, ClearAck}
use Rattle.chip_step.specs.Bytes.{TakesIn, GoesOut}
use Rattle.chip_step.specs.Chip.{Chip, Stops}
use Rattle.chip_step.specs.Blocks.{Asks, BlockMoves, AsksAndMoves, MovesAt, Moves, after_bytes, ReleasesAtn}
use Rattle.chip_step.specs.declared.outcome.StepEnd.{StepEnd}
use Rattle.chip_step.specs.declared.outcome.StepEnd.TheVariants.{Ran, Stopped}
use Rattle.straight_run.specs.Reading.{Answers, outs, ins, asks}

pub by_bool : (P Q C : Type 0) (b : Bool) → MatchBool b P Q → (b ≡ true → P → C) → (b ≡ false → Q → C) → C
by_bool P Q C true h f g = f refl h
by_bool P Q C false h f g = g refl h

-- a list read on from its second place
on : (m bs : List ℕ) (at b : ℕ) → ((i : ℕ) → i < length (b ∷ bs) → get_or m (at + i) 0 ≡ get_or (b ∷ bs) i 0) → (i : ℕ) → i < length bs → get_or m (at + 1 + i) 0 ≡ get_or bs i 0
on m bs at b h i k = let e : at + suc i ≡ at + 1 + i = omega arith in rw e at (h (suc i) (omega arith))

first_of_list : (m bs : List ℕ) (at b : ℕ) → ((i : ℕ) → i < length (b ∷ bs) → get_or m (at + i) 0 ≡ get_or (b ∷ bs) i 0) → get_or m at 0 ≡ b
first_of_list m bs at b h = rw add-zero at (h 0 (omega arith))

module _ {B : Type 0} (moves : B → Event → B → Type 0) (P : B → Type 0) where
  acked : (es : List Event) (old new : B) → Answers moves (ClearAck ∷ es) P old → moves old ClearAck new → Answers moves es P new
  acked es old new a m = (a ClearAck new refl m).1

  -- the phase that is asked for
  pub record Shows (phase : BusPhase) (es : List Event) (shown : Option BusPhase) (bus : B) : Type 0 where
    pub is : shown ≡ Some phase
    pub rest : Answers moves es P bus

  pub asked : (phase : BusPhase) (es : List Event) (shown : Option BusPhase) (old new : B) → Answers moves (asks phase es) P old → Asks moves 0 shown old new → Shows phase es shown new
  asked phase es shown old new a k =
      let r : (Phase 0 shown ≡ Phase 0 (Some phase)) × Answers moves es P new = acked (Phase 0 (Some phase) ∷ es) old k.mid a k.acked (Phase 0 shown) new refl k.asked in
      let e : Phase 0 shown ≡ Phase 0 (Some phase) = r.0 in
      record { is = cc; rest = r.1 }

  -- bytes out
  pub went_out : (bytes : List ℕ) (es : List Event) (m : List ℕ) (at : ℕ) (old : B) (left : ℕ) (new : B) → ((i : ℕ) → i < length bytes → get_or m (at + i) 0 ≡ get_or bytes i 0) →
      Answers moves (outs bytes es) P old → GoesOut moves (length bytes) m at old left new → (left ≡ 0) × Answers moves es P new
  went_out [] es m at old left new h a g = (g.0, rw g.1 a)
  went_out (b ∷ bs) es m at old left new h a g =
      let here : get_or m at 0 ≡ b = first_of_list m bs at b h in
      elim g [
        | inl x ↦
            let r : (ByteOut (get_or m at 0) false ≡ ByteOut b true) × Answers moves (outs bs es) P new = a (ByteOut (get_or m at 0) false) new (ap (λ (v : ℕ). ByteOut v false) here) x.0 in
            let e : ByteOut (get_or m at 0) false ≡ ByteOut b true = r.0 in
            absurd cc
        | inr x ↦
            let r : (ByteOut (get_or m at 0) true ≡ ByteOut b true) × Answers moves (outs bs es) P x.0 = a (ByteOut (get_or m at 0) true) x.0 (ap (λ (v : ℕ). ByteOut v false) here) x.1 in
            went_out bs es m (at + 1) x.0 left new (on m bs at b h) r.1 x.2
      ]

  -- bytes in
  pub record Came (bytes : List ℕ) (es : List Event) (m : List ℕ) (at left : ℕ) (m' : List ℕ) (new : B) : Type 0 where
    pub all : left ≡ 0
    pub memory : m' ≡ put_bytes m at bytes
    pub rest : Answers moves es P new

  came_on : (b c : ℕ) (bs : List ℕ) (es : List Event) (m : List ℕ) (at left : ℕ) (m' : List ℕ) (new : B) → c ≡ b → Came bs es (set m at c) (at + 1) left m' new → Came (b ∷ bs) es m at left m' new
  came_on b c bs es m at left m' new e t = record {
    all = t.all;
    memory = rw (← e) (t.memory ∙ sym (put_bytes-cons m at c bs));
    rest = t.rest;
  }

  pub came_in : (bytes : List ℕ) (es : List Event) (later : Bool) (m : List ℕ) (at : ℕ) (old : B) (left : ℕ) (m' : List ℕ) (new : B) →
      Answers moves (ins bytes es) P old → TakesIn moves false later (length bytes) m at old left m' new → Came bytes es m at left m' new
  came_in [] es later m at old left m' new a t = record { all = t.0; memory = t.1 ∙ sym (put_bytes-nil m at); rest = rw t.2 a }
  came_in (b ∷ bs) es later m at old left m' new a t =
      let a' : Answers moves (ins (b ∷ bs) es) P t.0 = rw t.1 a in
      elim t.2 [
        | inl x ↦
            let r : (ByteIn None ≡ ByteIn (Some b)) × Answers moves (ins bs es) P new = a' (ByteIn None) new refl x.call in
            let e : ByteIn None ≡ ByteIn (Some b) = r.0 in
            absurd cc
        | inr x ↦
            let r : (ByteIn (Some x.0) ≡ ByteIn (Some b)) × Answers moves (ins bs es) P x.1 = a' (ByteIn (Some x.0)) x.1 refl x.2 in
            let e : ByteIn (Some x.0) ≡ ByteIn (Some b) = r.0 in
            let same : x.0 ≡ b = cc in
            came_on b x.0 bs es m at left m' new same (came_in bs es true (set m at x.0) (at + 1) x.1 left m' new r.1 x.3)
      ]

  -- one byte of a message
  pub came_one : (b : ℕ) (es : List Event) (m : List ℕ) (at : ℕ) (old : B) (left : ℕ) (m' : List ℕ) (new : B) →
      Answers moves (ByteIn (Some b) ∷ es) P old → TakesIn moves true false (suc zero) m at old left m' new → Came (b ∷ []) es m at left m' new
  came_one b es m at old left m' new a t =
      let a' : Answers moves (ByteIn (Some b) ∷ es) P t.0 = rw t.1 a in
      elim t.2 [
        | inl x ↦
            let r : (ByteIn None ≡ ByteIn (Some b)) × Answers moves es P new = a' (ByteIn None) new refl x.call in
            let e : ByteIn None ≡ ByteIn (Some b) = r.0 in
            absurd cc
        | inr x ↦
            let r : (ByteIn (Some x.0) ≡ ByteIn (Some b)) × Answers moves es P x.1 = a' (ByteIn (Some x.0)) x.1 refl x.2 in
            let e : ByteIn (Some x.0) ≡ ByteIn (Some b) = r.0 in
            let same : x.0 ≡ b = cc in
            came_on b x.0 [] es m at left m' new same (record { all = x.3.0; memory = x.3.1 ∙ sym (put_bytes-nil (set m at x.0) (at + 1)); rest = rw x.3.2 r.1 })
      ]

  -- a block move in the phase that is shown
  pub record Begins (phase : BusPhase) (es : List Event) (old : Chip B) (end : StepEnd) (new : Chip B) : Type 0 where
    pub bus : B
    pub rest : Answers moves es P bus
    pub moved : Moves moves (phase_code phase) (record old { bus = bus }) end new

  shown_phase : (phase : BusPhase) (es : List Event) (shown : Option BusPhase) (old : Chip B) (bus : B) (end : StepEnd) (new : Chip B) → shown ≡ Some phase → Answers moves es P bus → MovesAt moves 0 shown (phase_code phase) old bus end new → Begins phase es old end new
  shown_phase phase es shown old bus end new e a m =
      let there : MovesAt moves 0 (Some phase) (phase_code phase) old bus end new = rw e at m in
      by_bool (Moves moves (phase_code phase) (record old { bus = bus }) end new) (Stops Ma (record old { bus = bus }) end new) (Begins phase es old end new) (nat_eq (phase_code phase) (phase_code phase)) there
      (λ q x. record { bus = bus; rest = a; moved = x })
      (λ q x. let y : nat_eq (phase_code phase) (phase_code phase) ≡ true = eq-eqb (phase_code phase) (phase_code phase) refl in absurd cc)

  pub begins : (phase : BusPhase) (es : List Event) (old : Chip B) (end : StepEnd) (new : Chip B) → nat_eq old.regs.dbc 0 ≡ false → nat_le (old.regs.dnad + old.regs.dbc) (length old.memory) ≡ true →
      Answers moves (asks phase es) P old.bus → BlockMoves moves 0 (phase_code phase) old end new → Begins phase es old end new
  begins phase es old end new z f a m =
      by_bool (Stops Iid old end new) (MatchBool (nat_le (old.regs.dnad + old.regs.dbc) (length old.memory)) (AsksAndMoves moves 0 (phase_code phase) old end new) (Stops Bf old end new)) (Begins phase es old end new) (nat_eq old.regs.dbc 0) m
      (λ e x. absurd cc)
      (λ e x. by_bool (AsksAndMoves moves 0 (phase_code phase) old end new) (Stops Bf old end new) (Begins phase es old end new) (nat_le (old.regs.dnad + old.regs.dbc) (length old.memory)) x
      (λ g y. let s : Shows phase es y.shown y.bus = asked phase es y.shown old.bus y.bus a y.asks in shown_phase phase es y.shown old y.bus end new s.is s.rest y.moved)
      (λ g y. absurd cc))

  -- a move whose count is done
  pub record Done (memory : List ℕ) (es : List Event) (old : Chip B) (end : StepEnd) (new : Chip B) : Type 0 where
    pub is : end ≡ Ran
    pub memory_is : new.memory ≡ memory
    pub dsp_is : new.regs.dsp ≡ old.regs.dsp
    pub rest : Answers moves es P new.bus

  -- how a move ends whose count is done; ATN is released after a message out
  finished : (phase left : ℕ) (memory : List ℕ) (es : List Event) (old : Chip B) (bus : B) (end : StepEnd) (new : Chip B) → left ≡ 0 → new.memory ≡ memory →
      (ReleasesAtn moves (nat_eq phase 6) bus new.bus → Answers moves es P new.bus) →
      MatchBool (nat_eq left 0) (ReleasesAtn moves (nat_eq phase 6) bus new.bus × (end ≡ Ran) × (new.regs ≡ after_bytes phase left new.memory old.regs)) ((new.bus ≡ bus) × (end ≡ Stopped Ma) × (new.regs ≡ stop_with Ma (after_bytes phase left new.memory old.regs))) →
      Done memory es old end new
  finished phase left memory es old bus end new z q f m =
      by_bool (ReleasesAtn moves (nat_eq phase 6) bus new.bus × (end ≡ Ran) × (new.regs ≡ after_bytes phase left new.memory old.regs)) ((new.bus ≡ bus) × (end ≡ Stopped Ma) × (new.regs ≡ stop_with Ma (after_bytes phase left new.memory old.regs))) (Done memory es old end new) (nat_eq left 0) m
      (λ e x. record { is = x.1; memory_is = q; dsp_is = ap (λ (r : Regs). r.dsp) x.2; rest = f x.0 })
      (λ e x. let y : nat_eq left 0 ≡ true = eq-eqb left 0 z in absurd cc)

  -- ATN that isn't named stays
  stays : (named : Bool) (es : List Event) (old new : B) → named ≡ false → Answers moves es P old → ReleasesAtn moves named old new → Answers moves es P new
  stays true es old new e a r = absurd cc
  stays false es old new e a r = rw r a

  -- bytes of a phase out of the initiator
  pub sent : (phase : ℕ) (bytes : List ℕ) (es more : List Event) (old : Chip B) (end : StepEnd) (new : Chip B) → nat_eq (phase % 2) 1 ≡ false → old.regs.dbc ≡ length bytes →
      ((i : ℕ) → i < length bytes → get_or old.memory (old.regs.dnad + i) 0 ≡ get_or bytes i 0) → Answers moves (outs bytes es) P old.bus →
      ((bus : B) → Answers moves es P bus → ReleasesAtn moves (nat_eq phase 6) bus new.bus → Answers moves more P new.bus) → Moves moves phase old end new → Done old.memory more old end new
  sent phase bytes es more old end new odd n h a f t =
      by_bool (TakesIn moves (nat_eq phase 7) false old.regs.dbc old.memory old.regs.dnad old.bus t.left new.memory t.bus) (GoesOut moves old.regs.dbc old.memory old.regs.dnad old.bus t.left t.bus × (new.memory ≡ old.memory)) (Done old.memory more old end new) (nat_eq (phase % 2) 1) t.carries
      (λ e x. absurd cc)
      (λ e x.
      let g : GoesOut moves (length bytes) old.memory old.regs.dnad old.bus t.left t.bus = rw n at x.0 in
      let w : (t.left ≡ 0) × Answers moves es P t.bus = went_out bytes es old.memory old.regs.dnad old.bus t.left t.bus h a g in
      finished phase t.left old.memory more old t.bus end new w.0 x.1 (f t.bus w.1) t.finishes)

  -- bytes of a phase into the initiator, but messages
  pub taken : (phase : ℕ) (bytes : List ℕ) (es : List Event) (old : Chip B) (end : StepEnd) (new : Chip B) → nat_eq (phase % 2) 1 ≡ true → nat_eq phase 7 ≡ false → nat_eq phase 6 ≡ false → old.regs.dbc ≡ length bytes →
      Answers moves (ins bytes es) P old.bus → Moves moves phase old end new → Done (put_bytes old.memory old.regs.dnad bytes) es old end new
  taken phase bytes es old end new odd seven six n a t =
      by_bool (TakesIn moves (nat_eq phase 7) false old.regs.dbc old.memory old.regs.dnad old.bus t.left new.memory t.bus) (GoesOut moves old.regs.dbc old.memory old.regs.dnad old.bus t.left t.bus × (new.memory ≡ old.memory)) (Done (put_bytes old.memory old.regs.dnad bytes) es old end new) (nat_eq (phase % 2) 1) t.carries
      (λ e x.
      let g : TakesIn moves false false (length bytes) old.memory old.regs.dnad old.bus t.left new.memory t.bus = rw (seven, n) at x in
      let w : Came bytes es old.memory old.regs.dnad t.left new.memory t.bus = came_in bytes es false old.memory old.regs.dnad old.bus t.left new.memory t.bus a g in
      finished phase t.left (put_bytes old.memory old.regs.dnad bytes) es old t.bus end new w.all w.memory (stays (nat_eq phase 6) es t.bus new.bus six w.rest) t.finishes)
      (λ e x. absurd cc)

  -- one byte of a message into the initiator
  pub taken_message : (b : ℕ) (es : List Event) (old : Chip B) (end : StepEnd) (new : Chip B) → old.regs.dbc ≡ suc zero →
      Answers moves (ByteIn (Some b) ∷ es) P old.bus → Moves moves 7 old end new → Done (put_bytes old.memory old.regs.dnad (b ∷ [])) es old end new
  taken_message b es old end new n a t =
      let g : TakesIn moves true false (suc zero) old.memory old.regs.dnad old.bus t.left new.memory t.bus = rw n at t.carries in
      let w : Came (b ∷ []) es old.memory old.regs.dnad t.left new.memory t.bus = came_one b es old.memory old.regs.dnad old.bus t.left new.memory t.bus a g in
      finished 7 t.left (put_bytes old.memory old.regs.dnad (b ∷ [])) es old t.bus end new w.all w.memory (stays false es t.bus new.bus refl w.rest) t.finishes
