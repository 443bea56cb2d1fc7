-- The ten steps of the straight script over a bus that answers them: it goes through.
use Rattle.std.proofs.Common.{◌≡◌, ℕ, pos, zero, suc, ◌+◌, ◌*◌, ◌/◌, ◌%◌, ◌<◌, ◌≤◌, ◌⊎◌, inl, inr, Bool, true, false, nat_le, List, [], ◌∷◌, ◌++◌, length, get_or, refl, sym, ap, ◌∙◌, arith, Option, Some, lit<, lit≤}
use Rattle.bench_words.specs.Memory.{word_at, put_bytes, put_word}
use Rattle.bench_words.proofs.Cells.{put_bytes-nil}
use Rattle.bench_words.proofs.MemoryLaws.{byte_outside, byte_inside}
use Rattle.scsi_words.specs.declared.phases.kinds.Phase.TheVariants.{DataIn, Command, Status, MsgOut, MsgIn}
use Rattle.scripts_ops.specs.declared.values.Op.{Op}
use Rattle.scripts_ops.specs.declared.values.Op.TheVariants.{Move, MoveFrom, Select, WaitDisconnect, Clear, Jump, Int}
use Rattle.scripts_ops.specs.declared.values.Condition.TheVariants as condition
use Rattle.chip_regs.specs.Registers.{stop_with, cause_of}
use Rattle.chip_regs.specs.declared.registers.Regs.{Regs}
use Rattle.chip_regs.specs.declared.registers.Cause.{Cause}
use Rattle.chip_regs.specs.declared.registers.Cause.TheVariants.{Sir, Iid}
use Rattle.chip_step.specs.Event as event
use Rattle.chip_step.specs.Event.{Event}
use Rattle.chip_step.specs.Chip.{Chip, Ends, Stops}
use Rattle.chip_step.specs.Addresses.{place_of}
use Rattle.chip_step.specs.Blocks.{BlockMoves, MovesBy, loaded}
use Rattle.chip_step.specs.Connection.{Clears, Waits, WaitsAt, Selects, SelectsBy, SettlesAs, with_table}
use Rattle.chip_step.specs.Transfers.{Transfers, TransfersAt, when_phase}
use Rattle.chip_step.specs.Instructions.{Does}
use Rattle.chip_step.specs.Step as step
use Rattle.chip_step.specs.Step.{after_fetch}
use Rattle.chip_step.specs.declared.scsi_bus.Settled.{Settled}
use Rattle.chip_step.specs.declared.scsi_bus.Settled.TheVariants.{Selected, Reselected, TimedOut}
use Rattle.chip_step.specs.declared.outcome.StepEnd.{StepEnd}
use Rattle.chip_step.specs.declared.outcome.StepEnd.TheVariants.{Ran, Stopped}
use Rattle.straight_run.specs.Opening.{table, script, words_from, put_words, cdb, laid, Opens}
use Rattle.straight_run.specs.Steps.{Steps, last, next, FromOpening}
use Rattle.straight_run.specs.Reading.{Answers, outs, ins, asks, beginning, ending, read_calls, status_calls, GoesThrough}
use Rattle.straight_run.proofs.LaidWords.{looked, length-put_words, put_words-append, put_words-one}
use Rattle.straight_run.proofs.Progress.{Going, Holds, IsKept, begins, made_at, next_at, step_on, entry, holds_0, holds_1, holds_2, holds_3, holds_4, holds_5, holds_6, holds_7, holds_8, holds_9}
use Rattle.straight_run.proofs.BusAnswers as answering
use Rattle.straight_run.proofs.BusAnswers.{Begins, Done, Shows, by_bool}

-- the message and the CDB in memory
pub record HasMessageAndCdb (lba : ℕ) (m : List ℕ) : Type 0 where
  pub message : (i : ℕ) → i < 3 → get_or m (0x100e0 + i) 0 ≡ get_or (0xc0 ∷ 0x20 ∷ 0 ∷ []) i 0
  pub command : (i : ℕ) → i < 10 → get_or m (0x100f0 + i) 0 ≡ get_or (cdb lba) i 0

-- IDENTIFY and a simple tag, and the word that has them
abbrev identify : List ℕ
identify = 0xc0 ∷ 0x20 ∷ 0 ∷ []

abbrev message_bytes : List ℕ
message_bytes = 0xc0 ∷ 0x20 ∷ 0 ∷ 0 ∷ []

message_word : (i : ℕ) → i < 3 → get_or message_bytes i 0 ≡ get_or identify i 0
message_word zero h = refl
message_word (suc zero) h = refl
message_word (suc (suc zero)) h = refl
message_word (suc (suc (suc i))) h = absurd (omega arith)

-- the table but its last word, the message
abbrev front_table : List (ℕ × ℕ)
front_table =
    words_from 0 script ++
    (0x10000, 0x60) ∷ (0x10004, 0x128) ∷ (0x10008, 0x338) ∷ (0x1000c, 0x338) ∷ (0x10014, 0xff) ∷ (0x1001c, 0x1c0) ∷
    (0x10020, 3) ∷ (0x10024, 0x100e0) ∷ (0x10028, 10) ∷ (0x1002c, 0x100f0) ∷ (0x10030, 1) ∷ (0x10034, 0x10014) ∷
    (0x10040, 0x200) ∷ (0x10044, 0x200000) ∷ []

laid_message : (z : List ℕ) (i : ℕ) → length z ≡ 4194304 → i < 3 → get_or (put_words z table) (0x100e0 + i) 0 ≡ get_or (0xc0 ∷ 0x20 ∷ 0 ∷ []) i 0
unfolding put_word
laid_message z i s h =
    let front : List ℕ = put_words z front_table in
    let size : length front ≡ 4194304 = length-put_words z front_table ∙ s in
    let whole : put_words z table ≡ put_word front 0x100e0 0x20c0 = put_words-append z front_table ((0x100e0, 0x20c0) ∷ []) ∙ put_words-one front 0x100e0 0x20c0 in
    ap (λ (m : List ℕ). get_or m (0x100e0 + i) 0) whole
    ∙ byte_inside front 0x100e0 i (0xc0 ∷ 0x20 ∷ 0 ∷ 0 ∷ []) (rw size (lit≤ tt)) (omega arith)
    ∙ message_word i h

before_cdb : (i : ℕ) → i < 3 → (0x100e0 + i < 0x100f0) ⊎ (0x100fa ≤ 0x100e0 + i)
before_cdb i h = inl (omega arith)

has_message_and_cdb : (lba : ℕ) (z : List ℕ) → length z ≡ 4194304 → HasMessageAndCdb lba (laid lba z)
has_message_and_cdb lba z s =
    let base : List ℕ = put_words z table in
    let size : length base ≡ 4194304 = length-put_words z table ∙ s in
    record {
      message = λ i h. byte_outside base 0x100f0 (0x100e0 + i) (cdb lba) (before_cdb i h) ∙ laid_message z i s h;
      command = λ i h. byte_inside base 0x100f0 i (cdb lba) (rw size (lit≤ tt)) h;
    }

four : (m : List ℕ) (d : ℕ) → length m ≡ 4194304 → d ≡ 0x10000 → place_of m d (pos 0x18) 4 ≡ Some 0x10018
unfolding place_of
four m d s e = rw (e, s) refl

no_data : (m : List ℕ) (status : ℕ) (new : List ℕ) → new ≡ put_bytes (put_bytes m 0x10014 (status ∷ [])) 0x1010 (0 ∷ []) → new ≡ put_bytes (put_bytes (put_bytes m 0x200000 []) 0x10014 (status ∷ [])) 0x1010 (0 ∷ [])
no_data m status new e = e ∙ ap (λ (x : List ℕ). put_bytes (put_bytes x 0x10014 (status ∷ [])) 0x1010 (0 ∷ [])) (sym (put_bytes-nil m 0x200000))

not_both : (b : Bool) → b ≡ true → b ≡ false → ⊥
not_both b e f = cc

module _ {B : Type 0} (moves : B → Event → B → Type 0) (P : B → Type 0) where
  -- after n steps the chip is at the k-th place, with this memory, and the bus has these answers left
  pub record At (n k : ℕ) (m : List ℕ) (es : List Event) (chip : Chip B) : Type 0 where
    pub going : Going n chip.memory chip.regs
    pub dsp : chip.regs.dsp ≡ 8 * k
    pub memory_is : chip.memory ≡ m
    pub rest : Answers moves es P chip.bus

  pub record Went (n k : ℕ) (m : List ℕ) (es : List Event) (end : StepEnd) (new : Chip B) : Type 0 where
    pub is : end ≡ Ran
    pub at : At n k m es new

  went : (n k : ℕ) (m : List ℕ) (es : List Event) (old : Chip B) (end : StepEnd) (new : Chip B) → Going n old.memory old.regs → step.ChipStep moves 0 old end new → end ≡ Ran → new.regs.dsp ≡ 8 * k → new.memory ≡ m → Answers moves es P new.bus → Went (suc n) k m es end new
  went n k m es old end new g r e d q a =
      let on : step.ChipStep moves 0 old Ran new = rw e at r in
      record { is = e; at = record { going = step_on moves n old new g on; dsp = d; memory_is = q; rest = a } }

  -- a move by an entry of the block
  entered : (n o count from phase : ℕ) (old : Chip B) (end : StepEnd) (new : Chip B) → Going n old.memory old.regs → nat_le (0x10000 + o + 8) 4194304 ≡ true → IsKept (0x10000 + o) → IsKept (0x10000 + o + 4) →
      (0x10000 + o) % 4 ≡ 0 → (0x10000 + o + 4) % 4 ≡ 0 → looked table (0x10000 + o) 0 ≡ count → looked table (0x10000 + o + 4) 0 ≡ from → count < 16777216 →
      Does moves 0 (MoveFrom (pos o) phase) old (after_fetch old) end new → BlockMoves moves 0 phase (loaded count from (after_fetch old)) end new
  entered n o count from phase old end new g fits k0 k1 m0 m1 l0 l1 small d =
      let m : List ℕ = old.memory in
      let place : place_of m old.regs.dsa (pos o) 8 ≡ Some (0x10000 + o) = entry m o old.regs.dsa g.size g.dsa fits in
      let by : MovesBy moves 0 (Some (0x10000 + o)) phase (after_fetch old) end new = rw place at d in
      let from_is : word_at m (0x10000 + o + 4) ≡ from = g.words (0x10000 + o + 4) m1 k1 ∙ l1 in
      let count_is : word_at m (0x10000 + o) % 16777216 ≡ count = ap (λ (x : ℕ). x % 16777216) (g.words (0x10000 + o) m0 k0 ∙ l0) ∙ omega arith in
      rw (from_is, count_is) at by

  -- 0x00 SELECT
  settled : (s : Settled) (w : ℕ) (es : List Event) (old : Chip B) (end : StepEnd) (new : Chip B) → w ≡ 0 → Answers moves (event.Select 0 0 Selected ∷ event.SetAtn true ∷ es) P old.bus → SettlesAs moves 0 s 0x48 (with_table w old.regs) old end new →
      (end ≡ Ran) × (new.memory ≡ old.memory) × (new.regs.dsp ≡ old.regs.dsp) × Answers moves es P new.bus
  settled Selected w es old end new z a s =
      let c : event.Select (w / 65536 % 256) 0 TimedOut ≡ event.Select 0 0 TimedOut = rw z refl in
      let r : (event.Select (w / 65536 % 256) 0 Selected ≡ event.Select 0 0 Selected) × Answers moves (event.SetAtn true ∷ es) P s.0 = a (event.Select (w / 65536 % 256) 0 Selected) s.0 c s.1 in
      let t : (event.SetAtn true ≡ event.SetAtn true) × Answers moves es P new.bus = r.1 (event.SetAtn true) new.bus refl s.2 in
      (s.3.is, s.3.memory_is, ap (λ (x : Regs). x.dsp) s.3.regs_are, t.1)
  settled (Reselected by) w es old end new z a s =
      let c : event.Select (w / 65536 % 256) 0 TimedOut ≡ event.Select 0 0 TimedOut = rw z refl in
      let r : (event.Select (w / 65536 % 256) 0 (Reselected by) ≡ event.Select 0 0 Selected) × Answers moves (event.SetAtn true ∷ es) P new.bus = a (event.Select (w / 65536 % 256) 0 (Reselected by)) new.bus c s.0 in
      let e : event.Select (w / 65536 % 256) 0 (Reselected by) ≡ event.Select 0 0 Selected = r.0 in
      absurd cc
  settled TimedOut w es old end new z a s =
      let c : event.Select (w / 65536 % 256) 0 TimedOut ≡ event.Select 0 0 TimedOut = rw z refl in
      let r : (event.Select (w / 65536 % 256) 0 TimedOut ≡ event.Select 0 0 Selected) × Answers moves (event.SetAtn true ∷ es) P new.bus = a (event.Select (w / 65536 % 256) 0 TimedOut) new.bus c s.0 in
      let e : event.Select (w / 65536 % 256) 0 TimedOut ≡ event.Select 0 0 Selected = r.0 in
      absurd cc

  selects : (m : List ℕ) (es : List Event) (old : Chip B) (end : StepEnd) (new : Chip B) → old.regs.con ≡ false → At 0 0 m (event.Select 0 0 Selected ∷ event.SetAtn true ∷ es) old → step.ChipStep moves 0 old end new → Went 1 1 m es end new
  selects m es old end new off a r =
      let g : Going 0 old.memory old.regs = a.going in
      let d : Selects moves 0 (pos 0x18) 0x48 (after_fetch old) end new = made_at moves 0 0x00 (Select (pos 0x18) 0x48) old end new g a.dsp holds_0 r in
      let by : SelectsBy moves 0 (place_of old.memory old.regs.dsa (pos 0x18) 4) 0x48 (after_fetch old) end new =
      by_bool (Stops Iid (after_fetch old) end new) (SelectsBy moves 0 (place_of old.memory old.regs.dsa (pos 0x18) 4) 0x48 (after_fetch old) end new) (SelectsBy moves 0 (place_of old.memory old.regs.dsa (pos 0x18) 4) 0x48 (after_fetch old) end new) old.regs.con d
      (λ e x. absurd (not_both old.regs.con e off)) (λ e x. x) in
      let s : SelectsBy moves 0 (Some 0x10018) 0x48 (after_fetch old) end new = rw (four old.memory old.regs.dsa g.size g.dsa) at by in
      let w : word_at old.memory 0x10018 ≡ 0 = g.words 0x10018 refl (inr (lit≤ tt, lit≤ tt)) in
      let x : (end ≡ Ran) × (new.memory ≡ old.memory) × (new.regs.dsp ≡ (after_fetch old).regs.dsp) × Answers moves es P new.bus = settled s.0 (word_at old.memory 0x10018) es (after_fetch old) end new w a.rest s.1 in
      went 0 1 m es old end new g r x.0 (x.2 ∙ next_at 0 0x00 (Select (pos 0x18) 0x48) old g a.dsp holds_0) (x.1 ∙ a.memory_is) x.3

  -- a move that is done leads one place further
  done : (n k a : ℕ) (op : Op) (m m' : List ℕ) (es : List Event) (old from : Chip B) (end : StepEnd) (new : Chip B) → Going n old.memory old.regs → old.regs.dsp ≡ a → Holds a op → a + 8 ≡ 8 * k → step.ChipStep moves 0 old end new →
      from.regs.dsp ≡ (after_fetch old).regs.dsp → m' ≡ m → Done moves P m' es from end new → Went (suc n) k m es end new
  done n k a op m m' es old from end new g e h p r f q d =
      went n k m es old end new g r d.is (d.dsp_is ∙ f ∙ next_at n a op old g e h ∙ p) (d.memory_is ∙ q) d.rest

  -- 0x08 the message
  tells : (n : ℕ) (m : List ℕ) (es : List Event) (old : Chip B) (end : StepEnd) (new : Chip B) → ((i : ℕ) → i < 3 → get_or m (0x100e0 + i) 0 ≡ get_or (0xc0 ∷ 0x20 ∷ 0 ∷ []) i 0) →
      At n 1 m (asks MsgOut (outs (0xc0 ∷ 0x20 ∷ 0 ∷ []) (event.SetAtn false ∷ es))) old → step.ChipStep moves 0 old end new → Went (suc n) 2 m es end new
  tells n m es old end new t a r =
      let g : Going n old.memory old.regs = a.going in
      let from : Chip B = loaded 3 0x100e0 (after_fetch old) in
      let b : BlockMoves moves 0 6 from end new = entered n 0x20 3 0x100e0 6 old end new g refl (inr (lit≤ tt, lit≤ tt)) (inr (lit≤ tt, lit≤ tt)) refl refl refl refl (lit< tt) (made_at moves n 0x08 (MoveFrom (pos 0x20) 6) old end new g a.dsp holds_1 r) in
      let s : Begins moves P MsgOut (outs (0xc0 ∷ 0x20 ∷ 0 ∷ []) (event.SetAtn false ∷ es)) from end new = answering.begins moves P MsgOut (outs (0xc0 ∷ 0x20 ∷ 0 ∷ []) (event.SetAtn false ∷ es)) from end new refl (rw g.size refl) a.rest b in
      let d : Done moves P old.memory es (record from { bus = s.bus }) end new = answering.sent moves P 6 (0xc0 ∷ 0x20 ∷ 0 ∷ []) (event.SetAtn false ∷ es) es (record from { bus = s.bus }) end new refl refl
      (λ i h. ap (λ (x : List ℕ). get_or x (0x100e0 + i) 0) a.memory_is ∙ t i h) s.rest (λ bus x y. (x (event.SetAtn false) new.bus refl y).1) s.moved in
      done n 2 0x08 (MoveFrom (pos 0x20) 6) m old.memory es old (record from { bus = s.bus }) end new g a.dsp holds_1 refl r refl a.memory_is d

  -- 0x10 the CDB
  commands : (n lba : ℕ) (m : List ℕ) (es : List Event) (old : Chip B) (end : StepEnd) (new : Chip B) → ((i : ℕ) → i < 10 → get_or m (0x100f0 + i) 0 ≡ get_or (cdb lba) i 0) →
      At n 2 m (asks Command (outs (cdb lba) es)) old → step.ChipStep moves 0 old end new → Went (suc n) 3 m es end new
  commands n lba m es old end new t a r =
      let g : Going n old.memory old.regs = a.going in
      let from : Chip B = loaded 10 0x100f0 (after_fetch old) in
      let b : BlockMoves moves 0 2 from end new = entered n 0x28 10 0x100f0 2 old end new g refl (inr (lit≤ tt, lit≤ tt)) (inr (lit≤ tt, lit≤ tt)) refl refl refl refl (lit< tt) (made_at moves n 0x10 (MoveFrom (pos 0x28) 2) old end new g a.dsp holds_2 r) in
      let s : Begins moves P Command (outs (cdb lba) es) from end new = answering.begins moves P Command (outs (cdb lba) es) from end new refl (rw g.size refl) a.rest b in
      let d : Done moves P old.memory es (record from { bus = s.bus }) end new = answering.sent moves P 2 (cdb lba) es es (record from { bus = s.bus }) end new refl refl
      (λ i h. ap (λ (x : List ℕ). get_or x (0x100f0 + i) 0) a.memory_is ∙ t i h) s.rest (λ bus x y. rw y x) s.moved in
      done n 3 0x10 (MoveFrom (pos 0x28) 2) m old.memory es old (record from { bus = s.bus }) end new g a.dsp holds_2 refl r refl a.memory_is d

  -- 0x18 whether data comes
  chosen : (decision : Option Bool) (t : Bool) (old : Chip B) (end : StepEnd) (new : Chip B) → decision ≡ Some t → TransfersAt decision Ran (record old.regs { dsp = 0x28 }) old end new → TransfersAt (Some t) Ran (record old.regs { dsp = 0x28 }) old end new
  chosen decision t old end new e d = rw e at d

  finds_data : (n : ℕ) (m : List ℕ) (es : List Event) (old : Chip B) (end : StepEnd) (new : Chip B) → At n 3 m (asks DataIn es) old → step.ChipStep moves 0 old end new → Went (suc n) 4 m es end new
  finds_data n m es old end new a r =
      let g : Going n old.memory old.regs = a.going in
      let t : Transfers moves 0 (condition.Phase true true 1) Ran (record (after_fetch old).regs { dsp = 0x28 }) (after_fetch old) end new = made_at moves n 0x18 (Jump (condition.Phase true true 1) 0x28) old end new g a.dsp holds_3 r in
      let s : Shows moves P DataIn es t.decides.0 new.bus = answering.asked moves P DataIn es t.decides.0 old.bus new.bus a.rest t.decides.1 in
      let e : t.decision ≡ Some false = t.decides.2 ∙ ap (when_phase true 1) s.is in
      let x : Ends Ran old.memory (after_fetch old).regs end new = chosen t.decision false (after_fetch old) end new e t.transfers in
      went n 4 m es old end new g r x.is (ap (λ (y : Regs). y.dsp) x.regs_are ∙ next_at n 0x18 (Jump (condition.Phase true true 1) 0x28) old g a.dsp holds_3) (x.memory_is ∙ a.memory_is) s.rest

  finds_status : (n : ℕ) (m : List ℕ) (es : List Event) (old : Chip B) (end : StepEnd) (new : Chip B) → At n 3 m (asks Status es) old → step.ChipStep moves 0 old end new → Went (suc n) 5 m es end new
  finds_status n m es old end new a r =
      let g : Going n old.memory old.regs = a.going in
      let t : Transfers moves 0 (condition.Phase true true 1) Ran (record (after_fetch old).regs { dsp = 0x28 }) (after_fetch old) end new = made_at moves n 0x18 (Jump (condition.Phase true true 1) 0x28) old end new g a.dsp holds_3 r in
      let s : Shows moves P Status es t.decides.0 new.bus = answering.asked moves P Status es t.decides.0 old.bus new.bus a.rest t.decides.1 in
      let e : t.decision ≡ Some true = t.decides.2 ∙ ap (when_phase true 1) s.is in
      let x : Ends Ran old.memory (record (after_fetch old).regs { dsp = 0x28 }) end new = chosen t.decision true (after_fetch old) end new e t.transfers in
      went n 5 m es old end new g r x.is (ap (λ (y : Regs). y.dsp) x.regs_are) (x.memory_is ∙ a.memory_is) s.rest

  -- 0x20 the data
  reads : (n : ℕ) (bytes : List ℕ) (m : List ℕ) (es : List Event) (old : Chip B) (end : StepEnd) (new : Chip B) → length bytes ≡ 512 → At n 4 m (asks DataIn (ins bytes es)) old → step.ChipStep moves 0 old end new → Went (suc n) 5 (put_bytes m 0x200000 bytes) es end new
  reads n bytes m es old end new len a r =
      let g : Going n old.memory old.regs = a.going in
      let from : Chip B = loaded 512 0x200000 (after_fetch old) in
      let b : BlockMoves moves 0 1 from end new = entered n 0x40 512 0x200000 1 old end new g refl (inr (lit≤ tt, lit≤ tt)) (inr (lit≤ tt, lit≤ tt)) refl refl refl refl (lit< tt) (made_at moves n 0x20 (MoveFrom (pos 0x40) 1) old end new g a.dsp holds_4 r) in
      let s : Begins moves P DataIn (ins bytes es) from end new = answering.begins moves P DataIn (ins bytes es) from end new refl (rw g.size refl) a.rest b in
      let d : Done moves P (put_bytes old.memory 0x200000 bytes) es (record from { bus = s.bus }) end new = answering.taken moves P 1 bytes es (record from { bus = s.bus }) end new refl refl refl (sym len) s.rest s.moved in
      done n 5 0x20 (MoveFrom (pos 0x40) 1) (put_bytes m 0x200000 bytes) (put_bytes old.memory 0x200000 bytes) es old (record from { bus = s.bus }) end new g a.dsp holds_4 refl r refl (ap (λ (x : List ℕ). put_bytes x 0x200000 bytes) a.memory_is) d

  -- 0x28 the status
  takes_status : (n status : ℕ) (m : List ℕ) (es : List Event) (old : Chip B) (end : StepEnd) (new : Chip B) → At n 5 m (asks Status (event.ByteIn (Some status) ∷ es)) old → step.ChipStep moves 0 old end new → Went (suc n) 6 (put_bytes m 0x10014 (status ∷ [])) es end new
  takes_status n status m es old end new a r =
      let g : Going n old.memory old.regs = a.going in
      let from : Chip B = loaded 1 0x10014 (after_fetch old) in
      let b : BlockMoves moves 0 3 from end new = entered n 0x30 1 0x10014 3 old end new g refl (inr (lit≤ tt, lit≤ tt)) (inr (lit≤ tt, lit≤ tt)) refl refl refl refl (lit< tt) (made_at moves n 0x28 (MoveFrom (pos 0x30) 3) old end new g a.dsp holds_5 r) in
      let s : Begins moves P Status (ins (status ∷ []) es) from end new = answering.begins moves P Status (ins (status ∷ []) es) from end new refl (rw g.size refl) a.rest b in
      let d : Done moves P (put_bytes old.memory 0x10014 (status ∷ [])) es (record from { bus = s.bus }) end new = answering.taken moves P 3 (status ∷ []) es (record from { bus = s.bus }) end new refl refl refl refl s.rest s.moved in
      done n 6 0x28 (MoveFrom (pos 0x30) 3) (put_bytes m 0x10014 (status ∷ [])) (put_bytes old.memory 0x10014 (status ∷ [])) es old (record from { bus = s.bus }) end new g a.dsp holds_5 refl r refl (ap (λ (x : List ℕ). put_bytes x 0x10014 (status ∷ [])) a.memory_is) d

  -- 0x30 the message
  takes_message : (n b : ℕ) (m : List ℕ) (es : List Event) (old : Chip B) (end : StepEnd) (new : Chip B) → At n 6 m (asks MsgIn (event.ByteIn (Some b) ∷ es)) old → step.ChipStep moves 0 old end new → Went (suc n) 7 (put_bytes m 0x1010 (b ∷ [])) es end new
  takes_message n c m es old end new a r =
      let g : Going n old.memory old.regs = a.going in
      let from : Chip B = loaded 1 0x1010 (after_fetch old) in
      let b : BlockMoves moves 0 7 from end new = made_at moves n 0x30 (Move 1 0x1010 7) old end new g a.dsp holds_6 r in
      let s : Begins moves P MsgIn (event.ByteIn (Some c) ∷ es) from end new = answering.begins moves P MsgIn (event.ByteIn (Some c) ∷ es) from end new refl (rw g.size refl) a.rest b in
      let d : Done moves P (put_bytes old.memory 0x1010 (c ∷ [])) es (record from { bus = s.bus }) end new = answering.taken_message moves P c es (record from { bus = s.bus }) end new refl s.rest s.moved in
      done n 7 0x30 (Move 1 0x1010 7) (put_bytes m 0x1010 (c ∷ [])) (put_bytes old.memory 0x1010 (c ∷ [])) es old (record from { bus = s.bus }) end new g a.dsp holds_6 refl r refl (ap (λ (x : List ℕ). put_bytes x 0x1010 (c ∷ [])) a.memory_is) d

  -- 0x38 CLEAR ACK
  clears : (n : ℕ) (m : List ℕ) (es : List Event) (old : Chip B) (end : StepEnd) (new : Chip B) → At n 7 m (event.ClearAck ∷ es) old → step.ChipStep moves 0 old end new → Went (suc n) 8 m es end new
  clears n m es old end new a r =
      let g : Going n old.memory old.regs = a.going in
      let c : Clears moves true false (after_fetch old) end new = made_at moves n 0x38 (Clear true false) old end new g a.dsp holds_7 r in
      let x : Answers moves (event.ClearAck ∷ es) P c.mid = rw c.atn_first a.rest in
      went n 8 m es old end new g r c.ends.is (ap (λ (y : Regs). y.dsp) c.ends.regs_are ∙ next_at n 0x38 (Clear true false) old g a.dsp holds_7) (c.ends.memory_is ∙ a.memory_is) (x event.ClearAck new.bus refl c.ack_then).1

  -- 0x40 WAIT DISCONNECT
  leaves : (n : ℕ) (m : List ℕ) (es : List Event) (old : Chip B) (end : StepEnd) (new : Chip B) → At n 8 m (event.Leave 0 true ∷ es) old → step.ChipStep moves 0 old end new → Went (suc n) 9 m es end new
  leaves n m es old end new a r =
      let g : Going n old.memory old.regs = a.going in
      let w : Waits moves 0 (after_fetch old) end new = made_at moves n 0x40 WaitDisconnect old end new g a.dsp holds_8 r in
      let x : (event.Leave 0 w.0 ≡ event.Leave 0 true) × Answers moves es P new.bus = a.rest (event.Leave 0 w.0) new.bus refl w.1 in
      let e : event.Leave 0 w.0 ≡ event.Leave 0 true = x.0 in
      let gone : w.0 ≡ true = cc in
      let f : WaitsAt true (after_fetch old) end new = rw gone at w.2 in
      went n 9 m es old end new g r f.is (ap (λ (y : Regs). y.dsp) f.regs_are ∙ next_at n 0x40 WaitDisconnect old g a.dsp holds_8) (f.memory_is ∙ a.memory_is) x.1

  -- 0x48 INT 7
  pub record Over (m : List ℕ) (end : StepEnd) (new : Chip B) : Type 0 where
    pub is : end ≡ Stopped (Sir 7)
    pub memory_is : new.memory ≡ m
    pub cause_is : cause_of new.regs ≡ Some (Sir 7)
    pub bus_is : P new.bus

  stops : (n : ℕ) (m : List ℕ) (old : Chip B) (end : StepEnd) (new : Chip B) → At n 9 m [] old → step.ChipStep moves 0 old end new → Over m end new
  stops n m old end new a r =
      let t : Transfers moves 0 condition.Always (Stopped (Sir 7)) (stop_with (Sir 7) (after_fetch old).regs) (after_fetch old) end new = made_at moves n 0x48 (Int condition.Always 7) old end new a.going a.dsp holds_9 r in
      let x : Ends (Stopped (Sir 7)) old.memory (stop_with (Sir 7) (after_fetch old).regs) end new = rw t.decides.0 at t.transfers in
      record { is = x.is; memory_is = x.memory_is ∙ a.memory_is; cause_is = ap cause_of x.regs_are; bus_is = rw t.decides.1 a.rest }

  -- the steps, from the last place back to the first
  pub record Ended (m : List ℕ) (new : Chip B) : Type 0 where
    pub memory_is : new.memory ≡ m
    pub cause_is : cause_of new.regs ≡ Some (Sir 7)
    pub bus_is : P new.bus

  not_over : (cause : Cause) → Stopped cause ≡ Ran → ⊥
  not_over cause e = cc

  from_9 : (n : ℕ) (m : List ℕ) (old new : Chip B) → At n 9 m [] old → Steps moves old new → Ended m new
  from_9 n m old new a (last cause r) = let o : Over m (Stopped cause) new = stops n m old (Stopped cause) new a r in record { memory_is = o.memory_is; cause_is = o.cause_is; bus_is = o.bus_is }
  from_9 n m old new a (next {mid = mid} r s) = let o : Over m Ran mid = stops n m old Ran mid a r in let e : Ran ≡ Stopped (Sir 7) = o.is in absurd cc

  from_8 : (n : ℕ) (m : List ℕ) (old new : Chip B) → At n 8 m (event.Leave 0 true ∷ []) old → Steps moves old new → Ended m new
  from_8 n m old new a (last cause r) = absurd (not_over cause (leaves n m [] old (Stopped cause) new a r).is)
  from_8 n m old new a (next {mid = mid} r s) = from_9 (suc n) m mid new (leaves n m [] old Ran mid a r).at s

  from_7 : (n : ℕ) (m : List ℕ) (old new : Chip B) → At n 7 m (event.ClearAck ∷ event.Leave 0 true ∷ []) old → Steps moves old new → Ended m new
  from_7 n m old new a (last cause r) = absurd (not_over cause (clears n m (event.Leave 0 true ∷ []) old (Stopped cause) new a r).is)
  from_7 n m old new a (next {mid = mid} r s) = from_8 (suc n) m mid new (clears n m (event.Leave 0 true ∷ []) old Ran mid a r).at s

  from_6 : (n : ℕ) (m : List ℕ) (old new : Chip B) → At n 6 m (asks MsgIn (event.ByteIn (Some 0) ∷ event.ClearAck ∷ event.Leave 0 true ∷ [])) old → Steps moves old new → Ended (put_bytes m 0x1010 (0 ∷ [])) new
  from_6 n m old new a (last cause r) = absurd (not_over cause (takes_message n 0 m (event.ClearAck ∷ event.Leave 0 true ∷ []) old (Stopped cause) new a r).is)
  from_6 n m old new a (next {mid = mid} r s) = from_7 (suc n) (put_bytes m 0x1010 (0 ∷ [])) mid new (takes_message n 0 m (event.ClearAck ∷ event.Leave 0 true ∷ []) old Ran mid a r).at s

  from_5 : (n status : ℕ) (m : List ℕ) (old new : Chip B) → At n 5 m (ending status) old → Steps moves old new → Ended (put_bytes (put_bytes m 0x10014 (status ∷ [])) 0x1010 (0 ∷ [])) new
  from_5 n status m old new a (last cause r) = absurd (not_over cause (takes_status n status m (asks MsgIn (event.ByteIn (Some 0) ∷ event.ClearAck ∷ event.Leave 0 true ∷ [])) old (Stopped cause) new a r).is)
  from_5 n status m old new a (next {mid = mid} r s) = from_6 (suc n) (put_bytes m 0x10014 (status ∷ [])) mid new (takes_status n status m (asks MsgIn (event.ByteIn (Some 0) ∷ event.ClearAck ∷ event.Leave 0 true ∷ [])) old Ran mid a r).at s

  from_4 : (n status : ℕ) (bytes m : List ℕ) (old new : Chip B) → length bytes ≡ 512 → At n 4 m (asks DataIn (ins bytes (ending status))) old → Steps moves old new → Ended (put_bytes (put_bytes (put_bytes m 0x200000 bytes) 0x10014 (status ∷ [])) 0x1010 (0 ∷ [])) new
  from_4 n status bytes m old new len a (last cause r) = absurd (not_over cause (reads n bytes m (ending status) old (Stopped cause) new len a r).is)
  from_4 n status bytes m old new len a (next {mid = mid} r s) = from_5 (suc n) status (put_bytes m 0x200000 bytes) mid new (reads n bytes m (ending status) old Ran mid len a r).at s

  from_3 : (n status : ℕ) (bytes m : List ℕ) (old new : Chip B) → length bytes ≡ 512 → At n 3 m (asks DataIn (asks DataIn (ins bytes (ending status)))) old → Steps moves old new → Ended (put_bytes (put_bytes (put_bytes m 0x200000 bytes) 0x10014 (status ∷ [])) 0x1010 (0 ∷ [])) new
  from_3 n status bytes m old new len a (last cause r) = absurd (not_over cause (finds_data n m (asks DataIn (ins bytes (ending status))) old (Stopped cause) new a r).is)
  from_3 n status bytes m old new len a (next {mid = mid} r s) = from_4 (suc n) status bytes m mid new len (finds_data n m (asks DataIn (ins bytes (ending status))) old Ran mid a r).at s

  from_3_status : (n status : ℕ) (m : List ℕ) (old new : Chip B) → At n 3 m (asks Status (ending status)) old → Steps moves old new → Ended (put_bytes (put_bytes m 0x10014 (status ∷ [])) 0x1010 (0 ∷ [])) new
  from_3_status n status m old new a (last cause r) = absurd (not_over cause (finds_status n m (ending status) old (Stopped cause) new a r).is)
  from_3_status n status m old new a (next {mid = mid} r s) = from_5 (suc n) status m mid new (finds_status n m (ending status) old Ran mid a r).at s

  -- the first three steps, and then what the calls that are left lead to
  from_2 : (n lba : ℕ) (m : List ℕ) (es : List Event) (X : Type 0) (old new : Chip B) → HasMessageAndCdb lba m → ((mid : Chip B) → At (suc n) 3 m es mid → Steps moves mid new → X) → At n 2 m (asks Command (outs (cdb lba) es)) old → Steps moves old new → X
  from_2 n lba m es X old new t f a (last cause r) = absurd (not_over cause (commands n lba m es old (Stopped cause) new t.command a r).is)
  from_2 n lba m es X old new t f a (next {mid = mid} r s) = f mid (commands n lba m es old Ran mid t.command a r).at s

  from_1 : (n lba : ℕ) (m : List ℕ) (es : List Event) (X : Type 0) (old new : Chip B) → HasMessageAndCdb lba m → ((mid : Chip B) → At (suc (suc n)) 3 m es mid → Steps moves mid new → X) → At n 1 m (asks MsgOut (outs (0xc0 ∷ 0x20 ∷ 0 ∷ []) (event.SetAtn false ∷ asks Command (outs (cdb lba) es)))) old → Steps moves old new → X
  from_1 n lba m es X old new t f a (last cause r) = absurd (not_over cause (tells n m (asks Command (outs (cdb lba) es)) old (Stopped cause) new t.message a r).is)
  from_1 n lba m es X old new t f a (next {mid = mid} r s) = from_2 (suc n) lba m es X mid new t f (tells n m (asks Command (outs (cdb lba) es)) old Ran mid t.message a r).at s

  from_0 : (lba : ℕ) (m : List ℕ) (es : List Event) (X : Type 0) (old new : Chip B) → old.regs.con ≡ false → HasMessageAndCdb lba m → ((mid : Chip B) → At 3 3 m es mid → Steps moves mid new → X) → At 0 0 m (beginning lba es) old → Steps moves old new → X
  from_0 lba m es X old new off t f a (last cause r) = absurd (not_over cause (selects m (asks MsgOut (outs (0xc0 ∷ 0x20 ∷ 0 ∷ []) (event.SetAtn false ∷ asks Command (outs (cdb lba) es)))) old (Stopped cause) new off a r).is)
  from_0 lba m es X old new off t f a (next {mid = mid} r s) = from_1 1 lba m es X mid new t f (selects m (asks MsgOut (outs (0xc0 ∷ 0x20 ∷ 0 ∷ []) (event.SetAtn false ∷ asks Command (outs (cdb lba) es)))) old Ran mid off a r).at s

  opened : (lba : ℕ) (es : List Event) (chip : Chip B) (o : Opens lba chip) → Answers moves (beginning lba es) P chip.bus → At 0 0 (laid lba o.zero_memory) (beginning lba es) chip
  opened lba es chip o a = record { going = begins lba chip o; dsp = ap (λ (r : Regs). r.dsp) o.regs_are; memory_is = o.memory_is; rest = a }

  -- a read goes through, with its data
  pub read_goes : (lba : ℕ) (bytes : List ℕ) (status : ℕ) (bus : B) (new : Chip B) → FromOpening moves lba bus new → length bytes ≡ 512 → Answers moves (read_calls lba bytes status) P bus → GoesThrough lba bytes status P new
  read_goes lba bytes status bus new f len a =
      let o : Opens lba f.opening = f.opens in
      let z : List ℕ = o.zero_memory in
      let a' : Answers moves (read_calls lba bytes status) P f.opening.bus = rw f.bus_is a in
      let off : f.opening.regs.con ≡ false = ap (λ (r : Regs). r.con) o.regs_are in
      let e : Ended (put_bytes (put_bytes (put_bytes (laid lba z) 0x200000 bytes) 0x10014 (status ∷ [])) 0x1010 (0 ∷ [])) new =
      from_0 lba (laid lba z) (asks DataIn (asks DataIn (ins bytes (ending status)))) (Ended (put_bytes (put_bytes (put_bytes (laid lba z) 0x200000 bytes) 0x10014 (status ∷ [])) 0x1010 (0 ∷ [])) new) f.opening new off (has_message_and_cdb lba z o.zeros.size)
      (λ mid at s. from_3 3 status bytes (laid lba z) mid new len at s) (opened lba (asks DataIn (asks DataIn (ins bytes (ending status)))) f.opening o a') f.steps in
      record { zero_memory = z; zeros = o.zeros; memory_is = e.memory_is; cause_is = e.cause_is; bus_is = e.bus_is }

  -- so does one that ends with a status alone
  pub status_goes : (lba status : ℕ) (bus : B) (new : Chip B) → FromOpening moves lba bus new → Answers moves (status_calls lba status) P bus → GoesThrough lba [] status P new
  status_goes lba status bus new f a =
      let o : Opens lba f.opening = f.opens in
      let z : List ℕ = o.zero_memory in
      let a' : Answers moves (status_calls lba status) P f.opening.bus = rw f.bus_is a in
      let off : f.opening.regs.con ≡ false = ap (λ (r : Regs). r.con) o.regs_are in
      let e : Ended (put_bytes (put_bytes (laid lba z) 0x10014 (status ∷ [])) 0x1010 (0 ∷ [])) new =
      from_0 lba (laid lba z) (asks Status (ending status)) (Ended (put_bytes (put_bytes (laid lba z) 0x10014 (status ∷ [])) 0x1010 (0 ∷ [])) new) f.opening new off (has_message_and_cdb lba z o.zeros.size)
      (λ mid at s. from_3_status 3 status (laid lba z) mid new at s) (opened lba (asks Status (ending status)) f.opening o a') f.steps in
      record { zero_memory = z; zeros = o.zeros; memory_is = no_data (laid lba z) status new.memory e.memory_is; cause_is = e.cause_is; bus_is = e.bus_is }
