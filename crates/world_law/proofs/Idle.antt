-- A step of the chip that is idle changes nothing.
use Rattle.std.proofs.Common.{◌≡◌, ℕ, ℤ, ◌+◌, ◌%◌, Bool, true, false, nat_eq, nat_le, ◌&&◌, length, sym, ◌∙◌, Option, Some, None, MatchBool}
use Rattle.bench_words.specs.Memory.{word_at}
use Rattle.scsi_words.specs.Phases.{phase_code}
use Rattle.scsi_words.specs.declared.phases.kinds.Phase.{Phase}
use Rattle.scripts_ops.specs.declared.values.Op.{Op}
use Rattle.scripts_ops.specs.declared.values.Op.TheVariants.{Move, MoveFrom, Select, WaitDisconnect, WaitReselect, Set, Clear, FromSfbr, ToSfbr, Modify, Put, Jump, Call, Return, Int, IntFly, Nop, MoveMemory, Load, Store}
use Rattle.scripts_ops.specs.declared.values.Condition.{Condition}
use Rattle.chip_regs.specs.Registers.{stop_with}
use Rattle.chip_regs.specs.declared.registers.Regs.{Regs}
use Rattle.chip_regs.specs.declared.registers.Cause.{Cause}
use Rattle.chip_regs.specs.declared.registers.Cause.TheVariants.{Sir, Iid, Bf, Ma}
use Rattle.chip_step.specs.Event as event
use Rattle.chip_step.specs.Event.{Event}
use Rattle.chip_step.specs.Chip.{Chip, Becomes, Stops}
use Rattle.chip_step.specs.Addresses.{place_of, address_of, low_bits}
use Rattle.chip_step.specs.Blocks.{BlockMoves, AsksAndMoves, MovesAt, Moves, MovesBy, loaded, after_bytes, ReleasesAtn}
use Rattle.chip_step.specs.Connection.{Waits, Selects, SelectsBy, SettlesAs, Reselects, ReselectsBy, with_table}
use Rattle.chip_step.specs.Transfers.{Transfers, TransfersAt}
use Rattle.chip_step.specs.Memory.{LoadsAt, StoresAt, Copies, copied}
use Rattle.chip_step.specs.Instructions.{Does}
use Rattle.chip_step.specs.Step.{ChipStep, idle, unfetched, unspelled, does, after_fetch}
use Rattle.chip_step.specs.declared.scsi_bus.Settled.{Settled}
use Rattle.chip_step.specs.declared.scsi_bus.Settled.TheVariants.{Selected, Reselected, TimedOut}
use Rattle.chip_step.specs.declared.outcome.StepEnd.{StepEnd}
use Rattle.chip_step.specs.declared.outcome.StepEnd.TheVariants as ends

-- where the step is idle, the chip is as before it
abbrev Keeps : {B : Type 0} → Chip B → StepEnd → Chip B → Type 0
Keeps before end new = end ≡ ends.Idle → new ≡ before

ran : {B : Type 0} (before : Chip B) (end : StepEnd) (new : Chip B) → end ≡ ends.Ran → Keeps before end new
ran before end new e f = absurd cc

stopped : {B : Type 0} (c : Cause) (before : Chip B) (end : StepEnd) (new : Chip B) → end ≡ ends.Stopped c → Keeps before end new
stopped c before end new e f = absurd cc

by_bool : (P Q C : Type 0) (b : Bool) → MatchBool b P Q → (P → C) → (Q → C) → C
by_bool P Q C true h f g = f h
by_bool P Q C false h f g = g h

module _ {B : Type 0} (moves : B → Event → B → Type 0) (word : ℕ) (before : Chip B) where
  moved : (phase : ℕ) (old : Chip B) (end : StepEnd) (new : Chip B) → Moves moves phase old end new → Keeps before end new
  moved phase old end new t =
      let r : Regs = after_bytes phase t.left new.memory old.regs in
      by_bool (ReleasesAtn moves (nat_eq phase 6) t.bus new.bus × (end ≡ ends.Ran) × (new.regs ≡ r)) ((new.bus ≡ t.bus) × (end ≡ ends.Stopped Ma) × (new.regs ≡ stop_with Ma r))
      (Keeps before end new) (nat_eq t.left 0) t.finishes (λ f. ran before end new f.1) (λ f. stopped Ma before end new f.1)

  moved_at : (shown : Option Phase) (phase : ℕ) (old : Chip B) (bus : B) (end : StepEnd) (new : Chip B) → MovesAt moves word shown phase old bus end new → Keeps before end new
  moved_at None phase old bus end new m = stopped _ before end new m.ends.is
  moved_at (Some shown) phase old bus end new m =
      by_bool (Moves moves phase (record old { bus = bus }) end new) (Stops Ma (record old { bus = bus }) end new) (Keeps before end new) (nat_eq (phase_code shown) phase) m
      (λ x. moved phase (record old { bus = bus }) end new x) (λ x. stopped Ma before end new x.ends.is)

  block_moved : (phase : ℕ) (old : Chip B) (end : StepEnd) (new : Chip B) → BlockMoves moves word phase old end new → Keeps before end new
  block_moved phase old end new m =
      by_bool (Stops Iid old end new) (MatchBool (nat_le (old.regs.dnad + old.regs.dbc) (length old.memory)) (AsksAndMoves moves word phase old end new) (Stops Bf old end new))
      (Keeps before end new) (nat_eq old.regs.dbc 0) m
      (λ x. stopped Iid before end new x.ends.is)
      (λ x. by_bool (AsksAndMoves moves word phase old end new) (Stops Bf old end new) (Keeps before end new) (nat_le (old.regs.dnad + old.regs.dbc) (length old.memory)) x
      (λ y. moved_at y.shown phase old y.bus end new y.moved) (λ y. stopped Bf before end new y.ends.is))

  moved_by : (place : Option ℕ) (phase : ℕ) (old : Chip B) (end : StepEnd) (new : Chip B) → MovesBy moves word place phase old end new → Keeps before end new
  moved_by None phase old end new m = stopped Bf before end new m.ends.is
  moved_by (Some e) phase old end new m = block_moved phase (loaded (word_at old.memory e % 16777216) (word_at old.memory (e + 4)) old) end new m

  settled : (s : Settled) (alternate : ℕ) (r : Regs) (old : Chip B) (end : StepEnd) (new : Chip B) → SettlesAs moves word s alternate r old end new → Keeps before end new
  settled Selected alternate r old end new s = ran before end new s.3.is
  settled (Reselected by) alternate r old end new s = ran before end new s.1.is
  settled TimedOut alternate r old end new s = stopped _ before end new s.1.is

  selected_by : (place : Option ℕ) (alternate : ℕ) (old : Chip B) (end : StepEnd) (new : Chip B) → SelectsBy moves word place alternate old end new → Keeps before end new
  selected_by None alternate old end new s = stopped Bf before end new s.ends.is
  selected_by (Some e) alternate old end new s = settled s.0 alternate (with_table (word_at old.memory e) old.regs) old end new s.1

  selected : (o : ℤ) (alternate : ℕ) (old : Chip B) (end : StepEnd) (new : Chip B) → Selects moves word o alternate old end new → Keeps before end new
  selected o alternate old end new s =
      by_bool (Stops Iid old end new) (SelectsBy moves word (place_of old.memory old.regs.dsa o 4) alternate old end new) (Keeps before end new) old.regs.con s
      (λ x. stopped Iid before end new x.ends.is) (λ x. selected_by (place_of old.memory old.regs.dsa o 4) alternate old end new x)

  waited : (old : Chip B) (end : StepEnd) (new : Chip B) → Waits moves word old end new → Keeps before end new
  waited old end new (true, _, w) = ran before end new w.is
  waited old end new (false, _, w) = stopped Ma before end new w.is

  reselected_by : (target : Option ℕ) (old : Chip B) (end : StepEnd) (new : Chip B) → ReselectsBy target before old end new → Keeps before end new
  reselected_by None old end new r e = r.1
  reselected_by (Some target) old end new r e = ran before end new r.is e

  reselected : (alternate : ℕ) (old : Chip B) (end : StepEnd) (new : Chip B) → Reselects moves word alternate before old end new → Keeps before end new
  reselected alternate old end new s =
      by_bool (Stops Iid old end new)
      (MatchBool old.regs.sigp (Becomes (record old.regs { dsp = alternate }) old end new) ((target : Option ℕ) × moves old.bus (event.Reselect word target) new.bus × ReselectsBy target before old end new))
      (Keeps before end new) old.regs.con s
      (λ x. stopped Iid before end new x.ends.is)
      (λ x. by_bool (Becomes (record old.regs { dsp = alternate }) old end new) ((target : Option ℕ) × moves old.bus (event.Reselect word target) new.bus × ReselectsBy target before old end new) (Keeps before end new) old.regs.sigp x
      (λ y. ran before end new y.ends.is) (λ y. reselected_by y.0 old end new y.2))

  transferred_at : (decision : Option Bool) (how : StepEnd) (regs : Regs) (old : Chip B) (end : StepEnd) (new : Chip B) → TransfersAt decision how regs old end new → (how ≡ ends.Idle → ⊥) → Keeps before end new
  transferred_at None how regs old end new t n = stopped _ before end new t.is
  transferred_at (Some true) how regs old end new t n = λ e. absurd (n (sym t.is ∙ e))
  transferred_at (Some false) how regs old end new t n = ran before end new t.is

  not_ran : ends.Ran ≡ ends.Idle → ⊥
  not_ran e = absurd cc

  not_stopped : (c : Cause) → ends.Stopped c ≡ ends.Idle → ⊥
  not_stopped c e = absurd cc

  transferred : (on : Condition) (how : StepEnd) (regs : Regs) (old : Chip B) (end : StepEnd) (new : Chip B) → Transfers moves word on how regs old end new → (how ≡ ends.Idle → ⊥) → Keeps before end new
  transferred on how regs old end new t n = transferred_at t.decision how regs old end new t.transfers n

  loaded_at : (at : Option ℕ) (r n : ℕ) (old : Chip B) (end : StepEnd) (new : Chip B) → LoadsAt at r n old end new → Keeps before end new
  loaded_at None r n old end new l = stopped Bf before end new l.ends.is
  loaded_at (Some a) r n old end new l = ran before end new l.ends.is

  stored_at : (at : Option ℕ) (r n : ℕ) (old : Chip B) (end : StepEnd) (new : Chip B) → StoresAt at r n old end new → Keeps before end new
  stored_at None r n old end new l = stopped Bf before end new l.ends.is
  stored_at (Some a) r n old end new l = ran before end new l.ends.is

  copies : (n s t : ℕ) (old : Chip B) (end : StepEnd) (new : Chip B) → Copies n s t old end new → Keeps before end new
  copies n s t old end new c =
      by_bool (MatchBool (nat_le (s + n) (length old.memory) && nat_le (t + n) (length old.memory)) (Becomes old.regs (record old { memory = copied n old.memory s t }) end new) (Stops Bf old end new))
      (Stops Iid old end new) (Keeps before end new) (nat_eq (s % 4) (t % 4)) c
      (λ x. by_bool (Becomes old.regs (record old { memory = copied n old.memory s t }) end new) (Stops Bf old end new) (Keeps before end new) (nat_le (s + n) (length old.memory) && nat_le (t + n) (length old.memory)) x
      (λ y. ran before end new y.ends.is) (λ y. stopped Bf before end new y.ends.is))
      (λ x. stopped Iid before end new x.ends.is)

  done : (op : Op) (old : Chip B) (end : StepEnd) (new : Chip B) → Does moves word op before old end new → Keeps before end new
  done (Move n a p) old end new d = block_moved p (loaded n a old) end new d
  done (MoveFrom o p) old end new d = moved_by (place_of old.memory old.regs.dsa o 8) p old end new d
  done (Select o alternate) old end new d = selected o alternate old end new d
  done WaitDisconnect old end new d = waited old end new d
  done (WaitReselect alternate) old end new d = reselected alternate old end new d
  done (Set ack atn) old end new d = ran before end new d.ends.is
  done (Clear ack atn) old end new d = ran before end new d.ends.is
  done (FromSfbr c e r) old end new d = ran before end new d.ends.is
  done (ToSfbr r c e) old end new d = ran before end new d.ends.is
  done (Modify r c e) old end new d = ran before end new d.ends.is
  done (Put e r) old end new d = ran before end new d.ends.is
  done (Jump on a) old end new d = transferred on ends.Ran (record old.regs { dsp = a }) old end new d not_ran
  done (Call on a) old end new d = transferred on ends.Ran (record old.regs { temp = old.regs.dsp; dsp = a }) old end new d not_ran
  done (Return on) old end new d = transferred on ends.Ran (record old.regs { dsp = old.regs.temp }) old end new d not_ran
  done (Int on v) old end new d = transferred on (ends.Stopped (Sir v)) (stop_with (Sir v) old.regs) old end new d (not_stopped (Sir v))
  done (IntFly on) old end new d = transferred on ends.Ran (record old.regs { intf = true }) old end new d not_ran
  done Nop old end new d = ran before end new d.ends.is
  done (MoveMemory n s t) old end new d = copies n s t old end new d
  done (Load r n place) old end new d =
      by_bool (LoadsAt (address_of old.memory old.regs.dsa place n) r n old end new) (Stops Iid old end new) (Keeps before end new) (nat_eq (low_bits old.regs.dsa place) (r % 4)) d
      (λ x. loaded_at (address_of old.memory old.regs.dsa place n) r n old end new x) (λ x. stopped Iid before end new x.ends.is)
  done (Store r n place) old end new d =
      by_bool (StoresAt (address_of old.memory old.regs.dsa place n) r n old end new) (Stops Iid old end new) (Keeps before end new) (nat_eq (low_bits old.regs.dsa place) (r % 4)) d
      (λ x. stored_at (address_of old.memory old.regs.dsa place n) r n old end new x) (λ x. stopped Iid before end new x.ends.is)

pub idle_stays : {B : Type 0} (moves : B → Event → B → Type 0) (word : ℕ) (old : Chip B) (end : StepEnd) (new : Chip B) → ChipStep moves word old end new → end ≡ ends.Idle → new ≡ old
idle_stays moves word old end new (idle s e q) = λ f. q
idle_stays moves word old end new (unfetched s c t) = stopped Bf old end new t.ends.is
idle_stays moves word old end new (unspelled s c n t) = stopped Iid old end new t.ends.is
idle_stays moves word old end new (does s c op at d) = done moves word old op (after_fetch old) end new d
